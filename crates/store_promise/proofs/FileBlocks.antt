-- The blocks that stand for the files of an open store have what is held for reading.
use Rattle.std.proofs.Common.{◌≡◌, ℕ, ◌<◌, ap, sym, ◌∙◌, refl, subst, arith, Bool, true, false, cond, ◌&&◌}
use Rattle.std.proofs.Common.{List}
use Rattle.std.proofs.Common.{Option, Some, None, replicate, nat_le, nat_lt, All, drop}
use Rattle.std.proofs.lemmas.Bool.{eqb-true}
use Rattle.std.proofs.lemmas.Bool.Decides.{nat_tests}
use Rattle.std.proofs.lemmas.List.Elements.{All-contains}
use Rattle.base.specs.declared.TheConstants.{BLOCK_BYTES, FIRST_HOME_BLOCK}
use Rattle.disk.specs.Crash.{Image}
use Rattle.disk.specs.Device.{Content, Device}
use Rattle.disk.specs.declared.block.BlockNo.{BlockNo}
use Rattle.nfs_spec.specs.Model.Entry.{Entry}
use Rattle.nfs_spec.specs.Model.Tree.{Tree}
use Rattle.layout.specs.Homes.{homes_of, is_home}
use Rattle.layout.specs.Stands.{Stands}
use Rattle.circ.specs.Log.Calls.{Pending}
use Rattle.circ.specs.Log.Log.{IsHomeOn, installed_place}
use Rattle.txn_law.specs.Commit.{IsReadBy}
use Rattle.txn_law.specs.Core.{CoreState}
use Rattle.txn_law.specs.CoreWindow.{held_of}
use Rattle.txn_law.specs.Object.{ObjectBytes}
use Rattle.txn_law.specs.Present.{content_in, present_of}
use Rattle.txn_law.specs.WellFormed.{IsPlaced}
use Rattle.txn_law.specs.Window.{IsAsRead, IsCurrent, now_of, opening, part}
use Rattle.objects.specs.declared.present.Present.{Present}
use Rattle.txn_law.proofs.Claims.{found_by}
use Rattle.txn_law.proofs.CoreCommits.{found_in}
use Rattle.objects.proofs.Residents.{is_of, same_block}
use Rattle.store_promise.specs.OpenSince.{HasFileBlocks, IsOpenSince, file_blocks}
use Rattle.store_promise.proofs.Chains.{chain_end}
use Rattle.store_promise.proofs.Stopped.{after_same}

pub less : (a b : ℕ) → a < b → nat_lt a b ≡ true
less a b is = grind (arith, nat_tests)

both : (a b : Bool) → a ≡ true → b ≡ true → (a && b) ≡ true
both true true x y = refl
both true false x y = cc
both false b x y = cc

home_is : (size : ℕ) (block : BlockNo) → IsHomeOn size block → is_home size block.0 ≡ true
home_is size block home =
    let from = home.0 in
    let to = home.1 in
    both (nat_le FIRST_HOME_BLOCK block.0) (nat_lt block.0 size) (grind (arith, nat_tests))
    (less block.0 size to)

-- what is in memory lies at home
in_memory_home : (blocks : ℕ) (present : List Present) (block : BlockNo) (content : Content)
    → All (IsPlaced blocks) present → content_in (present_of present block) ≡ Some content
    → IsHomeOn blocks block
in_memory_home blocks present block content placed is = go (present_of present block) refl is
  where
    go : (found : Option Present) → present_of present block ≡ found → content_in found ≡ Some content
        → IsHomeOn blocks block
    go None at is = absurd (cc)
    go (Some entry) at is =
        let (same, there) = found_by (is_of block) present entry at in
        subst (IsHomeOn blocks) (same_block entry.block block (eqb-true entry.block.0 block.0 same))
        (All-contains (IsPlaced blocks) present entry placed there)

module _ (base : Image) (d : Device) (core : CoreState) (logging installing : Pending) (boot : ℕ)
    (first last : Tree) (entries : List Entry)
    (since : IsOpenSince base d core logging installing boot first entries last) where
  pub stands_now : Stands since.over.files.super.geometry (file_blocks base core) last
  stands_now = chain_end since.over.files.super.geometry
      (homes_of core.log.blocks (opening base core.log)) since.home core.records
      (drop (installed_place core.log) entries) last since.over.files.chain

  pub has_blocks : HasFileBlocks base core last
  has_blocks = record {
    geometry = since.over.files.super.geometry;
    newest = since.over.files.newest;
    blocks = since.over.files.blocks_are;
    inodes = since.over.files.inodes_are;
    stands = stands_now;
  }

  at_home : (block : BlockNo) → IsHomeOn core.log.blocks block
      → file_blocks base core block.0 ≡ now_of base core.log core.records block.0
  at_home block home = after_same core.records (homes_of core.log.blocks (opening base core.log))
      (opening base core.log) block.0
      (ap (λ b. cond b (opening base core.log block.0) (replicate BLOCK_BYTES 0))
      (home_is core.log.blocks block home))

  pub held_now : (tx : ℕ) (object : ObjectBytes) → IsReadBy core tx object
      → IsAsRead (file_blocks base core) object
  held_now tx object read =
      let content = read.current.content in
      let home = in_memory_home core.log.blocks core.present object.addr.block content since.over.well_formed.placed
      read.current.there in
      let current : content ≡ now_of base core.log core.records object.addr.block.0 =
      All-contains (IsCurrent (now_of base core.log core.records)) (held_of core.present)
      (object.addr.block.0, content) since.over.files.home.window.memory
      (found_in core.present object.addr.block content read.current.there) in
      ap (λ (c : Content). part c object.addr) (at_home object.addr.block home ∙ sym current)
      ∙ read.current.same
