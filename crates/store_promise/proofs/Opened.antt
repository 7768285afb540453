-- What an opening leaves, over what is at home.
use Rattle.std.proofs.Common.{◌≡◌, ℕ, zero, suc, ◌+◌, ◌≤◌, ◌⊎◌, inl, inr, ap, sym, ◌∙◌, refl, subst, arith}
use Rattle.std.proofs.Common.{Bool, true, false, cond, if◌then◌else◌, ◌&&◌, List, [], All, nat_eq}
use Rattle.std.proofs.Common.{nat_le, nat_lt, take, drop}
use Rattle.std.proofs.Common.{length, replicate}
use Rattle.std.proofs.lemmas.Bool.Decides.{nat_tests}
use Rattle.base.specs.declared.TheConstants.{BLOCK_BYTES, FIRST_HOME_BLOCK, SUPER_BLOCK}
use Rattle.disk.specs.Crash.{Image}
use Rattle.disk.specs.Device.{Content, Device}
use Rattle.nfs_spec.specs.Procedures.After.{after}
use Rattle.nfs_spec.specs.Model.Sound.{IsMadeBy}
use Rattle.nfs_spec.specs.Model.Tree.{Tree}
use Rattle.layout.specs.declared.geometry.Geometry.{Geometry}
use Rattle.layout.specs.declared.super_block.Super.{Super}
use Rattle.layout.specs.Homes.{homes_of, is_home}
use Rattle.layout.specs.Stands.{Stands}
use Rattle.layout.specs.SuperForm.{IsSuper}
use Rattle.circ.specs.declared.log.change.LogChange.{LogChange}
use Rattle.circ.specs.Log.Grows.{recovered}
use Rattle.circ.specs.Log.Law.{IsAfter, IsBoundary, IsOutside, with_changes, with_home}
use Rattle.circ.specs.Log.Calls as pending
use Rattle.circ.specs.Log.Log.{Log, installed_place, place_before}
use Rattle.circ.specs.Log.Overlay.{over}
use Rattle.txn_law.specs.Core.{CoreState}
use Rattle.txn_law.specs.CoreWindow.{AreBlocks, IsCoreWindow, held_of}
use Rattle.objects.specs.declared.present.Present.{Present}
use Rattle.txn_law.specs.Window.{Follow, Footprint, IsCurrent, LeadsTo, after_commits, commits_among}
use Rattle.txn_law.specs.Window.{now_of, opening}
use Rattle.store_promise.specs.GoodImage.{IsGoodImage}
use Rattle.store_promise.specs.Openings.{IsOpened}
use Rattle.store_promise.specs.OpenSince.{IsOpenSince}
use Rattle.store_promise.specs.OpenStore.{HasFilesOver, IsChain, IsNewOver, IsOpenOver}
use Rattle.store_promise.proofs.Stopped.{as_at_home, outside_of}

-- ---- without changes, and without entries

take_none : (n : ℕ) → take {A = LogChange} n [] ≡ []
take_none zero = refl
take_none (suc n) = refl

bare : (base : Image) (changes : List LogChange) (count block : ℕ) → changes ≡ []
    → with_changes base (take count changes) block ≡ base block
bare base changes count block none =
    ap (λ xs. with_changes base (take count xs) block) none
    ∙ ap (λ xs. with_changes base xs block) (take_none count)

bare_opening : (base : Image) (log : Log) (block : ℕ) → log.changes ≡ [] → opening base log block ≡ base block
bare_opening base log block none = ap (λ xs. with_changes base (recovered xs) block) none

no_entry : (tree left : Tree) (count : ℕ) → after tree (take count []) left → left ≡ tree
no_entry tree left zero transition = transition
no_entry tree left (suc count) transition = transition

pub of_boot : (boot : ℕ) (tree : Tree) → IsMadeBy boot tree → (count : ℕ) (left : Tree)
    → after tree (take count []) left → IsMadeBy boot left
of_boot boot tree all count left transition = subst (IsMadeBy boot) (sym (no_entry tree left count transition)) all

stands_without_records : (g : Geometry) (blocks : Image) (tree : Tree) (records : List Footprint) → records ≡ []
    → Stands g blocks tree → IsChain g blocks tree records [] tree
stands_without_records g blocks tree records none stands =
    subst (λ rs. IsChain g blocks tree rs [] tree) (sym none) (stands, refl)

-- ---- the store that was opened

module _ (before opened : Device) (base : Image) (core : CoreState) (tree : Tree) (first position : ℕ)
    (opens : IsOpened before opened tree first position) (new : IsNewOver base opened core)
    (image : Image) (good : IsGoodImage opened.size image tree (first + 1))
    (boundary : IsBoundary base core.log image) where
  size_is : opened.size ≡ core.log.blocks
  size_is = new.agrees.agrees.size

  super_is : image SUPER_BLOCK ≡ base SUPER_BLOCK
  super_is =
      let some = new.lawful.disk in
      as_at_home core.log base image SUPER_BLOCK (λ from _. omega (arith, from))
      (omega (arith, some), inl (omega arith)) new.lawful boundary

  is_super : IsSuper (base SUPER_BLOCK) good.super
  is_super = subst (λ bytes. IsSuper bytes good.super) super_is good.is_super

  as_home : (block : ℕ) → IsOutside core.log.blocks block → over image block ≡ opening base core.log block
  as_home block outside = by_groups boundary.blocks ∙ sym (bare_opening base core.log block new.changes)
    where
      by_groups : IsAfter base core.log core.log.logged image
          ⊎ IsAfter base core.log (core.log.logged + core.log.taken) image
          → over image block ≡ base block
      by_groups (inl leads) = leads block outside ∙ bare base core.log.changes core.log.logged block new.changes
      by_groups (inr leads) = leads block outside
          ∙ bare base core.log.changes (core.log.logged + core.log.taken) block new.changes

  each_home : (number : ℕ) (home : Bool) → is_home core.log.blocks number ≡ home
      → cond home (over image number) (replicate BLOCK_BYTES 0)
      ≡ cond home (opening base core.log number) (replicate BLOCK_BYTES 0)
  each_home number true is = as_home number (outside_of core.log.blocks number is)
  each_home number false is = refl

  homes_are : homes_of opened.size (over image) ≡ homes_of core.log.blocks (opening base core.log)
  homes_are = ap (λ size. homes_of size (over image)) size_is
      ∙ (λ i number. each_home number (is_home core.log.blocks number) refl i)

  files : HasFilesOver base core (first + 1) tree [] tree
  files = record {
    home = new.home;
    super = good.super;
    is_super = is_super;
    boot_is = good.boot_is;
    newest = new.newest good.super is_super;
    blocks_are = good.size_is ∙ size_is;
    inodes_are = new.inodes good.super is_super;
    chain = stands_without_records good.super.geometry (homes_of core.log.blocks (opening base core.log))
        tree core.records new.records (subst (λ blocks. Stands good.super.geometry blocks tree)
        homes_are good.stands);
    stamps = of_boot (first + 1) tree good.stamps;
  }

  is_over : IsOpenOver base opened core pending.idle pending.idle (first + 1) tree [] tree
  is_over = record {
    lawful = new.lawful;
    agrees = new.agrees;
    readable = new.readable;
    well_formed = new.well_formed;
    files = files;
  }

  installed : installed_place core.log ≡ 0
  installed = ap (λ (changes : List LogChange). place_before changes core.log.places) new.changes ∙ new.places

  pub is_open : IsOpenSince base opened core pending.idle pending.idle (first + 1) tree [] tree
  is_open = record {
    counted = sym new.places;
    boot_is = sym (new.boot good.super is_super) ∙ good.boot_is;
    home = tree;
    leads = subst (λ (n : ℕ). after tree (take n []) tree) (sym installed) refl;
    over = subst (λ (n : ℕ). IsOpenOver base opened core pending.idle pending.idle (first + 1) tree
        (drop n []) tree) (sym installed) is_over;
  }

-- ---- a new super block

same_number : (a b : ℕ) → nat_eq a b ≡ true → a ≡ b
same_number a b is = grind (arith, nat_tests)

home_from : (size number : ℕ) → is_home size number ≡ true → FIRST_HOME_BLOCK ≤ number
home_from size number is = by_test (nat_le FIRST_HOME_BLOCK number) (nat_lt number size) refl is
  where
    by_test : (a b : Bool) → nat_le FIRST_HOME_BLOCK number ≡ a → (a && b) ≡ true → FIRST_HOME_BLOCK ≤ number
    by_test true b so both = grind (arith, nat_tests)
    by_test false b so both = cc

after_none : (blocks : Image) (n block : ℕ) → after_commits blocks (take n []) block ≡ blocks block
after_none blocks zero block = refl
after_none blocks (suc n) block = refl

module _ (base : Image) (core : CoreState) (boot : ℕ) (tree : Tree) (super : Super) (content : Content)
    (files : HasFilesOver base core boot tree [] tree) (changes : core.log.changes ≡ [])
    (records : core.records ≡ []) (present : core.present ≡ []) (is_block : length content ≡ BLOCK_BYTES) where
  abbrev incremented_image : Image
  incremented_image = with_home base SUPER_BLOCK content

  -- each home is as it was
  home_aside : (number : ℕ) (home : Bool) → is_home core.log.blocks number ≡ home
      → cond home (opening base core.log number) (replicate BLOCK_BYTES 0)
      ≡ cond home (opening incremented_image core.log number) (replicate BLOCK_BYTES 0)
  home_aside number true is =
      bare_opening base core.log number changes
      ∙ sym (by_test (nat_eq number SUPER_BLOCK) refl)
      ∙ sym (bare_opening incremented_image core.log number changes)
    where
      by_test : (same : Bool) → nat_eq number SUPER_BLOCK ≡ same
          → (if same then content else base number) ≡ base number
      by_test true so =
          let here = same_number number SUPER_BLOCK so in
          let from = home_from core.log.blocks number is in
          absurd (omega (arith, here, from))
      by_test false so = refl
  home_aside number false is = refl

  homes_same : homes_of core.log.blocks (opening base core.log)
      ≡ homes_of core.log.blocks (opening incremented_image core.log)
  homes_same = λ i number. home_aside number (is_home core.log.blocks number) refl i

  leads : (count : ℕ) → LeadsTo incremented_image core.log core.records count
  leads count block =
      bare incremented_image core.log.changes count block changes ∙ sym (bare_opening incremented_image core.log block changes)
      ∙ sym (after_none (opening incremented_image core.log) (commits_among core.log count) block)
      ∙ ap (λ rs. after_commits (opening incremented_image core.log) (take (commits_among core.log count) rs) block)
      (sym records)

  whole : AreBlocks core.log.blocks incremented_image
  whole block within = by_test (nat_eq block SUPER_BLOCK)
    where
      by_test : (same : Bool) → length (if same then content else base block) ≡ BLOCK_BYTES
      by_test true = is_block
      by_test false = files.home.whole block within

  window : IsCoreWindow incremented_image core
  window = record {
    follow = subst (Follow (opening incremented_image core.log)) (sym records) tt;
    placed = files.home.window.placed;
    all = files.home.window.all;
    opened = files.home.window.opened;
    group = λ count ends none. leads count;
    written = files.home.window.written;
    memory = subst (λ (ps : List Present). All (IsCurrent (now_of incremented_image core.log core.records)) (held_of ps))
        (sym present) (λ k d less. absurd (omega (arith, less)));
    pinned = files.home.window.pinned;
  }

  module _ (is_super : IsSuper content super) (geometry : super.geometry ≡ files.super.geometry)
      (later : boot ≤ super.boot) where
    stood : Stands files.super.geometry (homes_of core.log.blocks (opening base core.log)) tree
    stood =
        let chain = subst (λ (rs : List Footprint). IsChain files.super.geometry
        (homes_of core.log.blocks (opening base core.log)) tree rs [] tree) records files.chain in
        chain.0

    stands : Stands super.geometry (homes_of core.log.blocks (opening incremented_image core.log)) tree
    stands = subst (λ g. Stands g (homes_of core.log.blocks (opening incremented_image core.log)) tree) (sym geometry)
        (subst (λ blocks. Stands files.super.geometry blocks tree) homes_same stood)

    pub under_new : HasFilesOver incremented_image core super.boot tree [] tree
    under_new = record {
      home = record { whole = whole; window = window };
      super = super;
      is_super = is_super;
      boot_is = refl;
      newest = ap (λ (g : Geometry). g.version) geometry ∙ files.newest;
      blocks_are = ap (λ (g : Geometry). g.blocks) geometry ∙ files.blocks_are;
      inodes_are = ap (λ (g : Geometry). g.inodes) geometry ∙ files.inodes_are;
      chain = stands_without_records super.geometry (homes_of core.log.blocks (opening incremented_image core.log)) tree core.records
          records stands;
      stamps = of_boot super.boot tree (λ number node is.
          let old = files.stamps 0 tree refl number node is in omega (arith, old, later));
    }
