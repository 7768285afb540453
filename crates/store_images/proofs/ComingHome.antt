-- What the log has comes home, and the blocks under it stay what they are.
use Rattle.std.proofs.Common.{arith, ◌≡◌, ◌≢◌, ◌∙◌, refl, sym, ap, subst, ℕ, ◌+◌, ◌-◌, ◌<◌, ◌≤◌, ◌⊎◌, inl, inr}
use Rattle.std.proofs.Common.{List, [], Bool, true, false, cond, ◌&&◌, if◌then◌else◌, Option, Some, None, All}
use Rattle.std.proofs.Common.{Result, is_ok, length, take, drop, replicate, nat_eq, nat_le, nat_lt}
use Rattle.std.specs.List.{Contains}
use Rattle.std.proofs.lemmas.Bool.{le-leb, lt-leb, ltb-false, ltb-true}
use Rattle.std.proofs.lemmas.Bool.Decides.{nat_tests}
use Rattle.std.proofs.lemmas.List.{length-drop, take-append-drop}
use Rattle.base.specs.declared.TheConstants.{BLOCK_BYTES, FIRST_HOME_BLOCK, SUPER_BLOCK}
use Rattle.disk.specs.Blocks.{AreBlocks, IsBlock}
use Rattle.disk.specs.Crash.{Image, IsAtRest, IsCrashImage}
use Rattle.disk.specs.Device.{Content, Device, OneLater, current, newest as newest_content}
use Rattle.disk.specs.declared.device.Failed.{Failed}
use Rattle.nfs_spec.specs.Model.Tree.{Tree}
use Rattle.layout.specs.declared.geometry.Geometry.{Geometry}
use Rattle.layout.specs.declared.super_block.Super.{Super}
use Rattle.layout.specs.Homes.{homes_of, is_home}
use Rattle.layout.specs.Stands.{Stands}
use Rattle.layout.specs.SuperForm.{IsSuper}
use Rattle.circ.specs.declared.log.change.LogChange.{LogChange}
use Rattle.circ.specs.Log.Calls.{AgreesWithPending, InstCallComesBack, InstCallGoesOut, InstCallIsMade, home_after}
use Rattle.circ.specs.Log.Calls.{idle}
use Rattle.circ.specs.Log.Grows.{IsWholeChange}
use Rattle.circ.specs.Log.Installer.{next_home, with_installed, with_inst_back, with_inst_out}
use Rattle.circ.specs.Log.Io.{Io}
use Rattle.circ.specs.Log.Law.{IsAfter, IsBoundary, IsOutside, with_changes}
use Rattle.circ.specs.Log.Log.{Log, IsLawful, newest_of, or_else, opened}
use Rattle.circ.specs.Log.Overlay.{IsInRange, content_or, logged_in, over, start_in}
use Rattle.circ.specs.Log.Recovery.{HasOnlyRead, image_of}
use Rattle.circ.proofs.LogLemmas.Boundary.{crash_boundary}
use Rattle.circ.proofs.LogLemmas.Lawful.{length-changes_of}
use Rattle.circ.proofs.LogLemmas.Newest.{newest_of-append}
use Rattle.circ.proofs.LogLemmas.OnlyRead.{image_then}
use Rattle.circ.proofs.LogLemmas.Opening.{stands_found}
use Rattle.txn_law.specs.CoreWindow.{AreBlocks as AreWhole}
use Rattle.txn_law.proofs.Homes.{whole_after}
use Rattle.store_promise.specs.GoodImage.{IsGoodImage}
use Rattle.store_promise.specs.Openings.{AtEachStop}
use Rattle.store_promise.proofs.Stopped.{as_at_home, no_change, outside_of, take_len}
use Rattle.store_images.specs.BringingHome.{HasBlocksOf, HasBlocksWith, IsComingHome, PreservesBlocks}
use Rattle.store_promise.proofs.Later.{past_more, past_one, read_later}
use Rattle.store_images.proofs.Later.{one_stop_more}

same_number : (a b : ℕ) → nat_eq a b ≡ true → a ≡ b
same_number a b is = grind (arith, nat_tests)

-- ---- an image with the same blocks is good, under its own super block or a later one

-- with another geometry an image is as large, and reads alike
abbrev pub ReadsAlike : Geometry → Geometry → Type 0
ReadsAlike g h = (h.blocks ≡ g.blocks) × ((blocks : Image) (tree : Tree) → Stands g blocks tree → Stands h blocks tree)

pub reads_same : (g : Geometry) → ReadsAlike g g
reads_same g = (refl, λ blocks tree stands. stands)

module _ (size : ℕ) (first : Image) (tree : Tree) (boot : ℕ) (good : IsGoodImage size first tree boot)
    (content : Content) (image : Image) (same : HasBlocksOf size first content image) where
  no_super : (number : ℕ) → is_home size number ≡ true → number ≢ SUPER_BLOCK
  no_super number is here = from (nat_le FIRST_HOME_BLOCK number) (nat_lt number size) refl is
    where
      from : (a b : Bool) → nat_le FIRST_HOME_BLOCK number ≡ a → (a && b) ≡ true → ⊥
      from true b so both = let least : FIRST_HOME_BLOCK ≤ number = grind (arith, nat_tests) in
          omega (arith, here, least)
      from false b so both = cc

  each_home : (number : ℕ) (home : Bool) → is_home size number ≡ home
      → cond home (over first number) (replicate BLOCK_BYTES 0)
      ≡ cond home (over image number) (replicate BLOCK_BYTES 0)
  each_home number true is = sym (same.blocks number (outside_of size number is) (no_super number is))
  each_home number false is = refl

  homes_same : homes_of size (over first) ≡ homes_of size (over image)
  homes_same = λ i number. each_home number (is_home size number) refl i

  pub good_under : (super : Super) → IsSuper content super → ReadsAlike good.super.geometry super.geometry
      → boot ≤ super.boot → IsGoodImage size image tree super.boot
  good_under super is alike later = record {
    super = super;
    is_super = subst (λ bytes. IsSuper bytes super) (sym same.super_is) is;
    size_is = alike.0 ∙ good.size_is;
    boot_is = refl;
    range = same.range;
    homes = same.homes;
    stands = alike.1 (homes_of size (over image)) tree
        (subst (λ blocks. Stands good.super.geometry blocks tree) homes_same good.stands);
    stamps = λ number node is_at. let old = good.stamps number node is_at in omega (arith, old, later);
  }

-- ---- what a stop leaves has the same blocks

bare_super : (base : Image) (log : Log) (n : ℕ) → IsLawful log
    → with_changes base (take n log.changes) SUPER_BLOCK ≡ base SUPER_BLOCK
bare_super base log n lawful =
    ap (λ found. content_or found (base SUPER_BLOCK))
    (no_change log.blocks SUPER_BLOCK (λ from within. omega (arith, from)) log.changes n lawful.homes)

pub boundary_blocks : (first base : Image) (log : Log) (image : Image) → IsLawful log
    → log.logged ≡ length log.changes → log.taken ≡ 0
    → ((block : ℕ) → IsOutside log.blocks block → block ≢ SUPER_BLOCK
    → with_changes base log.changes block ≡ over first block)
    → IsBoundary base log image → HasBlocksOf log.blocks first (base SUPER_BLOCK) image
boundary_blocks first base log image lawful logged taken same boundary = record {
  range = boundary.range;
  homes = boundary.homes;
  blocks = λ block outside other. by_groups block outside boundary.blocks ∙ same block outside other;
  super_is = as_at_home log base image SUPER_BLOCK (λ from within. omega (arith, from))
      (let some = lawful.disk in omega (arith, some), inl (omega arith)) lawful boundary;
}
  where
    whole : (n : ℕ) → n ≡ length log.changes → take n log.changes ≡ log.changes
    whole n is = ap (λ k. take k log.changes) is ∙ take_len log.changes

    by_groups : (block : ℕ) → IsOutside log.blocks block
        → IsAfter base log log.logged image ⊎ IsAfter base log (log.logged + log.taken) image
        → over image block ≡ with_changes base log.changes block
    by_groups block outside (inl after) =
        after block outside ∙ ap (λ cs. with_changes base cs block) (whole log.logged logged)
    by_groups block outside (inr after) =
        after block outside
        ∙ ap (λ cs. with_changes base cs block) (whole (log.logged + log.taken) (omega (arith, logged, taken)))

pub stop_blocks : (first : Image) (now : Device) (log : Log) (image : Image) → IsLawful log
    → IsComingHome first now log → IsCrashImage now now.clock image
    → HasBlocksOf now.size first (first SUPER_BLOCK) image
stop_blocks first now log image lawful coming is =
    subst (λ size. HasBlocksOf size first (first SUPER_BLOCK) image) (sym coming.agrees.agrees.size)
    (subst (λ content. HasBlocksOf log.blocks first content image) coming.super_is
    (boundary_blocks first coming.base log image lawful coming.logged coming.taken
    (λ block outside other. coming.blocks block outside)
    (crash_boundary now coming.base log image lawful coming.agrees.agrees is)))

-- ---- once a call of the installer was made

-- what is brought home under the rest of the log is the same as it was above home
overlaid : (base : Image) (changes : List LogChange) (n block : ℕ)
    → with_changes (with_changes base (take n changes)) (drop n changes) block ≡ with_changes base changes block
overlaid base changes n block =
    joined (newest_of (drop n changes) block) (newest_of (take n changes) block)
    ∙ ap (λ found. content_or found (base block))
    (sym (newest_of-append (take n changes) (drop n changes) block)
    ∙ ap (λ cs. newest_of cs block) (take-append-drop n changes))
  where
    joined : (later sooner : Option Content)
        → content_or later (content_or sooner (base block)) ≡ content_or (or_else later sooner) (base block)
    joined (Some content) sooner = refl
    joined None sooner = refl

-- the log that was given back, over what is home then
record StaysOver (base : Image) (log : Log) (home : Image) (new : Log) : Type 0 where
  pub blocks : (block : ℕ) → with_changes home new.changes block ≡ with_changes base log.changes block
  pub super_is : home SUPER_BLOCK ≡ base SUPER_BLOCK
  pub logged : new.logged ≡ length new.changes
  pub taken : new.taken ≡ 0

module _ (base : Image) (log : Log) (lawful : IsLawful log) (logged : log.logged ≡ length log.changes)
    (taken : log.taken ≡ 0) where
  abbrev home : Image
  home = home_after base log true

  unchanged : log.inst_step < log.installing + 2 → home ≡ base
  unchanged lt =
      ap (λ (t : Bool). if t then with_changes base (take log.installing log.changes) else base)
      (lt-leb (log.installing + 2) log.inst_step lt)

  changed : log.installing + 2 ≤ log.inst_step → home ≡ with_changes base (take log.installing log.changes)
  changed le =
      ap (λ (t : Bool). if t then with_changes base (take log.installing log.changes) else base)
      (le-leb (log.installing + 2) log.inst_step le)

  one_step : (step : ℕ) → log.inst_step < log.installing + 2
      → StaysOver base log home (record log { inst_step = step; inst_out = false })
  one_step step lt = record {
    blocks = λ block. ap (λ (b : Image). with_changes b log.changes block) (unchanged lt);
    super_is = ap (λ (b : Image). b SUPER_BLOCK) (unchanged lt);
    logged = logged;
    taken = taken;
  }

  behind_homes : (more : Bool) → nat_lt log.inst_step (log.installing + 2) ≡ more
      → StaysOver base log home (if more then record log { inst_step = log.inst_step + 1; inst_out = false }
      else with_installed log)
  behind_homes true e = one_step (log.inst_step + 1) (ltb-true log.inst_step (log.installing + 2) e)
  behind_homes false e =
      let le = ltb-false log.inst_step (log.installing + 2) e in
      record {
        blocks = λ block.
            ap (λ (b : Image). with_changes b (drop log.installing log.changes) block) (changed le)
            ∙ overlaid base log.changes log.installing block;
        super_is = ap (λ (b : Image). b SUPER_BLOCK) (changed le) ∙ bare_super base log log.installing lawful;
        logged = ap (λ n. n - log.installing) logged ∙ sym (length-drop log.installing log.changes);
        taken = taken;
      }

  made_over : (lower : Bool) → nat_lt log.inst_step log.installing ≡ lower
      → StaysOver base log home (if lower
      then record log {
        inst_step = next_home log.changes log.installing (log.inst_step + 1);
        inst_out = false;
      }
      else if nat_lt log.inst_step (log.installing + 2)
      then record log { inst_step = log.inst_step + 1; inst_out = false }
      else with_installed log)
  made_over true e =
      let lt = ltb-true log.inst_step log.installing e in
      one_step (next_home log.changes log.installing (log.inst_step + 1)) (omega (arith, lt))
  made_over false e = behind_homes (nat_lt log.inst_step (log.installing + 2)) refl

  back_over : (ok : Bool) → StaysOver base log (home_after base log ok) (with_inst_back log ok)
  back_over true = made_over (nat_lt log.inst_step log.installing) refl
  back_over false = record { blocks = λ block. refl; super_is = refl; logged = logged; taken = taken }

-- a call that goes out changes nothing of the log
out_same : (log : Log) (has : Bool) → (some : Log) → some ≡ (if has
    then record log { inst_out = true }
    else record log {
      installing = log.logged;
      inst_step = next_home log.changes log.logged 0;
      inst_out = true;
    })
    → (some.changes ≡ log.changes) × (some.logged ≡ log.logged) × (some.taken ≡ log.taken)
out_same log true some is =
    (ap (λ (l : Log). l.changes) is, ap (λ (l : Log). l.logged) is, ap (λ (l : Log). l.taken) is)
out_same log false some is =
    (ap (λ (l : Log). l.changes) is, ap (λ (l : Log). l.logged) is, ap (λ (l : Log). l.taken) is)

module _ (first : Image) (now next : Device) (log out new : Log) (io : Io)
    (answer : Result Unit Failed) (ok : Bool) (out_lawful : IsLawful out)
    (changes : All IsWholeChange log.changes)
    (goes : out ≡ with_inst_out log) (goes_out : InstCallGoesOut log io out)
    (made : InstCallIsMade now io answer next) (answer_is_ok : ok ≡ is_ok answer)
    (back : new ≡ with_inst_back out ok) (comes_back : InstCallComesBack out io ok new)
    (blocks_are : new.blocks ≡ log.blocks) (coming : IsComingHome first now log) where
  out_is : (out.changes ≡ log.changes) × (out.logged ≡ log.logged) × (out.taken ≡ log.taken)
  out_is = out_same log (nat_lt 0 log.installing) out goes

  stays : StaysOver coming.base out (home_after coming.base out ok) new
  stays =
      subst (StaysOver coming.base out (home_after coming.base out ok)) (sym back)
      (back_over coming.base out out_lawful
      (out_is.1 ∙ coming.logged ∙ ap (λ (cs : List LogChange). length cs) (sym out_is.0))
      (out_is.2 ∙ coming.taken) ok)

  pub called_home : IsComingHome first next new
  called_home = record {
    base = home_after coming.base out ok;
    agrees = comes_back next coming.base answer idle (sym answer_is_ok)
        (made coming.base out idle out_lawful (goes_out now coming.base idle coming.agrees));
    whole = subst (λ size. AreWhole size (home_after coming.base out ok)) (sym blocks_are)
        (whole_after log.blocks coming.base out ok
        (subst (λ (cs : List LogChange). All IsWholeChange cs) (sym out_is.0) changes) coming.whole);
    blocks = λ block outside.
        stays.blocks block
        ∙ ap (λ (cs : List LogChange). with_changes coming.base cs block) out_is.0
        ∙ coming.blocks block (subst (λ size. IsOutside size block) blocks_are outside);
    super_is = stays.super_is ∙ coming.super_is;
    logged = stays.logged;
    taken = stays.taken;
  }

-- and each stop so far leaves the same blocks
pub home_stops : (before now next : Device) (log : Log) (incremented : Content) → IsLawful log → OneLater now next
    → IsComingHome (image_of before) next log → PreservesBlocks before now incremented → PreservesBlocks before next incremented
home_stops before now next log incremented lawful later coming preserves = record {
  past = past_more before now next preserves.past (past_one now next later);
  stops = subst (λ size. AtEachStop before next (λ at image. HasBlocksWith size (image_of before) incremented image))
      (sym later.size) (one_stop_more (HasBlocksWith now.size (image_of before) incremented) before now next later
      preserves.stops (λ image is.
      inl (subst (λ size. HasBlocksOf size (image_of before) (image_of before SUPER_BLOCK) image) later.size
      (stop_blocks (image_of before) next log image lawful coming is))));
}

-- ---- before the first call

newest_whole : (contents : List Content) → 0 < length contents → All IsBlock contents
    → length (newest_content contents) ≡ BLOCK_BYTES
newest_whole [] some all = absurd (omega (arith, some))
newest_whole contents some all = grind (arith, all)

module _ (before now : Device) (reads : HasOnlyRead before now) (rest : IsAtRest before)
    (some : FIRST_HOME_BLOCK ≤ before.size) (range : IsInRange (image_of before)) (blocks : AreBlocks now) where
  image_is : image_of now ≡ image_of before
  image_is = λ i block. image_then before now reads block i

  at_rest : IsAtRest now
  at_rest = record {
    one = λ block within.
        ap (λ (cs : List Content). length cs) (reads.during now.clock block reads.clock (omega arith))
        ∙ rest.one block (omega (arith, within, reads.size));
    certain = λ block. reads.uncertain block ∙ rest.certain block;
  }

  pub found_home : IsComingHome (image_of before) now
      (opened before.size (start_in (image_of before)) (logged_in (image_of before)))
  found_home = record {
    base = image_of before;
    agrees = subst (λ size. AgreesWithPending now (image_of before)
        (opened size (start_in (image_of before)) (logged_in (image_of before))) idle idle) reads.size
        (subst (λ (image : Image). AgreesWithPending now image
        (opened now.size (start_in image) (logged_in image)) idle
        idle) image_is (stands_found now (omega (arith, some, reads.size)) at_rest
        (subst IsInRange (sym image_is) range)));
    whole = λ block within.
        ap (λ (image : Image). length (image block)) (sym image_is)
        ∙ newest_whole (current now block) (blocks.some now.clock block (omega arith)
        (omega (arith, within, reads.size)))
        (blocks.blocks now.clock block (omega arith) (omega (arith, within, reads.size)));
    blocks = λ block outside. refl;
    super_is = refl;
    logged = sym (length-changes_of 0 (logged_in (image_of before)));
    taken = refl;
  }

  pub found_stops : (incremented : Content) (log : Log) → IsLawful log → IsComingHome (image_of before) now log
      → PreservesBlocks before now incremented
  found_stops incremented log lawful coming = record {
    past = read_later before now reads;
    stops = λ clock image above below is. inl (stop_blocks (image_of before) now log image lawful coming
        (λ block within. subst (λ (cs : List Content). Contains cs (image block))
        (reads.during clock block above below ∙ sym (reads.during now.clock block reads.clock (omega arith)))
        (is block within)));
  }
