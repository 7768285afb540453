-- What comes of an opening: the image's tree stays at each stop.
use Rattle.std.proofs.Common.{arith, ◌≡◌, ◌∙◌, refl, sym, ap, subst, ℕ, ◌+◌, inl, inr}
use Rattle.std.proofs.Common.{List, [], ◌∷◌, Bool, true, false, ◌&&◌, ◌||◌, if◌then◌else◌, Ok}
use Rattle.std.proofs.Common.{length, nat_eq}
use Rattle.std.specs.List.{Contains}
use Rattle.std.proofs.lemmas.Bool.Decides.{nat_tests}
use Rattle.base.specs.declared.TheConstants.{BLOCK_BYTES, LOG_HEADER_BLOCK, START_BLOCK}
use Rattle.base.specs.declared.TheConstants.{SUPER_BLOCK}
use Rattle.disk.specs.Blocks.{AreBlocks}
use Rattle.disk.specs.Crash.{Image, IsAtRest, IsCrashImage}
use Rattle.disk.specs.Device.{Content, Device, current, newest}
use Rattle.nfs_spec.specs.Model.Tree.{Tree}
use Rattle.layout.specs.declared.geometry.Geometry.{Geometry}
use Rattle.layout.specs.declared.super_block.Super.{Super}
use Rattle.layout.specs.declared.version.FormatVersion.TheVariants.{Second}
use Rattle.layout.specs.SuperForm.{IsSuper}
use Rattle.layout.specs.Newest.{newest as newest_of}
use Rattle.layout.proofs.NewestVersion.{stands_alike}
use Rattle.layout.proofs.OneGeometry.{of_one_block}
use Rattle.circ.specs.declared.log.change.LogChange.{LogChange}
use Rattle.circ.specs.Log.Calls.{AgreesWithPending, idle}
use Rattle.circ.specs.Log.Installer.{may_install}
use Rattle.circ.specs.Log.Log.{IsLawful, Log}
use Rattle.circ.specs.Log.Overlay.{end_in, start_in}
use Rattle.circ.specs.Log.Recovery.{HasOnlyRead, IsCertain, image_of}
use Rattle.circ.proofs.LogLemmas.Boundary.{crash_boundary}
use Rattle.circ.proofs.LogLemmas.HomeWrites.{home_settled}
use Rattle.txn_law.specs.Core.{CoreState}
use Rattle.txn_law.specs.CoreLaw.{IsFresh}
use Rattle.txn_law.specs.CoreWindow.{AreBlocks as AreWhole}
use Rattle.txn_law.specs.WellFormed.{IsWellFormed}
use Rattle.txn_law.proofs.Fresh.{fresh_window}
use Rattle.store_promise.specs.declared.fault.OpenFault.{OpenFault}
use Rattle.store_promise.specs.declared.fault.OpenFault.TheVariants as fault
use Rattle.store_promise.specs.GoodImage.{IsGoodImage}
use Rattle.store_promise.specs.Openings.{HasTree, IsCauseOf, IsOpened, IsRefused, IsRefusedFor}
use Rattle.store_promise.specs.Openings.{PreservesTree}
use Rattle.store_promise.specs.OpenStore.{IsNewOver}
use Rattle.store_promise.proofs.Later.{read_later}
use Rattle.store_promise.proofs.Shown.{has_blocks, not_magic, not_range, not_version}
use Rattle.store_images.specs.BringingHome.{BringsHome, CountsCause, HasBlocksOf, HasBlocksWith}
use Rattle.store_images.specs.BringingHome.{HasIncremented, IsComingHome}
use Rattle.store_images.specs.BringingHome.{IsFound, PreservesBlocks}
use Rattle.store_images.specs.Opening.{HoldsTree}
use Rattle.store_images.proofs.ComingHome.{ReadsAlike, found_home, found_stops, good_under, reads_same}
use Rattle.store_images.proofs.Later.{some_image}
use Rattle.store_images.proofs.Incrementing.{outside, incremented_preserves, under, under_incremented, unlogged}

one_there : (contents : List Content) → length contents ≡ 1 → Contains contents (newest contents)
one_there [] one = absurd (omega (arith, one))
one_there (content ∷ []) one = (0, omega arith, refl)
one_there (content ∷ (other ∷ later)) one = absurd (omega (arith, one))

-- where the installer has nothing to bring home, nothing is in the log
pub none_home : (log : Log) → IsLawful log → log.broken ≡ false → log.inst_out ≡ false → may_install log ≡ false
    → log.logged ≡ length log.changes → log.changes ≡ []
none_home log lawful sound quiet may logged = empty log.changes (omega (arith, none, logged))
  where
    none : log.logged ≡ 0
    none = grind (arith, nat_tests)

    empty : {A : Type 0} (xs : List A) → length xs ≡ 0 → xs ≡ []
    empty [] length_is = refl
    empty (x ∷ xs) length_is = absurd (omega (arith, length_is))

-- what was found in a device at rest comes home
pub begins : (before : Device) → IsAtRest before → (found : Super) (log : Log) (now : Device) (incremented : Content)
    → HasOnlyRead before now → IsFound before found log → IsLawful log → AreBlocks now
    → BringsHome before incremented now log
begins before rest found log now incremented reads is lawful blocks =
    let size : log.blocks ≡ before.size = ap (λ (l : Log). l.blocks) is.log_is in
    let some = lawful.disk in
    let coming = subst (IsComingHome (image_of before) now) (sym is.log_is)
    (found_home before now reads rest (omega (arith, some, size)) is.range blocks) in
    record {
      coming = coming;
      preserves = found_stops before now reads rest
          (omega (arith, some, size)) is.range blocks incremented log lawful coming;
    }

module _ (before : Device) (tree : Tree) (first : ℕ) (holds : HoldsTree before tree first) where
  pub good : IsGoodImage before.size (image_of before) tree first
  good = holds.good (image_of before) (λ block within. one_there (current before block)
      (holds.rest.one block within))

  -- ---- a refusal that has only read

  only_read_preserves : (later : Device) → HasOnlyRead before later → PreservesTree before later tree first
  only_read_preserves later reads clock image above below is = record {
    boot = first;
    boot_is = inl refl;
    good = subst (λ (size : ℕ). IsGoodImage size image tree first) (sym reads.size)
        (holds.good image (λ block within. subst (λ (cs : List Content). Contains cs (image block))
        (reads.during clock block above below)
        (is block (omega (arith, within, reads.size)))));
  }

  cause_is : (keeps_model : Type 0) (cause : OpenFault) (later : Device) → keeps_model
      → CountsCause cause before later
      → IsRefusedFor keeps_model cause before later → IsCauseOf cause before later first
  cause_is keeps_model fault.Device later is_preserved counts shows = counts
  cause_is keeps_model (fault.NoMemory error) later is_preserved counts shows = counts
  cause_is keeps_model fault.Magic later is_preserved counts shows = elim (shows.1 is_preserved holds.rest.certain) [
    | inl none ↦ absurd (has_blocks before.size (image_of before SUPER_BLOCK) good.super good.is_super
        good.size_is none)
    | inr other ↦ not_magic (image_of before SUPER_BLOCK) good.super good.is_super other
  ]
  cause_is keeps_model fault.Version later is_preserved counts shows =
      not_version (image_of before SUPER_BLOCK) good.super good.is_super (shows.1 is_preserved holds.rest.certain)
  cause_is keeps_model fault.Range later is_preserved counts shows = elim (shows.1 is_preserved holds.rest.certain) [
    | inl other ↦ absurd (not_range (image_of before SUPER_BLOCK) good.super good.is_super other)
    | inr (super, is, inl other) ↦ absurd (other (is.blocks ∙ sym good.is_super.blocks ∙ good.size_is))
    | inr (super, is, inr last) ↦
        let same : super.boot ≡ first = is.boot ∙ sym good.is_super.boot ∙ good.boot_is in
        (omega (arith, last, same), counts)
  ]
  cause_is keeps_model fault.Log later is_preserved counts shows =
      (shows.1 is_preserved holds.rest.certain).1 (good.range, good.homes)

  pub read_refused : (keeps_model : Type 0) (cause : OpenFault) (later : Device) → keeps_model → AreBlocks later
      → HasOnlyRead before later → CountsCause cause before later → IsRefusedFor keeps_model cause before later
      → IsRefused before later tree first cause
  read_refused keeps_model cause later is_preserved blocks reads counts shows = record {
    past = read_later before later reads;
    left = some_image before later blocks;
    preserves = only_read_preserves later reads;
    because = cause_is keeps_model cause later is_preserved counts shows;
  }

  -- ---- the raised super block

  module _ (found incremented : Super) (content : Content) (is_super : IsSuper (image_of before SUPER_BLOCK) found)
      (geometry : incremented.geometry ≡ newest_of found.geometry) (boot : incremented.boot ≡ found.boot + 1)
      (is_incremented : IsSuper content incremented) (full : length content ≡ BLOCK_BYTES) where
    same_geometry : found.geometry ≡ good.super.geometry
    same_geometry = of_one_block (image_of before SUPER_BLOCK) found good.super is_super good.is_super

    -- in the newest version it reads alike
    incremented_version : incremented.geometry.version ≡ Second
    incremented_version = ap (λ (g : Geometry). g.version) geometry

    incremented_alike : ReadsAlike good.super.geometry incremented.geometry
    incremented_alike =
        let blocks : incremented.geometry.blocks ≡ good.super.geometry.blocks =
        ap (λ (g : Geometry). g.blocks) geometry ∙ ap (λ (g : Geometry). g.blocks) same_geometry in
        let inodes : incremented.geometry.inodes ≡ good.super.geometry.inodes =
        ap (λ (g : Geometry). g.inodes) geometry ∙ ap (λ (g : Geometry). g.inodes) same_geometry in (
          blocks,
          λ at tree stands.
              stands_alike good.super.geometry incremented.geometry at tree incremented_version blocks inodes stands,
        )

    pub next_boot : incremented.boot ≡ first + 1
    next_boot = boot ∙ ap (λ n. n + 1) (is_super.boot ∙ sym good.is_super.boot ∙ good.boot_is)

    old_good : (image : Image) → HasBlocksOf before.size (image_of before) (image_of before SUPER_BLOCK) image
        → IsGoodImage before.size image tree first
    old_good image same = subst (IsGoodImage before.size image tree) good.boot_is
        (good_under before.size (image_of before) tree first good (image_of before SUPER_BLOCK) image same
        good.super good.is_super (reads_same good.super.geometry) (omega (arith, good.boot_is)))

    new_good : (image : Image) → HasBlocksOf before.size (image_of before) content image
        → IsGoodImage before.size image tree (first + 1)
    new_good image same = subst (IsGoodImage before.size image tree) next_boot
        (good_under before.size (image_of before) tree first good content image same incremented is_incremented
        incremented_alike (omega (arith, next_boot)))

    has_tree : (image : Image) → HasBlocksWith before.size (image_of before) content image
        → HasTree before.size first tree image
    has_tree image (inl same) = record { boot = first; boot_is = inl refl; good = old_good image same }
    has_tree image (inr same) = record { boot = first + 1; boot_is = inr refl; good = new_good image same }

    preserves_tree : (later : Device) → PreservesBlocks before later content → PreservesTree before later tree first
    preserves_tree later preserves clock image above below is =
        subst (λ (size : ℕ). HasTree size first tree image) (sym preserves.past.size)
        (has_tree image (subst (λ (size : ℕ). HasBlocksWith size (image_of before) content image)
        preserves.past.size
        (preserves.stops clock image above below is)))

    pub later_refused : (later : Device) (cause : OpenFault) → AreBlocks later
        → PreservesBlocks before later content
        → IsCauseOf cause before later first → IsRefused before later tree first cause
    later_refused later cause blocks preserves because = record {
      past = preserves.past;
      left = some_image before later blocks;
      preserves = preserves_tree later preserves;
      because = because;
    }

    -- ---- once it is settled

    module _ (now later : Device) (log : Log) (lawful : IsLawful log) (none : log.changes ≡ [])
        (increments : HasIncremented before content now later log) (blocks : AreBlocks later) where
      preserves : PreservesBlocks before later content
      preserves = incremented_preserves before now later log content lawful none increments

      abbrev home : Image
      home = under before now log content lawful none increments.brings

      agrees : AgreesWithPending later home log idle idle
      agrees = home_settled now increments.written later increments.brings.coming.base log SUPER_BLOCK content idle idle
          lawful (outside before now log content lawful none increments.brings)
          (unlogged before now log content lawful none increments.brings) increments.write increments.settle
          increments.brings.coming.agrees

      size_is : later.size ≡ before.size
      size_is = preserves.past.size

      blocks_are : log.blocks ≡ before.size
      blocks_are = sym agrees.agrees.size ∙ size_is

      settled_good : (image : Image) → IsCrashImage later later.clock image
          → IsGoodImage later.size image tree (first + 1)
      settled_good image is =
          subst (λ (size : ℕ). IsGoodImage size image tree (first + 1)) (sym size_is)
          (new_good image (subst (λ (size : ℕ). HasBlocksOf size (image_of before) content image) blocks_are
          (under_incremented before now log content lawful none increments.brings image
          (crash_boundary later home log image lawful agrees.agrees is))))

      no_log : log.logged ≡ 0
      no_log = increments.brings.coming.logged ∙ ap (λ (cs : List LogChange). length cs) none

      is_empty : (image : Image) → IsCrashImage later later.clock image
          → (start_in image ≡ log.start) × (end_in image ≡ log.start)
      is_empty image is =
          let some = lawful.disk in
          let size = agrees.agrees.size in
          let few = lawful.installing in
          let idle_log = lawful.log_idle increments.brings.coming.taken in
          let idle_inst = lawful.inst_idle (omega (arith, few, no_log)) in
          let start = agrees.agrees.homes.start (omega (arith, idle_inst.0)) (image START_BLOCK)
          (is START_BLOCK (omega (arith, some, size))) in
          let header = agrees.agrees.own.header (omega (arith, idle_log.0)) (image LOG_HEADER_BLOCK)
          (is LOG_HEADER_BLOCK (omega (arith, some, size))) in
          (omega (arith, start), omega (arith, header.0, no_log))

      pub is_opened : later.failures ≡ before.failures → IsOpened before later tree first log.start
      is_opened same = record {
        past = preserves.past;
        begun = omega (
          arith,
          increments.settle.later.clock,
          increments.write.later.clock,
          increments.brings.preserves.past.clock,
        );
        failures = same;
        left = some_image before later blocks;
        preserves = preserves_tree later preserves;
        settled = settled_good;
        empty = is_empty;
      }

      whole_home : AreWhole log.blocks home
      whole_home block within = by_test (nat_eq block SUPER_BLOCK)
        where
          by_test : (same : Bool) → length (if same then content else increments.brings.coming.base
              block) ≡ BLOCK_BYTES
          by_test true = full
          by_test false = increments.brings.coming.whole block within

      clean : IsCertain now → IsCertain later
      clean before_clean block =
          increments.settle.uncertain block ∙ increments.write.uncertain block
          ∙ none_more (now.uncertain block) (before_clean block)
        where
          none_more : (old : Bool) → old ≡ false → (old || (false && nat_eq block SUPER_BLOCK)) ≡ false
          none_more true is = cc
          none_more false is = refl

      inodes_are : (super : Super) → IsSuper content super → super.geometry.inodes ≡ incremented.geometry.inodes
      inodes_are super is = is.inodes ∙ sym is_incremented.inodes

      boots_are : (super : Super) → IsSuper content super → super.boot ≡ incremented.boot
      boots_are super is = is.boot ∙ sym is_incremented.boot

      pub is_new : (core : CoreState) (log_calls inst_calls : ℕ) → core ≡ record {
        log = log;
        inodes = found.geometry.inodes;
        begun = 0;
        out = [];
        holds = [];
        present = [];
        records = [];
        boot = incremented.boot;
        log_calls = log_calls;
        inst_calls = inst_calls;
        refused = 0;
      } → IsWellFormed core → IsFresh log → log.broken ≡ false → IsCertain now
          → (base : Image) × IsNewOver base later core
      is_new core log_calls inst_calls is well_formed fresh sound uncertain =
          subst (λ (c : CoreState). IsWellFormed c → (base : Image) × IsNewOver base later c) (sym is) (λ well_formed. (
            home,
            record {
              lawful = lawful;
              agrees = agrees;
              readable = record {
                logged = λ block within is_uncertain unlogged_is. absurd (
                    let clean_is = clean uncertain block in let yes : later.uncertain block ≡ true =
                    is_uncertain in cc
                    );
                stuck = λ block within is_uncertain. absurd (
                    let clean_is = clean uncertain block in let yes : later.uncertain block ≡ true =
                    is_uncertain in cc
                    );
              };
              well_formed = well_formed;
              home = record { whole = whole_home; window = fresh_window home log lawful fresh };
              changes = none;
              records = refl;
              present = refl;
              begun = refl;
              refused = refl;
              places = fresh.places;
              sound = sound;
              newest = λ super is_super_of.
                  ap (λ (g : Geometry). g.version) (of_one_block content super incremented is_super_of is_incremented)
                  ∙ incremented_version;
              inodes = λ super is_super_of.
                  inodes_are super is_super_of ∙ ap (λ (g : Geometry). g.inodes) geometry;
              boot = boots_are;
            },
          )) well_formed
