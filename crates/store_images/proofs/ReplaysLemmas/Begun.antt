-- The log's blocks at home, a log that begins where it ends, and a raised super block: an image of the same files.
use Rattle.std.proofs.Common.{◌≡◌, ◌∙◌, refl, sym, ap, subst, ℕ, ◌+◌, ◌<◌, ◌≤◌, ◌^◌, arith, Bool, false}
use Rattle.std.proofs.Common.{if◌then◌else◌, nat_eq, List, length, replicate, All, Err}
use Rattle.std.proofs.lemmas.Bool.Decides.{nat_tests}
use Rattle.std.proofs.lemmas.List.{length-replicate}
use Rattle.base.specs.declared.TheConstants.{BLOCK_BYTES, FIRST_HOME_BLOCK, LOG_HEADER_BLOCK, START_BLOCK}
use Rattle.base.specs.declared.TheConstants.{SUPER_BLOCK}
use Rattle.disk.specs.Blocks.{AreBlocks}
use Rattle.disk.specs.Crash.{Image}
use Rattle.disk.specs.Device.{Content, Device}
use Rattle.disk.specs.declared.block.BlockNo.{BlockNo}
use Rattle.nfs_spec.specs.Model.Tree.{Tree}
use Rattle.layout.specs.declared.super_block.Super.{Super}
use Rattle.layout.specs.Homes.{homes_of}
use Rattle.layout.specs.Stands.{Stands}
use Rattle.layout.specs.SuperForm.{IsSuper}
use Rattle.layout.specs.Newest.{newest}
use Rattle.layout.proofs.NewestVersion.{newest_stands}
use Rattle.layout.proofs.OneGeometry.{of_one_block}
use Rattle.circ.specs.Log.EightBytes.{number_at, with_number}
use Rattle.circ.specs.Log.Law.{with_changes}
use Rattle.circ.specs.Log.Log.{IsHomeOn, blocks_of, changes_of, newest_of, opened}
use Rattle.circ.specs.Log.Overlay.{HasHomes, IsInRange, content_or, end_in, logged_in, over, start_in}
use Rattle.circ.specs.Log.Recovery.{HasOnlyRead, IsCertain, image_of}
use Rattle.circ.specs.declared.log.change.LogChange.{LogChange}
use Rattle.circ.proofs.LogLemmas.EightBytes.{number_at-same}
use Rattle.circ.proofs.LogLemmas.Lawful.{homes_of_group}
use Rattle.circ.proofs.LogLemmas.OnlyRead.{reads_then, certain_then}
use Rattle.store_promise.specs.declared.fault.OpenFault.{OpenFault}
use Rattle.store_promise.specs.declared.fault.OpenFault.TheVariants as fault
use Rattle.store_promise.specs.Openings.{IsCauseOf, IsRefusedFor, ShowsNoCause}
use Rattle.store_promise.proofs.Stopped.{no_change, take_len}
use Rattle.store_images.specs.BringingHome.{CountsCause, HasNoLog}
use Rattle.store_images.specs.Opening.{HoldsTree}
use Rattle.store_images.proofs.Opens.{good, read_refused}
use Rattle.store_images.proofs.Refusing.{no_log, shows_none}
use Rattle.store_images.specs.Replays.AtHome.{Begins, HoldsAtHome, IsLogOf}
use Rattle.store_images.specs.Replays.Putting.{HasComeHome, with_log_home}
use Rattle.store_images.proofs.ReplaysLemmas.AtHome.{home_from, image_same, rest_then, same_homes, tree_then}

differs : (a b : ℕ) → (a ≡ b → ⊥) → nat_eq a b ≡ false
differs a b other = grind (arith, nat_tests)

-- ---- what the image is then

module _ (image : Image) (logged : List (BlockNo × Content)) (end : ℕ) (incremented : Content) (size : ℕ)
    (homes : All (IsHomeOn size) (blocks_of logged)) where
  abbrev next : Image
  next = with_log_home image logged end incremented

  -- what lies before the homes isn't logged
  unlogged : (block : ℕ) → block < FIRST_HOME_BLOCK → with_changes image (changes_of 0 logged) block ≡ image block
  unlogged block before =
      ap (λ found. content_or found (image block))
      (ap (λ (cs : List LogChange). newest_of cs block) (sym (take_len (changes_of 0 logged)))
      ∙ no_change size block (λ from below. omega (arith, from, before)) (changes_of 0 logged)
      (length (changes_of 0 logged)) (homes_of_group size 0 logged homes))

  new_start : end < 2 ^ 64 → start_in next ≡ end
  new_start fits =
      number_at-same (replicate BLOCK_BYTES 0) 0 end
      (let long = length-replicate {A = ℕ} BLOCK_BYTES 0 in omega (arith, long)) fits

  new_end : end_in next ≡ end_in image
  new_end = ap (λ c. number_at c 0) (unlogged LOG_HEADER_BLOCK (omega arith))

  at_home : logged ≡ logged_in image → (number : ℕ) → FIRST_HOME_BLOCK ≤ number → next number ≡ over image number
  at_home is number from =
      ap (λ (t : Bool). if t then incremented
      else (if nat_eq number START_BLOCK then with_number (replicate BLOCK_BYTES 0) 0 end
      else with_changes image (changes_of 0 logged) number))
      (differs number SUPER_BLOCK (λ same. omega (arith, same, from)))
      ∙ ap (λ (t : Bool). if t then with_number (replicate BLOCK_BYTES 0) 0 end
      else with_changes image (changes_of 0 logged) number)
      (differs number START_BLOCK (λ same. omega (arith, same, from)))
      ∙ ap (λ (xs : List (BlockNo × Content)). with_changes image (changes_of 0 xs) number) is

  pub new_homes : logged ≡ logged_in image → homes_of size next ≡ homes_of size (over image)
  new_homes is = same_homes size next (over image) (λ number home. at_home is number (home_from size number home))

  pub new_empty : end < 2 ^ 64 → end ≡ end_in image → start_in next ≡ end_in next
  new_empty fits is = new_start fits ∙ is ∙ sym new_end

-- ---- so it holds the tree

module _ (before mid now later : Device) (tree : Tree) (first : ℕ) (holds : HoldsTree before tree first)
    (one : HasOnlyRead before mid) (two : HasOnlyRead mid now) (found incremented : Super) (content : Content)
    (logged : List (BlockNo × Content)) (end : ℕ) where
  mid_is : image_of mid ≡ image_of before
  mid_is = image_same before mid one

  now_is : image_of now ≡ image_of before
  now_is = image_same mid now two ∙ mid_is

  pub begins_at_home : IsSuper (image_of before SUPER_BLOCK) found → found.geometry.blocks ≡ before.size
      → incremented.geometry ≡ newest found.geometry → incremented.boot ≡ found.boot + 1 → IsSuper content incremented
      → IsLogOf mid.size (image_of mid) logged end → All (IsHomeOn now.size) (blocks_of logged) → end < 2 ^ 64
      → later.size ≡ now.size → HasComeHome now later (with_log_home (image_of now) logged end content)
      → HoldsAtHome (newest found.geometry) later tree (first + 1)
  begins_at_home is_super blocks geometry boot is_incremented log homes fits size came =
      let image_is : image_of later ≡ with_log_home (image_of before) logged end content =
      came.newest ∙ ap (λ (image : Image). with_log_home image logged end content) now_is in
      let sound = good before tree first holds in
      let same : found.geometry ≡ sound.super.geometry =
      of_one_block (image_of before SUPER_BLOCK) found sound.super is_super sound.is_super in
      let sizes : later.size ≡ before.size = size ∙ two.size ∙ one.size in
      let at : All (IsHomeOn before.size) (blocks_of logged) =
      subst (λ n. All (IsHomeOn n) (blocks_of logged)) (two.size ∙ one.size) homes in
      let logged_is : logged ≡ logged_in (image_of before) =
      log.logged_is ∙ ap (λ (image : Image). logged_in image) mid_is in
      let end_is : end ≡ end_in (image_of before) = log.end_is ∙ ap (λ (image : Image). end_in image) mid_is in
      record {
        rest = came.rest (rest_then mid now two (rest_then before mid one holds.rest));
        super = incremented;
        is_super = subst (λ (image : Image). IsSuper (image SUPER_BLOCK) incremented) (sym image_is) is_incremented;
        geometry_is = geometry;
        size_is = blocks ∙ sym sizes;
        boot_is = boot ∙ ap (λ n. n + 1) (is_super.boot ∙ sym sound.is_super.boot ∙ sound.boot_is);
        empty = subst (λ (image : Image). start_in image ≡ end_in image) (sym image_is)
            (new_empty (image_of before) logged end content before.size at fits end_is);
        stands = subst (λ (image : Image). Stands (newest found.geometry) (homes_of found.geometry.blocks image) tree)
            (sym image_is) (subst (λ n. Stands (newest found.geometry)
            (homes_of n (with_log_home (image_of before) logged end content)) tree) (sym blocks)
            (subst (λ bs. Stands (newest found.geometry) bs tree)
            (sym (new_homes (image_of before) logged end content before.size at logged_is))
            (newest_stands found.geometry (homes_of before.size (over (image_of before))) tree
            (subst (λ g. Stands g (homes_of before.size (over (image_of before))) tree) (sym same) sound.stands))));
        stamps = λ number node there.
            let early = sound.stamps number node there in omega (arith, early);
      }

-- ---- or it is refused

pub refused_begins : (before later : Device) (tree : Tree) (first : ℕ) (cause : OpenFault)
    → IsCauseOf cause before later first → HoldsTree later tree first → Begins before later tree first (Err cause)
refused_begins before later tree first fault.Device because holds = because
refused_begins before later tree first (fault.NoMemory error) because holds = (because, holds)
refused_begins before later tree first fault.Range because holds = (because, holds)
refused_begins before later tree first fault.Magic because holds = (because, holds)
refused_begins before later tree first fault.Version because holds = (because, holds)
refused_begins before later tree first fault.Log because holds = (because, holds)

counts_along : (cause : OpenFault) (before mid later : Device) → mid.failures ≡ before.failures
    → CountsCause cause mid later → CountsCause cause before later
counts_along fault.Device before mid later same counts = omega (arith, counts, same)
counts_along (fault.NoMemory error) before mid later same counts = counts ∙ same
counts_along fault.Range before mid later same counts = counts ∙ same
counts_along fault.Magic before mid later same counts = counts ∙ same
counts_along fault.Version before mid later same counts = counts ∙ same
counts_along fault.Log before mid later same counts = counts ∙ same

-- ---- what an opening answers

module _ (keeps_model : Type 0) (before mid later : Device) (found : Super) (one : HasOnlyRead before mid)
    (two : HasOnlyRead mid later) (blocks : found.geometry.blocks ≡ before.size) (left : found.boot + 1 < 2 ^ 64)
    (is_super : keeps_model → IsCertain before → IsSuper (image_of before SUPER_BLOCK) found)
    (same : mid.failures ≡ before.failures) where
  -- no log was found
  pub refused_log : (cause : OpenFault)
      → HasNoLog (keeps_model × IsCertain mid) cause mid.size (image_of mid) → CountsCause cause mid later
      → IsRefusedFor keeps_model cause before later
  refused_log cause none counts =
      no_log keeps_model before mid later found one two blocks left is_super cause
      (subst (λ n. HasNoLog (keeps_model × IsCertain mid) cause n (image_of mid)) (one.size ∙ sym blocks) none)
      counts same

  pub refused_begins_log : (cause : OpenFault)
      → HasNoLog (keeps_model × IsCertain mid) cause mid.size (image_of mid) → CountsCause cause mid later
      → (tree : Tree) (first : ℕ) → HoldsTree before tree first → keeps_model → AreBlocks later
      → Begins before later tree first (Err cause)
  refused_begins_log cause none counts tree first holds is_preserved whole =
      let reads = reads_then before mid later one two in
      refused_begins before later tree first cause
      (read_refused before tree first holds keeps_model cause later is_preserved whole reads
      (counts_along cause before mid later same counts) (refused_log cause none counts)).because
      (tree_then before later tree first reads holds)

  -- the log was found
  pub shows_nothing : (logged : List (BlockNo × Content)) (end : ℕ)
      → (keeps_model → IsCertain mid → IsLogOf mid.size (image_of mid) logged end) → keeps_model
      → IsCertain before → ShowsNoCause before.size (image_of before)
  shows_nothing logged end was is_preserved clean =
      let image_is : image_of mid ≡ image_of before = image_same before mid one in
      let log = was is_preserved (certain_then before mid one clean) in
      shows_none keeps_model before mid later found one two blocks left is_super
      (opened before.size (start_in (image_of before)) (logged_in (image_of before)))
      (record {
        is_super = is_super is_preserved clean;
        range = subst IsInRange image_is log.range;
        homes = subst (λ n. HasHomes n (image_of before)) one.size
            (subst (λ (image : Image). HasHomes mid.size image) image_is log.homes);
        log_is = refl;
      })
