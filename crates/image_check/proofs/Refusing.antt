-- What refuses an image, and what is said of it then.
use Rattle.std.proofs.Common.{◌≡◌, ℕ, inl, inr, sym, ◌∙◌, refl, subst, List, Result, Ok, Err, arith}
use Rattle.std.specs.Prelude.{IsErrOf}
use Rattle.base.specs.declared.TheConstants.{SUPER_BLOCK}
use Rattle.disk.specs.Crash.{Image}
use Rattle.disk.specs.Device.{Content, Device}
use Rattle.disk.specs.declared.block.BlockNo.{BlockNo}
use Rattle.nfs_spec.specs.Model.Sound.{IsMadeBy}
use Rattle.layout.specs.declared.geometry.Geometry.{Geometry}
use Rattle.layout.specs.declared.super_block.Super.{Super}
use Rattle.layout.specs.Homes.{homes_of}
use Rattle.layout.specs.Stands.{Stands}
use Rattle.layout.specs.SuperForm.{IsSuper}
use Rattle.layout.proofs.OneGeometry.{of_one_block}
use Rattle.circ.specs.declared.log.recovery.LogFault.{LogFault}
use Rattle.circ.specs.declared.log.recovery.LogFault.TheVariants as log
use Rattle.circ.specs.Log.Overlay.{HasHomes, IsInRange, logged_in, over}
use Rattle.circ.specs.Log.Recovery.{CountsFault, HasOnlyRead, IsLog, IsCertain, image_of}
use Rattle.circ.proofs.LogLemmas.OnlyRead.{image_then}
use Rattle.image_read.specs.LoggedImage.WithOverlay.{with_overlay}
use Rattle.store_promise.specs.declared.fault.OpenFault.{OpenFault}
use Rattle.store_promise.specs.declared.fault.OpenFault.TheVariants as opening
use Rattle.store_promise.specs.Openings.{IsRefusedFor, IsShownBy}
use Rattle.store_promise.proofs.Shown.{has_blocks, not_magic, not_range, not_version}
use Rattle.store_images.specs.BringingHome.{CountsCause}
use Rattle.image_read.specs.declared.parts.fault.PartFault.{PartFault}
use Rattle.image_read.specs.declared.parts.fault.PartFault.TheVariants as part
use Rattle.image_read.specs.Parts.Table.{CountsPart}
use Rattle.image_check.specs.declared.fault.CheckFault.{CheckFault}
use Rattle.image_check.specs.declared.fault.CheckFault.TheVariants as fault
use Rattle.image_check.specs.declared.judgement.Counts.{Counts}
use Rattle.image_check.specs.Checked.{CountsCheck, IsChecked, IsGoodWith, IsNotGood}
use Rattle.image_check.specs.Refused.{IsRefusal, of_log, of_open, of_part}
use Rattle.image_check.specs.Searched.{IsNoTree, IsSearched, IsTreeWith}

-- ---- failures

pub counts_open : (T : Type 0) (old new : Device) (cause : OpenFault) → CountsCause cause old new
    → CountsCheck {T = T} old new (Err (of_open cause))
counts_open T old new opening.Magic counts = counts
counts_open T old new opening.Version counts = counts
counts_open T old new opening.Range counts = counts
counts_open T old new opening.Log counts = counts
counts_open T old new opening.Device counts = counts
counts_open T old new (opening.NoMemory error) counts = counts

pub counts_log : (T U : Type 0) (old new : Device) (cause : LogFault) → CountsFault {T = U} old new (Err cause)
    → CountsCheck {T = T} old new (Err (of_log cause))
counts_log T U old new log.Range counts = counts
counts_log T U old new log.Address counts = counts
counts_log T U old new log.Device counts = omega (arith, counts)
counts_log T U old new (log.NoMemory error) counts = counts

pub counts_part : (T U : Type 0) (old new : Device) (cause : PartFault) → CountsPart {T = U} old new (Err cause)
    → CountsCheck {T = T} old new (Err (of_part cause))
counts_part T U old new part.Range counts = counts
counts_part T U old new part.Device counts = omega (arith, counts)
counts_part T U old new (part.NoMemory error) counts = counts

pub counts_then : {T : Type 0} (old middle new : Device) (result : Result T CheckFault)
    → middle.failures ≡ old.failures → CountsCheck middle new result → CountsCheck old new result
counts_then old middle new (Ok x) same counts = counts ∙ same
counts_then old middle new (Err fault.Magic) same counts = counts ∙ same
counts_then old middle new (Err fault.Version) same counts = counts ∙ same
counts_then old middle new (Err fault.Range) same counts = counts ∙ same
counts_then old middle new (Err fault.Log) same counts = counts ∙ same
counts_then old middle new (Err fault.Device) same counts = omega (arith, same, counts)
counts_then old middle new (Err (fault.NoMemory error)) same counts = counts ∙ same
counts_then old middle new (Err fault.Shared) same counts = counts ∙ same
counts_then old middle new (Err fault.Bitmap) same counts = counts ∙ same
counts_then old middle new (Err (fault.Tree why)) same counts = counts ∙ same

-- a refusal of one kind is one of another
pub counts_as : (T U : Type 0) (old new : Device) (cause : CheckFault) → CountsCheck {T = U} old new (Err cause)
    → CountsCheck {T = T} old new (Err cause)
counts_as T U old new fault.Magic counts = counts
counts_as T U old new fault.Version counts = counts
counts_as T U old new fault.Range counts = counts
counts_as T U old new fault.Log counts = counts
counts_as T U old new fault.Device counts = counts
counts_as T U old new (fault.NoMemory error) counts = counts
counts_as T U old new fault.Shared counts = counts
counts_as T U old new fault.Bitmap counts = counts
counts_as T U old new (fault.Tree why) counts = counts

-- where no call failed, none is counted
pub counts_none : {T : Type 0} (old new : Device) (result : Result T CheckFault) → new.failures ≡ old.failures
    → (IsErrOf result fault.Device → ⊥) → CountsCheck old new result
counts_none old new (Ok x) same not = same
counts_none old new (Err fault.Magic) same not = same
counts_none old new (Err fault.Version) same not = same
counts_none old new (Err fault.Range) same not = same
counts_none old new (Err fault.Log) same not = same
counts_none old new (Err fault.Device) same not = absurd (not refl)
counts_none old new (Err (fault.NoMemory error)) same not = same
counts_none old new (Err fault.Shared) same not = same
counts_none old new (Err fault.Bitmap) same not = same
counts_none old new (Err (fault.Tree why)) same not = same

-- ---- the super block and the log

module _ (size : ℕ) (image : Image) where
  shown : (cause : OpenFault) → IsShownBy cause size image → IsRefusal (IsNotGood size image) (of_open cause)
  shown opening.Magic (inl none) = λ tree boot good.
      absurd (has_blocks size (image SUPER_BLOCK) good.super good.is_super good.size_is none)
  shown opening.Magic (inr other) =
      λ tree boot good. absurd (not_magic (image SUPER_BLOCK) good.super good.is_super other)
  shown opening.Version other =
      λ tree boot good. absurd (not_version (image SUPER_BLOCK) good.super good.is_super other)
  shown opening.Range (inl other) = λ tree boot good.
      absurd (not_range (image SUPER_BLOCK) good.super good.is_super other)
  shown opening.Range (inr (super, is, inl other)) = λ tree boot good.
      absurd (other (is.blocks ∙ sym good.is_super.blocks ∙ good.size_is))
  shown opening.Range (inr (super, is, inr last)) = λ tree boot good.
      let same : super.boot ≡ boot = is.boot ∙ sym good.is_super.boot ∙ good.boot_is in omega (arith, last, same)
  shown opening.Log other = λ tree boot good. absurd (other.1 (good.range, good.homes))
  shown opening.Device other = tt
  shown (opening.NoMemory error) other = tt

  pub no_log : (cause : LogFault) → IsLog size image (Err cause) → IsRefusal (IsNotGood size image) (of_log cause)
  no_log log.Range not = λ tree boot good. absurd (not good.range)
  no_log log.Address not = λ tree boot good. absurd (not.1 good.homes)
  no_log log.Device not = tt
  no_log (log.NoMemory error) not = tt

  pub as_checked : (cause : CheckFault) → IsRefusal (IsNotGood size image) cause → IsChecked size image (Err cause)
  as_checked fault.Magic said = said
  as_checked fault.Version said = said
  as_checked fault.Range said = said
  as_checked fault.Log said = said
  as_checked fault.Device said = said
  as_checked (fault.NoMemory error) said = said
  as_checked fault.Shared said = said
  as_checked fault.Bitmap said = said
  as_checked (fault.Tree why) said = said

  -- what the search of the files says of the image
  module _ (found : Super) (is_super : IsSuper (image SUPER_BLOCK) found) (size_is : found.geometry.blocks ≡ size)
      (range : IsInRange image) (homes : HasHomes size image) where
    not_good : IsNoTree found.geometry found.boot (over image) → IsNotGood size image
    not_good not tree boot good =
        let same : good.super.geometry ≡ found.geometry =
        of_one_block (image SUPER_BLOCK) good.super found good.is_super is_super in
        let boot_is : boot ≡ found.boot = sym good.boot_is ∙ good.is_super.boot ∙ sym is_super.boot in
        absurd (not tree
        (subst (λ (n : ℕ). Stands found.geometry (homes_of n (over image)) tree) (sym size_is)
        (subst (λ (g : Geometry). Stands g (homes_of size (over image)) tree) same good.stands))
        (subst (λ (n : ℕ). IsMadeBy n tree) boot_is good.stamps))

    good_with : (counts : Counts) → IsTreeWith found.geometry found.boot (over image) counts
        → IsGoodWith size image counts
    good_with counts has = record {
      tree = has.tree;
      boot = found.boot;
      good = record {
        super = found;
        is_super = is_super;
        size_is = size_is;
        boot_is = refl;
        range = range;
        homes = homes;
        stands = subst (λ (n : ℕ). Stands found.geometry (homes_of n (over image)) has.tree) size_is has.stands;
        stamps = has.made;
      };
      are = has.are;
    }

    checked_by : (result : Result Counts CheckFault)
        → IsSearched found.geometry found.boot (over image) result → IsChecked size image result
    checked_by (Ok counts) is = good_with counts is
    checked_by (Err fault.Magic) is = not_good is
    checked_by (Err fault.Version) is = not_good is
    checked_by (Err fault.Range) is = not_good is
    checked_by (Err fault.Log) is = not_good is
    checked_by (Err fault.Device) is = tt
    checked_by (Err (fault.NoMemory error)) is = tt
    checked_by (Err fault.Shared) is = not_good is
    checked_by (Err fault.Bitmap) is = not_good is
    checked_by (Err (fault.Tree why)) is = not_good is

    pub is_checked : (result : Result Counts CheckFault) (logged : List (BlockNo × Content)) → logged ≡ logged_in image
        → IsSearched found.geometry found.boot (with_overlay logged image) result → IsChecked size image result
    is_checked result logged same is =
        checked_by result
        (subst (λ l. IsSearched found.geometry found.boot (with_overlay l image) result) same is)

pub refused_first : (is_preserved : Type 0) (cause : OpenFault) (before later : Device) → IsRefusedFor is_preserved cause before later
    → is_preserved → IsCertain before → IsRefusal (IsNotGood before.size (image_of before)) (of_open cause)
refused_first is_preserved opening.Magic before later refused preserves clean =
    shown before.size (image_of before) opening.Magic (refused.1 preserves clean)
refused_first is_preserved opening.Version before later refused preserves clean =
    shown before.size (image_of before) opening.Version (refused.1 preserves clean)
refused_first is_preserved opening.Range before later refused preserves clean =
    shown before.size (image_of before) opening.Range (refused.1 preserves clean)
refused_first is_preserved opening.Log before later refused preserves clean =
    shown before.size (image_of before) opening.Log (refused.1 preserves clean)
refused_first is_preserved opening.Device before later refused preserves clean = tt
refused_first is_preserved (opening.NoMemory error) before later refused preserves clean = tt

-- ---- the search

-- another fact is said in its place
pub said_then : {said implied : Type 0} (cause : CheckFault) → (said → implied) → IsRefusal said cause → IsRefusal implied cause
said_then fault.Magic so is = so is
said_then fault.Version so is = so is
said_then fault.Range so is = so is
said_then fault.Log so is = so is
said_then fault.Device so is = tt
said_then (fault.NoMemory error) so is = tt
said_then fault.Shared so is = so is
said_then fault.Bitmap so is = so is
said_then (fault.Tree why) so is = so is

module _ (g : Geometry) (boot : ℕ) (image : Image) where
  pub as_searched : (cause : CheckFault) → IsRefusal (IsNoTree g boot image) cause → IsSearched g boot image (Err cause)
  as_searched fault.Magic said = said
  as_searched fault.Version said = said
  as_searched fault.Range said = said
  as_searched fault.Log said = said
  as_searched fault.Device said = said
  as_searched (fault.NoMemory error) said = said
  as_searched fault.Shared said = said
  as_searched fault.Bitmap said = said
  as_searched (fault.Tree why) said = said

  pub of_range : (cause : PartFault) → (cause ≡ part.Range → IsNoTree g boot image)
      → IsSearched g boot image (Err (of_part cause))
  of_range part.Range so = so refl
  of_range part.Device so = tt
  of_range (part.NoMemory error) so = tt

-- ---- reads

pub image_is : (old new : Device) → HasOnlyRead old new → image_of new ≡ image_of old
image_is old new reads = λ i block. image_then old new reads block i
