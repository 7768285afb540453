use Rattle.std.proofs.Common.{ℕ, ◌+◌, ◌^◌, ◌<◌, inl, inr, arith}
use Rattle.base.specs.declared.TheConstants.{SUPER_BLOCK}
use Rattle.disk.specs.Crash.{Image}
use Rattle.nfs_spec.specs.Model.Tree.{Tree}
use Rattle.store_promise.specs.declared.fault.OpenFault.{OpenFault}
use Rattle.store_promise.specs.declared.fault.OpenFault.TheVariants as fault
use Rattle.store_promise.specs.GoodImage.{IsGoodImage}
use Rattle.store_promise.specs.Openings.{IsShownBy}
use Rattle.store_promise.proofs.Shown.{has_blocks, not_another, not_magic, not_range, not_version}
use Rattle.store_promise.proofs.refusals.a_good_image_shows_no_cause.Goals as goal

module _ (size boot : ℕ) (image : Image) (tree : Tree) (good : IsGoodImage size image tree boot)
    (left : boot + 1 < 2 ^ 64) where
  boot_left : good.super.boot + 1 < 2 ^ 64
  boot_left = let is = good.boot_is in omega (arith, is, left)

  shows_none : (cause : OpenFault) → IsShownBy cause size image → ⊥
  shows_none fault.Magic (inl none) = has_blocks size (image SUPER_BLOCK) good.super good.is_super
      good.size_is none
  shows_none fault.Magic (inr none) = not_magic (image SUPER_BLOCK) good.super good.is_super none
  shows_none fault.Version none = not_version (image SUPER_BLOCK) good.super good.is_super none
  shows_none fault.Range (inl none) = not_range (image SUPER_BLOCK) good.super good.is_super none
  shows_none fault.Range (inr another) =
      not_another size (image SUPER_BLOCK) good.super good.is_super good.size_is boot_left another
  shows_none fault.Log shown = shown.1 (good.range, good.homes)
  shows_none fault.Device shown = shown
  shows_none (fault.NoMemory error) shown = shown

pub returns : goal.returns
returns c = shows_none
