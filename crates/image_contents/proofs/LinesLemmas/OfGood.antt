-- What a good image shows, step by step.
use Rattle.std.proofs.Common.{◌≡◌, ◌∙◌, ℕ, sym, ap, subst, inl, inr, Err, arith}
use Rattle.base.specs.declared.TheConstants.{SUPER_BLOCK}
use Rattle.disk.specs.Crash.{Image}
use Rattle.disk.specs.Device.{Device}
use Rattle.nfs_spec.specs.Model.Tree.{Tree}
use Rattle.layout.specs.declared.geometry.Geometry.{Geometry}
use Rattle.layout.specs.declared.super_block.Super.{Super}
use Rattle.layout.specs.Homes.{homes_of}
use Rattle.layout.specs.Stands.{Stands}
use Rattle.layout.specs.SuperForm.{IsSuper}
use Rattle.layout.proofs.OneGeometry.{of_one_block}
use Rattle.circ.specs.Log.Overlay.{HasHomes, IsInRange, logged_in, over}
use Rattle.circ.specs.Log.Recovery.{HasOnlyRead, IsCertain, image_of}
use Rattle.circ.proofs.LogLemmas.OnlyRead.{image_then}
use Rattle.store_promise.specs.declared.fault.OpenFault.{OpenFault}
use Rattle.store_promise.specs.declared.fault.OpenFault.TheVariants as fault
use Rattle.store_promise.specs.GoodImage.{IsGoodImage}
use Rattle.store_promise.specs.Openings.{IsRefusedFor}
use Rattle.store_promise.proofs.Shown.{has_blocks, not_magic, not_range, not_version}
use Rattle.image_contents.specs.Lines.Shown.{IsOverlay, IsShown}

module _ (before : Device) (tree : Tree) (boot : ℕ) (good : IsGoodImage before.size (image_of before) tree boot) where
  -- an image that is read shows what it showed
  pub same_image : (later : Device) → HasOnlyRead before later → image_of later ≡ image_of before
  same_image later reads = λ i block. image_then before later reads block i

  -- its super block is refused for its boot number alone
  pub super_refused : (keeps_model : Type 0) (cause : OpenFault) (later : Device) → keeps_model → IsCertain before
      → IsRefusedFor keeps_model cause before later → IsShown tree boot (Err cause)
  super_refused keeps_model fault.Device later is_preserved clean shows = tt
  super_refused keeps_model (fault.NoMemory error) later is_preserved clean shows = tt
  super_refused keeps_model fault.Magic later is_preserved clean shows = elim (shows.1 is_preserved clean) [
    | inl none ↦ has_blocks before.size (image_of before SUPER_BLOCK) good.super good.is_super good.size_is none
    | inr other ↦ not_magic (image_of before SUPER_BLOCK) good.super good.is_super other
  ]
  super_refused keeps_model fault.Version later is_preserved clean shows =
      not_version (image_of before SUPER_BLOCK) good.super good.is_super (shows.1 is_preserved clean)
  super_refused keeps_model fault.Range later is_preserved clean shows = elim (shows.1 is_preserved clean) [
    | inl other ↦ absurd (not_range (image_of before SUPER_BLOCK) good.super good.is_super other)
    | inr (super, is, inl other) ↦ absurd (other (is.blocks ∙ sym good.is_super.blocks ∙ good.size_is))
    | inr (super, is, inr last) ↦
        let same : super.boot ≡ boot = is.boot ∙ sym good.is_super.boot ∙ good.boot_is in
        omega (arith, last, same)
  ]
  super_refused keeps_model fault.Log later is_preserved clean shows = (shows.1 is_preserved clean).1 (good.range, good.homes)

  -- and its log isn't
  pub log_refused : (later : Device) → HasOnlyRead before later → (cause : OpenFault)
      → IsOverlay later.size (image_of later) (Err cause) → IsShown tree boot (Err cause)
  log_refused later reads fault.Log none =
      none (subst IsInRange (sym (same_image later reads)) good.range)
      (subst (λ (size : ℕ). HasHomes size (image_of later)) (sym reads.size)
      (subst (HasHomes before.size) (sym (same_image later reads)) good.homes))
  log_refused later reads fault.Device none = tt
  log_refused later reads (fault.NoMemory error) none = tt
  log_refused later reads fault.Magic none = none
  log_refused later reads fault.Version none = none
  log_refused later reads fault.Range none = absurd none

  -- its homes stand for the tree by the super block that was read
  pub stands_for : (found : Super) → IsSuper (image_of before SUPER_BLOCK) found → (later : Device)
      → HasOnlyRead before later
      → Stands found.geometry (homes_of found.geometry.blocks (over (image_of later))) tree
  stands_for found is later reads =
      subst (λ (image : Image). Stands found.geometry (homes_of found.geometry.blocks (over image)) tree)
      (sym (same_image later reads))
      (subst (λ (g : Geometry). Stands g (homes_of g.blocks (over (image_of before))) tree) (sym same)
      (subst (λ (size : ℕ). Stands good.super.geometry (homes_of size (over (image_of before))) tree)
      (sym good.size_is) good.stands))
    where
      same : found.geometry ≡ good.super.geometry
      same = of_one_block (image_of before SUPER_BLOCK) found good.super is good.is_super

  -- its log lies over it
  pub same_log : (first later : Device) → HasOnlyRead before first → HasOnlyRead before later
      → logged_in (image_of first) ≡ logged_in (image_of later)
  same_log first later a b = ap logged_in (same_image first a ∙ sym (same_image later b))
