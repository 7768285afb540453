-- What data blocks have stays while a device is only read.
use Rattle.std.proofs.Common.{◌≡◌, ℕ, ap, ◌∙◌, cond, List, length, nat_eq, replicate}
use Rattle.base.specs.declared.TheConstants.{BLOCK_BYTES}
use Rattle.disk.specs.Device.{Content, Device}
use Rattle.disk.specs.declared.block.BlockNo.{BlockNo}
use Rattle.layout.specs.declared.geometry.Geometry.{Geometry}
use Rattle.layout.specs.Decode.{content_of}
use Rattle.layout.specs.Parts.{content_in}
use Rattle.layout.specs.Places.{is_data}
use Rattle.circ.specs.Log.Recovery.{HasOnlyRead, image_of}
use Rattle.image_read.specs.LoggedImage.WithOverlay.{with_overlay}
use Rattle.image_read.proofs.PartsLemmas.OverlayThen.{overlay_then}

module _ (g : Geometry) (logged : List (BlockNo × Content)) (a b : Device) (reads : HasOnlyRead a b) where
  pub content_then : (number : ℕ) → content_of (content_in g (with_overlay logged (image_of b))) number
      ≡ content_of (content_in g (with_overlay logged (image_of a))) number
  content_then number =
      ap (λ l. cond (nat_eq number 0) (replicate BLOCK_BYTES 0) (cond (is_data g number) l (replicate BLOCK_BYTES 0)))
      (overlay_then logged a b reads number)

  pub long_then : ((number : ℕ) → length (content_in g (with_overlay logged (image_of a)) number) ≡ BLOCK_BYTES)
      → (number : ℕ) → length (content_in g (with_overlay logged (image_of b)) number) ≡ BLOCK_BYTES
  long_then long number =
      ap (λ (l : List ℕ). length (cond (is_data g number) l (replicate BLOCK_BYTES 0)))
      (overlay_then logged a b reads number) ∙ long number

  -- data blocks have what they had
  pub contents_then : content_in g (with_overlay logged (image_of b)) ≡ content_in g (with_overlay logged (image_of a))
  contents_then = λ i number. cond (is_data g number) (overlay_then logged a b reads number i) (replicate BLOCK_BYTES 0)
