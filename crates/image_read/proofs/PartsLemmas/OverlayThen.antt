-- What lies over an image stays while a device is only read.
use Rattle.std.proofs.Common.{◌≡◌, ℕ, ◌+◌, ◌*◌, ◌/◌, ◌%◌, ◌^◌, ◌<◌, sym, ap, ◌∙◌, Bool, false, List, length, get_or, nat_eq}
use Rattle.std.proofs.Common.{arith}
use Rattle.base.specs.declared.TheConstants.{BITS_PER_BLOCK}
use Rattle.disk.specs.Crash.{Image}
use Rattle.disk.specs.Device.{Content, Device}
use Rattle.disk.specs.declared.block.BlockNo.{BlockNo}
use Rattle.layout.specs.Parts.{bit_at}
use Rattle.circ.specs.Log.Effects.{newest_in}
use Rattle.circ.specs.Log.Overlay.{content_or}
use Rattle.circ.specs.Log.Recovery.{HasOnlyRead, image_of}
use Rattle.circ.proofs.LogLemmas.OnlyRead.{image_then}
use Rattle.image_read.specs.LoggedImage.WithOverlay.{with_overlay}
use Rattle.image_read.specs.Parts.Marks.{HasBits}

module _ (logged : List (BlockNo × Content)) (a b : Device) (reads : HasOnlyRead a b) where
  pub overlay_then : (block : ℕ) → with_overlay logged (image_of b) block ≡ with_overlay logged (image_of a) block
  overlay_then block = ap (content_or (newest_in logged block)) (image_then a b reads block)

  pub bits_then : (first number : ℕ)
      → bit_at (with_overlay logged (image_of b)) first number ≡ bit_at (with_overlay logged (image_of a)) first number
  unfolding bit_at
  bits_then first number =
      ap (λ bytes. nat_eq (get_or bytes (number % BITS_PER_BLOCK / 8) 0 / 2 ^ (number % 8) % 2) 1)
      (overlay_then (first + number / BITS_PER_BLOCK))

-- whole blocks of marks
module _ (image : Image) (first count : ℕ) (marks : List Bool) (mark : ℕ → Bool)
    (long : length marks ≡ BITS_PER_BLOCK * count)
    (are : (number : ℕ) → number < BITS_PER_BLOCK * count → get_or marks number false ≡ mark number) where
  pub as_marked : HasBits image first (length marks / BITS_PER_BLOCK) marks
      → (number : ℕ) → number < BITS_PER_BLOCK * count → bit_at image first number ≡ mark number
  as_marked has number less = has number (omega (arith, less, long)) ∙ are number less

  pub marked_as : ((number : ℕ) → number < BITS_PER_BLOCK * count → bit_at image first number ≡ mark number)
      → HasBits image first (length marks / BITS_PER_BLOCK) marks
  marked_as has number less =
      let within : number < BITS_PER_BLOCK * count = omega (arith, less, long) in
      has number within ∙ sym (are number within)
