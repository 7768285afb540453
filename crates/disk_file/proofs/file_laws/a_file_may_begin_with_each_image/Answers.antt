use Rattle.std.proofs.Common.{◌≡◌, ◌≢◌, ℕ, zero, suc, ◌+◌, ◌<◌, Bool, sym, ◌∙◌, ap, arith, inl, inr}
use Rattle.std.proofs.Common.{if◌then◌else◌}
use Rattle.std.proofs.lemmas.Bool.{cases_Bool, eqb-true, eqb-false}
use Rattle.std.specs.Prelude.{nat_eq}
use Rattle.disk.specs.Device.{Content}
use Rattle.disk.specs.Crash.{Image}
use Rattle.disk_file.specs.File.{first_in, pairs_of}
use Rattle.disk_file.proofs.file_laws.a_file_may_begin_with_each_image.Goals as goal

below : (block size : ℕ) → block < size + 1 → block ≢ size → block < size
below block size h other = omega (arith, h, other)

is_first : (image : Image) (size block : ℕ) → block < size
    → first_in (pairs_of image size) block ≡ image block
is_first image zero block h = absurd (omega (arith, h))
is_first image (suc size) block h =
    let either : Bool → Content = λ b. if b then image size else first_in (pairs_of image size) block in
    elim (cases_Bool (nat_eq block size)) [
      | inl t ↦ ap either t ∙ ap image (sym (eqb-true block size t))
      | inr f ↦ ap either f
          ∙ is_first image size block (below block size (omega (arith, h)) (eqb-false block size f))
    ]

pub returns : goal.returns
returns c image size =
    (record { blocks = record { of = record {}; items = pairs_of image size } }, is_first image size)
