-- Blocks are freed in whatever order they come.
use Rattle.std.proofs.Common.{◌≡◌, ℕ, refl, sym, ap, ◌∙◌, Bool, true, false, cond, ◌||◌, List, [], ◌∷◌, nat_eq}
use Rattle.std.specs.List.{list_any}
use Rattle.std.specs.List.Sorted.{IsPermutation}
use Rattle.std.proofs.lemmas.List.Sorted.{list_any-IsPermutation}
use Rattle.disk.specs.Crash.{Image}
use Rattle.layout.specs.declared.geometry.Geometry.{Geometry}
use Rattle.layout.specs.Parts.{parts_of, put}
use Rattle.bitmap.specs.Inodes.Frees.{Frees, without}

both : (first later bit : Bool) → cond later false (cond first false bit) ≡ cond (first || later) false bit
both true true bit = refl
both true false bit = refl
both false true bit = refl
both false false bit = refl

-- the bits that are cleared are those of the numbers
by_member : (numbers : List ℕ) (bits : ℕ → Bool) (at : ℕ)
    → without numbers bits at ≡ cond (list_any (nat_eq at) numbers) false (bits at)
by_member [] bits at = refl
by_member (number ∷ numbers) bits at =
    by_member numbers (put bits number false) at
    ∙ both (nat_eq at number) (list_any (nat_eq at) numbers) (bits at)

without_permuted : (xs ys : List ℕ) (bits : ℕ → Bool) → IsPermutation xs ys → without ys bits ≡ without xs bits
without_permuted xs ys bits permuted i at =
    (by_member ys bits at
    ∙ ap (λ (t : Bool). cond t false (bits at)) (sym (list_any-IsPermutation (nat_eq at) xs ys permuted))
    ∙ sym (by_member xs bits at)) i

pub frees_permuted : (g : Geometry) (xs ys : List ℕ) (old new : Image) → IsPermutation xs ys → Frees g ys old new
    → Frees g xs old new
frees_permuted g xs ys old new permuted frees = record {
  bytes = frees.bytes;
  parts = frees.parts
      ∙ (λ i. record (parts_of g old) { block_bits = without_permuted xs ys (parts_of g old).block_bits permuted i });
}
