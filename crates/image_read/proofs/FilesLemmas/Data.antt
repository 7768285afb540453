-- Numbers of data blocks, and what these have.
use Rattle.std.proofs.Common.{◌≡◌, ℕ, zero, suc, ◌<◌, sym, ap, ◌∙◌, refl, Bool, true, false, cond, not, ◌&&◌, ◌||◌}
use Rattle.std.proofs.Common.{List, [], ◌∷◌, length, take, drop, get_or, replicate, nat_eq, nat_le, nat_lt, arith}
use Rattle.std.specs.List.{list_all}
use Rattle.std.proofs.lemmas.Bool.{ne_eqb}
use Rattle.std.proofs.lemmas.List.{take-append-drop}
use Rattle.std.proofs.lemmas.List.Folds.{list_all-append}
use Rattle.base.specs.declared.TheConstants.{BLOCK_BYTES}
use Rattle.disk.specs.Crash.{Image}
use Rattle.layout.specs.declared.geometry.Geometry.{Geometry}
use Rattle.layout.specs.Decode.{content_of}
use Rattle.layout.specs.Geometry.{data_at}
use Rattle.layout.specs.InodeForm.{is_data_block_or_none}
use Rattle.layout.specs.Parts.{content_in}
use Rattle.layout.specs.Places.{is_data}
use Rattle.inode.proofs.AllTests.{all_two, is_less, no_more}
use Rattle.inode.proofs.InodeThere.{data_of}

abbrev pub is_some : ℕ → Bool
is_some number = not (nat_eq number 0)

both : (a b : Bool) → a ≡ true → b ≡ true → (a && b) ≡ true
both a b one other = λ i. one i && other i

-- what passes a test each does
pub each_passes : (p : ℕ → Bool) (xs : List ℕ) (index_within : ℕ) → list_all p xs ≡ true → index_within < length xs
    → p (get_or xs index_within 0) ≡ true
each_passes p [] index_within all less = absurd (omega (arith, less))
each_passes p (x ∷ xs) zero all less = (all_two (p x) (list_all p xs) all).0
each_passes p (x ∷ xs) (suc index_within) all less =
    each_passes p xs index_within (all_two (p x) (list_all p xs) all).1 (omega (arith, less))

pub first_pass : (p : ℕ → Bool) (count : ℕ) (xs : List ℕ) → list_all p xs ≡ true → list_all p (take count xs) ≡ true
first_pass p count xs all =
    (all_two (list_all p (take count xs)) (list_all p (drop count xs))
    (sym (list_all-append p (take count xs) (drop count xs)) ∙ ap (list_all p) (take-append-drop count xs) ∙ all)).0

module _ (g : Geometry) where
  pub within : (number : ℕ) → is_data g number ≡ true → number < g.blocks
  within number lies =
      is_less number g.blocks (all_two (nat_le (data_at g.blocks g.inodes) number) (nat_lt number g.blocks) lies).1

  -- a data block isn't number 0
  pub some_number : (number : ℕ) → is_data g number ≡ true → nat_eq number 0 ≡ false
  some_number number lies =
      let low = no_more (data_at g.blocks g.inodes) number
      (all_two (nat_le (data_at g.blocks g.inodes) number) (nat_lt number g.blocks) lies).0 in
      ne_eqb number 0 (λ is. omega (arith, low, is))

  pub none_or_data : (number : ℕ) → is_data g number ≡ true → is_data_block_or_none g number ≡ true
  none_or_data number lies = λ i. some_number number lies i || lies i

  pub is_there : (number : ℕ) → is_data_block_or_none g number ≡ true → nat_eq number 0 ≡ false
      → is_data g number ≡ true
  is_there number placed some = data_of (nat_eq number 0) (is_data g number) some placed

  negated : (b : Bool) → not b ≡ true → b ≡ false
  negated true e = cc
  negated false e = refl

  -- what each number is, where each is that of a block
  pub all_data : (numbers : List ℕ) → list_all (is_data_block_or_none g) numbers ≡ true
      → list_all is_some numbers ≡ true → list_all (is_data g) numbers ≡ true
  all_data [] placed some = refl
  all_data (n ∷ numbers) placed some =
      let here = all_two (is_data_block_or_none g n) (list_all (is_data_block_or_none g) numbers) placed in
      let one = all_two (is_some n) (list_all is_some numbers) some in
      both (is_data g n) (list_all (is_data g) numbers) (is_there n here.0 (negated (nat_eq n 0) one.0))
      (all_data numbers here.1 one.1)

  pub all_some : (numbers : List ℕ) → list_all (is_data g) numbers ≡ true → list_all is_some numbers ≡ true
  all_some [] are = refl
  all_some (n ∷ numbers) are =
      let here = all_two (is_data g n) (list_all (is_data g) numbers) are in
      both (is_some n) (list_all is_some numbers) (ap not (some_number n here.0)) (all_some numbers here.1)

  module _ (image : Image) where
    -- the content of a data block
    pub as_image : (number : ℕ) → is_data g number ≡ true → content_in g image number ≡ image number
    as_image number lies = ap (λ b. cond b (image number) (replicate BLOCK_BYTES 0)) lies

    pub data_content : (number : ℕ) → is_data g number ≡ true → content_of (content_in g image) number ≡ image number
    data_content number lies =
        ap (λ b. cond b (replicate BLOCK_BYTES 0) (content_in g image number)) (some_number number lies)
        ∙ as_image number lies
