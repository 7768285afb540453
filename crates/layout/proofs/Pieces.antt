-- Lists made of pieces of one length.
use Rattle.std.proofs.Common.{◌≡◌, ℕ, zero, suc, ◌+◌, ◌*◌, ◌<◌, sym, ap, ◌∙◌, refl, Bool, ◌&&◌}
use Rattle.std.proofs.Common.{List, [], ◌∷◌, ◌++◌, length, take, drop, get_or, set, filter, replicate, arith}
use Rattle.std.proofs.Common.{length-append}
use Rattle.std.proofs.Math.Seq.{drop-append-add}
use Rattle.std.specs.List.{flat_map, list_all}
use Rattle.std.proofs.lemmas.List.{get_or_append_left, get_or-append-add, set-append_left, take-append-le, take_all}
use Rattle.std.proofs.lemmas.List.{replicate-append-replicate}
use Rattle.std.proofs.lemmas.List.Elements.{filter-append}
use Rattle.std.proofs.lemmas.List.Folds.{list_all-append}

-- one more piece
one_more : (n w : ℕ) → suc n * w ≡ w + n * w
one_more n w = omega arith

no_more : (w j : ℕ) → 0 * w + j ≡ j
no_more w j = omega arith

none_more : (w : ℕ) → 0 * w ≡ 0
none_more w = omega arith

-- setting past the first part
pub set-append_add : (xs ys : List ℕ) (n a : ℕ) → set (xs ++ ys) (length xs + n) a ≡ xs ++ set ys n a
set-append_add [] ys n a = ap (λ m. set ys m a) (omega arith)
set-append_add (x ∷ xs) ys n a =
    let next : suc (length xs) + n ≡ suc (length xs + n) = omega arith in
    ap (λ m. set (x ∷ xs ++ ys) m a) next ∙ ap (λ l. x ∷ l) (set-append_add xs ys n a)

module _ (f : ℕ → List ℕ) (w : ℕ) (wide : (x : ℕ) → length (f x) ≡ w) where
  pub pieces-length : (xs : List ℕ) → length (flat_map f xs) ≡ length xs * w
  pieces-length [] = omega arith
  pieces-length (x ∷ xs) =
      length-append (f x) (flat_map f xs)
      ∙ (λ i. wide x i + pieces-length xs i) ∙ sym (one_more (length xs) w)

  -- the number at an index
  pub piece_at : (xs : List ℕ) (k j : ℕ) → k < length xs → j < w
      → get_or (flat_map f xs) (k * w + j) 0 ≡ get_or (f (get_or xs k 0)) j 0
  piece_at [] k j fits j_in = absurd (omega (arith, fits))
  piece_at (x ∷ xs) zero j fits j_in =
      ap (λ n. get_or (f x ++ flat_map f xs) n 0) (no_more w j)
      ∙ get_or_append_left (f x) (flat_map f xs) 0 j (omega (arith, j_in, wide x))
  piece_at (x ∷ xs) (suc k) j fits j_in =
      let at : suc k * w + j ≡ length (f x) + (k * w + j) = omega (arith, wide x, one_more k w) in
      ap (λ n. get_or (f x ++ flat_map f xs) n 0) at
      ∙ get_or-append-add (f x) (flat_map f xs) (k * w + j) 0
      ∙ piece_at xs k j (omega (arith, fits)) j_in

  -- a piece
  pub piece_of : (xs : List ℕ) (k : ℕ) → k < length xs → take w (drop (k * w) (flat_map f xs)) ≡ f (get_or xs k 0)
  piece_of [] k fits = absurd (omega (arith, fits))
  piece_of (x ∷ xs) zero fits =
      ap (λ n. take w (drop n (f x ++ flat_map f xs))) (none_more w)
      ∙ take-append-le w (f x) (flat_map f xs) (omega (arith, wide x))
      ∙ take_all w (f x) (omega (arith, wide x))
  piece_of (x ∷ xs) (suc k) fits =
      let at : suc k * w ≡ length (f x) + k * w = omega (arith, wide x, one_more k w) in
      ap (λ n. take w (drop n (f x ++ flat_map f xs))) at
      ∙ ap (take w) (drop-append-add (f x) (flat_map f xs) (k * w))
      ∙ piece_of xs k (omega (arith, fits))

-- what is passed by all pieces is passed by all, and back
module _ (f : ℕ → List ℕ) (test : ℕ → Bool) where
  pub pieces_pass : (xs : List ℕ)
      → list_all test (flat_map f xs) ≡ list_all (λ x. list_all test (f x)) xs
  pieces_pass [] = refl
  pieces_pass (x ∷ xs) =
      list_all-append test (f x) (flat_map f xs) ∙ ap (λ t. list_all test (f x) && t) (pieces_pass xs)

  -- pieces in which nothing is kept
  pub pieces_retained : (xs : List ℕ) → ((i : ℕ) → i < length xs → filter test (f (get_or xs i 0)) ≡ [])
      → filter test (flat_map f xs) ≡ []
  pieces_retained [] none = refl
  pieces_retained (x ∷ xs) none =
      let here : filter test (f x) ≡ [] = none 0 (omega arith) in
      let rest : filter test (flat_map f xs) ≡ [] = pieces_retained xs (λ i less. none (suc i) (omega (arith, less))) in
      filter-append test (f x) (flat_map f xs) ∙ (λ i. here i ++ rest i)

-- pieces of zeros
next_zeros : (n w : ℕ) → w + n * w ≡ suc n * w
next_zeros n w = omega arith

no_zeros : (w : ℕ) → 0 ≡ 0 * w
no_zeros w = omega arith

pub zeros_of : (f : ℕ → List ℕ) (w : ℕ) → f 0 ≡ replicate w 0 → (n : ℕ)
    → flat_map f (replicate n 0) ≡ replicate (n * w) 0
zeros_of f w none zero = ap (λ m. replicate m 0) (no_zeros w)
zeros_of f w none (suc n) =
    (λ i. none i ++ zeros_of f w none n i) ∙ replicate-append-replicate w (n * w) 0
    ∙ ap (λ m. replicate m 0) (next_zeros n w)

module _ (f f' : ℕ → List ℕ) where
  -- pieces that are alike
  pub same_pieces : (xs ys : List ℕ) → length ys ≡ length xs
      → ((i : ℕ) → i < length xs → f' (get_or ys i 0) ≡ f (get_or xs i 0))
      → flat_map f' ys ≡ flat_map f xs
  same_pieces [] [] long same = refl
  same_pieces [] (y ∷ ys) long same = absurd (omega (arith, long))
  same_pieces (x ∷ xs) [] long same = absurd (omega (arith, long))
  same_pieces (x ∷ xs) (y ∷ ys) long same =
      let here : f' y ≡ f x = same 0 (omega arith) in
      let rest : flat_map f' ys ≡ flat_map f xs =
      same_pieces xs ys (omega (arith, long)) (λ i less. same (suc i) (omega (arith, less))) in
      λ i. here i ++ rest i

  -- pieces of which one differs at one place: the list differs there alone
  module _ (w : ℕ) (wide : (x : ℕ) → length (f x) ≡ w) where
    pub one_set : (xs ys : List ℕ) (k j b : ℕ) → length ys ≡ length xs → k < length xs → j < w
        → ((i : ℕ) → i < length xs → (i ≡ k → ⊥) → f' (get_or ys i 0) ≡ f (get_or xs i 0))
        → f' (get_or ys k 0) ≡ set (f (get_or xs k 0)) j b
        → flat_map f' ys ≡ set (flat_map f xs) (k * w + j) b
    one_set [] ys k j b long fits j_in same here = absurd (omega (arith, fits))
    one_set (x ∷ xs) [] k j b long fits j_in same here = absurd (omega (arith, long))
    one_set (x ∷ xs) (y ∷ ys) zero j b long fits j_in same here =
        let rest : flat_map f' ys ≡ flat_map f xs =
        same_pieces xs ys (omega (arith, long))
        (λ i less. same (suc i) (omega (arith, less)) (λ e. omega (arith, e))) in
        (λ i. here i ++ rest i)
        ∙ sym (ap (λ n. set (f x ++ flat_map f xs) n b) (no_more w j)
        ∙ set-append_left (f x) (flat_map f xs) j b (omega (arith, j_in, wide x)))
    one_set (x ∷ xs) (y ∷ ys) (suc k) j b long fits j_in same here =
        let first : f' y ≡ f x = same 0 (omega arith) (λ e. omega (arith, e)) in
        let rest : flat_map f' ys ≡ set (flat_map f xs) (k * w + j) b =
        one_set xs ys k j b (omega (arith, long)) (omega (arith, fits)) j_in
        (λ i less other. same (suc i) (omega (arith, less)) (λ e. other (omega (arith, e)))) here in
        let at : suc k * w + j ≡ length (f x) + (k * w + j) = omega (arith, wide x, one_more k w) in
        (λ i. first i ++ rest i)
        ∙ sym (set-append_add (f x) (flat_map f xs) (k * w + j) b)
        ∙ sym (ap (λ n. set (f x ++ flat_map f xs) n b) at)
