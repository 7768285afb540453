-- The numbers of a file's blocks of which the first ones stay.
use Rattle.std.proofs.Common.{◌≡◌, ℕ, zero, suc, ◌-◌, ◌*◌, ◌<◌, ◌≤◌, inl, inr, sym, ap, ◌∙◌, refl, Bool, true, false}
use Rattle.std.proofs.Common.{not, ◌&&◌, ◌||◌, List, [], ◌∷◌, ◌++◌, length, take, get_or, replicate, nat_eq, nat_lt}
use Rattle.std.proofs.Common.{arith}
use Rattle.std.specs.Cmp.{nat_cmp_total}
use Rattle.std.specs.FinMap.{nat_cmp-IsAntisymmetric}
use Rattle.std.specs.FinSet.{contains, contains-retain, retain, same_set}
use Rattle.std.specs.List.{list_all, list_any}
use Rattle.std.proofs.lemmas.Bool.{cases_lt, lt-ltb}
use Rattle.std.proofs.lemmas.List.{ext_get_or, get_or-take}
use Rattle.std.proofs.lemmas.List.{length-replicate, length-take-le}
use Rattle.base.specs.declared.TheConstants.{BLOCK_BYTES}
use Rattle.layout.specs.Decode.{mapped_of}
use Rattle.layout.proofs.FreshFiles.{not_below}
use Rattle.inode.proofs.AllTests.{all_two, same_number}
use Rattle.inode.proofs.Placed.{behind, early}
use Rattle.inode_data.proofs.OneNumber.{is_mapped, none_mapped}
use Rattle.inode_sizes.specs.Cut.{count_before, first_of, is_some}
use Rattle.inode_sizes.proofs.FirstOnes.{first-length}

zero_at : (m j : ℕ) → ◌≡◌ {A = ℕ} (get_or (replicate m 0) j 0) 0
zero_at zero j = refl
zero_at (suc m) zero = refl
zero_at (suc m) (suc j) = zero_at m j

-- ---- what stays, and what doesn't

module _ (numbers : List ℕ) (k : ℕ) (low : k ≤ length numbers) where
  taken : length (take k numbers) ≡ k
  taken = length-take-le k numbers low

  pub before : (q : ℕ) → q < k → get_or (first_of k numbers) q 0 ≡ get_or numbers q 0
  before q less =
      early (take k numbers) (replicate (length numbers - k) 0) q (let first = taken in omega (arith, first, less))
      ∙ get_or-take k numbers q 0 less

  pub past : (q : ℕ) → k ≤ q → get_or (first_of k numbers) q 0 ≡ 0
  past q more =
      behind (take k numbers) (replicate (length numbers - k) 0) q (let first = taken in omega (arith, first, more))
      ∙ zero_at (length numbers - k) (q - length (take k numbers))

-- ---- what is so of all of them

pub all_taken : (p : ℕ → Bool) (k : ℕ) (xs : List ℕ) → list_all p xs ≡ true → list_all p (take k xs) ≡ true
all_taken p zero xs all = refl
all_taken p (suc k) [] all = refl
all_taken p (suc k) (x ∷ xs) all =
    let both = all_two (p x) (list_all p xs) all in λ i. both.0 i && all_taken p k xs both.1 i

all_zeros : (p : ℕ → Bool) (n : ℕ) → p 0 ≡ true → list_all p (replicate n 0) ≡ true
all_zeros p zero is = refl
all_zeros p (suc n) is = λ i. is i && all_zeros p n is i

pub all_both : (p : ℕ → Bool) (xs ys : List ℕ) → list_all p xs ≡ true → list_all p ys ≡ true
    → list_all p (xs ++ ys) ≡ true
all_both p [] ys first rest = rest
all_both p (x ∷ xs) ys first rest =
    let both = all_two (p x) (list_all p xs) first in λ i. both.0 i && all_both p xs ys both.1 rest i

pub all_padded : (p : ℕ → Bool) (k m : ℕ) (numbers : List ℕ) → list_all p numbers ≡ true → p 0 ≡ true
    → list_all p (take k numbers ++ replicate m 0) ≡ true
all_padded p k m numbers all is =
    all_both p (take k numbers) (replicate m 0) (all_taken p k numbers all) (all_zeros p m is)

pub all_stay : (p : ℕ → Bool) (k : ℕ) (numbers : List ℕ) → list_all p numbers ≡ true → p 0 ≡ true
    → list_all p (first_of k numbers) ≡ true
all_stay p k numbers all is = all_padded p k (length numbers - k) numbers all is

-- ---- zeros

pub are_zeros : (xs : List ℕ) → ((q : ℕ) → q < length xs → get_or xs q 0 ≡ 0) → xs ≡ replicate (length xs) 0
are_zeros xs zeros =
    ext_get_or 0 xs (replicate (length xs) 0) (sym (length-replicate {A = ℕ} (length xs) 0))
    (λ q less. zeros q less ∙ sym (zero_at (length xs) q))

pub none_some : (xs : List ℕ) → list_any is_some xs ≡ false → (q : ℕ) → get_or xs q 0 ≡ 0
none_some [] none q = refl
none_some (x ∷ xs) none q = at q (first (nat_eq x 0) refl none) (λ k. none_some xs (rest (nat_eq x 0) none) k)
  where
    first : (t : Bool) → nat_eq x 0 ≡ t → (not t || list_any is_some xs) ≡ false → x ≡ 0
    first true is e = same_number x 0 is
    first false is e = cc

    rest : (t : Bool) → (not t || list_any is_some xs) ≡ false → list_any is_some xs ≡ false
    rest true e = e
    rest false e = cc

    at : (q : ℕ) → x ≡ 0 → ((k : ℕ) → get_or xs k 0 ≡ 0) → get_or (x ∷ xs) q 0 ≡ 0
    at zero is others = is
    at (suc q) is others = others q

-- ---- which indexes are mapped

first_indexes : (size q : ℕ) → nat_lt q (count_before size) ≡ nat_lt (q * BLOCK_BYTES) size
first_indexes size q = elim (cases_lt (q * BLOCK_BYTES) size) [
  | inl less ↦ lt-ltb q (count_before size) (omega (arith, less)) ∙ sym (lt-ltb (q * BLOCK_BYTES) size less)
  | inr past ↦ not_below q (count_before size) (omega (arith, past))
      ∙ sym (not_below (q * BLOCK_BYTES) size past)
]

both_true : (b : Bool) → (b && true) ≡ b
both_true true = refl
both_true false = refl

both_false : (b : Bool) → (b && false) ≡ false
both_false true = refl
both_false false = refl

pub still_mapped : (numbers : List ℕ) (size : ℕ) → count_before size ≤ length numbers
    → mapped_of (first_of (count_before size) numbers)
    ≡ retain (mapped_of numbers) (λ index. nat_lt (index * BLOCK_BYTES) size)
still_mapped numbers size low =
    same_set nat_cmp_total nat_cmp-IsAntisymmetric (mapped_of (first_of k numbers))
    (retain (mapped_of numbers) (λ index. nat_lt (index * BLOCK_BYTES) size))
    (λ q. at q ∙ sym (contains-retain (mapped_of numbers) (λ index. nat_lt (index * BLOCK_BYTES) size) q
    (λ x e. ap (λ y. nat_lt (y * BLOCK_BYTES) size) (sym (nat_cmp-IsAntisymmetric q x e)))))
  where
    k : ℕ
    k = count_before size

    long : length (first_of (count_before size) numbers) ≡ length numbers
    long = first-length (count_before size) numbers

    at : (q : ℕ) → contains (mapped_of (first_of (count_before size) numbers)) q
        ≡ (contains (mapped_of numbers) q && nat_lt (q * BLOCK_BYTES) size)
    at q = elim (cases_lt q (length numbers)) [
      | inl inside ↦
          is_mapped (first_of (count_before size) numbers) q (let count = long in omega (arith, count, inside))
          ∙ by_index_within q
          ∙ (λ i. sym (is_mapped numbers q inside) i && first_indexes size q i)
      | inr outside ↦
          none_mapped (first_of (count_before size) numbers) q (let count = long in omega (arith, count, outside))
          ∙ sym (ap (λ t. t && nat_lt (q * BLOCK_BYTES) size) (none_mapped numbers q outside))
    ]
      where
        by_index_within : (q : ℕ) → is_some (get_or (first_of (count_before size) numbers) q 0)
            ≡ (is_some (get_or numbers q 0) && nat_lt q (count_before size))
        by_index_within q = elim (cases_lt q (count_before size)) [
          | inl less ↦ ap is_some (before numbers (count_before size) low q less)
              ∙ sym (ap (λ t. is_some (get_or numbers q 0) && t) (lt-ltb q (count_before size) less)
              ∙ both_true (is_some (get_or numbers q 0)))
          | inr more ↦ ap is_some (past numbers (count_before size) low q more)
              ∙ sym (ap (λ t. is_some (get_or numbers q 0) && t) (not_below q (count_before size) more)
              ∙ both_false (is_some (get_or numbers q 0)))
        ]
