-- The numbers of a file's blocks after one of them was set.
use Rattle.std.proofs.Common.{◌≡◌, ℕ, zero, suc, ◌+◌, ◌<◌, ◌≤◌, inl, inr, sym, ap, ◌∙◌, refl}
use Rattle.std.proofs.Common.{Bool, true, false, cond, not, ◌||◌, ◌&&◌, List, [], ◌∷◌, length, drop, get_or}
use Rattle.std.proofs.Common.{filter, nat_eq, set, arith}
use Rattle.std.specs.Cmp.{nat_cmp_total}
use Rattle.std.specs.FinMap.{nat_cmp-IsAntisymmetric}
use Rattle.std.specs.FinSet.{contains, contains-from_list, contains-insert, insert, same_set}
use Rattle.std.specs.List.{list_all, list_any, range_with_len}
use Rattle.std.specs.Ordering.{eq_by_cmp, nat_cmp}
use Rattle.std.proofs.lemmas.Bool.{cases_eq, cases_lt}
use Rattle.std.proofs.lemmas.List.{get_or-set_other, get_or-set_same, length-set}
use Rattle.std.proofs.lemmas.List.Sums.{sum_by-cons}
use Rattle.nfs_spec.proofs.ModelLemmas.Sets.{itself}
use Rattle.layout.specs.Decode.{mapped_of}
use Rattle.layout.proofs.FreshFiles.{not_equal}
use Rattle.inode.proofs.WriteSetsLemmas.Marks.{times}
use Rattle.inode.proofs.AllTests.{all_two}

abbrev pub is_some : ℕ → Bool
is_some number = not (nat_eq number 0)

abbrev pub some : List ℕ → List ℕ
some numbers = filter is_some numbers

-- ---- which indexes are mapped

-- an index is among those of a range that pass just where it lies in the range and passes
module _ (p : ℕ → Bool) where
  passing : (b : Bool) (q a : ℕ) (xs : List ℕ)
      → list_any (eq_by_cmp nat_cmp q) (cond b (a ∷ xs) xs)
      ≡ ((b && eq_by_cmp nat_cmp q a) || list_any (eq_by_cmp nat_cmp q) xs)
  passing true q a xs = refl
  passing false q a xs = refl

  not_before : (q a n : ℕ) → q < a → list_any (eq_by_cmp nat_cmp q) (filter p (range_with_len a n)) ≡ false
  not_before q a zero less = refl
  not_before q a (suc n) less =
      passing (p a) q a (filter p (range_with_len (a + 1) n))
      ∙ (λ i. (p a && not_equal q a (λ is. omega (arith, is, less)) (eq_by_cmp nat_cmp q a) refl i)
      || not_before q (a + 1) n (omega (arith, less)) i)
      ∙ none (p a)
    where
      none : (b : Bool) → ((b && false) || false) ≡ false
      none true = refl
      none false = refl

  pub there : (q a n : ℕ) → a ≤ q → q < a + n
      → list_any (eq_by_cmp nat_cmp q) (filter p (range_with_len a n)) ≡ p q
  there q a zero from to = absurd (omega (arith, from, to))
  there q a (suc n) from to = elim (cases_eq q a) [
    | inl is ↦ passing (p a) q a (filter p (range_with_len (a + 1) n))
        ∙ (λ i. (p a && (ap (eq_by_cmp nat_cmp q) (sym is) ∙ itself q) i)
        || not_before q (a + 1) n (omega (arith, is)) i)
        ∙ only (p a) ∙ ap p (sym is)
    | inr other ↦ passing (p a) q a (filter p (range_with_len (a + 1) n))
        ∙ (λ i. (p a && not_equal q a other (eq_by_cmp nat_cmp q a) refl i)
        || list_any (eq_by_cmp nat_cmp q) (filter p (range_with_len (a + 1) n)))
        ∙ rest (p a) (list_any (eq_by_cmp nat_cmp q) (filter p (range_with_len (a + 1) n)))
        ∙ there q (a + 1) n (past a q from other) (omega (arith, to))
  ]
    where
      only : (b : Bool) → ((b && true) || false) ≡ b
      only true = refl
      only false = refl

      rest : (b c : Bool) → ((b && false) || c) ≡ c
      rest true c = refl
      rest false c = refl

      past : (a q : ℕ) → a ≤ q → (q ≡ a → ⊥) → a + 1 ≤ q
      past a q from other = omega (arith, from, other)

  pub not_past : (q a n : ℕ) → a + n ≤ q
      → list_any (eq_by_cmp nat_cmp q) (filter p (range_with_len a n)) ≡ false
  not_past q a zero past = refl
  not_past q a (suc n) past =
      passing (p a) q a (filter p (range_with_len (a + 1) n))
      ∙ (λ i. (p a && not_equal q a (λ is. omega (arith, is, past)) (eq_by_cmp nat_cmp q a) refl i)
      || not_past q (a + 1) n (omega (arith, past)) i)
      ∙ none (p a)
    where
      none : (b : Bool) → ((b && false) || false) ≡ false
      none true = refl
      none false = refl

pub is_mapped : (numbers : List ℕ) (q : ℕ) → q < length numbers
    → contains (mapped_of numbers) q ≡ is_some (get_or numbers q 0)
unfolding mapped_of
is_mapped numbers q less =
    contains-from_list nat_cmp_total
    (filter (λ index. is_some (get_or numbers index 0)) (range_with_len 0 (length numbers))) q
    ∙ there (λ index. is_some (get_or numbers index 0)) q 0 (length numbers) (omega arith) (omega (arith, less))

pub none_mapped : (numbers : List ℕ) (q : ℕ) → length numbers ≤ q → contains (mapped_of numbers) q ≡ false
unfolding mapped_of
none_mapped numbers q past =
    contains-from_list nat_cmp_total
    (filter (λ index. is_some (get_or numbers index 0)) (range_with_len 0 (length numbers))) q
    ∙ not_past (λ index. is_some (get_or numbers index 0)) q 0 (length numbers) (omega (arith, past))

-- one more is mapped
pub mapped_more : (numbers : List ℕ) (index b : ℕ) → index < length numbers → is_some b ≡ true
    → mapped_of (set numbers index b) ≡ insert (mapped_of numbers) index
mapped_more numbers index b less is = same_set nat_cmp_total nat_cmp-IsAntisymmetric (mapped_of (set numbers index b))
    (insert (mapped_of numbers) index)
    (λ q. at q ∙ sym (contains-insert nat_cmp_total (mapped_of numbers) index q))
  where
    long : length (set numbers index b) ≡ length numbers
    long = length-set numbers index b

    at : (q : ℕ) → contains (mapped_of (set numbers index b)) q
        ≡ (eq_by_cmp nat_cmp q index || contains (mapped_of numbers) q)
    at q = elim (cases_eq q index) [
      | inl same ↦
          is_mapped (set numbers index b) q (let count = long in omega (arith, count, same, less))
          ∙ ap (λ k. is_some (get_or (set numbers index b) k 0)) same
          ∙ ap is_some (get_or-set_same numbers index b 0 less) ∙ is
          ∙ sym (ap (λ t. t || contains (mapped_of numbers) q) (ap (eq_by_cmp nat_cmp q) (sym same) ∙ itself q))
      | inr other ↦
          by_index_within q other
          ∙ sym (ap (λ t. t || contains (mapped_of numbers) q)
          (not_equal q index other (eq_by_cmp nat_cmp q index) refl))
    ]
      where
        by_index_within : (q : ℕ) → (q ≡ index → ⊥)
            → contains (mapped_of (set numbers index b)) q ≡ contains (mapped_of numbers) q
        by_index_within q other = elim (cases_lt q (length numbers)) [
          | inl low ↦ is_mapped (set numbers index b) q (let count = long in omega (arith, count, low))
              ∙ ap is_some (get_or-set_other numbers index q b 0 other) ∙ sym (is_mapped numbers q low)
          | inr past ↦ none_mapped (set numbers index b) q (let count = long in omega (arith, count, past))
              ∙ sym (none_mapped numbers q past)
        ]

-- ---- how often a number is among them

one_first : (b x : ℕ) (xs : List ℕ) → times b (x ∷ xs) ≡ cond (nat_eq x b) 1 0 + times b xs
one_first b x xs = sum_by-cons (λ one. cond (nat_eq one b) 1 0) x xs

-- a number in front, which is a block's or none
pub in_leading : (q x : ℕ) (xs : List ℕ) → is_some x ≡ true
    → times q (some (x ∷ xs)) ≡ cond (nat_eq x q) 1 0 + times q (some xs)
in_leading q x xs is = ap (λ t. times q (cond t (x ∷ some xs) (some xs))) is ∙ one_first q x (some xs)

pub none_in_leading : (q x : ℕ) (xs : List ℕ) → nat_eq x 0 ≡ true → times q (some (x ∷ xs)) ≡ times q (some xs)
none_in_leading q x xs is = ap (λ t. times q (cond (not t) (x ∷ some xs) (some xs))) is

pub once_more : (q b : ℕ) (numbers : List ℕ) (index : ℕ) → index < length numbers → is_some b ≡ true
    → nat_eq (get_or numbers index 0) 0 ≡ true
    → times q (some (set numbers index b)) ≡ cond (nat_eq b q) 1 0 + times q (some numbers)
once_more q b [] index less is none = absurd (omega (arith, less))
once_more q b (x ∷ xs) zero less is none =
    in_leading q b xs is ∙ ap (λ k. cond (nat_eq b q) 1 0 + k) (sym (none_in_leading q x xs none))
once_more q b (x ∷ xs) (suc index) less is none = by_first (is_some x) refl
    (once_more q b xs index (omega (arith, less)) is none)
  where
    by_first : (t : Bool) → is_some x ≡ t
        → times q (some (set xs index b)) ≡ cond (nat_eq b q) 1 0 + times q (some xs)
        → times q (cond t (x ∷ some (set xs index b)) (some (set xs index b)))
        ≡ cond (nat_eq b q) 1 0 + times q (cond t (x ∷ some xs) (some xs))
    by_first true e rest =
        let one = one_first q x (some (set xs index b)) in
        let two = one_first q x (some xs) in omega (arith, one, two, rest)
    by_first false e rest = rest

-- ---- what is so of all, and of one

pub all_still : (p : ℕ → Bool) (numbers : List ℕ) (index b : ℕ) → list_all p numbers ≡ true → p b ≡ true
    → list_all p (set numbers index b) ≡ true
all_still p [] index b all is = refl
all_still p (x ∷ xs) zero b all is = λ i. is i && (all_two (p x) (list_all p xs) all).1 i
all_still p (x ∷ xs) (suc index) b all is =
    let both = all_two (p x) (list_all p xs) all in
    λ i. both.0 i && all_still p xs index b both.1 is i

one_there : (a b : Bool) → b ≡ true → (a || b) ≡ true
one_there true b e = refl
one_there false b e = e

pub any_behind : (p : ℕ → Bool) (numbers : List ℕ) (index k b : ℕ) → k ≤ index → index < length numbers
    → p b ≡ true → list_any p (drop k (set numbers index b)) ≡ true
any_behind p [] index k b from less is = absurd (omega (arith, less))
any_behind p (x ∷ xs) zero zero b from less is = ap (λ t. t || list_any p xs) is
any_behind p (x ∷ xs) zero (suc k) b from less is = absurd (omega (arith, from))
any_behind p (x ∷ xs) (suc index) zero b from less is =
    one_there (p x) (list_any p (set xs index b)) (any_behind p xs index zero b (omega arith) (omega (arith, less)) is)
any_behind p (x ∷ xs) (suc index) (suc k) b from less is =
    any_behind p xs index k b (omega (arith, from)) (omega (arith, less)) is

pub same_behind : (numbers : List ℕ) (index k b : ℕ) → index < k
    → drop k (set numbers index b) ≡ drop k numbers
same_behind [] index k b less = refl
same_behind (x ∷ xs) index zero b less = absurd (omega (arith, less))
same_behind (x ∷ xs) zero (suc k) b less = refl
same_behind (x ∷ xs) (suc index) (suc k) b less = same_behind xs index k b (omega (arith, less))
