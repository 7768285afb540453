-- How many indexes a file keeps.
use Rattle.std.proofs.Common.{◌≡◌, ℕ, zero, suc, ◌+◌, ◌-◌, ◌*◌, ◌<◌, inl, inr, sym, ap, ◌∙◌, refl, Bool, true}
use Rattle.std.proofs.Common.{false, cond, not, ◌&&◌, ◌||◌, List, [], ◌∷◌, length, take, drop, get_or, nat_eq, nat_le}
use Rattle.std.proofs.Common.{nat_lt, count_by, filter, arith}
use Rattle.std.specs.Cmp.{nat_cmp_total}
use Rattle.std.specs.FinSet as set
use Rattle.std.specs.List.{list_any, range_with_len}
use Rattle.std.specs.Ordering.{nat_cmp, eq_by_cmp}
use Rattle.std.proofs.lemmas.List.Sums.{sum_by-cons}
use Rattle.std.proofs.Math.Seq.{drop-nil}
use Rattle.std.proofs.lemmas.Bool.{cases_lt, le-ltb, lt-ltb}
use Rattle.std.proofs.lemmas.Bool.Decides.{leb_tells}
use Rattle.base.specs.declared.TheConstants.{DIRECT_INDEXES, FIRST_DOUBLE_INDEX, INDIRECT_INDEXES}
use Rattle.nfs_spec.specs.Model.Cost.{file_cost, inner_cost, is_inner}
use Rattle.nfs_spec.proofs.ModelLemmas.Sets.{any_items}
use Rattle.layout.specs.Decode.{mapped_of}
use Rattle.layout.proofs.FreshFiles.{not_equal}

skip : (b e : Bool) (xs : List ℕ) (test : ℕ → Bool) (a : ℕ) → test a ≡ false → list_any test xs ≡ false
    → list_any test (cond b (a ∷ xs) xs) ≡ false
skip true e xs test a here rest = ap (λ t. t || list_any test xs) here ∙ rest
skip false e xs test a here rest = rest

module _ (p : ℕ → Bool) where
  -- a number below the range isn't in it
  not_there : (q a n : ℕ) → q < a → list_any (eq_by_cmp nat_cmp q) (filter p (range_with_len a n)) ≡ false
  not_there q a zero less = refl
  not_there q a (suc n) less =
      skip (p a) true (filter p (range_with_len (a + 1) n)) (eq_by_cmp nat_cmp q) a
      (not_equal q a (λ is. omega (arith, is, less)) (eq_by_cmp nat_cmp q a) refl)
      (not_there q (a + 1) n (omega (arith, less)))

  one_more : (b : Bool) (a count : ℕ) (xs : List ℕ) → list_any (eq_by_cmp nat_cmp a) xs ≡ false
      → set.len (set.from_list {R = nat_cmp} xs) ≡ count
      → set.len (set.from_list {R = nat_cmp} (cond b (a ∷ xs) xs)) ≡ cond b 1 0 + count
  one_more true a count xs new rest =
      set.len-insert nat_cmp_total (set.from_list xs) a
      ∙ ap (λ b. cond b (set.len (set.from_list {R = nat_cmp} xs)) (set.len (set.from_list {R = nat_cmp} xs)
      + 1)) (set.contains-from_list nat_cmp_total xs a ∙ new)
      ∙ omega (arith, rest)
  one_more false a count xs new rest = rest ∙ omega arith

  -- as many as pass
  pub len_is : (a n : ℕ) → set.len (set.from_list {R = nat_cmp} (filter p (range_with_len a n)))
      ≡ count_by p (range_with_len a n)
  len_is a zero = set.len-empty nat_cmp
  len_is a (suc n) =
      one_more (p a) a (count_by p (range_with_len (a + 1) n)) (filter p (range_with_len (a + 1) n))
      (not_there a (a + 1) n (omega arith)) (len_is (a + 1) n)
      ∙ sym (sum_by-cons (λ i. cond (p i) 1 0) a (range_with_len (a + 1) n))

-- the places of a list, and its elements
counted : (f : ℕ → Bool) (q : ℕ → Bool) (xs : List ℕ) (a : ℕ) → ((k : ℕ) → f (a + k) ≡ q (get_or xs k 0))
    → count_by f (range_with_len a (length xs)) ≡ count_by q xs
counted f q [] a same = refl
counted f q (x ∷ xs) a same =
    let here : f a ≡ q x = ap f (omega arith) ∙ same 0 in
    let rest : count_by f (range_with_len (a + 1) (length xs)) ≡ count_by q xs =
    counted f q xs (a + 1) (λ k. ap f (omega arith) ∙ same (suc k)) in
    sum_by-cons (λ i. cond (f i) 1 0) a (range_with_len (a + 1) (length xs))
    ∙ (λ i. cond (here i) 1 0 + rest i) ∙ sym (sum_by-cons (λ y. cond (q y) 1 0) x xs)

pub mapped-len : (numbers : List ℕ) → set.len (mapped_of numbers) ≡ count_by (λ n. not (nat_eq n 0)) numbers
unfolding mapped_of
mapped-len numbers =
    len_is (λ index. not (nat_eq (get_or numbers index 0) 0)) 0 (length numbers)
    ∙ counted (λ index. not (nat_eq (get_or numbers index 0) 0)) (λ n. not (nat_eq n 0)) numbers 0
    (λ k. ap (λ i. not (nat_eq (get_or numbers i 0) 0)) (omega arith))

-- ---- whether an index is kept that the inode doesn't name directly

module _ (c : ℕ) (f q : ℕ → Bool) where
  abbrev indirect_block : ℕ → Bool
  indirect_block index = nat_le c index

  low : (b : Bool) (a : ℕ) (xs : List ℕ) → indirect_block a ≡ false → list_any indirect_block (cond b (a ∷ xs) xs) ≡ list_any indirect_block xs
  low true a xs is = ap (λ t. t || list_any indirect_block xs) is
  low false a xs is = refl

  high : (b : Bool) (a : ℕ) (xs : List ℕ) → indirect_block a ≡ true
      → list_any indirect_block (cond b (a ∷ xs) xs) ≡ (b || list_any indirect_block xs)
  high true a xs is = ap (λ t. t || list_any indirect_block xs) is
  high false a xs is = refl

  indirect_is : (xs : List ℕ) (a : ℕ) → ((k : ℕ) → f (a + k) ≡ q (get_or xs k 0))
      → list_any indirect_block (filter f (range_with_len a (length xs))) ≡ list_any q (drop (c - a) xs)
  indirect_is [] a same = sym (ap (list_any q) (drop-nil (c - a)))
  indirect_is (x ∷ xs) a same =
      let here : f a ≡ q x = ap f (omega arith) ∙ same 0 in
      let rest : list_any indirect_block (filter f (range_with_len (a + 1) (length xs)))
      ≡ list_any q (drop (c - (a + 1)) xs) = indirect_is xs (a + 1) (λ k. ap f (omega arith) ∙ same (suc k)) in
      elim (leb_tells c a) [
        | inl past ↦
            let now : c - a ≡ 0 = omega (arith, past.1) in
            let next : c - (a + 1) ≡ 0 = omega (arith, past.1) in
            high (f a) a (filter f (range_with_len (a + 1) (length xs))) past.0
            ∙ (λ i. here i || rest i) ∙ ap (λ k. q x || list_any q (drop k xs)) next
            ∙ sym (ap (λ k. list_any q (drop k (x ∷ xs))) now)
        | inr before ↦
            let now : c - a ≡ suc (c - (a + 1)) = omega (arith, before.1) in
            low (f a) a (filter f (range_with_len (a + 1) (length xs))) before.0 ∙ rest
            ∙ sym (ap (λ k. list_any q (drop k (x ∷ xs))) now)
      ]

abbrev pub is_some : ℕ → Bool
is_some number = not (nat_eq number 0)

pub mapped-indirect_block : (c : ℕ) (numbers : List ℕ)
    → list_any (λ index. nat_le c index) (set.items (mapped_of numbers)) ≡ list_any is_some (drop c numbers)
unfolding mapped_of
mapped-indirect_block c numbers =
    any_items (λ index. nat_le c index)
    (filter (λ index. is_some (get_or numbers index 0)) (range_with_len 0 (length numbers)))
    ∙ indirect_is c (λ index. is_some (get_or numbers index 0)) is_some numbers 0
    (λ k. ap (λ i. is_some (get_or numbers i 0)) (omega arith))
    ∙ ap (λ k. list_any is_some (drop k numbers)) (omega arith)

-- ---- whether an index between two is kept

no_take : (n : ℕ) → ◌≡◌ {A = List ℕ} (take n []) []
no_take zero = refl
no_take (suc n) = refl

module _ (lo hi : ℕ) (f q : ℕ → Bool) where
  abbrev between : ℕ → Bool
  between index = nat_le lo index && nat_lt index hi

  out : (b : Bool) (a : ℕ) (xs : List ℕ) → between a ≡ false
      → list_any between (cond b (a ∷ xs) xs) ≡ list_any between xs
  out true a xs is = ap (λ t. t || list_any between xs) is
  out false a xs is = refl

  in_there : (b : Bool) (a : ℕ) (xs : List ℕ) → between a ≡ true
      → list_any between (cond b (a ∷ xs) xs) ≡ (b || list_any between xs)
  in_there true a xs is = ap (λ t. t || list_any between xs) is
  in_there false a xs is = refl

  none_of : (xs : List ℕ) (a : ℕ) (count : ℕ) → count ≡ 0 → list_any q (take count xs) ≡ false
  none_of xs a count is = ap (λ n. list_any q (take n xs)) is

  between_is : (xs : List ℕ) (a : ℕ) → ((k : ℕ) → f (a + k) ≡ q (get_or xs k 0))
      → list_any between (filter f (range_with_len a (length xs)))
      ≡ list_any q (take (hi - (a + (lo - a))) (drop (lo - a) xs))
  between_is [] a same =
      sym (ap (λ l. list_any q (take (hi - (a + (lo - a))) l)) (drop-nil (lo - a))
      ∙ ap (list_any q) (no_take (hi - (a + (lo - a)))))
  between_is (x ∷ xs) a same =
      let here : f a ≡ q x = ap f (omega arith) ∙ same 0 in
      let rest : list_any between (filter f (range_with_len (a + 1) (length xs)))
      ≡ list_any q (take (hi - (a + 1 + (lo - (a + 1)))) (drop (lo - (a + 1)) xs)) =
      between_is xs (a + 1) (λ k. ap f (omega arith) ∙ same (suc k)) in
      elim (leb_tells lo a) [
        | inl past ↦
            let now : lo - a ≡ 0 = omega (arith, past.1) in
            let next : lo - (a + 1) ≡ 0 = omega (arith, past.1) in
            elim (cases_lt a hi) [
              | inl less ↦
                  let more : hi - (a + (lo - a)) ≡ suc (hi - (a + 1 + (lo - (a + 1)))) =
                  omega (arith, past.1, less) in
                  in_there (f a) a (filter f (range_with_len (a + 1) (length xs)))
                  (λ i. past.0 i && lt-ltb a hi less i)
                  ∙ (λ i. here i || rest i)
                  ∙ ap (λ k. q x || list_any q (take (hi - (a + 1 + (lo - (a + 1)))) (drop k xs))) next
                  ∙ sym ((λ i. list_any q (take (more i) (drop (now i) (x ∷ xs)))))
              | inr behind ↦
                  let none : hi - (a + (lo - a)) ≡ 0 = omega (arith, behind) in
                  let no_more : hi - (a + 1 + (lo - (a + 1))) ≡ 0 = omega (arith, behind) in
                  out (f a) a (filter f (range_with_len (a + 1) (length xs)))
                  (λ i. past.0 i && le-ltb a hi behind i)
                  ∙ rest ∙ none_of (drop (lo - (a + 1)) xs) a _ no_more
                  ∙ sym (none_of (drop (lo - a) (x ∷ xs)) a _ none)
            ]
        | inr before ↦
            let now : lo - a ≡ suc (lo - (a + 1)) = omega (arith, before.1) in
            let same_end : hi - (a + (lo - a)) ≡ hi - (a + 1 + (lo - (a + 1))) = omega (arith, before.1) in
            out (f a) a (filter f (range_with_len (a + 1) (length xs)))
            (ap (λ t. t && nat_lt a hi) before.0)
            ∙ rest ∙ sym (λ i. list_any q (take (same_end i) (drop (now i) (x ∷ xs))))
      ]

pub mapped-between : (lo hi count : ℕ) (numbers : List ℕ) → hi - lo ≡ count
    → list_any (λ index. nat_le lo index && nat_lt index hi) (set.items (mapped_of numbers))
    ≡ list_any is_some (take count (drop lo numbers))
unfolding mapped_of
mapped-between lo hi count numbers wide =
    any_items (λ index. nat_le lo index && nat_lt index hi)
    (filter (λ index. is_some (get_or numbers index 0)) (range_with_len 0 (length numbers)))
    ∙ between_is lo hi (λ index. is_some (get_or numbers index 0)) is_some numbers 0
    (λ k. ap (λ i. is_some (get_or numbers i 0)) (omega arith))
    ∙ (λ i. list_any is_some (take (ends i) (drop (begins i) numbers)))
  where
    begins : lo - 0 ≡ lo
    begins = omega arith

    ends : hi - (0 + (lo - 0)) ≡ count
    ends = omega (arith, wide)

-- the indexes that an inner block names
abbrev pub inner_numbers : List ℕ → ℕ → List ℕ
inner_numbers numbers inner = take INDIRECT_INDEXES (drop (FIRST_DOUBLE_INDEX + INDIRECT_INDEXES * inner) numbers)

inner-cost : (count : ℕ) (numbers : List ℕ) → inner_cost count (mapped_of numbers)
    ≡ count_by (λ inner. list_any is_some (inner_numbers numbers inner)) (range_with_len 0 count)
unfolding inner_cost
inner-cost count numbers =
    let same : (inner : ℕ) → list_any (is_inner inner) (set.items (mapped_of numbers))
    ≡ list_any is_some (inner_numbers numbers inner) =
    λ inner. mapped-between (FIRST_DOUBLE_INDEX + INDIRECT_INDEXES * inner)
    (FIRST_DOUBLE_INDEX + INDIRECT_INDEXES * inner + INDIRECT_INDEXES) INDIRECT_INDEXES numbers (omega arith) in
    λ i. count_by (λ inner. same inner i) (range_with_len 0 count)

-- What a regular file holds: its blocks, and a block of numbers wherever a block is mapped that it names.
pub regular-cost : (numbers : List ℕ)
    → file_cost (mapped_of numbers) ≡ count_by is_some numbers
    + cond (list_any is_some (take INDIRECT_INDEXES (drop DIRECT_INDEXES numbers))) 1 0
    + cond (list_any is_some (drop FIRST_DOUBLE_INDEX numbers)) 1 0
    + count_by (λ inner. list_any is_some (inner_numbers numbers inner)) (range_with_len 0 INDIRECT_INDEXES)
regular-cost numbers =
    λ i. mapped-len numbers i
    + cond (mapped-between DIRECT_INDEXES FIRST_DOUBLE_INDEX INDIRECT_INDEXES numbers (omega arith) i) 1 0
    + cond (mapped-indirect_block FIRST_DOUBLE_INDEX numbers i) 1 0 + inner-cost INDIRECT_INDEXES numbers i
