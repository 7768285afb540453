-- Pointer blocks that are cut one after another.
use Rattle.std.proofs.Common.{◌≡◌, ℕ, zero, suc, ◌+◌, ◌-◌, ◌*◌, ◌/◌, ◌<◌, inl, inr, sym, ap, ◌∙◌, refl, subst, Bool, true}
use Rattle.std.proofs.Common.{false, cond, List, [], ◌∷◌, ◌++◌, length, drop, get_or, nat_eq, count_by, filter}
use Rattle.std.proofs.Common.{length-append, append-nil, arith}
use Rattle.std.specs.List.{flat_map}
use Rattle.std.proofs.lemmas.Bool.{cases_lt, eq-eqb}
use Rattle.std.proofs.lemmas.Grind.{flat_map-append}
use Rattle.std.proofs.lemmas.List.{get_or_append_left, get_or_past, get_or_push}
use Rattle.std.proofs.lemmas.List.Sums.{sum_by-append}
use Rattle.inode_sizes.specs.Cut.{IsRowCut, first_of, has_some, is_some, left_over, lost}
use Rattle.inode_sizes.specs.Doubles.{AreInnersCut, row_left, times}
use Rattle.base.specs.declared.TheConstants.{INDIRECT_INDEXES}
use Rattle.inode_sizes.proofs.FirstOnes.{count_both, count_one, first_both, first_nil, left_over_or_lost, none_counted}
use Rattle.inode_sizes.proofs.FirstOnes.{none_dropped, none_first, parted, times_both}

abbrev pub how_often : ℕ → List ℕ → ℕ
how_often q list = count_by (λ one. nat_eq one q) list

pub often_both : (q : ℕ) (xs ys : List ℕ) → how_often q (xs ++ ys) ≡ how_often q xs + how_often q ys
often_both q xs ys = sum_by-append (λ one. cond (nat_eq one q) 1 0) xs ys

-- where there is no block, and no number, nothing changes
pub none_cut : (numbers : List ℕ) (count : ℕ) (before : List ℕ) → has_some numbers ≡ false
    → IsRowCut 0 numbers count before 0 (first_of count numbers) 0 before
none_cut numbers count before none = record {
  numbers_are = refl;
  pointer_is = by_test (has_some (first_of count numbers));
  used_is = let all = none_counted (first_of count numbers) (none_first count numbers none) in omega (arith, all);
  gone_are = sym ((λ i. before ++ none_dropped count numbers none i ++ none_lost (has_some (first_of count numbers)) i)
      ∙ ap (λ l. l ++ []) (append-nil before) ∙ append-nil before);
}
  where
    by_test : (t : Bool) → ◌≡◌ {A = ℕ} 0 (cond t 0 0)
    by_test true = refl
    by_test false = refl

    none_lost : (t : Bool) → filter is_some (cond t 0 0 ∷ []) ≡ []
    none_lost true = refl
    none_lost false = refl

-- a row's blocks are those that stay and those that are gone
pub row_parted : (q pointer : ℕ) (numbers : List ℕ) (count : ℕ) (before : List ℕ) (now : ℕ) (stay : List ℕ) (used : ℕ)
    (gone : List ℕ) → IsRowCut pointer numbers count before now stay used gone
    → how_often q gone + (times q (now ∷ []) + times q (first_of count numbers))
    ≡ how_often q before + (times q (pointer ∷ []) + times q numbers)
row_parted q pointer numbers count before now stay used gone is =
    let one = ap (how_often q) is.gone_are
    ∙ often_both q (before ++ filter is_some (drop count numbers)) (filter is_some (lost pointer stay ∷ [])) in
    let two = often_both q before (filter is_some (drop count numbers)) in
    let three = parted q count numbers in
    let four = left_over_or_lost q pointer stay in
    let five = ap (λ p. times q (p ∷ [])) is.pointer_is in
    omega (arith, one, two, three, four, five)

-- before the first
pub none_yet : (f : ℕ → List ℕ) (count : ℕ) (before numbers : List ℕ) (part : ℕ) (part_numbers : List ℕ) (used : ℕ)
    → numbers ≡ [] → part ≡ 0 → used ≡ 0 → AreInnersCut f [] count before numbers part part_numbers used before
none_yet f count before numbers part part_numbers used none no_part no_use = record {
  long = ap (λ (l : List ℕ). length l) none;
  numbers_are = λ k less. absurd (omega (arith, less));
  part_is = no_part ∙ sym (ap (λ (l : List ℕ). get_or l (count / INDIRECT_INDEXES) 0) none);
  part_numbers_are = λ some.
      let clash : true ≡ false = sym (eq-eqb part 0 no_part) ∙ some in cc;
  used_is =
      let one = ap (count_by is_some) none in
      let two = ap (count_by is_some) (first_nil count) in omega (arith, no_use, one, two);
  gone_are = λ q.
      let one = ap (times q) none in
      let two = ap (times q) (first_nil count) in omega (arith, one, two);
}

-- ---- one more

pub get_or-more : (xs : List ℕ) (x j : ℕ) → nat_eq (get_or xs j 0) 0 ≡ false → j < length xs
get_or-more xs x j some = elim (cases_lt j (length xs)) [
  | inl less ↦ less
  | inr past ↦ (
      let clash : true ≡ false = sym (eq-eqb (get_or xs j 0) 0 (get_or_past xs j 0 past)) ∙ some in cc)
]

-- zero behind them changes none
pub none_more : (xs : List ℕ) (j : ℕ) → get_or (xs ++ 0 ∷ []) j 0 ≡ get_or xs j 0
none_more [] zero = refl
none_more [] (suc j) = refl
none_more (x ∷ xs) zero = refl
none_more (x ∷ xs) (suc j) = none_more xs j

-- what is behind them has another index
pub other_more : (xs : List ℕ) (x j : ℕ) → (length xs ≡ j → ⊥) → get_or (xs ++ x ∷ []) j 0 ≡ get_or xs j 0
other_more xs x j other = elim (cases_lt j (length xs)) [
  | inl less ↦ get_or_append_left xs (x ∷ []) 0 j less
  | inr past ↦ get_or_past (xs ++ x ∷ []) j 0 (let all = length-append xs (x ∷ []) in omega (arith, all, past, other))
      ∙ sym (get_or_past xs j 0 past)
]

module _ (f : ℕ → List ℕ) (wide : (x : ℕ) → length (f x) ≡ INDIRECT_INDEXES) where
  rows-length : (xs : List ℕ) → length (flat_map f xs) ≡ INDIRECT_INDEXES * length xs
  rows-length [] = refl
  rows-length (x ∷ xs) =
      let both = length-append (f x) (flat_map f xs) in
      let first = wide x in
      let rest = rows-length xs in omega (arith, both, first, rest)

  module _ (pointers : List ℕ) (count : ℕ) (before numbers : List ℕ) (part : ℕ) (part_numbers : List ℕ) (used : ℕ)
      (gone : List ℕ) (is : AreInnersCut f pointers count before numbers part part_numbers used gone)
      (p now : ℕ) (stay : List ℕ) (row_used : ℕ) (later : List ℕ)
      (row : IsRowCut p (f p) (count - INDIRECT_INDEXES * length numbers) gone now stay row_used later) where
    abbrev all : List ℕ
    all = pointers ++ p ∷ []

    abbrev next : List ℕ
    next = numbers ++ now ∷ []

    more_rows : flat_map f all ≡ flat_map f pointers ++ f p
    more_rows = flat_map-append f pointers (p ∷ []) ∙ ap (λ l. flat_map f pointers ++ l) (append-nil (f p))

    more_left : first_of count (flat_map f all)
        ≡ first_of count (flat_map f pointers) ++ first_of (count - INDIRECT_INDEXES * length numbers) (f p)
    more_left =
        ap (first_of count) more_rows ∙ first_both count (flat_map f pointers) (f p)
        ∙ ap (λ n. first_of count (flat_map f pointers) ++ first_of n (f p)) left
      where
        left : count - length (flat_map f pointers) ≡ count - INDIRECT_INDEXES * length numbers
        left = let rows = rows-length pointers in let same = is.long in omega (arith, rows, same)

    long_now : length next ≡ length all
    long_now =
        let one = length-append numbers (now ∷ []) in
        let two = length-append pointers (p ∷ []) in
        let same = is.long in omega (arith, one, two, same)

    early_row : (k : ℕ) → k < length pointers → row_left f all count k ≡ row_left f pointers count k
    early_row k less =
        ap (λ x. first_of (count - INDIRECT_INDEXES * k) (f x)) (get_or_append_left pointers (p ∷ []) 0 k less)

    last_row : (k : ℕ) → k ≡ length numbers → row_left f all count k ≡ stay
    last_row k same =
        (λ i. first_of (count - INDIRECT_INDEXES * same i)
        (f (get_or_push pointers p 0 k (sym (same ∙ is.long)) i)))
        ∙ sym row.numbers_are

    numbers_now : (k : ℕ) → k < length all → get_or next k 0 ≡ left_over (get_or all k 0) (row_left f all count k)
    numbers_now k less = elim (cases_lt k (length numbers)) [
      | inl early ↦ (
          let below : k < length pointers = let same = is.long in omega (arith, early, same) in
          get_or_append_left numbers (now ∷ []) 0 k early ∙ is.numbers_are k below
          ∙ (λ i. left_over (sym (get_or_append_left pointers (p ∷ []) 0 k below) i) (sym (early_row k below) i)))
      | inr late ↦ (
          let two = length-append pointers (p ∷ []) in
          let same = is.long in
          let here : k ≡ length numbers = omega (arith, less, late, two, same) in
          get_or_push numbers now 0 k (sym here) ∙ row.pointer_is
          ∙ (λ i. left_over (sym (get_or_push pointers p 0 k (sym (here ∙ same))) i) (sym (last_row k here) i)))
    ]

    used_now : used + row_used ≡ count_by is_some next + count_by is_some (first_of count (flat_map f all))
    used_now =
        let one = count_both numbers (now ∷ []) in
        let two = count_one now in
        let three = ap (count_by is_some) more_left
        ∙ count_both (first_of count (flat_map f pointers))
        (first_of (count - INDIRECT_INDEXES * length numbers) (f p)) in
        let four = ap (count_by is_some) row.numbers_are in
        let five = is.used_is in
        let six = row.used_is in omega (arith, one, two, three, four, five, six)

    gone_now : (q : ℕ)
        → how_often q later + (times q next + times q (first_of count (flat_map f all)))
        ≡ how_often q before + (times q all + times q (flat_map f all))
    gone_now q =
        let one = times_both q numbers (now ∷ []) in
        let two = ap (times q) more_left
        ∙ times_both q (first_of count (flat_map f pointers))
        (first_of (count - INDIRECT_INDEXES * length numbers) (f p)) in
        let three = times_both q pointers (p ∷ []) in
        let four = ap (times q) more_rows ∙ times_both q (flat_map f pointers) (f p) in
        let five = is.gone_are q in
        let six = row_parted q p (f p) (count - INDIRECT_INDEXES * length numbers) gone now stay row_used later row in
        omega (arith, one, two, three, four, five, six)

    -- the cut goes through this one
    pub cut_here : length numbers ≡ count / INDIRECT_INDEXES
        → AreInnersCut f all count before next now stay (used + row_used) later
    cut_here here = record {
      long = long_now;
      numbers_are = numbers_now;
      part_is = sym (get_or_push numbers now 0 (count / INDIRECT_INDEXES) here);
      part_numbers_are = λ some. sym (last_row (count / INDIRECT_INDEXES) (sym here));
      used_is = used_now;
      gone_are = gone_now;
    }

    -- it doesn't
    pub cut_elsewhere : get_or next (count / INDIRECT_INDEXES) 0 ≡ get_or numbers (count / INDIRECT_INDEXES) 0
        → AreInnersCut f all count before next part part_numbers (used + row_used) later
    cut_elsewhere same = record {
      long = long_now;
      numbers_are = numbers_now;
      part_is = is.part_is ∙ sym same;
      part_numbers_are = λ some.
          let less = get_or-more numbers now (count / INDIRECT_INDEXES)
          (ap (λ x. nat_eq x 0) (sym is.part_is) ∙ some) in
          let long = is.long in
          is.part_numbers_are some ∙ sym (early_row (count / INDIRECT_INDEXES) (omega (arith, less, long)));
      used_is = used_now;
      gone_are = gone_now;
    }

  -- ---- where a block and its numbers are told

  module _ (pointers : List ℕ) (count : ℕ) (before numbers : List ℕ) (part : ℕ) (part_numbers : List ℕ) (used : ℕ)
      (gone : List ℕ) (is : AreInnersCut f pointers count before numbers part part_numbers used gone)
      (p : ℕ) (next : List ℕ) where
    -- there is none
    pub cut_none : has_some (f 0) ≡ false → p ≡ 0 → next ≡ numbers ++ 0 ∷ []
        → AreInnersCut f (pointers ++ p ∷ []) count before next part part_numbers used gone
    cut_none empty none more =
        let same : used + 0 ≡ used = omega arith in
        let m = count - INDIRECT_INDEXES * length numbers in
        subst (λ (t : ℕ × List ℕ × ℕ). AreInnersCut f (pointers ++ t.0 ∷ []) count before t.1 part part_numbers t.2
        gone) (λ i. (sym none i, sym more i, same i))
        (cut_elsewhere pointers count before numbers part part_numbers used gone is 0 0 (first_of m (f 0)) 0 gone
        (none_cut (f 0) m gone empty) (none_more numbers (count / INDIRECT_INDEXES)))

    module _ (now : ℕ) (stay : List ℕ) (row_used : ℕ) (later named : List ℕ) (m : ℕ)
        (row : IsRowCut p named m gone now stay row_used later) (named_is : named ≡ f p)
        (m_is : m ≡ count - INDIRECT_INDEXES * length numbers) (more : next ≡ numbers ++ now ∷ []) where
      row_there : IsRowCut p (f p) (count - INDIRECT_INDEXES * length numbers) gone now stay row_used later
      row_there = subst (λ (t : List ℕ × ℕ). IsRowCut p t.0 t.1 gone now stay row_used later)
          (λ i. (named_is i, m_is i)) row

      -- it is the one through which the cut goes
      pub cut_through : length numbers ≡ count / INDIRECT_INDEXES
          → AreInnersCut f (pointers ++ p ∷ []) count before next now stay (used + row_used) later
      cut_through here =
          subst (λ l. AreInnersCut f (pointers ++ p ∷ []) count before l now stay (used + row_used) later) (sym more)
          (cut_here pointers count before numbers part part_numbers used gone is p now stay row_used later row_there
          here)

      -- it isn't
      pub cut_not_through : (length numbers ≡ count / INDIRECT_INDEXES → ⊥)
          → AreInnersCut f (pointers ++ p ∷ []) count before next part part_numbers (used + row_used) later
      cut_not_through other =
          subst (λ l. AreInnersCut f (pointers ++ p ∷ []) count before l part part_numbers (used + row_used) later)
          (sym more)
          (cut_elsewhere pointers count before numbers part part_numbers used gone is p now stay row_used later
          row_there (other_more numbers now (count / INDIRECT_INDEXES) other))

  -- ---- the rows that stay are the first of all

  module _ (f' : ℕ → List ℕ) where
    pub rows_stay : (pointers numbers : List ℕ) (count : ℕ) → length numbers ≡ length pointers
        → ((k : ℕ) → k < length pointers → f' (get_or numbers k 0) ≡ row_left f pointers count k)
        → flat_map f' numbers ≡ first_of count (flat_map f pointers)
    rows_stay [] [] count long rows = sym (first_nil count)
    rows_stay [] (n ∷ numbers) count long rows = absurd (omega (arith, long))
    rows_stay (p ∷ pointers) [] count long rows = absurd (omega (arith, long))
    rows_stay (p ∷ pointers) (n ∷ numbers) count long rows =
        (λ i. (rows 0 (omega arith) ∙ ap (λ m. first_of m (f p)) whole) i
        ++ rows_stay pointers numbers (count - INDIRECT_INDEXES) (omega (arith, long))
        (λ k less. rows (suc k) (omega (arith, less)) ∙ ap (λ m. first_of m (f (get_or pointers k 0))) (rest k)) i)
        ∙ sym (first_both count (f p) (flat_map f pointers)
        ∙ ap (λ m. first_of count (f p) ++ first_of (count - m) (flat_map f pointers)) (wide p))
      where
        whole : count - INDIRECT_INDEXES * 0 ≡ count
        whole = omega arith

        rest : (k : ℕ) → count - INDIRECT_INDEXES * suc k ≡ count - INDIRECT_INDEXES - INDIRECT_INDEXES * k
        rest k = omega arith
