-- The indexes of a file that get blocks, and what they add to its cost.
use Rattle.std.proofs.Common.{◌≡◌, ℕ, zero, suc, ◌+◌, ◌-◌, ◌*◌, ◌<◌, ◌≤◌, inl, inr, sym}
use Rattle.std.proofs.Common.{ap, ◌∙◌, refl, Bool, true, false}
use Rattle.std.proofs.Common.{cond, max, not, ◌||◌, ◌&&◌, List, [], ◌∷◌, length, get_or}
use Rattle.std.proofs.Common.{drop, set, take, nat_eq, nat_le}
use Rattle.std.proofs.Common.{nat_lt, count_by, arith}
use Rattle.std.specs.FinSet.{insert}
use Rattle.std.specs.List.{list_any, range_with_len}
use Rattle.std.proofs.lemmas.Bool.{cases_eq, cases_lt, leb-false, leb-true, ltb-false, ltb-true}
use Rattle.std.proofs.lemmas.List.{get_or-set_other, get_or-set_same, length-set, set-get_or}
use Rattle.std.proofs.lemmas.List.Sums.{sum_by-cons}
use Rattle.base.specs.declared.TheConstants.{DIRECT_INDEXES, FILE_INDEXES, FIRST_DOUBLE_INDEX, INDIRECT_INDEXES}
use Rattle.disk.specs.Crash.{Image}
use Rattle.nfs_spec.specs.Model.Cost.{file_cost}
use Rattle.nfs_spec.specs.Model.Tree.{Tree}
use Rattle.nfs_spec.specs.Procedures.Write.{mapped_with}
use Rattle.layout.specs.declared.geometry.Geometry.{Geometry}
use Rattle.layout.specs.declared.inode.Inode.{Inode}
use Rattle.layout.specs.Decode.{IsMapped, mapped_of, numbers_in, numbers_of}
use Rattle.layout.specs.Fields.{count_of}
use Rattle.layout.specs.Parts.{content_in}
use Rattle.layout.proofs.Mapped.{inner_numbers, regular-cost}
use Rattle.layout.proofs.NumbersIn.{in_length}
use Rattle.layout.proofs.Used.{double_any, any_indirect, inner_any, inner_count}
use Rattle.inode_data.specs.Adding.{filled_up, missing_between, new_indirect, new_inner, some_number}
use Rattle.inode_data.specs.Filling.{HasRegular}
use Rattle.inode_data.specs.Inner.{inner_of}
use Rattle.inode_data.proofs.Adjoining.{ranges}
use Rattle.inode_data.proofs.Costs.{count_more}
use Rattle.inode_data.proofs.OneNumber.{is_some, mapped_more, same_behind}
use Rattle.inode_data.proofs.Owned.{or_right}
use Rattle.inode_data.proofs.PieceWritten.{count, rules, sound}

some_is : (number : ℕ) → is_some (some_number number) ≡ true
some_is number = by_test (nat_eq number 0) refl
  where
    by_test : (t : Bool) → nat_eq number 0 ≡ t → is_some (cond t 1 number) ≡ true
    by_test true e = refl
    by_test false e = ap not e

pub filled-length : (numbers : List ℕ) (first k : ℕ) → length (filled_up numbers first k) ≡ length numbers
filled-length numbers first zero = refl
filled-length numbers first (suc k) =
    length-set (filled_up numbers first k) (first + k) (some_number (get_or (filled_up numbers first k) (first + k) 0))
    ∙ filled-length numbers first k

-- what comes later is as it was
pub later : (numbers : List ℕ) (first k j : ℕ) → first + k ≤ j
    → get_or (filled_up numbers first k) j 0 ≡ get_or numbers j 0
later numbers first zero j past = refl
later numbers first (suc k) j past =
    get_or-set_other (filled_up numbers first k) (first + k) j
    (some_number (get_or (filled_up numbers first k) (first + k) 0)) 0 (λ is. omega (arith, is, past))
    ∙ later numbers first k j (omega (arith, past))

-- one more
pub count_next : (numbers : List ℕ) (first k : ℕ) → first + k < length numbers
    → count_of (filled_up numbers first (suc k))
    ≡ cond (nat_eq (get_or numbers (first + k) 0) 0) 1 0 + count_of (filled_up numbers first k)
count_next numbers first k less =
    let so_far = filled_up numbers first k in
    let same = later numbers first k (first + k) (omega arith) in
    let long = filled-length numbers first k in
    by_test so_far (get_or so_far (first + k) 0) refl (nat_eq (get_or so_far (first + k) 0) 0) refl
    (omega (arith, less, long))
    ∙ ap (λ n. cond (nat_eq n 0) 1 0 + count_of so_far) same
  where
    by_test : (so_far : List ℕ) (n : ℕ) → get_or so_far (first + k) 0 ≡ n → (t : Bool) → nat_eq n 0 ≡ t
        → first + k < length so_far
        → count_of (set so_far (first + k) (cond t 1 n)) ≡ cond t 1 0 + count_of so_far
    by_test so_far n is true e low = count_more so_far (first + k) low (ap (λ m. nat_eq m 0) is ∙ e)
    by_test so_far n is false e low =
        ap (λ m. count_of (set so_far (first + k) m)) (sym is) ∙ ap count_of (set-get_or so_far (first + k) 0)
        ∙ no_more (count_of so_far)
      where
        no_more : (c : ℕ) → c ≡ 0 + c
        no_more c = omega arith

pub mapped_up : (numbers : List ℕ) (first k : ℕ) → first + k ≤ length numbers
    → mapped_with (range_with_len first k) (mapped_of numbers) ≡ mapped_of (filled_up numbers first k)
mapped_up numbers first zero within = refl
mapped_up numbers first (suc k) within =
    let one : k + 1 ≡ suc k = omega arith in
    let so_far = filled_up numbers first k in
    let long = filled-length numbers first k in
    ap (λ m. mapped_with (range_with_len first m) (mapped_of numbers)) (sym one)
    ∙ ranges first k 1 (mapped_of numbers)
    ∙ ap (λ m. insert m (first + k)) (mapped_up numbers first k (omega (arith, within)))
    ∙ sym (mapped_more so_far (first + k) (some_number (get_or so_far (first + k) 0)) (omega (arith, within, long))
    (some_is (get_or so_far (first + k) 0)))

-- ---- where they lie

-- each of them has a number
pub filled_at : (numbers : List ℕ) (first k j : ℕ) → first + k ≤ length numbers → first ≤ j → j < first + k
    → is_some (get_or (filled_up numbers first k) j 0) ≡ true
filled_at numbers first zero j has_space from to = absurd (omega (arith, from, to))
filled_at numbers first (suc k) j has_space from to =
    let so_far = filled_up numbers first k in
    let number = some_number (get_or so_far (first + k) 0) in
    let long = filled-length numbers first k in
    elim (cases_eq j (first + k)) [
      | inl same ↦
          ap (λ q. is_some (get_or (set so_far (first + k) number) q 0)) same
          ∙ ap is_some (get_or-set_same so_far (first + k) number 0 (omega (arith, long, has_space)))
          ∙ some_is (get_or so_far (first + k) 0)
      | inr other ↦
          ap is_some (get_or-set_other so_far (first + k) j number 0 other)
          ∙ filled_at numbers first k j (omega (arith, has_space)) from (before j to other)
    ]
  where
    before : (j : ℕ) → j < first + suc k → (j ≡ first + k → ⊥) → j < first + k
    before j to other = omega (arith, to, other)

pub any_there : (xs : List ℕ) (lo w j : ℕ) → j < length xs → lo ≤ j → j < lo + w → is_some (get_or xs j 0) ≡ true
    → list_any is_some (take w (drop lo xs)) ≡ true
any_there [] lo w j less from to is = absurd (omega (arith, less))
any_there (x ∷ xs) zero zero j less from to is = absurd (omega (arith, to))
any_there (x ∷ xs) zero (suc w) zero less from to is = ap (λ t. t || list_any is_some (take w xs)) is
any_there (x ∷ xs) zero (suc w) (suc j) less from to is =
    or_right (is_some x) (any_there xs zero w j (omega (arith, less)) (omega arith) (omega (arith, to)) is)
any_there (x ∷ xs) (suc lo) w zero less from to is = absurd (omega (arith, from))
any_there (x ∷ xs) (suc lo) w (suc j) less from to is =
    any_there xs lo w j (omega (arith, less)) (omega (arith, from)) (omega (arith, to)) is

pub behind_there : (xs : List ℕ) (lo j : ℕ) → j < length xs → lo ≤ j → is_some (get_or xs j 0) ≡ true
    → list_any is_some (drop lo xs) ≡ true
behind_there [] lo j less from is = absurd (omega (arith, less))
behind_there (x ∷ xs) zero zero less from is = ap (λ t. t || list_any is_some xs) is
behind_there (x ∷ xs) zero (suc j) less from is =
    or_right (is_some x) (behind_there xs zero j (omega (arith, less)) (omega arith) is)
behind_there (x ∷ xs) (suc lo) zero less from is = absurd (omega (arith, from))
behind_there (x ∷ xs) (suc lo) (suc j) less from is = behind_there xs lo j (omega (arith, less)) (omega (arith, from))
    is

-- what lies in front of an index that is set is as it was
same_ahead : (xs : List ℕ) (lo w j b : ℕ) → lo + w ≤ j → take w (drop lo (set xs j b)) ≡ take w (drop lo xs)
same_ahead [] lo w j b past = refl
same_ahead (x ∷ xs) zero zero j b past = refl
same_ahead (x ∷ xs) zero (suc w) zero b past = absurd (omega (arith, past))
same_ahead (x ∷ xs) zero (suc w) (suc j) b past = ap (λ l. x ∷ l) (same_ahead xs zero w j b (omega (arith, past)))
same_ahead (x ∷ xs) (suc lo) w zero b past = absurd (omega (arith, past))
same_ahead (x ∷ xs) (suc lo) w (suc j) b past = same_ahead xs lo w j b (omega (arith, past))

-- a part of the numbers in front of them, or behind them
pub ahead_filled : (numbers : List ℕ) (first k lo w : ℕ) → lo + w ≤ first
    → take w (drop lo (filled_up numbers first k)) ≡ take w (drop lo numbers)
ahead_filled numbers first zero lo w low = refl
ahead_filled numbers first (suc k) lo w low =
    same_ahead (filled_up numbers first k) lo w (first + k)
    (some_number (get_or (filled_up numbers first k) (first + k) 0)) (omega (arith, low))
    ∙ ahead_filled numbers first k lo w low

pub behind_filled : (numbers : List ℕ) (first k lo : ℕ) → first + k ≤ lo
    → drop lo (filled_up numbers first k) ≡ drop lo numbers
behind_filled numbers first zero lo low = refl
behind_filled numbers first (suc k) lo low =
    same_behind (filled_up numbers first k) (first + k) lo
    (some_number (get_or (filled_up numbers first k) (first + k) 0)) (omega (arith, low))
    ∙ behind_filled numbers first k lo (omega (arith, low))

-- ---- how many of a list pass, where all in one part of it do

pub first_part : (xs : List ℕ) (a lo m : ℕ) → lo + m ≤ length xs → (f : ℕ → Bool)
    → ((k : ℕ) → k < length xs → lo ≤ k → k < lo + m → f (a + k) ≡ true)
    → ((k : ℕ) → k < length xs → (lo ≤ k → k < lo + m → ⊥) → f (a + k) ≡ is_some (get_or xs k 0))
    → count_by f (range_with_len a (length xs))
    ≡ count_by is_some xs + count_by (λ n. nat_eq n 0) (take m (drop lo xs))
first_part [] a lo zero has_space f inside outside = by_index_within lo
  where
    by_index_within : (lo : ℕ) → 0 ≡ 0 + count_by (λ n. nat_eq n 0) (take 0 (drop lo []))
    by_index_within lo = refl
first_part [] a lo (suc m) has_space f inside outside = absurd (omega (arith, has_space))
first_part (x ∷ xs) a zero zero has_space f inside outside =
    let all = sum_by-cons (λ i. cond (f i) 1 0) a (range_with_len (a + 1) (length xs)) in
    let here : ◌≡◌ {A = ℕ} (cond (f a) 1 0) (cond (is_some x) 1 0) =
    ap (λ t. cond t 1 0) (ap f (omega arith) ∙ outside 0 (omega arith) (λ from to. omega (arith, to))) in
    let was = sum_by-cons (λ y. cond (is_some y) 1 0) x xs in
    let rest = first_part xs (a + 1) zero zero (omega arith) f
    (λ k less from to. absurd (omega (arith, to)))
    (λ k less out. ap f (omega arith) ∙ outside (suc k) (omega (arith, less)) (λ from to. omega (arith, to))) in
    omega (arith, all, here, was, rest)
first_part (x ∷ xs) a zero (suc m) has_space f inside outside =
    let all = sum_by-cons (λ i. cond (f i) 1 0) a (range_with_len (a + 1) (length xs)) in
    let here : ◌≡◌ {A = ℕ} (cond (f a) 1 0) 1 =
    ap (λ t. cond t 1 0) (ap f (omega arith) ∙ inside 0 (omega arith) (omega arith) (omega arith)) in
    let was = sum_by-cons (λ y. cond (is_some y) 1 0) x xs in
    let none = sum_by-cons (λ y. cond (nat_eq y 0) 1 0) x (take m xs) in
    let either = one_or (nat_eq x 0) in
    let rest = first_part xs (a + 1) zero m (omega (arith, has_space)) f
    (λ k less from to. ap f (omega arith)
    ∙ inside (suc k) (omega (arith, less)) (omega arith) (omega (arith, to)))
    (λ k less out. ap f (omega arith)
    ∙ outside (suc k) (omega (arith, less)) (λ from to. out (omega arith) (omega (arith, to)))) in
    omega (arith, all, here, was, none, either, rest)
  where
    one_or : (t : Bool) → cond (not t) 1 0 + cond t 1 0 ≡ 1
    one_or true = refl
    one_or false = refl
first_part (x ∷ xs) a (suc lo) m has_space f inside outside =
    let all = sum_by-cons (λ i. cond (f i) 1 0) a (range_with_len (a + 1) (length xs)) in
    let here : ◌≡◌ {A = ℕ} (cond (f a) 1 0) (cond (is_some x) 1 0) =
    ap (λ t. cond t 1 0) (ap f (omega arith) ∙ outside 0 (omega arith) (λ from to. omega (arith, from))) in
    let was = sum_by-cons (λ y. cond (is_some y) 1 0) x xs in
    let rest = first_part xs (a + 1) lo m (omega (arith, has_space)) f
    (λ k less from to. ap f (omega arith)
    ∙ inside (suc k) (omega (arith, less)) (omega (arith, from)) (omega (arith, to)))
    (λ k less out. ap f (omega arith)
    ∙ outside (suc k) (omega (arith, less)) (λ from to. out (omega (arith, from)) (omega (arith, to)))) in
    omega (arith, all, here, was, rest)

-- one more of those of no block
pub next_missing : (xs : List ℕ) (first k : ℕ) → first + k < length xs
    → missing_between xs first (suc k) ≡ missing_between xs first k + cond (nat_eq (get_or xs (first + k) 0) 0) 1 0
next_missing [] first k less = absurd (omega (arith, less))
next_missing (x ∷ xs) zero zero less =
    let one = sum_by-cons (λ (n : ℕ). cond (nat_eq n 0) 1 0) x [] in omega (arith, one)
next_missing (x ∷ xs) zero (suc k) less =
    let next : 0 + suc k ≡ suc (0 + k) = omega arith in
    let here : ◌≡◌ {A = ℕ} (cond (nat_eq (get_or (x ∷ xs) (0 + suc k) 0) 0) 1 0)
    (cond (nat_eq (get_or xs (0 + k) 0) 0) 1 0) = ap (λ j. cond (nat_eq (get_or (x ∷ xs) j 0) 0) 1 0) next in
    let one = sum_by-cons (λ (n : ℕ). cond (nat_eq n 0) 1 0) x (take (suc k) xs) in
    let two = sum_by-cons (λ (n : ℕ). cond (nat_eq n 0) 1 0) x (take k xs) in
    let rest = next_missing xs zero k (omega (arith, less)) in omega (arith, one, two, rest, here)
next_missing (x ∷ xs) (suc first) k less =
    let next : suc (first + k) ≡ suc first + k = omega arith in
    next_missing xs first k (omega (arith, less))
    ∙ ap (λ j. missing_between xs first k + cond (nat_eq (get_or (x ∷ xs) j 0) 0) 1 0) next

-- ---- what they add

abbrev one_if : Bool → ℕ
one_if t = cond t 1 0

from_none : (k : ℕ) → 0 + k ≡ k
from_none k = omega arith

-- the sums of what a file holds: its numbers, the indirect block, the double indirect block, and inner blocks
direct_sum : (missing indirect was now indirect_block indirect_now double double_now inner inner_now after before : ℕ)
    → missing + was ≡ now → indirect_now ≡ indirect_block + indirect → double_now ≡ double → inner_now ≡ inner
    → after ≡ now + indirect_now + double_now + inner_now → before ≡ was + indirect_block + double + inner
    → missing + indirect ≡ after - before
direct_sum missing indirect was now indirect_block indirect_now double double_now inner inner_now after before one two three four five
    six =
    omega (arith, one, two, three, four, five, six)

indirect_sum : (missing indirect first rows was now indirect_block indirect_now double double_now inner inner_now after before : ℕ)
    → missing + was ≡ now → indirect_now ≡ indirect_block + indirect → double_now ≡ double + first → inner_now ≡ inner + rows
    → after ≡ now + indirect_now + double_now + inner_now → before ≡ was + indirect_block + double + inner
    → missing + (indirect + (first + rows)) ≡ after - before
indirect_sum missing indirect first rows was now indirect_block indirect_now double double_now inner inner_now after before one two three
    four five
    six = omega (arith, one, two, three, four, five, six)

module _ (g : Geometry) (base : Image) (tree : Tree) (n : ℕ) (inode : Inode)
    (has : HasRegular g base tree n inode) (first last missing : ℕ) (order : first ≤ last)
    (within : last < FILE_INDEXES) where
  abbrev content : Image
  content = content_in g base

  abbrev numbers : List ℕ
  numbers = numbers_of content inode

  abbrev count_up : ℕ
  count_up = last + 1 - first

  abbrev filled : List ℕ
  filled = filled_up numbers first count_up

  abbrev after : ℕ
  after = file_cost (mapped_with (range_with_len first count_up) (mapped_of numbers))

  abbrev before : ℕ
  before = file_cost (mapped_of numbers)

  long : length numbers ≡ FILE_INDEXES
  long = count g base tree n inode has

  all_long : length filled ≡ FILE_INDEXES
  all_long = filled-length numbers first count_up ∙ long

  direct : length inode.direct ≡ DIRECT_INDEXES
  direct = (sound g base tree n inode has).fits.count

  mapped : IsMapped g content inode
  mapped = (rules g base tree n inode has).mapped

  abbrev indirect_in : List ℕ → Bool
  indirect_in l = list_any is_some (take INDIRECT_INDEXES (drop DIRECT_INDEXES l))

  abbrev double_in : List ℕ → Bool
  double_in l = list_any is_some (drop FIRST_DOUBLE_INDEX l)

  abbrev inner_in : List ℕ → ℕ
  inner_in l = count_by (λ inner. list_any is_some (inner_numbers l inner)) (range_with_len 0 INDIRECT_INDEXES)

  after_is : after ≡ count_of filled + one_if (indirect_in filled) + one_if (double_in filled) + inner_in filled
  after_is = ap file_cost (mapped_up numbers first count_up (let many = long in omega (arith, many, order, within)))
      ∙ regular-cost filled

  before_is : before ≡ count_of numbers + one_if (indirect_in numbers) + one_if (double_in numbers) + inner_in numbers
  before_is = regular-cost numbers

  some_at : (j : ℕ) → first ≤ j → j ≤ last → is_some (get_or filled j 0) ≡ true
  some_at j from to =
      let many = long in
      filled_at numbers first count_up j (omega (arith, many, order, within)) from (omega (arith, from, to, order))

  -- ---- the indirect block

  indirect_was : indirect_in numbers ≡ is_some inode.indirect
  indirect_was = any_indirect g content inode direct mapped

  indirect_hit : (j : ℕ) → first ≤ j → j ≤ last → DIRECT_INDEXES ≤ j → j < FIRST_DOUBLE_INDEX
      → indirect_in filled ≡ true
  indirect_hit j from to past low =
      let many = all_long in
      any_there filled DIRECT_INDEXES INDIRECT_INDEXES j (omega (arith, many, to, within)) past (omega (arith, low))
      (some_at j from to)

  indirect_by : (a b : Bool) → nat_lt first FIRST_DOUBLE_INDEX ≡ a → nat_le DIRECT_INDEXES last ≡ b
      → one_if (indirect_in filled)
      ≡ one_if (is_some inode.indirect) + cond (nat_eq inode.indirect 0 && a && b) 1 0
  indirect_by true true e f =
      let low = ltb-true first FIRST_DOUBLE_INDEX e in
      let past = leb-true DIRECT_INDEXES last f in
      ap one_if (elim (cases_lt first DIRECT_INDEXES) [
        | inl early ↦ indirect_hit DIRECT_INDEXES (omega (arith, early)) past (omega arith) (omega arith)
        | inr late ↦ indirect_hit first (omega arith) order late low
      ]) ∙ by (nat_eq inode.indirect 0)
    where
      by : (t : Bool) → 1 ≡ cond (not t) 1 0 + cond (t && true && true) 1 0
      by true = refl
      by false = refl
  indirect_by true false e f =
      let early = leb-false DIRECT_INDEXES last f in
      ap (λ l. one_if (list_any is_some (take INDIRECT_INDEXES l)))
      (behind_filled numbers first count_up DIRECT_INDEXES (omega (arith, early, order)))
      ∙ ap one_if indirect_was ∙ no_more (nat_eq inode.indirect 0) (one_if (is_some inode.indirect))
    where
      no_more : (t : Bool) (k : ℕ) → k ≡ k + cond (t && true && false) 1 0
      no_more true k = omega arith
      no_more false k = omega arith
  indirect_by false b e f =
      let late = ltb-false first FIRST_DOUBLE_INDEX e in
      ap (λ l. one_if (list_any is_some l))
      (ahead_filled numbers first count_up DIRECT_INDEXES INDIRECT_INDEXES (omega (arith, late)))
      ∙ ap one_if indirect_was ∙ no_more (nat_eq inode.indirect 0) (one_if (is_some inode.indirect))
    where
      no_more : (t : Bool) (k : ℕ) → k ≡ k + cond (t && false && b) 1 0
      no_more true k = omega arith
      no_more false k = omega arith

  indirect_now : one_if (indirect_in filled) ≡ one_if (indirect_in numbers) + new_indirect inode first last
  indirect_now =
      indirect_by (nat_lt first FIRST_DOUBLE_INDEX) (nat_le DIRECT_INDEXES last) refl refl
      ∙ ap (λ k. one_if k + new_indirect inode first last) (sym indirect_was)

  -- ---- in front of the double indirect block they add no more

  module _ (low : last < FIRST_DOUBLE_INDEX) where
    double_same : drop FIRST_DOUBLE_INDEX filled ≡ drop FIRST_DOUBLE_INDEX numbers
    double_same = behind_filled numbers first count_up FIRST_DOUBLE_INDEX (omega (arith, low, order))

    inner_same : (inner : ℕ) → inner_numbers filled inner ≡ inner_numbers numbers inner
    inner_same inner = ap (take INDIRECT_INDEXES)
        (behind_filled numbers first count_up (FIRST_DOUBLE_INDEX + INDIRECT_INDEXES * inner) (omega (
          arith,
          low,
          order,
        )))

    pub direct_added : missing + count_of numbers ≡ count_of filled
        → missing + new_indirect inode first last ≡ after - before
    direct_added sum =
        direct_sum missing (new_indirect inode first last) (count_of numbers) (count_of filled)
        (one_if (indirect_in numbers)) (one_if (indirect_in filled)) (one_if (double_in numbers))
        (one_if (double_in filled)) (inner_in numbers) (inner_in filled) after before sum indirect_now
        (ap {B = ℕ} (λ l. one_if (list_any is_some l)) double_same)
        (λ i. count_by (λ k. list_any is_some (inner_same k i)) (range_with_len 0 INDIRECT_INDEXES)) after_is before_is

  -- ---- and behind it they add inner blocks, and the double indirect block

  module _ (past : FIRST_DOUBLE_INDEX ≤ last) where
    abbrev from : ℕ
    from = max first FIRST_DOUBLE_INDEX

    abbrev lo : ℕ
    lo = inner_of from

    abbrev rows : ℕ
    rows = inner_of last + 1 - lo

    abbrev inners : List ℕ
    inners = numbers_in content inode.double

    from_is : (first ≤ from) × (FIRST_DOUBLE_INDEX ≤ from) × (from ≤ last)
    from_is = (omega arith, omega arith, omega (arith, order, past))

    wide : length inners ≡ INDIRECT_INDEXES
    wide = in_length content inode.double

    rows_fit : lo + rows ≤ length inners
    rows_fit = let many = wide in let is = from_is in omega (arith, many, is.0, is.1, is.2, within, past)

    double_now : one_if (double_in filled) ≡ one_if (double_in numbers) + cond (nat_eq inode.double 0) 1 0
    double_now =
        let many = all_long in
        ap one_if (behind_there filled FIRST_DOUBLE_INDEX last (omega (arith, many, within)) past
        (some_at last order (omega arith)))
        ∙ by (nat_eq inode.double 0)
        ∙ ap (λ t. one_if t + cond (nat_eq inode.double 0) 1 0) (sym (double_any g content inode direct mapped))
      where
        by : (t : Bool) → 1 ≡ cond (not t) 1 0 + cond t 1 0
        by true = refl
        by false = refl

    -- an inner block has one of them, or it has what it had
    inner_hit : (k : ℕ) → lo ≤ k → k < lo + rows → k < INDIRECT_INDEXES
        → list_any is_some (inner_numbers filled k) ≡ true
    inner_hit k above below few =
        let many = all_long in
        let is = from_is in
        elim (cases_lt (FIRST_DOUBLE_INDEX + INDIRECT_INDEXES * k) from) [
          | inl early ↦ any_there filled (FIRST_DOUBLE_INDEX + INDIRECT_INDEXES * k) INDIRECT_INDEXES from
              (omega (arith, many, is.2, within)) (omega (arith, early)) (omega (arith, above, is.1))
              (some_at from is.0 is.2)
          | inr late ↦ any_there filled (FIRST_DOUBLE_INDEX + INDIRECT_INDEXES * k) INDIRECT_INDEXES
              (FIRST_DOUBLE_INDEX + INDIRECT_INDEXES * k) (omega (arith, many, few)) (omega arith) (omega arith)
              (some_at (FIRST_DOUBLE_INDEX + INDIRECT_INDEXES * k) (omega (arith, late, is.0))
              (omega (arith, below, past, is.1, is.2)))
        ]

    inner_miss : (k : ℕ) → (lo ≤ k → k < lo + rows → ⊥) → inner_numbers filled k ≡ inner_numbers numbers k
    inner_miss k out =
        let is = from_is in
        elim (cases_lt k lo) [
          | inl early ↦ ahead_filled numbers first count_up (FIRST_DOUBLE_INDEX + INDIRECT_INDEXES * k) INDIRECT_INDEXES
              (omega (arith, early, is.1))
          | inr late ↦ ap (take INDIRECT_INDEXES)
              (behind_filled numbers first count_up (FIRST_DOUBLE_INDEX + INDIRECT_INDEXES * k)
              (past_rows k late (out late)))
        ]
      where
        past_rows : (k : ℕ) → lo ≤ k → (k < lo + rows → ⊥)
            → first + count_up ≤ FIRST_DOUBLE_INDEX + INDIRECT_INDEXES * k
        past_rows k late out = let is = from_is in
            elim (cases_lt k (lo + rows)) [
              | inl below ↦ absurd (out below)
              | inr above ↦ omega (arith, above, order, past, is.1, is.2)
            ]

    inner_now : inner_in filled ≡ inner_in numbers + missing_between inners lo rows
    inner_now =
        let many = wide in
        ap (λ w. count_by (λ inner. list_any is_some (inner_numbers filled inner)) (range_with_len 0 w)) (sym wide)
        ∙ first_part inners 0 lo rows rows_fit (λ inner. list_any is_some (inner_numbers filled inner))
        (λ k less from to. ap (λ j. list_any is_some (inner_numbers filled j)) (from_none k)
        ∙ inner_hit k from to (omega (arith, less, many)))
        (λ k less out. ap (λ j. list_any is_some (inner_numbers filled j)) (from_none k)
        ∙ ap (list_any is_some) (inner_miss k out)
        ∙ ap (λ j. list_any is_some (inner_numbers numbers j)) (sym (from_none k))
        ∙ inner_any g content inode direct mapped k less)
        ∙ ap (λ c. c + missing_between inners lo rows) (sym (inner_count g content inode direct mapped))

    pub double_added : missing + count_of numbers ≡ count_of filled
        → missing + (new_indirect inode first last + new_inner content inode first last) ≡ after - before
    double_added sum =
        indirect_sum missing (new_indirect inode first last) (cond (nat_eq inode.double 0) 1 0)
        (missing_between inners lo rows) (count_of numbers) (count_of filled) (one_if (indirect_in numbers))
        (one_if (indirect_in filled)) (one_if (double_in numbers)) (one_if (double_in filled)) (inner_in numbers)
        (inner_in filled) after before sum indirect_now double_now inner_now after_is before_is
