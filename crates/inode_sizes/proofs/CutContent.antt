-- The blocks of a file of which the end was cut off: its numbers, and its pointer blocks.
use Rattle.std.proofs.Common.{◌≡◌, ℕ, zero, suc, ◌+◌, ◌-◌, ◌*◌, ◌/◌, ◌<◌, ◌≤◌, inl, inr, sym, ap, ◌∙◌, refl, subst, Bool}
use Rattle.std.proofs.Common.{true, false, List, [], ◌∷◌, ◌++◌, length, get_or, nat_eq, length-append}
use Rattle.std.proofs.Common.{cond, not, ◌||◌, replicate, Some, Ok, arith}
use Rattle.std.specs.List.{flat_map, list_all}
use Rattle.std.proofs.lemmas.Bool.{cases_eq, cases_lt, eq-eqb}
use Rattle.base.specs.declared.TheConstants.{DIRECT_INDEXES, FIRST_DOUBLE_INDEX, INDIRECT_INDEXES}
use Rattle.disk.specs.Crash.{Image}
use Rattle.nfs_spec.specs.Model.Tree.{Tree}
use Rattle.layout.specs.declared.geometry.Geometry.{Geometry}
use Rattle.layout.specs.declared.inode.Inode.{Inode}
use Rattle.layout.specs.Decode.{doubled_in, is_used_pointer, numbers_in, numbers_of, pointer_blocks}
use Rattle.layout.specs.Fields.{number_bytes}
use Rattle.layout.specs.InodeForm.{is_data_block_or_none}
use Rattle.layout.specs.Owners.{owned_by}
use Rattle.layout.specs.Parts.{content_in}
use Rattle.layout.specs.Version.{has_double}
use Rattle.layout.proofs.FileNumbers.{in_parts, parts_pass, pass_pointers, pointers_are, pointers_pass}
use Rattle.layout.proofs.NumbersIn as inside
use Rattle.layout.proofs.NumbersIn.{doubled_pass, in_length, same_in}
use Rattle.inode.proofs.Placed.{passes_at}
use Rattle.inode_data.proofs.Owned.{direct_count, double_at_second, indirect_at_first, inner_behind, many_pointers}
use Rattle.inode_data.proofs.Owned.{not_pointer, own_pointer, pass_each, placed, pointers_apart}
use Rattle.inode_sizes.specs.Cut.{first_of, has_some, numbered, with_numbers, with_zeros}
use Rattle.inode_sizes.specs.CutBlocks.{IsCutOf, with_pointers}
use Rattle.inode_sizes.specs.Doubles.{row_left}
use Rattle.inode_sizes.specs.declared.cuts.CutPointers.{CutPointers}
use Rattle.inode_sizes.proofs.CutNumbers.{all_stay}
use Rattle.inode_sizes.proofs.FirstOnes.{first-length, first_all, first_both, none_first}
use Rattle.inode_sizes.proofs.InnersCut.{get_or-more, how_often, rows_stay}
use Rattle.inode_sizes.proofs.ReadBack.{left_over_any, left_over_none, left_over_passes, left_over_some, numbers_else, numbers_here}
use Rattle.inode_sizes.proofs.ReadBack.{read_back, used_one, zeros_else}
use Rattle.inode_sizes.proofs.RegularThere.{IsRegularThere, mapped, numbers, rules, was}

-- no block has no numbers
empty_in : (content : Image) (b k : ℕ) → nat_eq b 0 ≡ true → has_some (first_of k (numbers_in content b)) ≡ false
empty_in content b k none = none_first k (numbers_in content b) (inside.none_some content b none)

module _ (g : Geometry) (image : Image) (tree : Tree) (n : ℕ) (inode : Inode)
    (has : IsRegularThere g image tree n inode) (k : ℕ) (cut : CutPointers)
    (is : IsCutOf (content_in g image) inode k cut) where
  abbrev content : Image
  content = was g image tree n inode has

  abbrev all : List ℕ
  all = numbers g image tree n inode has

  abbrev pointers : List ℕ
  pointers = pointer_blocks content inode

  abbrev olds : List ℕ
  olds = numbers_in content inode.double

  abbrev pub news : List ℕ
  news = cut.double.inners.numbers.items

  abbrev test : ℕ → Bool
  test = is_data_block_or_none g

  abbrev c : ℕ
  c = k - FIRST_DOUBLE_INDEX

  -- the inner block through which the cut goes
  abbrev p : ℕ
  p = c / INDIRECT_INDEXES

  abbrev left : ℕ → List ℕ
  left i = row_left (numbers_in content) olds c i

  olds_long : length olds ≡ INDIRECT_INDEXES
  olds_long = in_length content inode.double

  pub news_long : length news ≡ INDIRECT_INDEXES
  news_long = let same = is.further.inners.long in let long = olds_long in omega (arith, same, long)

  left_long : (i : ℕ) → length (left i) ≡ INDIRECT_INDEXES
  left_long i = first-length (c - INDIRECT_INDEXES * i) (numbers_in content (get_or olds i 0))
      ∙ in_length content (get_or olds i 0)

  -- ---- which pointer blocks they were

  indirect_was : nat_eq cut.indirect_part.pointer 0 ≡ false → get_or pointers 0 0 ≡ cut.indirect_part.pointer
  indirect_was some = indirect_at_first g image tree n inode (mapped g image tree n inode has)
      ∙ left_over_some inode.indirect cut.indirect_part.pointer cut.indirect_part.numbers.items is.indirect_part.pointer_is some

  double_was : nat_eq cut.double.pointer 0 ≡ false → get_or pointers 1 0 ≡ cut.double.pointer
  double_was some = double_at_second g image tree n inode (mapped g image tree n inode has)
      ∙ left_over_some inode.double cut.double.pointer news is.further.pointer_is some

  inner_was : (i : ℕ) → i < INDIRECT_INDEXES → nat_eq (get_or news i 0) 0 ≡ false
      → get_or olds i 0 ≡ get_or news i 0
  inner_was i less some =
      let long = olds_long in
      left_over_some (get_or olds i 0) (get_or news i 0) (left i)
      (is.further.inners.numbers_are i (omega (arith, less, long))) some

  part_low : nat_eq cut.double.inners.part 0 ≡ false → p < INDIRECT_INDEXES
  part_low some =
      let long = news_long in
      let less = get_or-more news 0 p (ap (λ x. nat_eq x 0) (sym is.further.inners.part_is) ∙ some) in
      omega (arith, long, less)

  part_was : nat_eq cut.double.inners.part 0 ≡ false → get_or pointers (2 + p) 0 ≡ cut.double.inners.part
  part_was some =
      inner_behind g image tree n inode (mapped g image tree n inode has) p
      ∙ inner_was p (part_low some) (ap (λ x. nat_eq x 0) (sym is.further.inners.part_is) ∙ some)
      ∙ sym is.further.inners.part_is

  -- ---- what is placed

  numbers_placed : (list_all test inode.direct ≡ true) × (list_all test (numbers_in content inode.indirect) ≡ true)
      × (list_all test (doubled_in content inode.double) ≡ true)
  numbers_placed = parts_pass content inode test (rules g image tree n inode has).mapped.numbers

  pointers_placed : (test inode.indirect ≡ true) × (test inode.double ≡ true) × (list_all test olds ≡ true)
  pointers_placed = pointers_pass content inode test (rules g image tree n inode has).mapped.pointers

  inner_placed : (i : ℕ) → list_all test (numbers_in content (get_or olds i 0)) ≡ true
  inner_placed i =
      passes_at (λ inner. list_all test (numbers_in content inner)) olds i
      (inside.none_pass content 0 refl test refl)
      (sym (doubled_pass content inode.double test) ∙ numbers_placed.2)

  left_placed : (i : ℕ) → list_all test (left i) ≡ true
  left_placed i = all_stay test (c - INDIRECT_INDEXES * i) (numbers_in content (get_or olds i 0)) (inner_placed i) refl

  pub indirect_part_placed : test cut.indirect_part.pointer ≡ true
  indirect_part_placed =
      left_over_passes test inode.indirect cut.indirect_part.pointer cut.indirect_part.numbers.items refl is.indirect_part.pointer_is pointers_placed.0

  pub double_placed : test cut.double.pointer ≡ true
  double_placed = left_over_passes test inode.double cut.double.pointer news refl is.further.pointer_is pointers_placed.1

  pub news_placed : list_all test news ≡ true
  news_placed = pass_each test news (λ i less.
      let long = is.further.inners.long in
      left_over_passes test (get_or olds i 0) (get_or news i 0) (left i) refl
      (is.further.inners.numbers_are i (omega (arith, less, long))) (passes_at test olds i refl pointers_placed.2))

  -- what the inode names itself
  pub direct_long : length cut.direct_part.numbers.items ≡ DIRECT_INDEXES
  direct_long = ap (λ (l : List ℕ). length l) is.direct_part ∙ first-length k inode.direct
      ∙ direct_count g image tree n inode (mapped g image tree n inode has)

  pub direct_placed : list_all test cut.direct_part.numbers.items ≡ true
  direct_placed = ap (list_all test) is.direct_part ∙ all_stay test k inode.direct numbers_placed.0 refl

  pub double_allowed : (nat_eq cut.double.pointer 0 || has_double g.version) ≡ true
  double_allowed = by_test (has_some news) is.further.pointer_is
    where
      by_test : (t : Bool) → cut.double.pointer ≡ cond t inode.double 0
          → (nat_eq cut.double.pointer 0 || has_double g.version) ≡ true
      by_test true e = ap (λ x. nat_eq x 0 || has_double g.version) e
          ∙ (placed g image tree n inode (mapped g image tree n inode has)).3
      by_test false e = ap (λ x. nat_eq x 0 || has_double g.version) e

  -- the pointer blocks that stay are its own
  own_pointer_at : (i a : ℕ) → i < 2 + INDIRECT_INDEXES → get_or pointers i 0 ≡ a → nat_eq a 0 ≡ false
      → 1 ≤ how_often a (owned_by content (Ok (Some inode)))
  own_pointer_at i a less at_i some =
      let long = many_pointers g image tree n inode (mapped g image tree n inode has) in
      subst (λ q. 1 ≤ how_often q (owned_by content (Ok (Some inode)))) at_i
      (own_pointer g image tree n inode (mapped g image tree n inode has) i (omega (arith, less, long))
      (ap (λ q. nat_eq q 0) at_i ∙ some))

  pub indirect_own : nat_eq cut.indirect_part.pointer 0 ≡ false
      → 1 ≤ how_often cut.indirect_part.pointer (owned_by content (Ok (Some inode)))
  indirect_own some = own_pointer_at 0 cut.indirect_part.pointer (omega arith) (indirect_was some) some

  pub double_own : nat_eq cut.double.pointer 0 ≡ false
      → 1 ≤ how_often cut.double.pointer (owned_by content (Ok (Some inode)))
  double_own some = own_pointer_at 1 cut.double.pointer (omega arith) (double_was some) some

  pub part_own : nat_eq cut.double.inners.part 0 ≡ false
      → 1 ≤ how_often cut.double.inners.part (owned_by content (Ok (Some inode)))
  part_own some =
      let few = part_low some in
      own_pointer_at (2 + p) cut.double.inners.part (omega (arith, few)) (part_was some) some

  -- ---- what the blocks are

  module _ (last from at : ℕ) (low : at < length all) (last_is : nat_eq last 0 ≡ false → get_or all at 0 ≡ last) where
    abbrev zs : Image
    zs = with_zeros content last from

    abbrev pub after : Image
    after = with_pointers zs cut

    -- what is no pointer block that is written
    pub unwritten : (b : ℕ) → (nat_eq cut.indirect_part.pointer 0 ≡ false → b ≡ cut.indirect_part.pointer → ⊥)
        → (nat_eq cut.double.inners.part 0 ≡ false → b ≡ cut.double.inners.part → ⊥)
        → (nat_eq cut.double.pointer 0 ≡ false → b ≡ cut.double.pointer → ⊥) → after b ≡ zs b
    unwritten b not_indirect not_part not_double =
        numbers_else (with_numbers (with_numbers zs cut.indirect_part.pointer cut.indirect_part.numbers.items) cut.double.inners.part
        cut.double.inners.part_numbers.items) cut.double.pointer news b not_double
        ∙ numbers_else (with_numbers zs cut.indirect_part.pointer cut.indirect_part.numbers.items) cut.double.inners.part
        cut.double.inners.part_numbers.items b not_part
        ∙ numbers_else zs cut.indirect_part.pointer cut.indirect_part.numbers.items b not_indirect

    pointers_long : length pointers ≡ 2 + INDIRECT_INDEXES
    pointers_long = many_pointers g image tree n inode (mapped g image tree n inode has)

    differ : (i j : ℕ) → (i ≡ j → ⊥) → i < 2 + INDIRECT_INDEXES → j < 2 + INDIRECT_INDEXES → (a b : ℕ)
        → get_or pointers i 0 ≡ a → get_or pointers j 0 ≡ b → nat_eq b 0 ≡ false → a ≡ b → ⊥
    differ i j other one two a b at_i at_j some same =
        let long = pointers_long in
        pointers_apart g image tree n inode (mapped g image tree n inode has) i j other (omega (arith, one, long))
        (omega (arith, two, long)) (at_i ∙ same ∙ sym at_j) (ap (λ x. nat_eq x 0) at_j ∙ some)

    -- a number's block is none of them
    number_differs : (i j : ℕ) → i < 2 + INDIRECT_INDEXES → j < length all → (a : ℕ) → get_or pointers i 0 ≡ a
        → nat_eq (get_or all j 0) 0 ≡ false → get_or all j 0 ≡ a → ⊥
    number_differs i j one two a at_i some same =
        let long = pointers_long in
        not_pointer g image tree n inode (mapped g image tree n inode has) i j (omega (arith, one, long)) two some
        (at_i ∙ sym same)

    -- a pointer block isn't the last block
    not_last : (i : ℕ) → i < 2 + INDIRECT_INDEXES → nat_eq last 0 ≡ false → get_or pointers i 0 ≡ last → ⊥
    not_last i less some same =
        number_differs i at less low last same (ap (λ x. nat_eq x 0) (last_is some) ∙ some) (last_is some)

    -- and a number's block is none that is written
    pub number_unwritten : (j : ℕ) → j < length all → nat_eq (get_or all j 0) 0 ≡ false
        → after (get_or all j 0) ≡ zs (get_or all j 0)
    number_unwritten j less some =
        unwritten (get_or all j 0)
        (λ some_b same. number_differs 0 j (omega arith) less cut.indirect_part.pointer (indirect_was some_b) some same)
        (λ some_b same. let few = part_low some_b in
        number_differs (2 + p) j (omega (arith, few)) less cut.double.inners.part (part_was some_b) some same)
        (λ some_b same. number_differs 1 j (omega arith) less cut.double.pointer (double_was some_b) some same)

    indirect_written : nat_eq cut.indirect_part.pointer 0 ≡ false → after cut.indirect_part.pointer ≡ number_bytes cut.indirect_part.numbers.items
    indirect_written some =
        numbers_else (with_numbers (with_numbers zs cut.indirect_part.pointer cut.indirect_part.numbers.items) cut.double.inners.part
        cut.double.inners.part_numbers.items) cut.double.pointer news cut.indirect_part.pointer
        (λ some_b same. differ 0 1 (λ e. omega (arith, e)) (omega arith) (omega arith) cut.indirect_part.pointer
        cut.double.pointer (indirect_was some) (double_was some_b) some_b same)
        ∙ numbers_else (with_numbers zs cut.indirect_part.pointer cut.indirect_part.numbers.items) cut.double.inners.part
        cut.double.inners.part_numbers.items cut.indirect_part.pointer
        (λ some_b same. let few = part_low some_b in
        differ 0 (2 + p) (λ e. omega (arith, e)) (omega arith) (omega (arith, few)) cut.indirect_part.pointer
        cut.double.inners.part (indirect_was some) (part_was some_b) some_b same)
        ∙ numbers_here zs cut.indirect_part.pointer cut.indirect_part.numbers.items some

    part_written : nat_eq cut.double.inners.part 0 ≡ false
        → after cut.double.inners.part ≡ number_bytes cut.double.inners.part_numbers.items
    part_written some =
        numbers_else (with_numbers (with_numbers zs cut.indirect_part.pointer cut.indirect_part.numbers.items) cut.double.inners.part
        cut.double.inners.part_numbers.items) cut.double.pointer news cut.double.inners.part
        (λ some_b same. let few = part_low some in
        differ (2 + p) 1 (λ e. omega (arith, e)) (omega (arith, few)) (omega arith) cut.double.inners.part
        cut.double.pointer (part_was some) (double_was some_b) some_b same)
        ∙ numbers_here (with_numbers zs cut.indirect_part.pointer cut.indirect_part.numbers.items) cut.double.inners.part
        cut.double.inners.part_numbers.items some

    double_written : nat_eq cut.double.pointer 0 ≡ false → after cut.double.pointer ≡ number_bytes news
    double_written some =
        numbers_here (with_numbers (with_numbers zs cut.indirect_part.pointer cut.indirect_part.numbers.items) cut.double.inners.part
        cut.double.inners.part_numbers.items) cut.double.pointer news some

    -- another inner block
    inner_same : (i : ℕ) → i < INDIRECT_INDEXES → (i ≡ p → ⊥) → nat_eq (get_or olds i 0) 0 ≡ false
        → after (get_or olds i 0) ≡ content (get_or olds i 0)
    inner_same i less other some =
        unwritten (get_or olds i 0)
        (λ some_b same. differ (2 + i) 0 (λ e. omega (arith, e)) (omega (arith, less)) (omega arith) (get_or olds i 0)
        cut.indirect_part.pointer there (indirect_was some_b) some_b same)
        (λ some_b same. let few = part_low some_b in
        differ (2 + i) (2 + p) (λ e. other (omega (arith, e))) (omega (arith, less)) (omega (arith, few))
        (get_or olds i 0) cut.double.inners.part there (part_was some_b) some_b same)
        (λ some_b same. differ (2 + i) 1 (λ e. omega (arith, e)) (omega (arith, less)) (omega arith) (get_or olds i 0)
        cut.double.pointer there (double_was some_b) some_b same)
        ∙ zeros_else content last from (get_or olds i 0)
        (λ some_b same. not_last (2 + i) (omega (arith, less)) some_b (there ∙ same))
      where
        there : get_or pointers (2 + i) 0 ≡ get_or olds i 0
        there = inner_behind g image tree n inode (mapped g image tree n inode has) i

    -- ---- the numbers in them

    indirect_read : numbers_in after cut.indirect_part.pointer ≡ cut.indirect_part.numbers.items
    indirect_read =
        read_back g after cut.indirect_part.pointer cut.indirect_part.numbers.items
        (ap (λ (l : List ℕ). length l) is.indirect_part.numbers_are
        ∙ first-length (k - DIRECT_INDEXES) (numbers_in content inode.indirect) ∙ in_length content inode.indirect)
        (ap (list_all test) is.indirect_part.numbers_are
        ∙ all_stay test (k - DIRECT_INDEXES) (numbers_in content inode.indirect) numbers_placed.1 refl)
        indirect_written
        (left_over_none inode.indirect cut.indirect_part.pointer cut.indirect_part.numbers.items is.indirect_part.pointer_is
        (λ none. ap has_some is.indirect_part.numbers_are ∙ empty_in content inode.indirect (k - DIRECT_INDEXES) none))

    left_empty : (i : ℕ) → i < INDIRECT_INDEXES → nat_eq (get_or news i 0) 0 ≡ true → has_some (left i) ≡ false
    left_empty i less =
        let long = olds_long in
        left_over_none (get_or olds i 0) (get_or news i 0) (left i)
        (is.further.inners.numbers_are i (omega (arith, less, long)))
        (λ none. empty_in content (get_or olds i 0) (c - INDIRECT_INDEXES * i) none)

    left_some : (i : ℕ) → i < INDIRECT_INDEXES → nat_eq (get_or news i 0) 0 ≡ false → has_some (left i) ≡ true
    left_some i less =
        let long = olds_long in
        left_over_any (get_or olds i 0) (get_or news i 0) (left i)
        (is.further.inners.numbers_are i (omega (arith, less, long)))

    -- nothing stays behind the cut
    none_past : (i : ℕ) → p < i → has_some (left i) ≡ false
    none_past i past =
        ap (λ m. has_some (first_of m (numbers_in content (get_or olds i 0)))) none
        ∙ none_of (numbers_in content (get_or olds i 0))
      where
        none : c - INDIRECT_INDEXES * i ≡ 0
        none = omega (arith, past)

        none_of : (l : List ℕ) → has_some (first_of 0 l) ≡ false
        none_of [] = refl
        none_of (x ∷ l) = no_zeros (suc (length l) - 0)
          where
            no_zeros : (m : ℕ) → has_some (replicate m 0) ≡ false
            no_zeros zero = refl
            no_zeros (suc m) = no_zeros m

    -- and before it everything does
    all_before : (i : ℕ) → i < p → left i ≡ numbers_in content (get_or olds i 0)
    all_before i before =
        first_all (c - INDIRECT_INDEXES * i) (numbers_in content (get_or olds i 0))
        (let long = in_length content (get_or olds i 0) in omega (arith, before, long))

    row_there : (i : ℕ) → i < INDIRECT_INDEXES → (i ≡ p → ⊥) → nat_eq (get_or news i 0) 0 ≡ false
        → numbers_in after (get_or news i 0) ≡ left i
    row_there i less other some = elim (cases_lt i p) [
      | inl before ↦
          ap (numbers_in after) (sym (inner_was i less some))
          ∙ same_in after content (get_or olds i 0) (inner_same i less other) ∙ sym (all_before i before)
      | inr past ↦ (
          let clash : true ≡ false = sym (left_some i less some) ∙ none_past i (beyond past) in cc)
    ]
      where
        beyond : p ≤ i → p < i
        beyond past = omega (arith, past, other)

    other_row : (i : ℕ) → i < INDIRECT_INDEXES → (i ≡ p → ⊥) → numbers_in after (get_or news i 0) ≡ left i
    other_row i less other = by_test (nat_eq (get_or news i 0) 0) refl
      where
        by_test : (t : Bool) → nat_eq (get_or news i 0) 0 ≡ t → numbers_in after (get_or news i 0) ≡ left i
        by_test true e =
            read_back g after (get_or news i 0) (left i) (left_long i) (left_placed i)
            (λ some. absurd (clash (e ∙ refl) some)) (left_empty i less)
          where
            clash : nat_eq (get_or news i 0) 0 ≡ true → nat_eq (get_or news i 0) 0 ≡ false → ⊥
            clash none some = let both : true ≡ false = sym none ∙ some in cc
        by_test false e = row_there i less other e

    part_row : p < INDIRECT_INDEXES → numbers_in after (get_or news p 0) ≡ left p
    part_row less =
        read_back g after (get_or news p 0) (left p) (left_long p) (left_placed p)
        (λ some.
        let some_part = ap (λ x. nat_eq x 0) is.further.inners.part_is ∙ some in
        ap after (sym is.further.inners.part_is) ∙ part_written some_part
        ∙ ap number_bytes (is.further.inners.part_numbers_are some_part))
        (left_empty p less)

    pub row_now : (i : ℕ) → i < INDIRECT_INDEXES → numbers_in after (get_or news i 0) ≡ left i
    row_now i less = elim (cases_eq i p) [
      | inl here ↦
          (λ t. numbers_in after (get_or news (here t) 0)) ∙ part_row (below here)
          ∙ ap (λ (q : ℕ). left q) (sym here)
      | inr other ↦ other_row i less other
    ]
      where
        below : i ≡ p → p < INDIRECT_INDEXES
        below here = omega (arith, here, less)

    top_read : numbers_in after cut.double.pointer ≡ news
    top_read =
        read_back g after cut.double.pointer news news_long news_placed double_written
        (left_over_none inode.double cut.double.pointer news is.further.pointer_is no_inner)
      where
        no_inner : nat_eq inode.double 0 ≡ true → has_some news ≡ false
        no_inner none = all_zero news (λ i less.
            let long = is.further.inners.long in
            is.further.inners.numbers_are i (omega (arith, less, long))
            ∙ by_test (has_some (left i)) (inside.none_at content inode.double none i))
          where
            by_test : (t : Bool) {x : ℕ} → x ≡ 0 → cond t x 0 ≡ 0
            by_test true e = e
            by_test false e = refl

            all_zero : (xs : List ℕ) → ((i : ℕ) → i < length xs → get_or xs i 0 ≡ 0) → has_some xs ≡ false
            all_zero [] none = refl
            all_zero (x ∷ xs) none =
                ap (λ t. not t || has_some xs) (eq-eqb x 0 (none 0 (omega arith)))
                ∙ all_zero xs (λ i less. none (suc i) (omega (arith, less)))

    doubled_now : doubled_in after cut.double.pointer ≡ first_of c (doubled_in content inode.double)
    unfolding doubled_in
    doubled_now =
        ap (flat_map (numbers_in after)) top_read
        ∙ rows_stay (numbers_in content) (in_length content) (numbers_in after) olds news c is.further.inners.long
        (λ i less. let long = olds_long in row_now i (omega (arith, less, long)))

    -- ---- the file's

    module _ (shown : Inode) (size : ℕ) where
      abbrev pub new : Inode
      new = numbered shown size cut.direct_part.numbers.items cut.indirect_part.pointer cut.double.pointer

      pub all_left : first_of k all ≡ cut.direct_part.numbers.items ++ cut.indirect_part.numbers.items
          ++ first_of c (doubled_in content inode.double)
      all_left =
          let eight = direct_count g image tree n inode (mapped g image tree n inode has) in
          let wide = in_length content inode.indirect in
          let direct_part = length-append inode.direct (numbers_in content inode.indirect) in
          let past : k - length (inode.direct ++ numbers_in content inode.indirect) ≡ c =
          omega (arith, direct_part, wide, eight) in
          let behind : k - length inode.direct ≡ k - DIRECT_INDEXES = omega (arith, eight) in
          ap (first_of k) (in_parts content inode)
          ∙ first_both k (inode.direct ++ numbers_in content inode.indirect) (doubled_in content inode.double)
          ∙ (λ i. first_both k inode.direct (numbers_in content inode.indirect) i
          ++ first_of (past i) (doubled_in content inode.double))
          ∙ (λ i. sym is.direct_part i ++ (ap (λ m. first_of m (numbers_in content inode.indirect)) behind
          ∙ sym is.indirect_part.numbers_are) i ++ first_of c (doubled_in content inode.double))

      pub numbers_now : numbers_of after new ≡ first_of k all
      numbers_now =
          in_parts after new
          ∙ (λ i. cut.direct_part.numbers.items ++ indirect_read i ++ doubled_now i) ∙ sym all_left

      pub pointers_now : pointer_blocks after new ≡ cut.indirect_part.pointer ∷ cut.double.pointer ∷ news
      pointers_now =
          pointers_are after new ∙ ap (λ l. cut.indirect_part.pointer ∷ cut.double.pointer ∷ l) top_read

      pub pointers_used : list_all (is_used_pointer after) (pointer_blocks after new) ≡ true
      pointers_used =
          pass_pointers after new (is_used_pointer after)
          (used_one after cut.indirect_part.pointer cut.indirect_part.numbers.items indirect_read
          (left_over_any inode.indirect cut.indirect_part.pointer cut.indirect_part.numbers.items is.indirect_part.pointer_is))
          (used_one after cut.double.pointer news top_read
          (left_over_any inode.double cut.double.pointer news is.further.pointer_is))
          (ap (list_all (is_used_pointer after)) top_read
          ∙ pass_each (is_used_pointer after) news (λ i less.
          let long = news_long in
          let low : i < INDIRECT_INDEXES = omega (arith, less, long) in
          used_one after (get_or news i 0) (left i) (row_now i low) (left_some i low)))

      pub all_pointers_placed : list_all test (pointer_blocks after new) ≡ true
      all_pointers_placed =
          pass_pointers after new test indirect_part_placed double_placed (ap (list_all test) top_read ∙ news_placed)
