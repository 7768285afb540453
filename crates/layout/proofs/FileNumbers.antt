-- The numbers of a file's blocks: which stands at an index, what all of them pass, and how many are those of blocks.
use Rattle.std.proofs.Common.{◌≡◌, ℕ, ◌+◌, ◌-◌, ◌*◌, ◌/◌, ◌%◌, ◌<◌, ◌≤◌, sym, ap, ◌∙◌, refl, Bool, true, ◌&&◌}
use Rattle.std.proofs.Common.{List, [], ◌∷◌, ◌++◌, cond, not, length, take, drop, filter, get_or, nat_eq, arith}
use Rattle.std.proofs.Common.{length-append}
use Rattle.std.specs.List.{list_all}
use Rattle.std.proofs.Math.Seq.{drop-append-add, drop-append_seam, take-append_seam}
use Rattle.std.proofs.lemmas.List.{append-nil, append_assoc, get_or-append-add, get_or-append_right, get_or_append_left}
use Rattle.std.proofs.lemmas.List.{take-append-le}
use Rattle.std.proofs.lemmas.List.Elements.{filter-append}
use Rattle.std.proofs.lemmas.List.Folds.{list_all-append}
use Rattle.std.proofs.lemmas.List.Sums.{sum_by-append}
use Rattle.std.proofs.lemmas.Nat.{div-add-mod'}
use Rattle.base.specs.declared.TheConstants.{DIRECT_INDEXES, FILE_INDEXES, FIRST_DOUBLE_INDEX, INDIRECT_INDEXES}
use Rattle.disk.specs.Crash.{Image}
use Rattle.layout.specs.declared.inode.Inode.{Inode}
use Rattle.layout.specs.Decode.{doubled_in, numbers_in, numbers_of, pointer_blocks}
use Rattle.layout.specs.Fields.{count_of}
use Rattle.layout.proofs.NumbersIn.{doubled_at, in_length, no_double_left, no_double_pass}
use Rattle.layout.proofs.NumbersIn.{none_left, none_pass}
use Rattle.layout.proofs.Pieces.{piece_of}
use Rattle.layout.proofs.Respelled.{all_two}

abbrev is_some : ℕ → Bool
is_some number = not (nat_eq number 0)

module _ (blocks : Image) (inode : Inode) where
  -- the numbers that don't lie below the double indirect block
  abbrev pub numbers_before_double : List ℕ
  numbers_before_double = inode.direct ++ numbers_in blocks inode.indirect

  -- those that the inode names itself, then those in its indirect block, then those that the double one reaches
  pub in_parts : numbers_of blocks inode
      ≡ inode.direct ++ numbers_in blocks inode.indirect ++ doubled_in blocks inode.double
  unfolding numbers_of
  in_parts = refl

  -- the first are those that the inode names itself
  pub first_numbers : (count : ℕ) → count ≤ length inode.direct
      → take count (numbers_of blocks inode) ≡ take count inode.direct
  unfolding numbers_of
  first_numbers count few =
      let both = length-append inode.direct (numbers_in blocks inode.indirect) in
      take-append-le count numbers_before_double (doubled_in blocks inode.double) (omega (arith, few, both))
      ∙ take-append-le count inode.direct (numbers_in blocks inode.indirect) few

  -- what lies behind those
  pub past_direct : drop (length inode.direct) (numbers_of blocks inode)
      ≡ numbers_in blocks inode.indirect ++ doubled_in blocks inode.double
  unfolding numbers_of
  past_direct =
      ap (drop (length inode.direct))
      (append_assoc inode.direct (numbers_in blocks inode.indirect) (doubled_in blocks inode.double))
      ∙ drop-append_seam inode.direct (numbers_in blocks inode.indirect ++ doubled_in blocks inode.double)

  module _ (direct : length inode.direct ≡ DIRECT_INDEXES) where
    length_before_double : length numbers_before_double ≡ FIRST_DOUBLE_INDEX
    length_before_double =
        let indirect_block = in_length blocks inode.indirect in
        let first = length-append inode.direct (numbers_in blocks inode.indirect) in
        omega (arith, first, indirect_block, direct)

    pub first_direct : take DIRECT_INDEXES (numbers_of blocks inode) ≡ inode.direct
    first_direct =
        ap (λ n. take n (numbers_of blocks inode)) (sym direct)
        ∙ first_numbers (length inode.direct) (omega arith)
        ∙ ap (take (length inode.direct)) (sym (append-nil inode.direct))
        ∙ take-append_seam inode.direct []

    -- so many of the first lie in no inner block: what a directory spans
    pub first_ones : (count : ℕ) → count ≤ FIRST_DOUBLE_INDEX
        → take count (numbers_of blocks inode) ≡ take count numbers_before_double
    unfolding numbers_of
    first_ones count few =
        let long = length_before_double in
        take-append-le count numbers_before_double (doubled_in blocks inode.double) (omega (arith, few, long))

    pub past_indirect : drop FIRST_DOUBLE_INDEX (numbers_of blocks inode) ≡ doubled_in blocks inode.double
    unfolding numbers_of
    past_indirect =
        ap (λ n. drop n (numbers_before_double ++ doubled_in blocks inode.double)) (sym length_before_double)
        ∙ drop-append_seam numbers_before_double (doubled_in blocks inode.double)

    pub middle : take INDIRECT_INDEXES (drop DIRECT_INDEXES (numbers_of blocks inode)) ≡ numbers_in blocks inode.indirect
    middle =
        let indirect_block = in_length blocks inode.indirect in
        ap (λ n. take INDIRECT_INDEXES (drop n (numbers_of blocks inode))) (sym direct)
        ∙ ap (take INDIRECT_INDEXES) past_direct
        ∙ ap (λ n. take n (numbers_in blocks inode.indirect ++ doubled_in blocks inode.double)) (sym indirect_block)
        ∙ take-append_seam (numbers_in blocks inode.indirect) (doubled_in blocks inode.double)

    -- the numbers in an inner block
    pub inner_part : (inner : ℕ) → inner < INDIRECT_INDEXES
        → take INDIRECT_INDEXES (drop (FIRST_DOUBLE_INDEX + inner * INDIRECT_INDEXES) (numbers_of blocks inode))
        ≡ numbers_in blocks (get_or (numbers_in blocks inode.double) inner 0)
    unfolding numbers_of doubled_in
    inner_part inner row =
        let long = in_length blocks inode.double in
        ap (λ n. take INDIRECT_INDEXES (drop (n + inner * INDIRECT_INDEXES)
        (numbers_before_double ++ doubled_in blocks inode.double))) (sym length_before_double)
        ∙ ap (take INDIRECT_INDEXES)
        (drop-append-add numbers_before_double (doubled_in blocks inode.double) (inner * INDIRECT_INDEXES))
        ∙ piece_of (numbers_in blocks) INDIRECT_INDEXES (in_length blocks) (numbers_in blocks inode.double) inner
        (omega (arith, row, long))

    module _ (index : ℕ) where
      -- the number at an index: one that the inode names itself
      pub direct_at : index < DIRECT_INDEXES → get_or (numbers_of blocks inode) index 0 ≡ get_or inode.direct index 0
      unfolding numbers_of
      direct_at lower_part =
          let long = length_before_double in
          get_or_append_left numbers_before_double (doubled_in blocks inode.double) 0 index (omega (arith, lower_part, long))
          ∙ get_or_append_left inode.direct (numbers_in blocks inode.indirect) 0 index (omega (arith, lower_part, direct))

      -- or one in the indirect block
      pub indirect_at : DIRECT_INDEXES ≤ index → index < FIRST_DOUBLE_INDEX
          → get_or (numbers_of blocks inode) index 0
          ≡ get_or (numbers_in blocks inode.indirect) (index - DIRECT_INDEXES) 0
      unfolding numbers_of
      indirect_at past within =
          let long = length_before_double in
          get_or_append_left numbers_before_double (doubled_in blocks inode.double) 0 index (omega (arith, within, long))
          ∙ get_or-append_right inode.direct (numbers_in blocks inode.indirect) DIRECT_INDEXES index 0 direct past

    -- or one in an inner block
    pub double_at : (inner j : ℕ) → inner < INDIRECT_INDEXES → j < INDIRECT_INDEXES
        → get_or (numbers_of blocks inode) (FIRST_DOUBLE_INDEX + (inner * INDIRECT_INDEXES + j)) 0
        ≡ get_or (numbers_in blocks (get_or (numbers_in blocks inode.double) inner 0)) j 0
    unfolding numbers_of
    double_at inner j row column =
        ap (λ n. get_or (numbers_before_double ++ doubled_in blocks inode.double) (n + (inner * INDIRECT_INDEXES + j)) 0)
        (sym length_before_double)
        ∙ get_or-append-add numbers_before_double (doubled_in blocks inode.double) (inner * INDIRECT_INDEXES + j) 0
        ∙ doubled_at blocks inode.double inner j row column

    pub inner_at : (index : ℕ) → FIRST_DOUBLE_INDEX ≤ index → index < FILE_INDEXES
        → get_or (numbers_of blocks inode) index 0
        ≡ get_or (numbers_in blocks (get_or (numbers_in blocks inode.double)
        ((index - FIRST_DOUBLE_INDEX) / INDIRECT_INDEXES) 0)) ((index - FIRST_DOUBLE_INDEX) % INDIRECT_INDEXES) 0
    inner_at index past less =
        let split : (index - FIRST_DOUBLE_INDEX) / INDIRECT_INDEXES * INDIRECT_INDEXES
        + (index - FIRST_DOUBLE_INDEX) % INDIRECT_INDEXES ≡ index - FIRST_DOUBLE_INDEX =
        div-add-mod' (index - FIRST_DOUBLE_INDEX) INDIRECT_INDEXES in
        let at : index ≡ FIRST_DOUBLE_INDEX + ((index - FIRST_DOUBLE_INDEX) / INDIRECT_INDEXES * INDIRECT_INDEXES
        + (index - FIRST_DOUBLE_INDEX) % INDIRECT_INDEXES) = omega (arith, split, past) in
        ap (λ n. get_or (numbers_of blocks inode) n 0) at
        ∙ double_at ((index - FIRST_DOUBLE_INDEX) / INDIRECT_INDEXES) ((index - FIRST_DOUBLE_INDEX) % INDIRECT_INDEXES)
        (omega (arith, past, less)) (omega arith)

  -- what all of them pass, those of each part do
  pub parts_pass : (test : ℕ → Bool) → list_all test (numbers_of blocks inode) ≡ true
      → (list_all test inode.direct ≡ true) × (list_all test (numbers_in blocks inode.indirect) ≡ true)
      × (list_all test (doubled_in blocks inode.double) ≡ true)
  unfolding numbers_of
  parts_pass test all =
      let two = all_two (list_all test numbers_before_double) (list_all test (doubled_in blocks inode.double))
      (sym (list_all-append test numbers_before_double (doubled_in blocks inode.double)) ∙ all) in
      let first = all_two (list_all test inode.direct) (list_all test (numbers_in blocks inode.indirect))
      (sym (list_all-append test inode.direct (numbers_in blocks inode.indirect)) ∙ two.0) in
      (first.0, first.1, two.1)

  -- and what those of each part do, all of them pass
  pub all_pass : (test : ℕ → Bool) → list_all test inode.direct ≡ true
      → list_all test (numbers_in blocks inode.indirect) ≡ true
      → list_all test (doubled_in blocks inode.double) ≡ true → list_all test (numbers_of blocks inode) ≡ true
  unfolding numbers_of
  all_pass test lower_part indirect_block further =
      list_all-append test numbers_before_double (doubled_in blocks inode.double)
      ∙ ap (λ t. t && list_all test (doubled_in blocks inode.double))
      (list_all-append test inode.direct (numbers_in blocks inode.indirect))
      ∙ (λ i. lower_part i && indirect_block i && further i)

  -- as many are those of blocks as in all parts
  pub counted_parts : count_of (numbers_of blocks inode)
      ≡ count_of inode.direct + count_of (numbers_in blocks inode.indirect) + count_of (doubled_in blocks inode.double)
  unfolding numbers_of
  counted_parts =
      sum_by-append (λ (n : ℕ). cond (is_some n) 1 0) numbers_before_double (doubled_in blocks inode.double)
      ∙ ap (λ k. k + count_of (doubled_in blocks inode.double))
      (sum_by-append (λ (n : ℕ). cond (is_some n) 1 0) inode.direct (numbers_in blocks inode.indirect))

  -- ---- the blocks that hold numbers

  pub pointers_are : pointer_blocks blocks inode
      ≡ inode.indirect ∷ inode.double ∷ numbers_in blocks inode.double
  unfolding pointer_blocks
  pointers_are = refl

  -- what all of them pass, each does
  pub pointers_pass : (test : ℕ → Bool) → list_all test (pointer_blocks blocks inode) ≡ true
      → (test inode.indirect ≡ true) × (test inode.double ≡ true)
      × (list_all test (numbers_in blocks inode.double) ≡ true)
  unfolding pointer_blocks
  pointers_pass test all =
      let one = all_two (test inode.indirect) (test inode.double && list_all test (numbers_in blocks inode.double)) all in
      let two = all_two (test inode.double) (list_all test (numbers_in blocks inode.double)) one.1 in
      (one.0, two.0, two.1)

  -- and back
  pub pass_pointers : (test : ℕ → Bool) → test inode.indirect ≡ true → test inode.double ≡ true
      → list_all test (numbers_in blocks inode.double) ≡ true → list_all test (pointer_blocks blocks inode) ≡ true
  unfolding pointer_blocks
  pass_pointers test indirect_block double inner = λ i. indirect_block i && (double i && inner i)

  -- ---- without a double indirect block

  module _ (no_double : nat_eq inode.double 0 ≡ true) where
    -- the indirect block alone holds numbers
    pub indirect_pointer : filter is_some (pointer_blocks blocks inode) ≡ filter is_some (inode.indirect ∷ [])
    unfolding pointer_blocks
    indirect_pointer =
        ap (λ l. cond (is_some inode.indirect) (inode.indirect ∷ l) l)
        (ap {B = List ℕ} (λ t. cond (not t) (inode.double ∷ some) some) no_double
        ∙ none_left blocks inode.double no_double)
      where
        some : List ℕ
        some = filter is_some (numbers_in blocks inode.double)

    -- what zeros and the indirect block pass all of them do
    pub pass_indirect_pointer : (test : ℕ → Bool) → test 0 ≡ true → test inode.indirect ≡ true
        → test inode.double ≡ true → list_all test (pointer_blocks blocks inode) ≡ true
    pass_indirect_pointer test is indirect_block double =
        pass_pointers test indirect_block double (none_pass blocks inode.double no_double test is)

    pub indirect_pass : (test : ℕ → Bool) → test 0 ≡ true → list_all test inode.direct ≡ true
        → list_all test (numbers_in blocks inode.indirect) ≡ true → list_all test (numbers_of blocks inode) ≡ true
    indirect_pass test is lower_part indirect_block = all_pass test lower_part indirect_block (no_double_pass blocks inode.double no_double test is)

    -- its blocks are those that it names itself, and those of its indirect block
    pub indirect_owned : filter is_some (pointer_blocks blocks inode ++ numbers_of blocks inode)
        ≡ filter is_some (inode.indirect ∷ numbers_before_double)
    unfolding numbers_of
    indirect_owned =
        filter-append is_some (pointer_blocks blocks inode) (numbers_before_double ++ doubled_in blocks inode.double)
        ∙ (λ i. indirect_pointer i ++ behind i)
        ∙ sym (filter-append is_some (inode.indirect ∷ []) numbers_before_double)
      where
        behind : filter is_some (numbers_before_double ++ doubled_in blocks inode.double) ≡ filter is_some numbers_before_double
        behind =
            filter-append is_some numbers_before_double (doubled_in blocks inode.double)
            ∙ ap (λ l. filter is_some numbers_before_double ++ l) (no_double_left blocks inode.double no_double)
            ∙ append-nil (filter is_some numbers_before_double)

    module _ (none : nat_eq inode.indirect 0 ≡ true) where
      -- without a pointer block all of them pass what those do that the inode names itself
      pub direct_pass : (test : ℕ → Bool) → test 0 ≡ true → list_all test inode.direct ≡ true
          → list_all test (numbers_of blocks inode) ≡ true
      direct_pass test is lower_part = indirect_pass test is lower_part (none_pass blocks inode.indirect none test is)

      -- and it has no other blocks than those
      pub direct_owned : filter is_some (pointer_blocks blocks inode ++ numbers_of blocks inode) ≡ filter is_some inode.direct
      direct_owned =
          indirect_owned
          ∙ ap {B = List ℕ} (λ t. cond (not t) (inode.indirect ∷ some) some) none
          ∙ filter-append is_some inode.direct (numbers_in blocks inode.indirect)
          ∙ ap (λ l. filter is_some inode.direct ++ l) (none_left blocks inode.indirect none)
          ∙ append-nil (filter is_some inode.direct)
        where
          some : List ℕ
          some = filter is_some (inode.direct ++ numbers_in blocks inode.indirect)
