-- What the numbers of a file's blocks look at, and what they are with another at one index.
use Rattle.std.proofs.Common.{◌≡◌, ℕ, ◌+◌, ◌-◌, ◌*◌, ◌<◌, ◌≤◌, sym, ap, ◌∙◌, false, List, [], ◌∷◌, ◌++◌, length, set}
use Rattle.std.proofs.Common.{zero, suc, get_or, nat_eq, arith, length-append}
use Rattle.std.specs.List.{AllByRecursion}
use Rattle.std.proofs.lemmas.List.{set-append_left, set-append_right}
use Rattle.base.specs.declared.TheConstants.{DIRECT_INDEXES, FIRST_DOUBLE_INDEX, INDIRECT_INDEXES}
use Rattle.disk.specs.Crash.{Image}
use Rattle.layout.specs.declared.inode.Inode.{Inode}
use Rattle.layout.specs.Decode.{doubled_in, numbers_in, numbers_of, pointer_blocks}
use Rattle.layout.proofs.NumbersIn.{in_length, same_doubled, same_in}
use Rattle.layout.proofs.Pieces.{one_set, set-append_add}

-- the pointer blocks are as they were
abbrev pub ArePointersSame : Image → Image → List ℕ → Type 0
ArePointersSame blocks after pointers =
    AllByRecursion (λ number. nat_eq number 0 ≡ false → after number ≡ blocks number) pointers

one_of : (P : ℕ → Type 0) (xs : List ℕ) → AllByRecursion P xs → (i : ℕ) → i < length xs → P (get_or xs i 0)
one_of P [] all i less = absurd (omega (arith, less))
one_of P (x ∷ xs) all zero less = all.0
one_of P (x ∷ xs) all (suc i) less = one_of P xs all.1 i (omega (arith, less))

-- a file whose pointer blocks are as they were has its numbers, and its pointer blocks, as they were
module _ (blocks after : Image) (inode : Inode) (same : ArePointersSame blocks after (pointer_blocks blocks inode)) where
  pub same_parts : (numbers_in after inode.indirect ≡ numbers_in blocks inode.indirect)
      × (numbers_in after inode.double ≡ numbers_in blocks inode.double)
      × (doubled_in after inode.double ≡ doubled_in blocks inode.double)
  unfolding pointer_blocks
  same_parts =
      let top : numbers_in after inode.double ≡ numbers_in blocks inode.double =
      same_in after blocks inode.double same.1.0 in
      let long = in_length blocks inode.double in (
        same_in after blocks inode.indirect same.0,
        top,
        same_doubled after blocks inode.double inode.double
            (λ i less. ap (λ l. numbers_in after (get_or l i 0)) top
            ∙ same_in after blocks (get_or (numbers_in blocks inode.double) i 0)
            (one_of (λ number. nat_eq number 0 ≡ false → after number ≡ blocks number)
            (numbers_in blocks inode.double) same.1.1 i (omega (arith, less, long)))),
      )

  pub same_numbers : (numbers_of after inode ≡ numbers_of blocks inode)
      × (pointer_blocks after inode ≡ pointer_blocks blocks inode)
  unfolding numbers_of pointer_blocks
  same_numbers =
      let parts = same_parts in
      ((λ t. inode.direct ++ parts.0 t ++ parts.2 t), (λ t. inode.indirect ∷ inode.double ∷ parts.1 t))

-- its pointer blocks hold the numbers that they held
pub same_pointers : (blocks after : Image) (pointers : List ℕ) → ArePointersSame blocks after pointers
    → AllByRecursion (λ number. numbers_in after number ≡ numbers_in blocks number) pointers
same_pointers blocks after [] same = tt
same_pointers blocks after (n ∷ pointers) same =
    (same_in after blocks n same.0, same_pointers blocks after pointers same.1)

module _ (blocks after : Image) (inode new : Inode) where
  abbrev lower_part : List ℕ
  lower_part = inode.direct ++ numbers_in blocks inode.indirect

  -- inodes that name the same numbers themselves, and pointer blocks in which the same lie
  pub alike_numbers : new.direct ≡ inode.direct
      → numbers_in after new.indirect ≡ numbers_in blocks inode.indirect
      → doubled_in after new.double ≡ doubled_in blocks inode.double
      → numbers_of after new ≡ numbers_of blocks inode
  unfolding numbers_of
  alike_numbers here indirect_block further = λ i. here i ++ indirect_block i ++ further i

  pub alike_pointers : new.indirect ≡ inode.indirect → new.double ≡ inode.double
      → numbers_in after inode.double ≡ numbers_in blocks inode.double
      → pointer_blocks after new ≡ pointer_blocks blocks inode
  unfolding pointer_blocks
  alike_pointers indirect_block double inner =
      (λ i. indirect_block i ∷ double i ∷ numbers_in after (double i)) ∙ ap (λ l. inode.indirect ∷ inode.double ∷ l) inner

  module _ (direct : length inode.direct ≡ DIRECT_INDEXES) where
    length_before_double : length lower_part ≡ FIRST_DOUBLE_INDEX
    length_before_double =
        let indirect_block = in_length blocks inode.indirect in
        let first = length-append inode.direct (numbers_in blocks inode.indirect) in
        omega (arith, first, indirect_block, direct)

    module _ (index number : ℕ) where
      -- another number that the inode names itself
      pub direct_set : index < DIRECT_INDEXES → new.direct ≡ set inode.direct index number
          → numbers_in after new.indirect ≡ numbers_in blocks inode.indirect
          → doubled_in after new.double ≡ doubled_in blocks inode.double
          → numbers_of after new ≡ set (numbers_of blocks inode) index number
      unfolding numbers_of
      direct_set less here indirect_block further =
          let long = length_before_double in
          (λ t. here t ++ indirect_block t ++ further t)
          ∙ ap (λ l. l ++ doubled_in blocks inode.double)
          (sym (set-append_left inode.direct (numbers_in blocks inode.indirect) index number (omega (arith, less, direct))))
          ∙ sym (set-append_left lower_part (doubled_in blocks inode.double) index number (omega (arith, less, long)))

      -- another number in the indirect block
      pub indirect_set : DIRECT_INDEXES ≤ index → index < FIRST_DOUBLE_INDEX
          → new.direct ≡ inode.direct
          → numbers_in after new.indirect ≡ set (numbers_in blocks inode.indirect) (index - DIRECT_INDEXES) number
          → doubled_in after new.double ≡ doubled_in blocks inode.double
          → numbers_of after new ≡ set (numbers_of blocks inode) index number
      unfolding numbers_of
      indirect_set past within here indirect_block further =
          let long = length_before_double in
          (λ t. here t ++ indirect_block t ++ further t)
          ∙ ap (λ l. l ++ doubled_in blocks inode.double)
          (sym (set-append_right inode.direct (numbers_in blocks inode.indirect) DIRECT_INDEXES index number direct past))
          ∙ sym (set-append_left lower_part (doubled_in blocks inode.double) index number (omega (arith, within, long)))

    -- another number in an inner block: one that is there, a new one, or one below a new double indirect block
    pub double_set : (inner j number : ℕ) → inner < INDIRECT_INDEXES → j < INDIRECT_INDEXES
        → new.direct ≡ inode.direct
        → numbers_in after new.indirect ≡ numbers_in blocks inode.indirect
        → ((i : ℕ) → i < INDIRECT_INDEXES → (i ≡ inner → ⊥)
        → numbers_in after (get_or (numbers_in after new.double) i 0)
        ≡ numbers_in blocks (get_or (numbers_in blocks inode.double) i 0))
        → numbers_in after (get_or (numbers_in after new.double) inner 0)
        ≡ set (numbers_in blocks (get_or (numbers_in blocks inode.double) inner 0)) j number
        → numbers_of after new
        ≡ set (numbers_of blocks inode) (FIRST_DOUBLE_INDEX + (inner * INDIRECT_INDEXES + j)) number
    unfolding numbers_of doubled_in
    double_set inner j number row column here indirect_block same changed =
        let long = length_before_double in
        let was = in_length blocks inode.double in
        let now = in_length after new.double in
        let further : doubled_in after new.double
        ≡ set (doubled_in blocks inode.double) (inner * INDIRECT_INDEXES + j) number =
        one_set (numbers_in blocks) (numbers_in after) INDIRECT_INDEXES (in_length blocks)
        (numbers_in blocks inode.double) (numbers_in after new.double) inner j number
        (now ∙ sym was) (omega (arith, row, was)) column
        (λ i less. same i (omega (arith, less, was))) changed in
        (λ t. here t ++ indirect_block t ++ further t)
        ∙ sym (set-append_add lower_part (doubled_in blocks inode.double) (inner * INDIRECT_INDEXES + j) number)
        ∙ ap (λ n. set (lower_part ++ doubled_in blocks inode.double) (n + (inner * INDIRECT_INDEXES + j)) number) long
