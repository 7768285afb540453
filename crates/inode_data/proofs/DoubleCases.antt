-- How a file's blocks take a piece of bytes below the double indirect block: an inner block names a free block, or a
-- free one does that becomes an inner block, below the double indirect block or below a free one that becomes it.
use Rattle.std.proofs.Common.{◌≡◌, ℕ, ◌+◌, ◌*◌, ◌/◌, ◌%◌, ◌<◌, ◌≤◌, inl, inr, sym, ap, ◌∙◌, refl, subst}
use Rattle.std.proofs.Common.{Bool, true, false, cond, ◌||◌, not, List, [], ◌∷◌, ◌++◌, length, get_or, set}
use Rattle.std.proofs.Common.{replicate, nat_eq, Some, Ok, arith}
use Rattle.std.specs.List.{list_all, list_any}
use Rattle.std.proofs.lemmas.Bool.{cases_eq, eq-eqb}
use Rattle.std.proofs.lemmas.List.{get_or-set_other, get_or-set_same, length-set, set-get_or}
use Rattle.base.specs.declared.TheConstants.{BLOCK_BYTES, FILE_INDEXES, FIRST_DOUBLE_INDEX, INDIRECT_INDEXES}
use Rattle.disk.specs.Crash.{Image}
use Rattle.objects.specs.Spliced.{spliced}
use Rattle.nfs_spec.specs.Model.Tree.{Tree}
use Rattle.layout.specs.declared.geometry.Geometry.{Geometry}
use Rattle.layout.specs.declared.inode.Inode.{Inode}
use Rattle.layout.specs.declared.version.FormatVersion.TheVariants.{Second}
use Rattle.layout.specs.Decode.{content_of, is_used_pointer, numbers_in, numbers_of, pointer_blocks}
use Rattle.layout.specs.Fields.{four_bytes, numbers_at}
use Rattle.layout.specs.InodeForm.{is_data_block_or_none}
use Rattle.layout.specs.Owners.{owned_by}
use Rattle.layout.specs.Parts.{put}
use Rattle.layout.specs.Version.{has_double}
use Rattle.layout.proofs.ChangedNumbers.{double_set}
use Rattle.layout.proofs.FileNumbers.{pass_pointers}
use Rattle.layout.proofs.NumbersIn.{in_length, some_in}
use Rattle.layout.proofs.Used.{all_at}
use Rattle.inode.proofs.WriteSetsLemmas.Marks.{times}
use Rattle.bitmap.specs.NewBlock.{IsFreeBlock}
use Rattle.inode_data.specs.Filling.{Fills, HasMapped, IsPiece, grown_size, mapping}
use Rattle.inode_data.specs.Inner.{inner_of, index_in_inner}
use Rattle.inode_data.proofs.Cases.{piece_low}
use Rattle.inode_data.proofs.PointerNumbers.{pointer_none, pointer_set}
use Rattle.inode_data.proofs.OneNumber.{all_still, any_behind, is_some, some}
use Rattle.inode_data.proofs.MappedFile.{content, count, long_content, numbers, sound}
use Rattle.inode_data.proofs.Owned.{times_one, data_fits, direct_count, direct_fits, double_at_second, double_holds}
use Rattle.inode_data.proofs.Owned.{indirect_holds, free_not_own, inner_behind, inner_holds, many_pointers, not_behind}
use Rattle.inode_data.proofs.Owned.{not_first, not_pointer, one_ahead, one_behind, one_first, one_if_same, or_right}
use Rattle.inode_data.proofs.Owned.{pass_each}
use Rattle.inode_data.proofs.Owned.{own_double, own_inner, own_number, placed, pointers_used, put_else, put_here}
use Rattle.inode_data.proofs.Owned.{two_set}
use Rattle.inode_data.proofs.PieceWritten.{not_zero, or_data}

-- where an index lies that the double indirect block reaches
pub inner_and_index : (index : ℕ) → FIRST_DOUBLE_INDEX ≤ index → index < FILE_INDEXES
    → (inner_of index < INDIRECT_INDEXES) × (index_in_inner index < INDIRECT_INDEXES)
    × (FIRST_DOUBLE_INDEX + (inner_of index * INDIRECT_INDEXES + index_in_inner index) ≡ index)
inner_and_index index past within = (omega (arith, past, within), omega arith, omega (arith, past))

-- two blocks of which none is there twice are two
pub two_blocks : (a b : ℕ) (rest : List ℕ) → ((q : ℕ) → times q (a ∷ b ∷ rest) ≤ 1) → a ≡ b → ⊥
two_blocks a b rest once same =
    let one = ap {B = ℕ} (λ (t : Bool). cond t 1 0) (eq-eqb a b same) in
    let all = one_first b a (b ∷ rest) in
    let more = one_first b b rest in
    let also = one_if_same b in
    let most = once b in absurd (omega (arith, one, all, more, also, most))

pub one_fewer : (a : ℕ) (rest : List ℕ) → ((q : ℕ) → times q (a ∷ rest) ≤ 1) → (q : ℕ) → times q rest ≤ 1
one_fewer a rest once q = let most = once q in let all = one_first q a rest in omega (arith, most, all)

-- the last of three isn't the first
pub first_and_third : (a b c : ℕ) → ((q : ℕ) → times q (a ∷ b ∷ c ∷ []) ≤ 1) → a ≡ c → ⊥
first_and_third a b c once same =
    let one = ap {B = ℕ} (λ (t : Bool). cond t 1 0) (eq-eqb a c same) in
    let all = one_first c a (b ∷ c ∷ []) in
    let more = one_first c b (c ∷ []) in
    let last = times_one c c in
    let also = one_if_same c in
    let most = once c in absurd (omega (arith, one, all, more, last, also, most))

module _ (g : Geometry) (base : Image) (tree : Tree) (n : ℕ) (inode : Inode) (has : HasMapped g base tree n inode)
    (offset : ℕ) (piece : List ℕ) (is : IsPiece offset piece) where
  abbrev was : Image
  was = content g base tree n inode has

  abbrev all : List ℕ
  all = numbers g base tree n inode has

  abbrev pointers : List ℕ
  pointers = pointer_blocks was inode

  abbrev inners : List ℕ
  inners = numbers_in was inode.double

  abbrev own : List ℕ
  own = owned_by was (Ok (Some inode))

  abbrev test : ℕ → Bool
  test = is_data_block_or_none g

  abbrev index : ℕ
  index = offset / BLOCK_BYTES

  abbrev size : ℕ
  size = grown_size inode.size offset piece

  -- the inner block that names the index, and the place there
  abbrev row : ℕ
  row = inner_of index

  abbrev column : ℕ
  column = index_in_inner index

  abbrev here : ℕ
  here = get_or inners row 0

  low : index < length all
  low = piece_low offset piece is all (count g base tree n inode has)

  module _ (b : ℕ) (block : List ℕ) (free : IsFreeBlock g base b) (none : nat_eq (get_or all index 0) 0 ≡ true)
      (block_is : block ≡ spliced (content_of was (get_or all index 0)) (offset % BLOCK_BYTES) piece)
      (past : FIRST_DOUBLE_INDEX ≤ index) where
    b_is_some : is_some b ≡ true
    b_is_some = ap not (not_zero g b free.lies)

    not_new : (q : ℕ) → 1 ≤ times q own → q ≡ b → ⊥
    not_new = free_not_own g base tree n inode has b free

    there : (row < INDIRECT_INDEXES) × (column < INDIRECT_INDEXES)
        × (FIRST_DOUBLE_INDEX + (row * INDIRECT_INDEXES + column) ≡ index)
    there = inner_and_index index past (let less = low in let many = count g base tree n inode has in omega (
      arith,
      less,
      many,
    ))

    row_low : row < length inners
    row_low = let less = there.0 in let many = in_length was inode.double in omega (arith, less, many)

    second_low : 1 < length pointers
    second_low = let long = many_pointers g base tree n inode has in omega (arith, long)

    index_is_low : 2 + row < length pointers
    index_is_low = let long = many_pointers g base tree n inode has in let less = there.0 in omega (arith, long, less)

    -- whatever inner block names it
    module _ (after : Image) (double x : ℕ) (x_some : is_some x ≡ true)
        (indirect_block : numbers_in after inode.indirect ≡ numbers_in was inode.indirect)
        (top : numbers_in after double ≡ set inners row x)
        (inner : numbers_in after x ≡ set (numbers_in was here) column b)
        (rest : (i : ℕ) → i < INDIRECT_INDEXES → (i ≡ row → ⊥)
        → numbers_in after (get_or inners i 0) ≡ numbers_in was (get_or inners i 0)) where
      abbrev new : Inode
      new = mapping inode size inode.direct inode.indirect double

      named_inner : numbers_of after new ≡ set all index b
      named_inner =
          double_set was after inode new (direct_count g base tree n inode has) row column b there.0 there.1 refl indirect_block
          (λ i less other. ap (λ l. numbers_in after (get_or l i 0)) top
          ∙ ap (numbers_in after) (get_or-set_other inners row i x 0 other) ∙ rest i less other)
          (ap (λ l. numbers_in after (get_or l row 0)) top
          ∙ ap (numbers_in after) (get_or-set_same inners row x 0 row_low) ∙ inner)
          ∙ ap (λ k. set all k b) there.2

      -- its pointer blocks, with the double indirect block and the inner one
      pointers_inner : pointer_blocks after new ≡ set (set pointers 1 double) (2 + row) x
      unfolding pointer_blocks
      pointers_inner = (λ i. inode.indirect ∷ double ∷ top i) ∙ sym (two_set inode.indirect double row x inners)

      used_x : is_used_pointer after x ≡ true
      used_x = or_right (nat_eq x 0)
          (ap (list_any is_some) inner
          ∙ any_behind is_some (numbers_in was here) column 0 b (omega arith)
          (let less = there.1 in let many = in_length was here in omega (arith, less, many)) b_is_some)

      used_at : (i : ℕ) → i < length (set inners row x) → is_used_pointer after (get_or (set inners row x) i 0) ≡ true
      used_at i less = elim (cases_eq i row) [
        | inl same ↦
            ap (λ k. is_used_pointer after (get_or (set inners row x) k 0)) same
            ∙ ap (is_used_pointer after) (get_or-set_same inners row x 0 row_low) ∙ used_x
        | inr other ↦
            ap (is_used_pointer after) (get_or-set_other inners row i x 0 other)
            ∙ ap (λ l. nat_eq (get_or inners i 0) 0 || list_any is_some l)
            (rest i (let many = in_length was inode.double in omega (arith, less, long, many)) other)
            ∙ all_at (is_used_pointer was) inners (pointers_used g base tree n inode has).2 i (omega (
              arith,
              less,
              long,
            ))
      ]
        where
          long : length (set inners row x) ≡ length inners
          long = length-set inners row x

      used_inner : list_all (is_used_pointer after) (pointer_blocks after new) ≡ true
      used_inner = pass_pointers after new (is_used_pointer after)
          (ap (λ l. nat_eq inode.indirect 0 || list_any is_some l) indirect_block ∙ (pointers_used g base tree n inode has).0)
          (or_right (nat_eq double 0)
          (ap (list_any is_some) top ∙ any_behind is_some inners row 0 x (omega arith) row_low x_some))
          (ap (list_all (is_used_pointer after)) top ∙ pass_each (is_used_pointer after) (set inners row x) used_at)

    -- ---- an inner block that is there

    module _ (x : ℕ) (x_is : x ≡ here) (x_some : nat_eq x 0 ≡ false) where
      abbrev pub inner_block : List ℕ
      inner_block = spliced (was x) (4 * column) (four_bytes b)

      abbrev pub after_inner : Image
      after_inner = put (put was x inner_block) b block

      inner_at_index : get_or pointers (2 + row) 0 ≡ x
      inner_at_index = inner_behind g base tree n inode has row ∙ sym x_is

      own_x : 1 ≤ times x own
      own_x = subst (λ k. 1 ≤ times k own) (sym x_is)
          (own_inner g base tree n inode has row there.0 (ap (λ k. nat_eq k 0) (sym x_is) ∙ x_some))

      preserved_inner : (q : ℕ) → 1 ≤ times q own → (q ≡ get_or pointers (2 + row) 0 → ⊥) → after_inner q ≡ was q
      preserved_inner q some_q other =
          put_else (put was x inner_block) b block q (not_new q some_q)
          ∙ put_else was x inner_block q (λ same. other (same ∙ sym inner_at_index))

      top_there : numbers_in after_inner inode.double ≡ set inners row x
      top_there =
          double_holds g base tree n inode has after_inner (2 + row) index_is_low preserved_inner (λ e. omega (arith, e))
          ∙ sym (ap (set inners row) x_is ∙ set-get_or inners row 0)

      inner_there : numbers_in after_inner x ≡ set (numbers_in was here) column b
      inner_there =
          some_in after_inner x x_some
          ∙ ap (numbers_at INDIRECT_INDEXES 0)
          (put_else (put was x inner_block) b block x (not_new x own_x) ∙ put_here was x inner_block)
          ∙ pointer_set (was x) column b (long_content g base tree n inode has x) there.1
          (data_fits g base tree n inode has b free.lies)
          ∙ ap (λ l. set l column b) (sym (some_in was x x_some) ∙ ap (numbers_in was) x_is)

      indirect_there : numbers_in after_inner inode.indirect ≡ numbers_in was inode.indirect
      indirect_there = indirect_holds g base tree n inode has after_inner (2 + row) index_is_low preserved_inner (λ e. omega (arith, e))

      rest_there : (i : ℕ) → i < INDIRECT_INDEXES → (i ≡ row → ⊥)
          → numbers_in after_inner (get_or inners i 0) ≡ numbers_in was (get_or inners i 0)
      rest_there i less other =
          inner_holds g base tree n inode has after_inner (2 + row) index_is_low preserved_inner i less
          (λ e. other (omega (arith, e)))

      pointers_still : pointer_blocks after_inner (mapping inode size inode.direct inode.indirect inode.double) ≡
          pointers
      pointers_still =
          pointers_inner after_inner inode.double x (ap not x_some) indirect_there top_there inner_there rest_there
          ∙ ap (λ l. set l (2 + row) x)
          (ap (set pointers 1) (sym (double_at_second g base tree n inode has)) ∙ set-get_or pointers 1 0)
          ∙ ap (set pointers (2 + row)) (sym inner_at_index) ∙ set-get_or pointers (2 + row) 0

      pub block_named_inner : Fills g base inode offset piece b inode.direct inode.indirect inode.double after_inner
          (b ∷ [])
      block_named_inner = record {
        now = named_inner after_inner inode.double x (ap not x_some) indirect_there top_there inner_there rest_there;
        lies = free.lies;
        here = put_here (put was x inner_block) b block ∙ block_is;
        others = λ j less other some_j.
            put_else (put was x inner_block) b block (get_or all j 0)
            (not_new (get_or all j 0) (own_number g base tree n inode has j less some_j))
            ∙ put_else was x inner_block (get_or all j 0) (λ same.
            not_pointer g base tree n inode has (2 + row) j index_is_low less some_j (inner_at_index ∙ sym same));
        used = used_inner after_inner inode.double x (ap not x_some) indirect_there top_there inner_there rest_there;
        count = direct_count g base tree n inode has;
        fit = direct_fits g base tree n inode has;
        placed = (placed g base tree n inode has).0;
        indirect_fits = (sound g base tree n inode has).fits.indirect;
        double_fits = (sound g base tree n inode has).fits.double;
        pointers_placed = ap (list_all test) pointers_still ∙ has.mapped.pointers;
        has_double = (placed g base tree n inode has).3;
        outside = λ q not_own new.
            put_else (put was x inner_block) b block q (not_first q b [] new)
            ∙ put_else was x inner_block q (λ same.
            let some_q = own_x in
            let no = ap (λ k. times k own) same in absurd (omega (arith, some_q, no, not_own)));
        counted = λ q. ap (λ l. times q (some (l ++ set all index b))) pointers_still
            ∙ one_behind q b pointers all index b_is_some low none ∙ ap (λ k. k + times q own) (sym (times_one q b));
        were_free = (free, tt);
        once = λ q. once_at_most (nat_eq b q) (times_one q b);
      }
        where
          once_at_most : (t : Bool) → {k : ℕ} → k ≡ cond t 1 0 → k ≤ 1
          once_at_most true e = omega (arith, e)
          once_at_most false e = omega (arith, e)

    -- ---- a new inner block

    module _ (no_inner : nat_eq here 0 ≡ true) (x : ℕ) (x_free : IsFreeBlock g base x) where
      abbrev pub first_inner_block : List ℕ
      first_inner_block = spliced (replicate BLOCK_BYTES 0) (4 * column) (four_bytes b)

      x_is_some : is_some x ≡ true
      x_is_some = ap not (not_zero g x x_free.lies)

      not_x : (q : ℕ) → 1 ≤ times q own → q ≡ x → ⊥
      not_x = free_not_own g base tree n inode has x x_free

      -- its numbers are those of no block but for one
      first_named : (after : Image) → after x ≡ first_inner_block
          → numbers_in after x ≡ set (numbers_in was here) column b
      first_named after is =
          some_in after x (not_zero g x x_free.lies)
          ∙ ap (numbers_at INDIRECT_INDEXES 0) is
          ∙ pointer_set (replicate BLOCK_BYTES 0) column b refl there.1 (data_fits g base tree n inode has b free.lies)
          ∙ ap (λ l. set l column b) (pointer_none was here no_inner)

      -- no pointer block is at its place
      index_is_free : (double : ℕ) → nat_eq (get_or (set pointers 1 double) (2 + row) 0) 0 ≡ true
      index_is_free double =
          ap (λ k. nat_eq k 0)
          (get_or-set_other pointers 1 (2 + row) double 0 (λ e. omega (arith, e))
          ∙ inner_behind g base tree n inode has row)
          ∙ no_inner

      index_is_within : (double : ℕ) → 2 + row < length (set pointers 1 double)
      index_is_within double = let long = length-set pointers 1 double in let less = index_is_low in omega (arith, long, less)

      -- -- below the double indirect block

      module _ (some_double : nat_eq inode.double 0 ≡ false) (apart : (q : ℕ) → times q (x ∷ b ∷ []) ≤ 1) where
        abbrev pub double_block : List ℕ
        double_block = spliced (was inode.double) (4 * row) (four_bytes x)

        abbrev pub after_first_inner : Image
        after_first_inner = put (put (put was inode.double double_block) x first_inner_block) b block

        preserved_double : (q : ℕ) → 1 ≤ times q own → (q ≡ get_or pointers 1 0 → ⊥) → after_first_inner q ≡ was q
        preserved_double q some_q other =
            put_else (put (put was inode.double double_block) x first_inner_block) b block q (not_new q some_q)
            ∙ put_else (put was inode.double double_block) x first_inner_block q (not_x q some_q)
            ∙ put_else was inode.double double_block q (λ same.
            other (same ∙ sym (double_at_second g base tree n inode has)))

        double_own : 1 ≤ times inode.double own
        double_own = own_double g base tree n inode has some_double

        double_has : after_first_inner inode.double ≡ double_block
        double_has =
            put_else (put (put was inode.double double_block) x first_inner_block) b block inode.double
            (not_new inode.double double_own)
            ∙ put_else (put was inode.double double_block) x first_inner_block inode.double (not_x inode.double
            double_own)
            ∙ put_here was inode.double double_block

        x_has : after_first_inner x ≡ first_inner_block
        x_has =
            put_else (put (put was inode.double double_block) x first_inner_block) b block x (two_blocks x b [] apart)
            ∙ put_here (put was inode.double double_block) x first_inner_block

        top_first : numbers_in after_first_inner inode.double ≡ set inners row x
        top_first =
            some_in after_first_inner inode.double some_double
            ∙ ap (numbers_at INDIRECT_INDEXES 0) double_has
            ∙ pointer_set (was inode.double) row x (long_content g base tree n inode has inode.double) there.0
            (data_fits g base tree n inode has x x_free.lies)
            ∙ ap (λ l. set l row x) (sym (some_in was inode.double some_double))

        indirect_first : numbers_in after_first_inner inode.indirect ≡ numbers_in was inode.indirect
        indirect_first = indirect_holds g base tree n inode has after_first_inner 1 second_low preserved_double (λ e. omega (arith, e))

        rest_first : (i : ℕ) → i < INDIRECT_INDEXES → (i ≡ row → ⊥)
            → numbers_in after_first_inner (get_or inners i 0) ≡ numbers_in was (get_or inners i 0)
        rest_first i less other =
            inner_holds g base tree n inode has after_first_inner 1 second_low preserved_double i less (λ e. omega (
              arith,
              e,
            ))

        inner_first : numbers_in after_first_inner x ≡ set (numbers_in was here) column b
        inner_first = first_named after_first_inner x_has

        pointers_first : pointer_blocks after_first_inner (mapping inode size inode.direct inode.indirect inode.double)
            ≡ set (set pointers 1 inode.double) (2 + row) x
        pointers_first =
            pointers_inner after_first_inner inode.double x x_is_some indirect_first top_first inner_first rest_first

        double_still : set pointers 1 inode.double ≡ pointers
        double_still = ap (set pointers 1) (sym (double_at_second g base tree n inode has)) ∙ set-get_or pointers 1 0

        pub block_named_first_inner : Fills g base inode offset piece b inode.direct inode.indirect inode.double
            after_first_inner (x ∷ b ∷ [])
        block_named_first_inner = record {
          now = named_inner after_first_inner inode.double x x_is_some indirect_first top_first inner_first rest_first;
          lies = free.lies;
          here = put_here (put (put was inode.double double_block) x first_inner_block) b block ∙ block_is;
          others = λ j less other some_j.
              let some_q = own_number g base tree n inode has j less some_j in
              preserved_double (get_or all j 0) some_q (λ same.
              not_pointer g base tree n inode has 1 j second_low less some_j (sym same));
          used = used_inner after_first_inner inode.double x x_is_some indirect_first top_first inner_first rest_first;
          count = direct_count g base tree n inode has;
          fit = direct_fits g base tree n inode has;
          placed = (placed g base tree n inode has).0;
          indirect_fits = (sound g base tree n inode has).fits.indirect;
          double_fits = (sound g base tree n inode has).fits.double;
          pointers_placed = ap (list_all test) pointers_first
              ∙ all_still test (set pointers 1 inode.double) (2 + row) x
              (ap (list_all test) double_still ∙ has.mapped.pointers) (or_data g x x_free.lies);
          has_double = (placed g base tree n inode has).3;
          outside = λ q not_own new.
              put_else (put (put was inode.double double_block) x first_inner_block) b block q
              (not_first q b [] (not_behind q x (b ∷ []) new))
              ∙ put_else (put was inode.double double_block) x first_inner_block q (not_first q x (b ∷ []) new)
              ∙ put_else was inode.double double_block q (λ same.
              let some_q = double_own in
              let no = ap (λ k. times k own) same in absurd (omega (arith, some_q, no, not_own)));
          counted = λ q.
              let now = ap (λ l. times q (some (l ++ set all index b))) pointers_first in
              let one = one_behind q b (set (set pointers 1 inode.double) (2 + row) x) all index b_is_some low none in
              let two = one_ahead q x (set pointers 1 inode.double) all (2 + row) x_is_some (index_is_within inode.double)
              (index_is_free inode.double) in
              let still = ap (λ l. times q (some (l ++ all))) double_still in
              let three = one_first q x (b ∷ []) in
              let four = times_one q b in omega (arith, now, one, two, still, three, four);
          were_free = (x_free, (free, tt));
          once = apart;
        }

      -- -- below a new one

      module _ (no_double : nat_eq inode.double 0 ≡ true) (newest : g.version ≡ Second) (double : ℕ)
          (double_free : IsFreeBlock g base double) (apart : (q : ℕ) → times q (double ∷ x ∷ b ∷ []) ≤ 1) where
        abbrev pub first_double_block : List ℕ
        first_double_block = spliced (replicate BLOCK_BYTES 0) (4 * row) (four_bytes x)

        abbrev pub after_double : Image
        after_double = put (put (put was double first_double_block) x first_inner_block) b block

        preserved_own : (q : ℕ) → 1 ≤ times q own → (q ≡ get_or pointers 1 0 → ⊥) → after_double q ≡ was q
        preserved_own q some_q other =
            put_else (put (put was double first_double_block) x first_inner_block) b block q (not_new q some_q)
            ∙ put_else (put was double first_double_block) x first_inner_block q (not_x q some_q)
            ∙ put_else was double first_double_block q (free_not_own g base tree n inode has double double_free q
            some_q)

        new_has : after_double double ≡ first_double_block
        new_has =
            put_else (put (put was double first_double_block) x first_inner_block) b block double
            (first_and_third double x b apart)
            ∙ put_else (put was double first_double_block) x first_inner_block double (two_blocks double x (b ∷ [])
            apart)
            ∙ put_here was double first_double_block

        x_there : after_double x ≡ first_inner_block
        x_there =
            put_else (put (put was double first_double_block) x first_inner_block) b block x
            (two_blocks x b [] (one_fewer double (x ∷ b ∷ []) apart))
            ∙ put_here (put was double first_double_block) x first_inner_block

        top_new : numbers_in after_double double ≡ set inners row x
        top_new =
            some_in after_double double (not_zero g double double_free.lies)
            ∙ ap (numbers_at INDIRECT_INDEXES 0) new_has
            ∙ pointer_set (replicate BLOCK_BYTES 0) row x refl there.0 (data_fits g base tree n inode has x x_free.lies)
            ∙ ap (λ l. set l row x) (pointer_none was inode.double no_double)

        indirect_new : numbers_in after_double inode.indirect ≡ numbers_in was inode.indirect
        indirect_new = indirect_holds g base tree n inode has after_double 1 second_low preserved_own (λ e. omega (arith, e))

        rest_new : (i : ℕ) → i < INDIRECT_INDEXES → (i ≡ row → ⊥)
            → numbers_in after_double (get_or inners i 0) ≡ numbers_in was (get_or inners i 0)
        rest_new i less other =
            inner_holds g base tree n inode has after_double 1 second_low preserved_own i less (λ e. omega (arith, e))

        inner_new : numbers_in after_double x ≡ set (numbers_in was here) column b
        inner_new = first_named after_double x_there

        pointers_new : pointer_blocks after_double (mapping inode size inode.direct inode.indirect double)
            ≡ set (set pointers 1 double) (2 + row) x
        pointers_new = pointers_inner after_double double x x_is_some indirect_new top_new inner_new rest_new

        pub block_named_double : Fills g base inode offset piece b inode.direct inode.indirect double after_double
            (double ∷ x ∷ b ∷ [])
        block_named_double = record {
          now = named_inner after_double double x x_is_some indirect_new top_new inner_new rest_new;
          lies = free.lies;
          here = put_here (put (put was double first_double_block) x first_inner_block) b block ∙ block_is;
          others = λ j less other some_j.
              preserved_own (get_or all j 0) (own_number g base tree n inode has j less some_j) (λ same.
              not_pointer g base tree n inode has 1 j second_low less some_j (sym same));
          used = used_inner after_double double x x_is_some indirect_new top_new inner_new rest_new;
          count = direct_count g base tree n inode has;
          fit = direct_fits g base tree n inode has;
          placed = (placed g base tree n inode has).0;
          indirect_fits = (sound g base tree n inode has).fits.indirect;
          double_fits = data_fits g base tree n inode has double double_free.lies;
          pointers_placed = ap (list_all test) pointers_new
              ∙ all_still test (set pointers 1 double) (2 + row) x
              (all_still test pointers 1 double has.mapped.pointers (or_data g double double_free.lies))
              (or_data g x x_free.lies);
          has_double = or_right (nat_eq double 0) (ap has_double newest);
          outside = λ q not_own new.
              put_else (put (put was double first_double_block) x first_inner_block) b block q
              (not_first q b [] (not_behind q x (b ∷ []) (not_behind q double (x ∷ b ∷ []) new)))
              ∙ put_else (put was double first_double_block) x first_inner_block q
              (not_first q x (b ∷ []) (not_behind q double (x ∷ b ∷ []) new))
              ∙ put_else was double first_double_block q (not_first q double (x ∷ b ∷ []) new);
          counted = λ q.
              let now = ap (λ l. times q (some (l ++ set all index b))) pointers_new in
              let one = one_behind q b (set (set pointers 1 double) (2 + row) x) all index b_is_some low none in
              let two = one_ahead q x (set pointers 1 double) all (2 + row) x_is_some (index_is_within double)
              (index_is_free double) in
              let three = one_ahead q double pointers all 1 (ap not (not_zero g double double_free.lies)) second_low
              (ap (λ k. nat_eq k 0) (double_at_second g base tree n inode has) ∙ no_double) in
              let four = one_first q double (x ∷ b ∷ []) in
              let five = one_first q x (b ∷ []) in
              let six = times_one q b in omega (arith, now, one, two, three, four, five, six);
          were_free = (double_free, (x_free, (free, tt)));
          once = apart;
        }
