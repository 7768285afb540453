-- How a file's blocks take a piece of bytes: its block is there, or a free one is named by the inode, by the
-- indirect block, or by a free one that becomes the indirect block.
use Rattle.std.proofs.Common.{◌≡◌, ℕ, zero, suc, ◌+◌, ◌-◌, ◌*◌, ◌/◌, ◌%◌, ◌<◌, ◌≤◌, ◌^◌, sym, ap, ◌∙◌, refl, subst}
use Rattle.std.proofs.Common.{Bool, true, false, cond, ◌||◌, not, List, [], ◌∷◌, ◌++◌, length, get_or, set}
use Rattle.std.proofs.Common.{replicate, nat_eq, Some, Ok, arith}
use Rattle.std.specs.List.{AllByRecursion, list_all, list_any}
use Rattle.std.proofs.lemmas.Bool.{eq-eqb}
use Rattle.std.proofs.lemmas.List.{length-set, set-get_or}
use Rattle.base.specs.declared.TheConstants.{BLOCK_BYTES, DIRECT_INDEXES, FILE_INDEXES, FIRST_DOUBLE_INDEX}
use Rattle.base.specs.declared.TheConstants.{INDIRECT_INDEXES}
use Rattle.disk.specs.Crash.{Image}
use Rattle.objects.specs.Spliced.{spliced}
use Rattle.nfs_spec.specs.Model.Tree.{Tree}
use Rattle.layout.specs.declared.geometry.Geometry.{Geometry}
use Rattle.layout.specs.declared.inode.Inode.{Inode}
use Rattle.layout.specs.Decode.{content_of, doubled_in, is_used_pointer, numbers_in, numbers_of, pointer_blocks}
use Rattle.layout.specs.Fields.{four_bytes, numbers_at}
use Rattle.layout.specs.InodeForm.{is_data_block_or_none}
use Rattle.layout.specs.Owners.{owned_by}
use Rattle.layout.specs.Parts.{put}
use Rattle.layout.specs.Places.{is_data}
use Rattle.layout.proofs.ChangedNumbers.{alike_pointers, direct_set, indirect_set, same_numbers, same_parts}
use Rattle.layout.proofs.ChangedNumbers.{same_pointers}
use Rattle.layout.proofs.FileNumbers.{pass_pointers}
use Rattle.layout.proofs.NumbersIn.{in_length, same_doubled, some_in}
use Rattle.inode.proofs.WriteSetsLemmas.Marks.{times}
use Rattle.inode.proofs.InodeThere.{data_of}
use Rattle.inode.proofs.Placed.{passes_at}
use Rattle.bitmap.specs.NewBlock.{IsFreeBlock}
use Rattle.inode_data.specs.Filling.{Fills, HasMapped, IsPiece, grown_size, mapping}
use Rattle.inode_data.proofs.PointerNumbers.{pointer_none, pointer_set}
use Rattle.inode_data.proofs.OneNumber.{all_still, any_behind, is_some, some}
use Rattle.inode_data.proofs.MappedFile.{content, count, long_content, numbers, sound}
use Rattle.inode_data.proofs.Owned.{all_preserved, times_one, data_fits, direct_count, direct_fits, double_holds, each_index_within}
use Rattle.inode_data.proofs.Owned.{indirect_at_first, free_not_own, inner_holds, many_pointers, not_behind, not_first}
use Rattle.inode_data.proofs.Owned.{not_pointer, numbers_apart, one_ahead, one_behind}
use Rattle.inode_data.proofs.Owned.{one_first, one_if_same, or_right}
use Rattle.inode_data.proofs.Owned.{own_indirect, own_number, placed, pointers_used, put_else, put_here, used_alike}
use Rattle.inode_data.proofs.PieceWritten.{not_zero, or_data}

no_more : (k : ℕ) → k ≡ 0 + k
no_more k = omega arith

pub all_set : (P : ℕ → Type 0) (numbers : List ℕ) (index b : ℕ) → P b → AllByRecursion P numbers
    → AllByRecursion P (set numbers index b)
all_set P [] index b is all = all
all_set P (x ∷ xs) zero b is all = (is, all.1)
all_set P (x ∷ xs) (suc index) b is all = (all.0, all_set P xs index b is all.1)

-- with another size the inode names the same blocks
pub sized_numbers : (after : Image) (inode : Inode) (size : ℕ)
    → (numbers_of after (mapping inode size inode.direct inode.indirect inode.double) ≡ numbers_of after inode)
    × (pointer_blocks after (mapping inode size inode.direct inode.indirect inode.double) ≡ pointer_blocks after inode)
unfolding numbers_of pointer_blocks
sized_numbers after inode size = (refl, refl)

-- the block's index lies in a file
pub piece_low : (offset : ℕ) (piece : List ℕ) → IsPiece offset piece → (numbers : List ℕ)
    → length numbers ≡ FILE_INDEXES → offset / BLOCK_BYTES < length numbers
piece_low offset piece is numbers many =
    let small = is.small in let first = is.some in omega (arith, many, small, first)

module _ (g : Geometry) (base : Image) (tree : Tree) (n : ℕ) (inode : Inode)
    (has : HasMapped g base tree n inode) where
  abbrev was : Image
  was = content g base tree n inode has

  abbrev all : List ℕ
  all = numbers g base tree n inode has

  abbrev pointers : List ℕ
  pointers = pointer_blocks was inode

  abbrev inners : List ℕ
  inners = numbers_in was inode.double

  abbrev own : List ℕ
  own = owned_by was (Ok (Some inode))

  abbrev test : ℕ → Bool
  test = is_data_block_or_none g

  module _ (offset : ℕ) (piece : List ℕ) (is : IsPiece offset piece) where
    abbrev index : ℕ
    index = offset / BLOCK_BYTES

    abbrev size : ℕ
    size = grown_size inode.size offset piece

    low : index < length all
    low = piece_low offset piece is all (count g base tree n inode has)

    -- ---- the block is there

    module _ (b : ℕ) (block : List ℕ) (b_is : b ≡ get_or all index 0) (b_some : nat_eq b 0 ≡ false)
        (block_is : block ≡ spliced (content_of was (get_or all index 0)) (offset % BLOCK_BYTES) piece) where
      there_some : nat_eq (get_or all index 0) 0 ≡ false
      there_some = ap (λ k. nat_eq k 0) (sym b_is) ∙ b_some

      is_preserved : set all index b ≡ all
      is_preserved = ap (set all index) b_is ∙ set-get_or all index 0

      lies_there : is_data g b ≡ true
      lies_there = data_of (nat_eq b 0) (is_data g b) b_some
          (ap test b_is ∙ passes_at test all index refl has.mapped.numbers)

      b_own : 1 ≤ times b own
      b_own = subst (λ k. 1 ≤ times k own) (sym b_is) (own_number g base tree n inode has index low there_some)

      pointers_preserved : AllByRecursion (λ number. nat_eq number 0 ≡ false → put was b block number ≡ was number) pointers
      pointers_preserved = each_index_within (λ number. nat_eq number 0 ≡ false → put was b block number ≡ was number) pointers
          (λ i less some_i. put_else was b block (get_or pointers i 0) (λ same.
          not_pointer g base tree n inode has i index less low there_some (same ∙ b_is)))

      pointers_there : pointer_blocks (put was b block)
          (mapping inode size inode.direct inode.indirect inode.double) ≡ pointers
      pointers_there = (sized_numbers (put was b block) inode size).1
          ∙ (same_numbers was (put was b block) inode pointers_preserved).1

      pub block_there : Fills g base inode offset piece b inode.direct inode.indirect inode.double (put was b block) []
      block_there = record {
        now = (sized_numbers (put was b block) inode size).0
            ∙ (same_numbers was (put was b block) inode pointers_preserved).0 ∙ sym is_preserved;
        lies = lies_there;
        here = put_here was b block ∙ block_is;
        others = λ j less other some_j. put_else was b block (get_or all j 0) (λ same.
            numbers_apart g base tree n inode has index j (λ e. other (sym e)) low less (sym b_is ∙ sym same) some_j);
        used = ap (list_all (is_used_pointer (put was b block))) pointers_there
            ∙ used_alike was (put was b block) pointers (same_pointers was (put was b block) pointers pointers_preserved)
            ∙ has.mapped.used;
        count = direct_count g base tree n inode has;
        fit = direct_fits g base tree n inode has;
        placed = (placed g base tree n inode has).0;
        indirect_fits = (sound g base tree n inode has).fits.indirect;
        double_fits = (sound g base tree n inode has).fits.double;
        pointers_placed = ap (list_all test) pointers_there ∙ has.mapped.pointers;
        has_double = (placed g base tree n inode has).3;
        outside = λ q none new. put_else was b block q (λ same.
            let some_b = b_own in let no = ap (λ k. times k own) same in absurd (omega (arith, some_b, no, none)));
        counted = λ q. (λ i. times q (some (pointers_there i ++ is_preserved i))) ∙ no_more (times q own);
        were_free = tt;
        once = λ q. omega arith;
      }

    -- ---- a free block is named

    module _ (b : ℕ) (block : List ℕ) (free : IsFreeBlock g base b) (none : nat_eq (get_or all index 0) 0 ≡ true)
        (block_is : block ≡ spliced (content_of was (get_or all index 0)) (offset % BLOCK_BYTES) piece) where
      b_is_some : is_some b ≡ true
      b_is_some = ap not (not_zero g b free.lies)

      -- whatever of its own isn't the new block
      not_new : (q : ℕ) → 1 ≤ times q own → q ≡ b → ⊥
      not_new = free_not_own g base tree n inode has b free

      one_gained : (q : ℕ) → times q (b ∷ []) ≤ 1
      one_gained q = at_most (nat_eq b q) (times_one q b)
        where
          at_most : (t : Bool) → {k : ℕ} → k ≡ cond t 1 0 → k ≤ 1
          at_most true e = omega (arith, e)
          at_most false e = omega (arith, e)

      module _ (direct_part : index < DIRECT_INDEXES) where
        abbrev direct_new : Inode
        direct_new = mapping inode size (set inode.direct index b) inode.indirect inode.double

        preserved_all : AllByRecursion (λ number. nat_eq number 0 ≡ false → put was b block number ≡ was number) pointers
        preserved_all = all_preserved g base tree n inode has (put was b block) (λ q some_q.
            put_else was b block q (not_new q some_q))

        same : (numbers_in (put was b block) inode.indirect ≡ numbers_in was inode.indirect)
            × (numbers_in (put was b block) inode.double ≡ inners)
            × (doubled_in (put was b block) inode.double ≡ doubled_in was inode.double)
        same = same_parts was (put was b block) inode preserved_all

        pointers_direct : pointer_blocks (put was b block) direct_new ≡ pointers
        pointers_direct = alike_pointers was (put was b block) inode direct_new refl refl same.1

        pub block_named : Fills g base inode offset piece b (set inode.direct index b) inode.indirect inode.double
            (put was b block) (b ∷ [])
        block_named = record {
          now = direct_set was (put was b block) inode direct_new (direct_count g base tree n inode has) index b direct_part refl
              same.0 same.2;
          lies = free.lies;
          here = put_here was b block ∙ block_is;
          others = λ j less other some_j. put_else was b block (get_or all j 0)
              (not_new (get_or all j 0) (own_number g base tree n inode has j less some_j));
          used = ap (list_all (is_used_pointer (put was b block))) pointers_direct
              ∙ used_alike was (put was b block) pointers (same_pointers was (put was b block) pointers preserved_all)
              ∙ has.mapped.used;
          count = length-set inode.direct index b ∙ direct_count g base tree n inode has;
          fit = all_set (λ number. number < 2 ^ 32) inode.direct index b (data_fits g base tree n inode has b free.lies)
              (direct_fits g base tree n inode has);
          placed = all_still test inode.direct index b (placed g base tree n inode has).0 (or_data g b free.lies);
          indirect_fits = (sound g base tree n inode has).fits.indirect;
          double_fits = (sound g base tree n inode has).fits.double;
          pointers_placed = ap (list_all test) pointers_direct ∙ has.mapped.pointers;
          has_double = (placed g base tree n inode has).3;
          outside = λ q not_own new. put_else was b block q (not_first q b [] new);
          counted = λ q. ap (λ l. times q (some (l ++ set all index b))) pointers_direct
              ∙ one_behind q b pointers all index b_is_some low none ∙ ap (λ k. k + times q own) (sym (times_one q b));
          were_free = (free, tt);
          once = one_gained;
        }

      -- ---- by the indirect block

      module _ (past : DIRECT_INDEXES ≤ index) (within : index < FIRST_DOUBLE_INDEX) where
        abbrev index_within : ℕ
        index_within = index - DIRECT_INDEXES

        indirect_low : index_within < INDIRECT_INDEXES
        indirect_low = omega (arith, past, within)

        some_pointer : 0 < length pointers
        some_pointer = let long = many_pointers g base tree n inode has in omega (arith, long)

        -- whatever block names it, where the file's other pointer blocks are as they were
        module _ (after : Image) (indirect_block : ℕ)
            (is_preserved : (q : ℕ) → 1 ≤ times q own → (q ≡ get_or pointers 0 0 → ⊥) → after q ≡ was q)
            (in_indirect : numbers_in after indirect_block ≡ set (numbers_in was inode.indirect) index_within b) where
          abbrev indirect_new : Inode
          indirect_new = mapping inode size inode.direct indirect_block inode.double

          top : numbers_in after inode.double ≡ inners
          top = double_holds g base tree n inode has after 0 some_pointer is_preserved (λ e. omega (arith, e))

          inner : (i : ℕ) → i < INDIRECT_INDEXES
              → numbers_in after (get_or inners i 0) ≡ numbers_in was (get_or inners i 0)
          inner i less = inner_holds g base tree n inode has after 0 some_pointer is_preserved i less (λ e. omega (arith, e))

          named_indirect : numbers_of after indirect_new ≡ set all index b
          named_indirect =
              indirect_set was after inode indirect_new (direct_count g base tree n inode has) index b past within refl
              in_indirect
              (same_doubled after was inode.double inode.double
              (λ i less. ap (λ l. numbers_in after (get_or l i 0)) top ∙ inner i less))

          pointers_indirect : pointer_blocks after indirect_new ≡ set pointers 0 indirect_block
          unfolding pointer_blocks
          pointers_indirect = λ i. indirect_block ∷ inode.double ∷ top i

          used_indirect : list_all (is_used_pointer after) (pointer_blocks after indirect_new) ≡ true
          used_indirect = pass_pointers after indirect_new (is_used_pointer after)
              (or_right (nat_eq indirect_block 0)
              (ap (list_any is_some) in_indirect
              ∙ any_behind is_some (numbers_in was inode.indirect) index_within 0 b (omega arith)
              (let less = indirect_low in let many = in_length was inode.indirect in omega (arith, less, many)) b_is_some))
              (ap (λ l. nat_eq inode.double 0 || list_any is_some l) top ∙ (pointers_used g base tree n inode has).1)
              (ap (list_all (is_used_pointer after)) top
              ∙ used_alike was after inners (each_index_within (λ number. numbers_in after number ≡ numbers_in was number)
              inners
              (λ i less. let many = in_length was inode.double in inner i (omega (arith, less, many))))
              ∙ (pointers_used g base tree n inode has).2)

        module _ (some_indirect : nat_eq inode.indirect 0 ≡ false) where
          abbrev pub indirect_bytes : List ℕ
          indirect_bytes = spliced (was inode.indirect) (4 * index_within) (four_bytes b)

          abbrev after_indirect : Image
          after_indirect = put (put was inode.indirect indirect_bytes) b block

          indirect_has : after_indirect inode.indirect ≡ indirect_bytes
          indirect_has = put_else (put was inode.indirect indirect_bytes) b block inode.indirect
              (not_new inode.indirect (own_indirect g base tree n inode has some_indirect))
              ∙ put_here was inode.indirect indirect_bytes

          in_indirect : numbers_in after_indirect inode.indirect ≡ set (numbers_in was inode.indirect) index_within b
          in_indirect =
              some_in after_indirect inode.indirect some_indirect
              ∙ ap (numbers_at INDIRECT_INDEXES 0) indirect_has
              ∙ pointer_set (was inode.indirect) index_within b (long_content g base tree n inode has inode.indirect) indirect_low
              (data_fits g base tree n inode has b free.lies)
              ∙ ap (λ l. set l index_within b) (sym (some_in was inode.indirect some_indirect))

          preserved_indirect : (q : ℕ) → 1 ≤ times q own → (q ≡ get_or pointers 0 0 → ⊥) → after_indirect q ≡ was q
          preserved_indirect q some_q other =
              put_else (put was inode.indirect indirect_bytes) b block q (not_new q some_q)
              ∙ put_else was inode.indirect indirect_bytes q (λ same.
              other (same ∙ sym (indirect_at_first g base tree n inode has)))

          pointers_preserved_indirect : pointer_blocks after_indirect (mapping inode size inode.direct inode.indirect inode.double)
              ≡ pointers
          pointers_preserved_indirect = pointers_indirect after_indirect inode.indirect preserved_indirect in_indirect
              ∙ ap (set pointers 0) (sym (indirect_at_first g base tree n inode has)) ∙ set-get_or pointers 0 0

          pub block_named_indirect : Fills g base inode offset piece b inode.direct inode.indirect inode.double after_indirect
              (b ∷ [])
          block_named_indirect = record {
            now = named_indirect after_indirect inode.indirect preserved_indirect in_indirect;
            lies = free.lies;
            here = put_here (put was inode.indirect indirect_bytes) b block ∙ block_is;
            others = λ j less other some_j.
                put_else (put was inode.indirect indirect_bytes) b block (get_or all j 0)
                (not_new (get_or all j 0) (own_number g base tree n inode has j less some_j))
                ∙ put_else was inode.indirect indirect_bytes (get_or all j 0) (λ same.
                not_pointer g base tree n inode has 0 j some_pointer less some_j
                (indirect_at_first g base tree n inode has ∙ sym same));
            used = used_indirect after_indirect inode.indirect preserved_indirect in_indirect;
            count = direct_count g base tree n inode has;
            fit = direct_fits g base tree n inode has;
            placed = (placed g base tree n inode has).0;
            indirect_fits = (sound g base tree n inode has).fits.indirect;
            double_fits = (sound g base tree n inode has).fits.double;
            pointers_placed = ap (list_all test) pointers_preserved_indirect ∙ has.mapped.pointers;
            has_double = (placed g base tree n inode has).3;
            outside = λ q not_own new.
                put_else (put was inode.indirect indirect_bytes) b block q (not_first q b [] new)
                ∙ put_else was inode.indirect indirect_bytes q (λ same.
                let some_q = own_indirect g base tree n inode has some_indirect in
                let no = ap (λ k. times k own) same in absurd (omega (arith, some_q, no, not_own)));
            counted = λ q. ap (λ l. times q (some (l ++ set all index b))) pointers_preserved_indirect
                ∙ one_behind q b pointers all index b_is_some low none ∙ ap (λ k. k + times q own) (sym (times_one q b));
            were_free = (free, tt);
            once = one_gained;
          }

        -- ---- by a new one

        module _ (no_indirect : nat_eq inode.indirect 0 ≡ true) (indirect_block : ℕ) (indirect_free : IsFreeBlock g base indirect_block)
            (apart : (q : ℕ) → times q (indirect_block ∷ b ∷ []) ≤ 1) where
          abbrev pub first_block : List ℕ
          first_block = spliced (replicate BLOCK_BYTES 0) (4 * index_within) (four_bytes b)

          abbrev after_first : Image
          after_first = put (put was indirect_block first_block) b block

          both : (q : ℕ) → times q (indirect_block ∷ b ∷ []) ≡ cond (nat_eq indirect_block q) 1 0 + times q (b ∷ [])
          both q = one_first q indirect_block (b ∷ [])

          indirect_not_b : indirect_block ≡ b → ⊥
          indirect_not_b same =
              let two = both b in
              let one = ap {B = ℕ} (λ (t : Bool). cond t 1 0) (eq-eqb indirect_block b same) in
              let other = times_one b b in
              let also = one_if_same b in
              let most = apart b in absurd (omega (arith, two, one, other, also, most))

          first_has : after_first indirect_block ≡ first_block
          first_has = put_else (put was indirect_block first_block) b block indirect_block indirect_not_b ∙ put_here was indirect_block first_block

          in_first : numbers_in after_first indirect_block ≡ set (numbers_in was inode.indirect) index_within b
          in_first =
              some_in after_first indirect_block (not_zero g indirect_block indirect_free.lies)
              ∙ ap (numbers_at INDIRECT_INDEXES 0) first_has
              ∙ pointer_set (replicate BLOCK_BYTES 0) index_within b refl indirect_low (data_fits g base tree n inode has b free.lies)
              ∙ ap (λ l. set l index_within b) (pointer_none was inode.indirect no_indirect)

          not_indirect : (q : ℕ) → 1 ≤ times q own → q ≡ indirect_block → ⊥
          not_indirect = free_not_own g base tree n inode has indirect_block indirect_free

          preserved_first : (q : ℕ) → 1 ≤ times q own → (q ≡ get_or pointers 0 0 → ⊥) → after_first q ≡ was q
          preserved_first q some_q other =
              put_else (put was indirect_block first_block) b block q (not_new q some_q)
              ∙ put_else was indirect_block first_block q (not_indirect q some_q)

          pub block_named_first : Fills g base inode offset piece b inode.direct indirect_block inode.double after_first
              (indirect_block ∷ b ∷ [])
          block_named_first = record {
            now = named_indirect after_first indirect_block preserved_first in_first;
            lies = free.lies;
            here = put_here (put was indirect_block first_block) b block ∙ block_is;
            others = λ j less other some_j.
                put_else (put was indirect_block first_block) b block (get_or all j 0)
                (not_new (get_or all j 0) (own_number g base tree n inode has j less some_j))
                ∙ put_else was indirect_block first_block (get_or all j 0)
                (not_indirect (get_or all j 0) (own_number g base tree n inode has j less some_j));
            used = used_indirect after_first indirect_block preserved_first in_first;
            count = direct_count g base tree n inode has;
            fit = direct_fits g base tree n inode has;
            placed = (placed g base tree n inode has).0;
            indirect_fits = data_fits g base tree n inode has indirect_block indirect_free.lies;
            double_fits = (sound g base tree n inode has).fits.double;
            pointers_placed = ap (list_all test) (pointers_indirect after_first indirect_block preserved_first in_first)
                ∙ all_still test pointers 0 indirect_block has.mapped.pointers (or_data g indirect_block indirect_free.lies);
            has_double = (placed g base tree n inode has).3;
            outside = λ q not_own new.
                put_else (put was indirect_block first_block) b block q (not_first q b [] (not_behind q indirect_block (b ∷ []) new))
                ∙ put_else was indirect_block first_block q (not_first q indirect_block (b ∷ []) new);
            counted = λ q.
                let here = ap (λ l. times q (some (l ++ set all index b))) (pointers_indirect after_first indirect_block preserved_first
                in_first)
                in
                let one = one_behind q b (set pointers 0 indirect_block) all index b_is_some low none in
                let two = one_ahead q indirect_block pointers all 0 (ap not (not_zero g indirect_block indirect_free.lies)) some_pointer
                (ap (λ k. nat_eq k 0) (indirect_at_first g base tree n inode has) ∙ no_indirect) in
                let three = both q in
                let four = times_one q b in omega (arith, here, one, two, three, four);
            were_free = (indirect_free, (free, tt));
            once = apart;
          }
