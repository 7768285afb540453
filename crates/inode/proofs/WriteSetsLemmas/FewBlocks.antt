-- What a write set writes lies in few blocks.
use Rattle.std.proofs.Common.{◌≡◌, ℕ, zero, suc, if◌then◌else◌, ◌+◌, ◌<◌, ◌≤◌, sym, ap, ◌∙◌, refl, subst, Bool, true, false, cond, not}
use Rattle.std.proofs.Common.{◌||◌, ◌&&◌, List, [], ◌∷◌, ◌++◌, length, length-append, map, nat_eq, inl, inr, All, arith}
use Rattle.std.specs.Cmp.{nat_eq_equiv}
use Rattle.std.specs.List.{IsDistinct, list_any, range_with_len}
use Rattle.std.proofs.lemmas.Bool.Decides.{eqb_tells, nat_tests}
use Rattle.std.proofs.lemmas.List.Elements.{All-cons, All-head, All-nil, All-tail}
use Rattle.std.proofs.lemmas.List.Folds.{list_any-append}
use Rattle.std.proofs.lemmas.List.FromFn.{length-range_with_len}
use Rattle.std.proofs.lemmas.Map.Keys.{IsDistinct-from_apart, IsDistinct-push}
use Rattle.std.proofs.lemmas.Map.Made.{length-le_from_is_member}
use Rattle.base.specs.declared.TheConstants.{CHANGED_BLOCKS, FIRST_HOME_BLOCK}
use Rattle.disk.specs.declared.block.BlockNo.{BlockNo}
use Rattle.layout.specs.declared.geometry.Geometry.{Geometry}
use Rattle.layout.specs.declared.grid.TheConstants.{PIECE_BYTES}
use Rattle.layout.specs.Geometry.{table_at}
use Rattle.layout.specs.Objects.{IsObject, inode, bits, whole}
use Rattle.txn_law.specs.Group.{blocks_after, blocks_of, is_among}
use Rattle.objects.specs.Object.{ObjectBytes}
use Rattle.inode.specs.WriteSets.WriteSetContents.{MOST_DIRTY, is_address, is_dirty_object, is_written, dirty_in}
use Rattle.inode.proofs.WriteSetsLemmas.DirtyCounts.{same_block, same_len, same_written}

-- the bitmaps have no more blocks
abbrev BITMAP_BLOCKS : ℕ
BITMAP_BLOCKS = 34

abbrev numbers : List BlockNo → List ℕ
numbers blocks = map (λ (block : BlockNo). block.0) blocks

-- whether an inode or a data block is counted, before these objects
abbrev counts : ObjectBytes → List ObjectBytes → Bool
counts object objects =
    is_dirty_object object && not (is_written object.addr.block.0 object.addr.offset object.addr.len objects)

-- the blocks of what is spent
abbrev dirty_numbers : List ObjectBytes → List ℕ
dirty_numbers [] = []
dirty_numbers (object ∷ objects) =
    cond (counts object objects) (object.addr.block.0 ∷ dirty_numbers objects) (dirty_numbers objects)

-- the blocks of the bitmaps, and those of what is spent
abbrev places : List ObjectBytes → List ℕ
places objects = range_with_len FIRST_HOME_BLOCK BITMAP_BLOCKS ++ dirty_numbers objects

-- ---- each block once

same_test : (q : ℕ) (blocks : List BlockNo) → list_any (nat_eq q) (numbers blocks)
    ≡ list_any (λ (b : BlockNo). nat_eq b.0 q) blocks
same_test q [] = refl
same_test q (block ∷ blocks) = λ i. turned q block.0 i || same_test q blocks i
  where
    turned : (a b : ℕ) → nat_eq a b ≡ nat_eq b a
    turned a b = grind (arith, nat_tests)

pushed : (blocks : List BlockNo) (block : BlockNo) → numbers (blocks ++ block ∷ []) ≡ numbers blocks ++ block.0 ∷ []
pushed [] block = refl
pushed (first ∷ blocks) block = ap (λ l. first.0 ∷ l) (pushed blocks block)

distinct_after : (blocks : List BlockNo) (objects : List ObjectBytes) → IsDistinct nat_eq (numbers blocks)
    → IsDistinct nat_eq (numbers (blocks_after blocks objects))
distinct_after blocks [] once = once
distinct_after blocks (o ∷ os) once =
    distinct_after (if is_among o.addr.block blocks then blocks else blocks ++ o.addr.block ∷ []) os
    (by_test (is_among o.addr.block blocks) refl)
  where
    by_test : (test : Bool) → is_among o.addr.block blocks ≡ test
        → IsDistinct nat_eq (numbers (if test then blocks else blocks ++ o.addr.block ∷ []))
    by_test true is = once
    by_test false is =
        subst (IsDistinct nat_eq) (sym (pushed blocks o.addr.block))
        (IsDistinct-push nat_eq_equiv (numbers blocks) o.addr.block.0 once
        (same_test o.addr.block.0 blocks ∙ is))

-- ---- each block in its place

one_of : (a b : Bool) → (a || b) ≡ true → (b ≡ false → a ≡ true)
one_of true b e none = refl
one_of false b e none = let clash : true ≡ false = sym e ∙ none in cc

among_after : (ys : List ℕ) (blocks : List BlockNo) (objects : List ObjectBytes)
    → ((q : ℕ) → list_any (nat_eq q) (numbers blocks) ≡ true → list_any (nat_eq q) ys ≡ true)
    → All (λ (o : ObjectBytes). list_any (nat_eq o.addr.block.0) ys ≡ true) objects
    → (q : ℕ) → list_any (nat_eq q) (numbers (blocks_after blocks objects)) ≡ true
    → list_any (nat_eq q) ys ≡ true
among_after ys blocks [] were each q there = were q there
among_after ys blocks (o ∷ os) were each q there =
    among_after ys (if is_among o.addr.block blocks then blocks else blocks ++ o.addr.block ∷ []) os
    (by_test (is_among o.addr.block blocks)) rest q there
  where
    first : list_any (nat_eq o.addr.block.0) ys ≡ true
    first = All-head (λ (o : ObjectBytes). list_any (nat_eq o.addr.block.0) ys ≡ true) o os each

    rest : All (λ (o : ObjectBytes). list_any (nat_eq o.addr.block.0) ys ≡ true) os
    rest = All-tail (λ (o : ObjectBytes). list_any (nat_eq o.addr.block.0) ys ≡ true) o os each

    with_first : (p : ℕ) → list_any (nat_eq p) (numbers (blocks ++ o.addr.block ∷ [])) ≡ true
        → list_any (nat_eq p) ys ≡ true
    with_first p has = elim (eqb_tells p o.addr.block.0) [
      | inl is ↦ subst (λ n. list_any (nat_eq n) ys ≡ true) (sym is.1) first
      | inr not ↦ were p
          (one_of (list_any (nat_eq p) (numbers blocks)) (list_any (nat_eq p) (o.addr.block.0 ∷ []))
          (sym (ap (list_any (nat_eq p)) (pushed blocks o.addr.block)
          ∙ list_any-append (nat_eq p) (numbers blocks) (o.addr.block.0 ∷ [])) ∙ has)
          (ap (λ b. b || false) not.0))
    ]

    by_test : (test : Bool) (p : ℕ)
        → list_any (nat_eq p) (numbers (if test then blocks else blocks ++ o.addr.block ∷ [])) ≡ true
        → list_any (nat_eq p) ys ≡ true
    by_test true = were
    by_test false = with_first

-- ---- where an object lies

left_or : (a b : Bool) → a ≡ true → (a || b) ≡ true
left_or a b is = ap (λ x. x || b) is

right_or : (a b : Bool) → b ≡ true → (a || b) ≡ true
right_or true b is = refl
right_or false b is = is

range_has : (n a q : ℕ) → a ≤ q → q < a + n → list_any (nat_eq q) (range_with_len a n) ≡ true
range_has zero a q low high = absurd (omega (arith, low, high))
range_has (suc n) a q low high = elim (eqb_tells q a) [
  | inl is ↦ ap (λ b. b || list_any (nat_eq q) (range_with_len (a + 1) n)) is.0
  | inr not ↦ ap (λ b. b || list_any (nat_eq q) (range_with_len (a + 1) n)) not.0
      ∙ range_has n (a + 1) q (let other = not.1 in omega (arith, low, other)) (omega (arith, high))
]

module _ (g : Geometry) where
  few_bitmaps : table_at g.blocks g.inodes ≤ FIRST_HOME_BLOCK + BITMAP_BLOCKS
  few_bitmaps =
      let blocks = g.lawful.0.1 in
      let inodes = g.lawful.1.1 in
      omega (arith, blocks, inodes)

  in_bitmaps : (xs : List ℕ) (q : ℕ) → FIRST_HOME_BLOCK ≤ q → q < table_at g.blocks g.inodes
      → list_any (nat_eq q) (range_with_len FIRST_HOME_BLOCK BITMAP_BLOCKS ++ xs) ≡ true
  in_bitmaps xs q from to =
      list_any-append (nat_eq q) (range_with_len FIRST_HOME_BLOCK BITMAP_BLOCKS) xs
      ∙ left_or (list_any (nat_eq q) (range_with_len FIRST_HOME_BLOCK BITMAP_BLOCKS)) (list_any (nat_eq q) xs)
      (range_has BITMAP_BLOCKS FIRST_HOME_BLOCK q from (let few = few_bitmaps in omega (arith, few, to)))

  in_dirty : (xs : List ℕ) (q : ℕ) → list_any (nat_eq q) xs ≡ true
      → list_any (nat_eq q) (range_with_len FIRST_HOME_BLOCK BITMAP_BLOCKS ++ xs) ≡ true
  in_dirty xs q has =
      list_any-append (nat_eq q) (range_with_len FIRST_HOME_BLOCK BITMAP_BLOCKS) xs
      ∙ right_or (list_any (nat_eq q) (range_with_len FIRST_HOME_BLOCK BITMAP_BLOCKS)) (list_any (nat_eq q) xs) has

  placed : (objects : List ObjectBytes) → All (λ (o : ObjectBytes). IsObject g o.addr) objects
      → All (λ (o : ObjectBytes). list_any (nat_eq o.addr.block.0) (places objects) ≡ true) objects
  placed objects grid = each objects objects (λ block offset len has. has) grid
    where
      is_it : (block block' : ℕ) (blocks : List ℕ) → block ≡ block'
          → list_any (nat_eq block) (block' ∷ blocks) ≡ true
      is_it block block' blocks is = elim (eqb_tells block block') [
        | inl same ↦ left_or (nat_eq block block') (list_any (nat_eq block) blocks) same.0
        | inr other ↦ absurd (other.1 is)
      ]

      -- a place that was written, of no part of a bitmap, is among those of what is spent
      has : (block offset len : ℕ) (os : List ObjectBytes) → nat_eq len PIECE_BYTES ≡ false
          → is_written block offset len os ≡ true → list_any (nat_eq block) (dirty_numbers os) ≡ true
      has block offset len [] big e = let clash : false ≡ true = e in cc
      has block offset len (o ∷ os) big e =
          by_later (is_written block offset len os) refl (has block offset len os big)
        where
          later : (test : Bool) → list_any (nat_eq block) (dirty_numbers os) ≡ true
              → list_any (nat_eq block) (cond test (o.addr.block.0 ∷ dirty_numbers os) (dirty_numbers os)) ≡ true
          later true there = right_or (nat_eq block o.addr.block.0) (list_any (nat_eq block) (dirty_numbers os)) there
          later false there = there

          counted : (dirty_count written : Bool) → dirty_count ≡ true → written ≡ false → (dirty_count && not written) ≡ true
          counted true false one two = refl
          counted _ _ one two = cc

          by_later : (t : Bool) → is_written block offset len os ≡ t
              → (is_written block offset len os ≡ true → list_any (nat_eq block) (dirty_numbers os) ≡ true)
              → list_any (nat_eq block) (dirty_numbers (o ∷ os)) ≡ true
          by_later true is rest = later (counts o os) (rest is)
          by_later false is rest =
              let same : is_address block offset len o.addr ≡ true =
              one_of (is_address block offset len o.addr) (is_written block offset len os) e is in
              let is_counted : counts o os ≡ true =
              counted (is_dirty_object o) (is_written o.addr.block.0 o.addr.offset o.addr.len os)
              (ap (λ k. not (nat_eq k PIECE_BYTES)) (sym (same_len block offset len o.addr same)) ∙ ap not big)
              (sym (same_written block offset len o.addr os same) ∙ is) in
              ap (λ t. list_any (nat_eq block) (cond t (o.addr.block.0 ∷ dirty_numbers os) (dirty_numbers os))) is_counted
              ∙ is_it block o.addr.block.0 (dirty_numbers os) (same_block block offset len o.addr same)

      one : (all : List ObjectBytes) (o : ObjectBytes) → IsObject g o.addr
          → is_written o.addr.block.0 o.addr.offset o.addr.len all ≡ true
          → list_any (nat_eq o.addr.block.0) (places all) ≡ true
      one all o (bits piece few from to offset len) there =
          in_bitmaps (dirty_numbers all) o.addr.block.0 from to
      one all o (inode number low block offset len) there =
          in_dirty (dirty_numbers all) o.addr.block.0
          (has o.addr.block.0 o.addr.offset o.addr.len all (ap (λ k. nat_eq k PIECE_BYTES) len) there)
      one all o (whole is offset len) there =
          in_dirty (dirty_numbers all) o.addr.block.0
          (has o.addr.block.0 o.addr.offset o.addr.len all (ap (λ k. nat_eq k PIECE_BYTES) len) there)

      itself : (n m k : ℕ) → (nat_eq n n && nat_eq m m && nat_eq k k) ≡ true
      itself n m k = grind (arith, nat_tests)

      each : (all objects : List ObjectBytes)
          → ((block offset len : ℕ) → is_written block offset len objects ≡ true
          → is_written block offset len all ≡ true)
          → All (λ (o : ObjectBytes). IsObject g o.addr) objects
          → All (λ (o : ObjectBytes). list_any (nat_eq o.addr.block.0) (places all) ≡ true) objects
      each all [] these grid = All-nil (λ (o : ObjectBytes). list_any (nat_eq o.addr.block.0) (places all) ≡ true)
      each all (o ∷ os) these grid =
          All-cons (λ (o : ObjectBytes). list_any (nat_eq o.addr.block.0) (places all) ≡ true) o os
          (one all o (All-head (λ (o : ObjectBytes). IsObject g o.addr) o os grid)
          (these o.addr.block.0 o.addr.offset o.addr.len
          (left_or (is_address o.addr.block.0 o.addr.offset o.addr.len o.addr)
          (is_written o.addr.block.0 o.addr.offset o.addr.len os)
          (itself o.addr.block.0 o.addr.offset o.addr.len))))
          (each all os (λ block offset len there. these block offset len
          (right_or (is_address block offset len o.addr) (is_written block offset len os) there))
          (All-tail (λ (o : ObjectBytes). IsObject g o.addr) o os grid))

  -- ---- all together

  pub few_blocks : (objects : List ObjectBytes) → All (λ (o : ObjectBytes). IsObject g o.addr) objects
      → dirty_in objects ≤ MOST_DIRTY → length (blocks_of objects) ≤ CHANGED_BLOCKS
  few_blocks objects grid few =
      let most = length-le_from_is_member nat_eq_equiv (numbers (blocks_of objects)) (places objects)
      (distinct_after [] objects (IsDistinct-from_apart nat_eq [] (λ i j d less low. absurd (omega (arith, low)))))
      (among_after (places objects) [] objects (λ q none. cc) (placed objects grid)) in
      let count = blocks_count (blocks_of objects) in
      let size = sizes objects in
      let all = length-append (range_with_len FIRST_HOME_BLOCK BITMAP_BLOCKS) (dirty_numbers objects) in
      let range = length-range_with_len FIRST_HOME_BLOCK BITMAP_BLOCKS in
      omega (arith, most, count, size, all, range, few)
    where
      blocks_count : (blocks : List BlockNo) → length (numbers blocks) ≡ length blocks
      blocks_count [] = refl
      blocks_count (block ∷ blocks) = ap suc (blocks_count blocks)

      sizes : (os : List ObjectBytes) → length (dirty_numbers os) ≡ dirty_in os
      sizes [] = refl
      sizes (o ∷ os) = by_test (counts o os) (sizes os)
        where
          by_test : (test : Bool) → length (dirty_numbers os) ≡ dirty_in os
              → length (cond test (o.addr.block.0 ∷ dirty_numbers os) (dirty_numbers os))
              ≡ cond test 1 0 + dirty_in os
          by_test true rest = omega (arith, rest)
          by_test false rest = omega (arith, rest)
