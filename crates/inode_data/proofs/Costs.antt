-- What a piece adds to the blocks that a file uses: its own, and the pointer blocks that the file doesn't have.
use Rattle.std.proofs.Common.{◌≡◌, ℕ, zero, suc, ◌+◌, ◌-◌, ◌*◌, ◌/◌, ◌<◌, ◌≤◌, ap, ◌∙◌, Bool, true}
use Rattle.std.proofs.Common.{cond, not, ◌&&◌, List, [], ◌∷◌, length, get_or, drop, set, nat_eq, take}
use Rattle.std.proofs.Common.{count_by, arith}
use Rattle.std.specs.Cmp.{nat_cmp_total}
use Rattle.std.specs.FinSet.{FinSet, insert, items, len, len-insert}
use Rattle.std.specs.List.{list_any, range_with_len}
use Rattle.std.specs.Ordering.{nat_cmp}
use Rattle.std.proofs.lemmas.Bool.{le-leb, lt-ltb}
use Rattle.std.proofs.lemmas.List.Sums.{sum_by-cons}
use Rattle.base.specs.declared.TheConstants.{BLOCK_BYTES, DIRECT_INDEXES, FIRST_DOUBLE_INDEX, INDIRECT_INDEXES}
use Rattle.disk.specs.Crash.{Image}
use Rattle.nfs_spec.specs.Model.Cost.{cost, file_cost, inner_cost, is_double, is_indirect, is_inner}
use Rattle.nfs_spec.specs.Model.Tree.{Tree}
use Rattle.nfs_spec.proofs.ModelLemmas.Costs.{inner_more, inner_next, one_more}
use Rattle.nfs_spec.proofs.ModelLemmas.Sets.{any_more, any_passes}
use Rattle.nfs_spec.specs.Procedures.Write.{mapped_with, touched, with_text}
use Rattle.layout.specs.declared.geometry.Geometry.{Geometry}
use Rattle.layout.specs.declared.inode.Inode.{Inode}
use Rattle.layout.specs.Decode.{body_of, doubled_in, mapped_of, numbers_in, numbers_of}
use Rattle.layout.specs.Parts.{content_in}
use Rattle.layout.proofs.FileNumbers.{inner_part, middle, past_indirect}
use Rattle.layout.proofs.Mapped.{mapped-between, mapped-indirect_block}
use Rattle.layout.proofs.NumbersIn.{left_any, no_double_left, none_at, none_some}
use Rattle.inode.specs.Shown.{body_in}
use Rattle.inode_data.specs.Filling.{HasRegular, IsPiece}
use Rattle.inode_data.specs.Inner.{inner_of}
use Rattle.inode_data.proofs.Adjoining.{index_in, still_in}
use Rattle.inode_data.proofs.OneNumber.{is_mapped, is_some}
use Rattle.inode_data.proofs.PieceWritten.{count, sound}

one_first : (x : ℕ) (xs : List ℕ) → count_by is_some (x ∷ xs) ≡ cond (is_some x) 1 0 + count_by is_some xs
one_first x xs = sum_by-cons (λ y. cond (is_some y) 1 0) x xs

-- one number more
pub count_more : (numbers : List ℕ) (index : ℕ) → index < length numbers → nat_eq (get_or numbers index 0) 0 ≡ true
    → count_by is_some (set numbers index 1) ≡ 1 + count_by is_some numbers
count_more [] index less none = absurd (omega (arith, less))
count_more (x ∷ xs) zero less none =
    let one = one_first 1 xs in
    let two = one_first x xs in
    let no = ap {B = ℕ} (λ (t : Bool). cond (not t) 1 0) none in omega (arith, one, two, no)
count_more (x ∷ xs) (suc index) less none =
    let one = one_first x (set xs index 1) in
    let two = one_first x xs in
    let rest = count_more xs index (omega (arith, less)) none in omega (arith, one, two, rest)

pub one_touched : (offset : ℕ) (piece : List ℕ) → IsPiece offset piece
    → touched offset (length piece) ≡ offset / BLOCK_BYTES ∷ []
one_touched offset piece is =
    let same : (offset + length piece - 1) / BLOCK_BYTES - offset / BLOCK_BYTES ≡ 0 =
    let some = is.some in let within = is.within in omega (arith, some, within) in
    ap (λ k. range_with_len (offset / BLOCK_BYTES) (suc k)) same

module _ (g : Geometry) (base : Image) (tree : Tree) (n : ℕ) (inode : Inode)
    (has : HasRegular g base tree n inode) (offset : ℕ) (piece : List ℕ) (is : IsPiece offset piece)
    (none : nat_eq (get_or (numbers_of (content_in g base) inode) (offset / BLOCK_BYTES) 0) 0 ≡ true) where
  abbrev content : Image
  content = content_in g base

  abbrev numbers : List ℕ
  numbers = numbers_of content inode

  abbrev index : ℕ
  index = offset / BLOCK_BYTES

  abbrev body_cost : ℕ
  body_cost = cost (body_in g base inode)

  abbrev new_cost : ℕ
  new_cost = cost (with_text offset piece (body_in g base inode))

  -- the indexes that are mapped, and with this one
  abbrev less : FinSet nat_cmp
  less = mapped_of numbers

  abbrev more : FinSet nat_cmp
  more = insert less index

  low : index < length numbers
  low = let many = count g base tree n inode has in
      let small = is.small in let first = is.some in omega (arith, many, small, first)

  direct : length inode.direct ≡ DIRECT_INDEXES
  direct = (sound g base tree n inode has).fits.count

  before : body_cost ≡ file_cost less
  before = ap (λ kind. cost (body_of g.inodes content kind inode)) has.regular

  after : new_cost ≡ file_cost more
  after = ap (λ kind. cost (with_text offset piece (body_of g.inodes content kind inode))) has.regular
      ∙ ap (λ indexes. file_cost (mapped_with indexes (mapped_of numbers))) (one_touched offset piece is)

  one_longer : len more ≡ len less + 1
  one_longer =
      len-insert nat_cmp_total less index
      ∙ ap (λ t. cond t (len less) (len less + 1)) (is_mapped numbers index low ∙ ap not none)

  indirect_more : cond (list_any is_indirect (items less)) 1 0 ≤ cond (list_any is_indirect (items more)) 1 0
  indirect_more = one_more _ _ (any_more is_indirect (items less) (items more) (still_in less index))

  double_more : cond (list_any is_double (items less)) 1 0 ≤ cond (list_any is_double (items more)) 1 0
  double_more = one_more _ _ (any_more is_double (items less) (items more) (still_in less index))

  -- what the index passes, one of them does now
  now_any : (p : ℕ → Bool) → p index ≡ true → list_any p (items more) ≡ true
  now_any p passes = any_passes p (items more) index (index_in less index) passes

  one_now : (p : ℕ → Bool) → p index ≡ true → ◌≡◌ {A = ℕ} (cond (list_any p (items more)) 1 0) 1
  one_now p passes = ap (λ t. cond t 1 0) (now_any p passes)

  pub one_adds : 1 ≤ new_cost - body_cost
  one_adds =
      let one = before in
      let two = after in
      let long = one_longer in
      let indirect_block = indirect_more in
      let double = double_more in
      let inner = inner_more less more (still_in less index) INDIRECT_INDEXES in
      omega (arith, one, two, long, indirect_block, double, inner)

  -- the indirect block too
  pub first_adds : DIRECT_INDEXES ≤ index → index < FIRST_DOUBLE_INDEX → nat_eq inode.indirect 0 ≡ true
      → 2 ≤ new_cost - body_cost
  first_adds past within no_indirect =
      let one = before in
      let two = after in
      let long = one_longer in
      let was : ◌≡◌ {A = ℕ} (cond (list_any is_indirect (items less)) 1 0) 0 =
      ap (λ t. cond t 1 0) (mapped-between DIRECT_INDEXES FIRST_DOUBLE_INDEX INDIRECT_INDEXES numbers (omega arith)
      ∙ ap (list_any is_some) (middle content inode direct) ∙ none_some content inode.indirect no_indirect) in
      let indirect_block = one_now is_indirect (λ i. le-leb DIRECT_INDEXES index past i && lt-ltb index FIRST_DOUBLE_INDEX within
      i) in
      let double = double_more in
      let inner = inner_more less more (still_in less index) INDIRECT_INDEXES in
      omega (arith, one, two, long, was, indirect_block, double, inner)

  module _ (past : FIRST_DOUBLE_INDEX ≤ index) where
    abbrev row : ℕ
    row = inner_of index

    row_low : row < INDIRECT_INDEXES
    row_low = let less = low in let many = count g base tree n inode has in omega (arith, less, many, past)

    names_index : is_inner row index ≡ true
    names_index = λ i.
        le-leb (FIRST_DOUBLE_INDEX + INDIRECT_INDEXES * row) index (omega (arith, past)) i
        && lt-ltb index (FIRST_DOUBLE_INDEX + INDIRECT_INDEXES * row + INDIRECT_INDEXES) (omega (arith, past)) i

    -- one inner block more, where there is none
    inner_one : nat_eq (get_or (numbers_in content inode.double) row 0) 0 ≡ true
        → 1 + inner_cost INDIRECT_INDEXES less ≤ inner_cost INDIRECT_INDEXES more
    inner_one no_inner =
        let at : FIRST_DOUBLE_INDEX + INDIRECT_INDEXES * row ≡ FIRST_DOUBLE_INDEX + row * INDIRECT_INDEXES =
        omega arith in
        inner_next less more (still_in less index) INDIRECT_INDEXES row row_low
        (mapped-between (FIRST_DOUBLE_INDEX + INDIRECT_INDEXES * row)
        (FIRST_DOUBLE_INDEX + INDIRECT_INDEXES * row + INDIRECT_INDEXES) INDIRECT_INDEXES numbers (omega arith)
        ∙ ap (λ k. list_any is_some (take INDIRECT_INDEXES (drop k numbers))) at
        ∙ ap (list_any is_some) (inner_part content inode direct row row_low)
        ∙ none_some content (get_or (numbers_in content inode.double) row 0) no_inner)
        (now_any (is_inner row) names_index)

    -- an inner block too
    pub inner_adds : nat_eq (get_or (numbers_in content inode.double) row 0) 0 ≡ true → 2 ≤ new_cost - body_cost
    inner_adds no_inner =
        let one = before in
        let two = after in
        let long = one_longer in
        let indirect_block = indirect_more in
        let double = double_more in
        let inner = inner_one no_inner in
        omega (arith, one, two, long, indirect_block, double, inner)

    -- and the double indirect block
    pub double_adds : nat_eq inode.double 0 ≡ true → 3 ≤ new_cost - body_cost
    double_adds no_double =
        let one = before in
        let two = after in
        let long = one_longer in
        let indirect_block = indirect_more in
        let was : ◌≡◌ {A = ℕ} (cond (list_any is_double (items less)) 1 0) 0 =
        ap (λ t. cond t 1 0) (mapped-indirect_block FIRST_DOUBLE_INDEX numbers
        ∙ ap (list_any is_some) (past_indirect content inode direct)
        ∙ left_any (doubled_in content inode.double) (no_double_left content inode.double no_double)) in
        let double = one_now is_double (le-leb FIRST_DOUBLE_INDEX index past) in
        let inner = inner_one (ap (λ k. nat_eq k 0) (none_at content inode.double no_double row)) in
        omega (arith, one, two, long, indirect_block, was, double, inner)
