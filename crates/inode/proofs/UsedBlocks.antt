-- A file that was read uses as many blocks as its inode and its pointer blocks name, and those.
use Rattle.std.proofs.Common.{◌≡◌, ℕ, ◌+◌, ◌<◌, ◌≤◌, get_or, sym, ap, ◌∙◌, refl, Bool, true, false, cond, not}
use Rattle.std.proofs.Common.{List, [], ◌∷◌, length, take, drop, nat_eq, nat_lt, count_by, sum_by, arith}
use Rattle.std.specs.List.{flat_map, list_all}
use Rattle.std.proofs.lemmas.List.{take_all, take_more}
use Rattle.std.proofs.lemmas.List.Sums.{sum_by-append, sum_by-cons, sum_by_push}
use Rattle.base.specs.declared.TheConstants.{DIRECT_INDEXES, INDIRECT_INDEXES, LARGEST_DIRECTORY}
use Rattle.disk.specs.Crash.{Image}
use Rattle.nfs_spec.specs.Model.Cost.{file_cost}
use Rattle.layout.specs.declared.geometry.Geometry.{Geometry}
use Rattle.layout.specs.declared.inode.Inode.{Inode}
use Rattle.layout.specs.Decode.{doubled_in, numbers_in, numbers_of, mapped_of, pointer_blocks, span_of, IsMapped}
use Rattle.layout.specs.Fields.{numbers_at, count_of}
use Rattle.layout.specs.InodeForm.{names_first}
use Rattle.layout.proofs.Mapped.{is_some}
use Rattle.layout.proofs.Used.{regular_held, first_count, pointers_counted}
use Rattle.inode.proofs.AllTests.{all_two}
use Rattle.layout.proofs.AllNumbers.{all-length}
use Rattle.layout.proofs.FileNumbers.{counted_parts}
use Rattle.layout.proofs.NumbersIn.{in_length, left_count, no_double_left, none_count, some_in}
use Rattle.inode.specs.Shown.{double_held}

-- what is counted of a pointer block: itself, where there is one, and what it names
abbrev pub row_held : Image → ℕ → ℕ
row_held content pointer = cond (nat_eq pointer 0) 0 (count_of (numbers_at INDIRECT_INDEXES 0 (content pointer)) + 1)

-- what is counted of an inode: what it names directly, and what is counted of its pointer blocks
abbrev pub counted : Image → Inode → ℕ
counted content inode = count_of inode.direct + row_held content inode.indirect + double_held content inode.double

row_count : (content : Image) (pointer : ℕ) (none : Bool) → nat_eq pointer 0 ≡ none
    → count_of (numbers_in content pointer) + cond (not none) 1 0
    ≡ cond none 0 (count_of (numbers_at INDIRECT_INDEXES 0 (content pointer)) + 1)
row_count content pointer true e = let none = none_count content pointer e in omega (arith, none)
row_count content pointer false e = ap (λ l. count_of l + 1) (some_in content pointer e)

pub row_is : (content : Image) (pointer : ℕ)
    → count_of (numbers_in content pointer) + cond (is_some pointer) 1 0 ≡ row_held content pointer
row_is content pointer = row_count content pointer (nat_eq pointer 0) refl

double_count : (content : Image) (double : ℕ) (none : Bool) → nat_eq double 0 ≡ none
    → cond (not none) 1 0 + count_of (numbers_in content double) + count_of (doubled_in content double)
    ≡ cond none 0 (1 + count_of (numbers_in content double) + count_of (doubled_in content double))
double_count content double true e =
    let inner = none_count content double e in
    let further = left_count (doubled_in content double) (no_double_left content double e) in
    omega (arith, inner, further)
double_count content double false e = refl

double_is : (content : Image) (double : ℕ)
    → cond (is_some double) 1 0 + count_of (numbers_in content double) + count_of (doubled_in content double)
    ≡ double_held content double
unfolding double_held
double_is content double = double_count content double (nat_eq double 0) refl

-- the same pointer block by pointer block
next_row : (content : Image) (pointer rest further all : ℕ)
    → count_of (numbers_in content pointer) + cond (is_some pointer) 1 0 ≡ row_held content pointer
    → all ≡ row_held content pointer + (rest + further)
    → all ≡ cond (is_some pointer) 1 0 + rest + (count_of (numbers_in content pointer) + further)
next_row content pointer rest further all row is = omega (arith, row, is)

pub rows_held : (content : Image) (pointers : List ℕ) → sum_by (row_held content) pointers
    ≡ count_of pointers + count_of (flat_map (numbers_in content) pointers)
rows_held content [] = refl
rows_held content (n ∷ pointers) =
    next_row content n (count_of pointers) (count_of (flat_map (numbers_in content) pointers))
    (sum_by (row_held content) (n ∷ pointers)) (row_is content n)
    (sum_by-cons (row_held content) n pointers
    ∙ ap (λ k. row_held content n + k) (rows_held content pointers))
    ∙ (λ i. sym (sum_by-cons (λ (y : ℕ). cond (is_some y) 1 0) n pointers) i
    + sym (sum_by-append (λ (y : ℕ). cond (is_some y) 1 0) (numbers_in content n)
    (flat_map (numbers_in content) pointers)) i)

-- where there is a double indirect block it is held, and what its inner blocks hold
pub double_rows : (content : Image) (double index_within : ℕ) → nat_eq double 0 ≡ false → INDIRECT_INDEXES ≤ index_within
    → 1 + sum_by (row_held content) (take index_within (numbers_in content double)) ≡ double_held content double
unfolding double_held doubled_in
double_rows content double index_within some past =
    let long = in_length content double in
    ap (λ l. 1 + sum_by (row_held content) l)
    (take_all index_within (numbers_in content double) (omega (arith, long, past)))
    ∙ ap (λ k. 1 + k) (rows_held content (numbers_in content double))
    ∙ joined (count_of (numbers_in content double))
    (count_of (flat_map (numbers_in content) (numbers_in content double)))
    ∙ sym (ap (λ b. cond b 0 (1 + count_of (numbers_in content double)
    + count_of (flat_map (numbers_in content) (numbers_in content double)))) some)
  where
    joined : (a b : ℕ) → 1 + (a + b) ≡ 1 + a + b
    joined a b = omega arith

one_row_more : (used more before row after : ℕ) → used ≡ 1 + before → more ≡ row → after ≡ before + row
    → used + more ≡ 1 + after
one_row_more used more before row after was is sum = omega (arith, was, is, sum)

-- with what one inner block more holds
pub rows_more : (content : Image) (double index_within used more : ℕ) → index_within < INDIRECT_INDEXES
    → used ≡ 1 + sum_by (row_held content) (take index_within (numbers_in content double))
    → more ≡ row_held content (get_or (numbers_in content double) index_within 0)
    → used + more ≡ 1 + sum_by (row_held content) (take (index_within + 1) (numbers_in content double))
rows_more content double index_within used more less was is =
    let long = in_length content double in
    one_row_more used more (sum_by (row_held content) (take index_within (numbers_in content double)))
    (row_held content (get_or (numbers_in content double) index_within 0))
    (sum_by (row_held content) (take (index_within + 1) (numbers_in content double))) was is
    (ap (sum_by (row_held content)) (take_more (numbers_in content double) index_within 0 (omega (arith, less, long)))
    ∙ sum_by_push (row_held content) (take index_within (numbers_in content double))
    (get_or (numbers_in content double) index_within 0))

pub no_double : (content : Image) (double : ℕ) → nat_eq double 0 ≡ true → 0 ≡ double_held content double
unfolding double_held
no_double content double none =
    sym (ap (λ b. cond b 0 (1 + count_of (numbers_in content double) + count_of (doubled_in content double))) none)

module _ (g : Geometry) (content : Image) (inode : Inode) (direct : length inode.direct ≡ DIRECT_INDEXES)
  where
    pub all_counted : count_of (numbers_of content inode) + count_of (pointer_blocks content inode)
        ≡ counted content inode
    all_counted =
        let both = counted_parts content inode in
        let pointers = pointers_counted content inode in
        let indirect_part = row_is content inode.indirect in
        let further = double_is content inode.double in
        omega (arith, both, pointers, indirect_part, further)

    pub regular_counted : IsMapped g content inode
        → file_cost (mapped_of (numbers_of content inode)) ≡ counted content inode
    regular_counted mapped = regular_held g content inode direct mapped ∙ all_counted

    -- without a double indirect block the indirect block alone holds numbers
    counted_before_double : nat_eq inode.double 0 ≡ true
        → count_of (pointer_blocks content inode) ≡ cond (is_some inode.indirect) 1 0
    counted_before_double none =
        let pointers = pointers_counted content inode in
        let inner = none_count content inode.double none in
        let first : ◌≡◌ {A = ℕ} (cond (is_some inode.double) 1 0) 0 = ap (λ b. cond (not b) 1 0) none in
        omega (arith, pointers, inner, first)

    pub directory_counted : names_first (span_of inode) (numbers_of content inode) ≡ true
        → inode.size ≤ LARGEST_DIRECTORY
        → cond (nat_lt DIRECT_INDEXES (span_of inode)) (not (nat_eq inode.indirect 0))
        (nat_eq inode.indirect 0)
        ≡ true → nat_eq inode.double 0 ≡ true
        → span_of inode + cond (nat_lt DIRECT_INDEXES (span_of inode)) 1 0 ≡ counted content inode
    directory_counted spans small right none =
        let parts = all_two (list_all is_some (take (span_of inode) (numbers_of content inode)))
        (list_all (λ number. nat_eq number 0) (drop (span_of inode) (numbers_of content inode))) spans in
        let all = all-length content inode direct in
        let few : span_of inode ≤ length (numbers_of content inode) = omega (arith, all, small) in
        let count : count_by is_some (numbers_of content inode) ≡ span_of inode =
        first_count (span_of inode) (numbers_of content inode) few parts.0 parts.1 in
        (λ i. sym count i
        + (one_more (nat_lt DIRECT_INDEXES (span_of inode)) (nat_eq inode.indirect 0) right
        ∙ sym (counted_before_double none)) i)
        ∙ all_counted
      where
        one_more : (indirect_part none : Bool) → cond indirect_part (not none) none ≡ true
            → ◌≡◌ {A = ℕ} (cond indirect_part 1 0) (cond (not none) 1 0)
        one_more true true e = cc
        one_more true false e = refl
        one_more false true e = refl
        one_more false false e = cc

    pub link_counted : names_first 1 inode.direct ≡ true → nat_eq inode.indirect 0 ≡ true
        → nat_eq inode.double 0 ≡ true → 1 ≡ counted content inode
    link_counted spans none none_double =
        let parts = all_two (list_all is_some (take 1 inode.direct))
        (list_all (λ number. nat_eq number 0) (drop 1 inode.direct)) spans in
        let one : count_by is_some inode.direct ≡ 1 =
        first_count 1 inode.direct (omega (arith, direct)) parts.0 parts.1 in
        let indirect_part : row_held content inode.indirect ≡ 0 =
        ap (λ b. cond b 0 (count_of (numbers_at INDIRECT_INDEXES 0 (content inode.indirect)) + 1)) none in
        let further = no_double content inode.double none_double in
        omega (arith, one, indirect_part, further)
