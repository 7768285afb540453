-- What a file's inode and blocks say of how many blocks it holds.
use Rattle.std.proofs.Common.{◌≡◌, ℕ, zero, suc, ◌+◌, ◌*◌, ◌<◌, ◌≤◌, sym, ap, ◌∙◌, refl, Bool, true, false, cond, not}
use Rattle.std.proofs.Common.{◌||◌, ◌&&◌, List, [], ◌∷◌, ◌++◌, length, take, drop, get_or, nat_eq, count_by}
use Rattle.std.proofs.Common.{Some, Ok, arith}
use Rattle.std.specs.List.{flat_map, list_any, list_all, range_with_len}
use Rattle.std.proofs.lemmas.List.Folds.{list_any-append}
use Rattle.std.proofs.lemmas.List.Sums.{length-filter, sum_by-append, sum_by-cons}
use Rattle.base.specs.declared.TheConstants.{DIRECT_INDEXES, FIRST_DOUBLE_INDEX, INDIRECT_INDEXES}
use Rattle.disk.specs.Crash.{Image}
use Rattle.nfs_spec.specs.Model.Cost.{file_cost}
use Rattle.layout.specs.declared.geometry.Geometry.{Geometry}
use Rattle.layout.specs.declared.inode.Inode.{Inode}
use Rattle.layout.specs.Decode.{doubled_in, is_used_pointer, numbers_in, numbers_of, mapped_of, pointer_blocks, IsMapped}
use Rattle.layout.specs.Fields.{count_of}
use Rattle.layout.specs.Owners.{owned_by}
use Rattle.layout.proofs.FileNumbers.{inner_part, middle, past_indirect, pointers_pass}
use Rattle.layout.proofs.Mapped.{inner_numbers, is_some, regular-cost}
use Rattle.layout.proofs.NumbersIn.{in_length, none_some}
use Rattle.layout.proofs.Respelled.{all_two}

-- ---- a block of numbers that is used has one

any_of : (content : Image) (none any : Bool) → (none || any) ≡ true → (none ≡ true → any ≡ false) → any ≡ not none
any_of content true any e no_more = no_more refl
any_of content false any e no_more = e

pub used_is : (content : Image) (number : ℕ) → is_used_pointer content number ≡ true
    → list_any is_some (numbers_in content number) ≡ is_some number
used_is content number used =
    any_of content (nat_eq number 0) (list_any is_some (numbers_in content number)) used (none_some content number)

any_pieces : (content : Image) (inners : List ℕ) → list_all (is_used_pointer content) inners ≡ true
    → list_any is_some (flat_map (numbers_in content) inners) ≡ list_any is_some inners
any_pieces content [] used = refl
any_pieces content (n ∷ inners) used =
    let both = all_two (is_used_pointer content n) (list_all (is_used_pointer content) inners) used in
    list_any-append is_some (numbers_in content n) (flat_map (numbers_in content) inners)
    ∙ (λ i. used_is content n both.0 i || any_pieces content inners both.1 i)

-- as many pass of a range as pass of a list, where each place of it passes like its element
pub places : (f q : ℕ → Bool) (xs : List ℕ) (a : ℕ) → ((k : ℕ) → k < length xs → f (a + k) ≡ q (get_or xs k 0))
    → count_by f (range_with_len a (length xs)) ≡ count_by q xs
places f q [] a same = refl
places f q (x ∷ xs) a same =
    let here : f a ≡ q x = ap f (omega arith) ∙ same 0 (omega arith) in
    let rest : count_by f (range_with_len (a + 1) (length xs)) ≡ count_by q xs =
    places f q xs (a + 1) (λ k less. ap f (omega arith) ∙ same (suc k) (omega (arith, less))) in
    sum_by-cons (λ i. cond (f i) 1 0) a (range_with_len (a + 1) (length xs))
    ∙ (λ i. cond (here i) 1 0 + rest i) ∙ sym (sum_by-cons (λ y. cond (q y) 1 0) x xs)

pub all_at : (test : ℕ → Bool) (xs : List ℕ) → list_all test xs ≡ true → (k : ℕ) → k < length xs
    → test (get_or xs k 0) ≡ true
all_at test [] all k less = absurd (omega (arith, less))
all_at test (x ∷ xs) all zero less = (all_two (test x) (list_all test xs) all).0
all_at test (x ∷ xs) all (suc k) less =
    all_at test xs (all_two (test x) (list_all test xs) all).1 k (omega (arith, less))

module _ (content : Image) (inode : Inode) where
  -- its pointer blocks: the indirect block, the double indirect block and inner blocks, as far as it has them
  pub pointers_counted : count_of (pointer_blocks content inode)
      ≡ cond (is_some inode.indirect) 1 0 + (cond (is_some inode.double) 1 0 + count_of (numbers_in content inode.double))
  unfolding pointer_blocks
  pointers_counted =
      sum_by-cons (λ (n : ℕ). cond (is_some n) 1 0) inode.indirect (inode.double ∷ numbers_in content inode.double)
      ∙ ap (λ k. cond (is_some inode.indirect) 1 0 + k)
      (sum_by-cons (λ (n : ℕ). cond (is_some n) 1 0) inode.double (numbers_in content inode.double))

  -- as many blocks are its own as it has pointer blocks and numbers of blocks
  pub owned_length : length (owned_by content (Ok (Some inode)))
      ≡ count_of (pointer_blocks content inode) + count_of (numbers_of content inode)
  owned_length =
      length-filter is_some (pointer_blocks content inode ++ numbers_of content inode)
      ∙ sum_by-append (λ (n : ℕ). cond (is_some n) 1 0) (pointer_blocks content inode) (numbers_of content inode)

module _ (g : Geometry) (content : Image) (inode : Inode) (direct : length inode.direct ≡ DIRECT_INDEXES)
    (mapped : IsMapped g content inode) where
  parts : (is_used_pointer content inode.indirect ≡ true) × (is_used_pointer content inode.double ≡ true)
      × (list_all (is_used_pointer content) (numbers_in content inode.double) ≡ true)
  parts = pointers_pass content inode (is_used_pointer content) mapped.used

  -- each kind of pointer block is there just where a number is that it names
  pub any_indirect : list_any is_some (take INDIRECT_INDEXES (drop DIRECT_INDEXES (numbers_of content inode)))
      ≡ is_some inode.indirect
  any_indirect = ap (list_any is_some) (middle content inode direct) ∙ used_is content inode.indirect parts.0

  pub double_any : list_any is_some (drop FIRST_DOUBLE_INDEX (numbers_of content inode)) ≡ is_some inode.double
  unfolding doubled_in
  double_any =
      ap (list_any is_some) (past_indirect content inode direct)
      ∙ any_pieces content (numbers_in content inode.double) parts.2
      ∙ used_is content inode.double parts.1

  pub inner_any : (inner : ℕ) → inner < length (numbers_in content inode.double)
      → list_any is_some (inner_numbers (numbers_of content inode) (0 + inner))
      ≡ is_some (get_or (numbers_in content inode.double) inner 0)
  inner_any inner less =
      let long = in_length content inode.double in
      let at : FIRST_DOUBLE_INDEX + INDIRECT_INDEXES * (0 + inner) ≡ FIRST_DOUBLE_INDEX + inner * INDIRECT_INDEXES =
      omega arith in
      ap (λ n. list_any is_some (take INDIRECT_INDEXES (drop n (numbers_of content inode)))) at
      ∙ ap (list_any is_some) (inner_part content inode direct inner (omega (arith, less, long)))
      ∙ used_is content (get_or (numbers_in content inode.double) inner 0)
      (all_at (is_used_pointer content) (numbers_in content inode.double) parts.2 inner less)

  pub inner_count : count_by (λ inner. list_any is_some (inner_numbers (numbers_of content inode) inner))
      (range_with_len 0 INDIRECT_INDEXES) ≡ count_of (numbers_in content inode.double)
  inner_count =
      ap (λ n. count_by (λ inner. list_any is_some (inner_numbers (numbers_of content inode) inner))
      (range_with_len 0 n)) (sym (in_length content inode.double))
      ∙ places (λ inner. list_any is_some (inner_numbers (numbers_of content inode) inner)) is_some
      (numbers_in content inode.double) 0 inner_any

  -- a regular file holds the blocks of its indexes, and its pointer blocks
  pub regular_held : file_cost (mapped_of (numbers_of content inode))
      ≡ count_of (numbers_of content inode) + count_of (pointer_blocks content inode)
  regular_held =
      regular-cost (numbers_of content inode)
      ∙ (λ i. count_of (numbers_of content inode) + cond (any_indirect i) 1 0 + cond (double_any i) 1 0 + inner_count i)
      ∙ joined (count_of (numbers_of content inode)) (cond (is_some inode.indirect) 1 0)
      (cond (is_some inode.double) 1 0) (count_of (numbers_in content inode.double))
      ∙ ap (λ k. count_of (numbers_of content inode) + k) (sym (pointers_counted content inode))
    where
      joined : (a b c d : ℕ) → a + b + c + d ≡ a + (b + (c + d))
      joined a b c d = omega arith

-- numbers of which the first are those of blocks, and no others
all_count : (b : Bool) (k n : ℕ) → n ≡ k → b ≡ true → cond b 1 0 + n ≡ 1 + k
all_count true k n e is = omega (arith, e)
all_count false k n e is = cc

left : (a b : Bool) → (a && b) ≡ true → a ≡ true
left true b e = refl
left false b e = cc

right : (a b : Bool) → (a && b) ≡ true → b ≡ true
right true b e = e
right false b e = cc

zero_count : (b : Bool) (n : ℕ) → b ≡ true → n ≡ 0 → cond (not b) 1 0 + n ≡ 0
zero_count true n is e = omega (arith, e)
zero_count false n is e = cc

pub no_count : (numbers : List ℕ) → list_all (λ number. nat_eq number 0) numbers ≡ true
    → count_by is_some numbers ≡ 0
no_count [] e = refl
no_count (n ∷ numbers) e =
    sum_by-cons (λ y. cond (is_some y) 1 0) n numbers
    ∙ zero_count (nat_eq n 0) (count_by is_some numbers)
    (left (nat_eq n 0) (list_all (λ number. nat_eq number 0) numbers) e)
    (no_count numbers (right (nat_eq n 0) (list_all (λ number. nat_eq number 0) numbers) e))

pub first_count : (span : ℕ) (numbers : List ℕ) → span ≤ length numbers
    → list_all is_some (take span numbers) ≡ true
    → list_all (λ number. nat_eq number 0) (drop span numbers) ≡ true → count_by is_some numbers ≡ span
first_count zero numbers few some none = no_count numbers none
first_count (suc span) [] few some none = absurd (omega (arith, few))
first_count (suc span) (n ∷ numbers) few some none =
    sum_by-cons (λ y. cond (is_some y) 1 0) n numbers
    ∙ all_count (is_some n) span (count_by is_some numbers)
    (first_count span numbers (omega (arith, few))
    (right (is_some n) (list_all is_some (take span numbers)) some) none)
    (left (is_some n) (list_all is_some (take span numbers)) some)
    ∙ omega arith
