-- The blocks that a file owns lie apart: its pointer blocks and those of its numbers.
use Rattle.std.proofs.Common.{◌≡◌, ℕ, zero, suc, ◌+◌, ◌<◌, ◌≤◌, ◌^◌, sym, ap, ◌∙◌, refl, subst}
use Rattle.std.proofs.Common.{Bool, true, false, cond, ◌||◌, ◌&&◌, not, List, [], ◌∷◌, ◌++◌, length, get_or, set}
use Rattle.std.proofs.Common.{length-append, nat_eq, Some, Ok, Err, arith}
use Rattle.std.specs.List.{AllByRecursion, list_all, list_any}
use Rattle.std.proofs.lemmas.Bool.{eq-eqb, lt-ltb}
use Rattle.std.proofs.lemmas.List.{get_or-append-add, get_or-set_other, get_or_append_left, length-set, set-append_left}
use Rattle.std.proofs.lemmas.List.{set-get_or, set-set}
use Rattle.std.proofs.lemmas.List.Sums.{sum_by-cons}
use Rattle.base.specs.declared.TheConstants.{DIRECT_INDEXES, INDIRECT_INDEXES}
use Rattle.disk.specs.Crash.{Image}
use Rattle.nfs_spec.specs.Model.Tree.{Tree}
use Rattle.layout.specs.declared.fault.LayoutFault.TheVariants.{Range}
use Rattle.layout.specs.declared.geometry.Geometry.{Geometry}
use Rattle.layout.specs.declared.inode.Inode.{Inode}
use Rattle.layout.specs.Decode.{inode_at, is_used_pointer, numbers_in, pointer_blocks}
use Rattle.layout.specs.InodeForm.{is_data_block_or_none}
use Rattle.layout.specs.Owners.{owned, owned_by}
use Rattle.layout.specs.Parts.{parts_of, put}
use Rattle.layout.specs.Places.{is_data}
use Rattle.layout.specs.Version.{has_double}
use Rattle.layout.proofs.AllNumbers.{maps}
use Rattle.layout.proofs.FileNumbers.{pointers_are, pointers_pass}
use Rattle.layout.proofs.NumbersIn.{in_length, same_in}
use Rattle.layout.proofs.OnGrid.{data_within}
use Rattle.layout.proofs.Pieces.{set-append_add}
use Rattle.layout.proofs.Written.{not_same}
use Rattle.inode.proofs.WriteSetsLemmas.Marks.{times}
use Rattle.bitmap.specs.NewBlock.{IsFreeBlock}
use Rattle.bitmap.proofs.Gained.{own_part}
use Rattle.inode_data.specs.Filling.{HasMapped}
use Rattle.inode_data.proofs.OneNumber.{is_some, once_more, some}
use Rattle.inode_data.proofs.MappedFile.{content, numbers, sound}

-- ---- numbers in a list

pub one_if_same : (q : ℕ) → ◌≡◌ {A = ℕ} (cond (nat_eq q q) 1 0) 1
one_if_same q = ap {B = ℕ} (λ (t : Bool). cond t 1 0) (eq-eqb q q refl)

-- one that is there, and without that place
there_once : (q : ℕ) (numbers : List ℕ) (j : ℕ) → j < length numbers → get_or numbers j 0 ≡ q → is_some q ≡ true
    → times q (some numbers) ≡ 1 + times q (some (set numbers j 0))
there_once q numbers j less is some_q =
    let long = length-set numbers j 0 in
    ap (λ l. times q (some l)) (sym (set-get_or numbers j 0) ∙ ap (set numbers j) is ∙ sym (set-set numbers j 0 q))
    ∙ once_more q q (set numbers j 0) j (omega (arith, long, less)) some_q (zero_there numbers j less)
    ∙ ap (λ k. k + times q (some (set numbers j 0))) (one_if_same q)
  where
    zero_there : (numbers : List ℕ) (j : ℕ) → j < length numbers
        → nat_eq (get_or (set numbers j 0) j 0) 0 ≡ true
    zero_there [] j less = absurd (omega (arith, less))
    zero_there (x ∷ xs) zero less = refl
    zero_there (x ∷ xs) (suc j) less = zero_there xs j (omega (arith, less))

pub at_least_once : (q : ℕ) (numbers : List ℕ) (j : ℕ) → j < length numbers → get_or numbers j 0 ≡ q
    → is_some q ≡ true → 1 ≤ times q (some numbers)
at_least_once q numbers j less is some_q =
    let once = there_once q numbers j less is some_q in omega (arith, once)

pub twice : (q : ℕ) (numbers : List ℕ) (i j : ℕ) → (i ≡ j → ⊥) → i < length numbers → j < length numbers
    → get_or numbers i 0 ≡ q → get_or numbers j 0 ≡ q → is_some q ≡ true → 2 ≤ times q (some numbers)
twice q numbers i j not one two at_i at_j some_q =
    let long = length-set numbers j 0 in
    let first = there_once q numbers j two at_j some_q in
    let rest = at_least_once q (set numbers j 0) i (omega (arith, long, one))
    (get_or-set_other numbers j i 0 0 not ∙ at_i) some_q in
    omega (arith, first, rest)

-- one more where none was: in the second of two lists, and in the first
module _ (q b : ℕ) (xs ys : List ℕ) (i : ℕ) (is : is_some b ≡ true) where
  pub one_behind : i < length ys → nat_eq (get_or ys i 0) 0 ≡ true
      → times q (some (xs ++ set ys i b)) ≡ cond (nat_eq b q) 1 0 + times q (some (xs ++ ys))
  one_behind less none =
      let long = length-append xs ys in
      ap (λ l. times q (some l)) (sym (set-append_add xs ys i b))
      ∙ once_more q b (xs ++ ys) (length xs + i) (omega (arith, long, less)) is
      (ap (λ n. nat_eq n 0) (get_or-append-add xs ys i 0) ∙ none)

  pub one_ahead : i < length xs → nat_eq (get_or xs i 0) 0 ≡ true
      → times q (some (set xs i b ++ ys)) ≡ cond (nat_eq b q) 1 0 + times q (some (xs ++ ys))
  one_ahead less none =
      let long = length-append xs ys in
      ap (λ l. times q (some l)) (sym (set-append_left xs ys i b less))
      ∙ once_more q b (xs ++ ys) i (omega (arith, long, less)) is
      (ap (λ n. nat_eq n 0) (get_or_append_left xs ys 0 i less) ∙ none)

-- behind the first two
pub two_behind : (a b i : ℕ) (l : List ℕ) → get_or (a ∷ b ∷ l) (2 + i) 0 ≡ get_or l i 0
two_behind a b i l = ap (λ k. get_or (a ∷ b ∷ l) k 0) (two_more i)
  where
    two_more : (i : ℕ) → 2 + i ≡ suc (suc i)
    two_more i = omega arith

pub two_set : (a b i x : ℕ) (l : List ℕ) → set (a ∷ b ∷ l) (2 + i) x ≡ a ∷ b ∷ set l i x
two_set a b i x l = ap (λ k. set (a ∷ b ∷ l) k x) (two_more i)
  where
    two_more : (i : ℕ) → 2 + i ≡ suc (suc i)
    two_more i = omega arith

pub one_first : (q x : ℕ) (xs : List ℕ) → times q (x ∷ xs) ≡ cond (nat_eq x q) 1 0 + times q xs
one_first q x xs = sum_by-cons (λ one. cond (nat_eq one q) 1 0) x xs

pub times_one : (q b : ℕ) → times q (b ∷ []) ≡ cond (nat_eq b q) 1 0
times_one q b = let all = one_first q b [] in omega (arith, all)

-- one of a list that has none of it isn't in front
pub not_first : (q x : ℕ) (xs : List ℕ) → times q (x ∷ xs) ≡ 0 → q ≡ x → ⊥
not_first q x xs none same =
    let one = ap {B = ℕ} (λ (t : Bool). cond t 1 0) (eq-eqb x q (sym same)) in
    let is = one_first q x xs in absurd (omega (arith, none, one, is))

-- nor is it in the rest
pub not_behind : (q x : ℕ) (xs : List ℕ) → times q (x ∷ xs) ≡ 0 → times q xs ≡ 0
not_behind q x xs none = let is = one_first q x xs in omega (arith, none, is)

-- what is so of each place of a list
pub each_index_within : (P : ℕ → Type 0) (xs : List ℕ) → ((i : ℕ) → i < length xs → P (get_or xs i 0)) → AllByRecursion P xs
each_index_within P [] all = tt
each_index_within P (x ∷ xs) all = (all 0 (omega arith), each_index_within P xs (λ i less. all (suc i) (omega (arith, less))))

pub pass_each : (test : ℕ → Bool) (xs : List ℕ) → ((i : ℕ) → i < length xs → test (get_or xs i 0) ≡ true)
    → list_all test xs ≡ true
pass_each test [] all = refl
pass_each test (x ∷ xs) all =
    λ i. all 0 (omega arith) i && pass_each test xs (λ k less. all (suc k) (omega (arith, less))) i

pub or_right : (t : Bool) {u : Bool} → u ≡ true → (t || u) ≡ true
or_right true e = refl
or_right false e = e

-- ---- content with one block put

pub put_here : (content : Image) (b : ℕ) (block : List ℕ) → put content b block b ≡ block
put_here content b block = ap (λ t. cond t block (content b)) (eq-eqb b b refl)

pub put_else : (content : Image) (b : ℕ) (block : List ℕ) (q : ℕ) → (q ≡ b → ⊥) → put content b block q ≡ content q
put_else content b block q not = ap (λ t. cond t block (content q)) (not_same q b not)

-- pointer blocks that hold the numbers that they held are used as they were
pub used_alike : (was after : Image) (xs : List ℕ)
    → AllByRecursion (λ number. numbers_in after number ≡ numbers_in was number) xs
    → list_all (is_used_pointer after) xs ≡ list_all (is_used_pointer was) xs
used_alike was after [] same = refl
used_alike was after (n ∷ xs) same =
    λ i. (nat_eq n 0 || list_any is_some (same.0 i)) && used_alike was after xs same.1 i

-- ---- a file's own blocks

module _ (g : Geometry) (base : Image) (tree : Tree) (n : ℕ) (inode : Inode)
    (has : HasMapped g base tree n inode) where
  abbrev pub was : Image
  was = content g base tree n inode has

  abbrev pub all : List ℕ
  all = numbers g base tree n inode has

  abbrev pub pointers : List ℕ
  pointers = pointer_blocks was inode

  -- its inner blocks
  abbrev pub inners : List ℕ
  inners = numbers_in was inode.double

  abbrev everything : List ℕ
  everything = pointers ++ all

  abbrev pub own : List ℕ
  own = owned_by was (Ok (Some inode))

  parts : (q : ℕ) → times q own ≤ times q (owned g (parts_of g base))
  parts q = subst (λ r. times q (owned_by was r) ≤ times q (owned g (parts_of g base)))
      (ap (λ b. cond b (inode_at g base n) (Err Range)) (lt-ltb n g.inodes has.less) ∙ has.read)
      (own_part g (parts_of g base) n q has.less)

  pub few : (q : ℕ) → times q own ≤ 1
  few q = let part = parts q in let once = has.holds.parts.marked.once q in omega (arith, part, once)

  -- a block that is free isn't its own
  pub free_not_own : (b : ℕ) → IsFreeBlock g base b → (q : ℕ) → 1 ≤ times q own → q ≡ b → ⊥
  free_not_own b free q some_q same =
      let no = ap (λ k. times k own) same in
      let part = parts b in
      let none = free.unowned in absurd (omega (arith, some_q, no, part, none))

  long_all : length everything ≡ length pointers + length all
  long_all = length-append pointers all

  -- no two places have one block
  apart : (i j : ℕ) → (i ≡ j → ⊥) → i < length everything → j < length everything
      → get_or everything i 0 ≡ get_or everything j 0 → nat_eq (get_or everything j 0) 0 ≡ false → ⊥
  apart i j other one two same some_j =
      let both = twice (get_or everything j 0) everything i j other one two same refl (ap not some_j) in
      let most = few (get_or everything j 0) in absurd (omega (arith, both, most))

  at_number : (j : ℕ) → get_or everything (length pointers + j) 0 ≡ get_or all j 0
  at_number j = get_or-append-add pointers all j 0

  at_pointer : (i : ℕ) → i < length pointers → get_or everything i 0 ≡ get_or pointers i 0
  at_pointer i less = get_or_append_left pointers all 0 i less

  pub own_number : (j : ℕ) → j < length all → nat_eq (get_or all j 0) 0 ≡ false → 1 ≤ times (get_or all j 0) own
  own_number j less some_j =
      let long = long_all in
      at_least_once (get_or all j 0) everything (length pointers + j) (omega (arith, long, less)) (at_number j)
      (ap not some_j)

  pub own_pointer : (i : ℕ) → i < length pointers → nat_eq (get_or pointers i 0) 0 ≡ false
      → 1 ≤ times (get_or pointers i 0) own
  own_pointer i less some_i =
      let long = long_all in
      at_least_once (get_or pointers i 0) everything i (omega (arith, long, less)) (at_pointer i less) (ap not some_i)

  pub numbers_apart : (i j : ℕ) → (i ≡ j → ⊥) → i < length all → j < length all
      → get_or all i 0 ≡ get_or all j 0 → nat_eq (get_or all j 0) 0 ≡ false → ⊥
  numbers_apart i j other one two same some_j =
      let long = long_all in
      apart (length pointers + i) (length pointers + j) (λ e. other (omega (arith, e))) (omega (arith, long, one))
      (omega (arith, long, two)) (at_number i ∙ same ∙ sym (at_number j))
      (ap (λ k. nat_eq k 0) (at_number j) ∙ some_j)

  -- no number is a pointer block's
  pub not_pointer : (i j : ℕ) → i < length pointers → j < length all → nat_eq (get_or all j 0) 0 ≡ false
      → get_or pointers i 0 ≡ get_or all j 0 → ⊥
  not_pointer i j one two some_j same =
      let long = long_all in
      apart i (length pointers + j) (λ e. omega (arith, e, one)) (omega (arith, long, one)) (omega (arith, long, two))
      (at_pointer i one ∙ same ∙ sym (at_number j)) (ap (λ k. nat_eq k 0) (at_number j) ∙ some_j)

  pub pointers_apart : (i j : ℕ) → (i ≡ j → ⊥) → i < length pointers → j < length pointers
      → get_or pointers i 0 ≡ get_or pointers j 0 → nat_eq (get_or pointers j 0) 0 ≡ false → ⊥
  pointers_apart i j other one two same some_j =
      let long = long_all in
      apart i j other (omega (arith, long, one)) (omega (arith, long, two))
      (at_pointer i one ∙ same ∙ sym (at_pointer j two)) (ap (λ k. nat_eq k 0) (at_pointer j two) ∙ some_j)

  -- ---- its pointer blocks

  pub many_pointers : length pointers ≡ 2 + INDIRECT_INDEXES
  many_pointers =
      let is : length pointers ≡ length (inode.indirect ∷ inode.double ∷ inners) =
      ap (λ (l : List ℕ). length l) (pointers_are was inode) in
      let long = in_length was inode.double in omega (arith, is, long)

  pub indirect_at_first : get_or pointers 0 0 ≡ inode.indirect
  indirect_at_first = ap (λ l. get_or l 0 0) (pointers_are was inode)

  pub double_at_second : get_or pointers 1 0 ≡ inode.double
  double_at_second = ap (λ l. get_or l 1 0) (pointers_are was inode)

  pub inner_behind : (i : ℕ) → get_or pointers (2 + i) 0 ≡ get_or inners i 0
  inner_behind i = ap (λ l. get_or l (2 + i) 0) (pointers_are was inode)
      ∙ two_behind inode.indirect inode.double i inners

  pub pointers_used : (is_used_pointer was inode.indirect ≡ true) × (is_used_pointer was inode.double ≡ true)
      × (list_all (is_used_pointer was) inners ≡ true)
  pointers_used = pointers_pass was inode (is_used_pointer was) has.mapped.used

  pub own_indirect : nat_eq inode.indirect 0 ≡ false → 1 ≤ times inode.indirect own
  own_indirect some_indirect =
      let long = many_pointers in
      subst (λ q. 1 ≤ times q own) indirect_at_first
      (own_pointer 0 (omega (arith, long)) (ap (λ q. nat_eq q 0) indirect_at_first ∙ some_indirect))

  pub own_double : nat_eq inode.double 0 ≡ false → 1 ≤ times inode.double own
  own_double some_double =
      let long = many_pointers in
      subst (λ q. 1 ≤ times q own) double_at_second
      (own_pointer 1 (omega (arith, long)) (ap (λ q. nat_eq q 0) double_at_second ∙ some_double))

  pub own_inner : (i : ℕ) → i < INDIRECT_INDEXES → nat_eq (get_or inners i 0) 0 ≡ false
      → 1 ≤ times (get_or inners i 0) own
  own_inner i less some_i =
      let long = many_pointers in
      subst (λ q. 1 ≤ times q own) (inner_behind i)
      (own_pointer (2 + i) (omega (arith, long, less)) (ap (λ q. nat_eq q 0) (inner_behind i) ∙ some_i))

  -- with other blocks: where all that are its own are as they were but for the pointer block at one place, the
  -- others hold what they held
  module _ (after : Image) (index_within : ℕ) (low : index_within < length pointers)
      (is_preserved : (q : ℕ) → 1 ≤ times q own → (q ≡ get_or pointers index_within 0 → ⊥) → after q ≡ was q) where
    pub others_hold : (i : ℕ) → i < length pointers → (i ≡ index_within → ⊥)
        → numbers_in after (get_or pointers i 0) ≡ numbers_in was (get_or pointers i 0)
    others_hold i less other = same_in after was (get_or pointers i 0) (λ some_i.
        is_preserved (get_or pointers i 0) (own_pointer i less some_i) (λ same.
        pointers_apart index_within i (λ e. other (sym e)) low less (sym same) some_i))

    pub indirect_holds : (0 ≡ index_within → ⊥) → numbers_in after inode.indirect ≡ numbers_in was inode.indirect
    indirect_holds other =
        let long = many_pointers in
        subst (λ q. numbers_in after q ≡ numbers_in was q) indirect_at_first (others_hold 0 (omega (arith, long)) other)

    pub double_holds : (1 ≡ index_within → ⊥) → numbers_in after inode.double ≡ inners
    double_holds other =
        let long = many_pointers in
        subst (λ q. numbers_in after q ≡ numbers_in was q) double_at_second (others_hold 1 (omega (arith, long)) other)

    pub inner_holds : (i : ℕ) → i < INDIRECT_INDEXES → (2 + i ≡ index_within → ⊥)
        → numbers_in after (get_or inners i 0) ≡ numbers_in was (get_or inners i 0)
    inner_holds i less other =
        let long = many_pointers in
        subst (λ q. numbers_in after q ≡ numbers_in was q) (inner_behind i)
        (others_hold (2 + i) (omega (arith, long, less)) other)

  -- where all are as they were, all of them do
  module _ (after : Image) (is_preserved : (q : ℕ) → 1 ≤ times q own → after q ≡ was q) where
    pub all_preserved : AllByRecursion (λ number. nat_eq number 0 ≡ false → after number ≡ was number) pointers
    all_preserved = each_index_within (λ number. nat_eq number 0 ≡ false → after number ≡ was number) pointers
        (λ i less some_i. is_preserved (get_or pointers i 0) (own_pointer i less some_i))

  -- ---- its numbers fit

  pub direct_fits : AllByRecursion (λ number. number < 2 ^ 32) inode.direct
  direct_fits = (sound g base tree n inode has).fits.direct

  pub direct_count : length inode.direct ≡ DIRECT_INDEXES
  direct_count = (sound g base tree n inode has).fits.count

  pub placed : (list_all (is_data_block_or_none g) inode.direct ≡ true)
      × (is_data_block_or_none g inode.indirect ≡ true)
      × (is_data_block_or_none g inode.double ≡ true) × ((nat_eq inode.double 0 || has_double g.version) ≡ true)
  placed = maps g inode (sound g base tree n inode has)

  pub data_fits : (b : ℕ) → is_data g b ≡ true → b < 2 ^ 32
  data_fits b is = let low = (data_within g b is).1 in let most = g.lawful.0.1 in omega (arith, low, most)
