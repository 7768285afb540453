-- The numbers in a pointer block, and those that a double indirect block reaches: how many there are, what they
-- are where there is none, and what they look at.
use Rattle.std.proofs.Common.{◌≡◌, ℕ, zero, suc, ◌+◌, ◌*◌, ◌<◌, sym, ap, ◌∙◌, refl, subst, Bool, true, false, cond, not}
use Rattle.std.proofs.Common.{◌&&◌, ◌||◌, List, [], ◌∷◌, length, filter, get_or, nat_eq, replicate, arith}
use Rattle.std.specs.List.{list_all, list_any}
use Rattle.std.proofs.lemmas.List.{length-replicate}
use Rattle.std.proofs.lemmas.List.Sums.{length-filter, sum_by-cons}
use Rattle.base.specs.declared.TheConstants.{DOUBLE_INDEXES, INDIRECT_INDEXES}
use Rattle.disk.specs.Crash.{Image}
use Rattle.layout.specs.declared.geometry.Geometry.{Geometry}
use Rattle.layout.specs.Decode.{doubled_in, numbers_in}
use Rattle.layout.specs.Fields.{count_of, numbers_at}
use Rattle.layout.specs.InodeForm.{is_data_block_or_none}
use Rattle.layout.proofs.NumbersAt.{numbers-length}
use Rattle.layout.proofs.Pieces.{piece_at, pieces-length, pieces_retained, pieces_pass, same_pieces}

abbrev is_some : ℕ → Bool
is_some number = not (nat_eq number 0)

-- one of two, where the first is the same and the second looks alike
pub either : {A : Type 0} (t : Bool) (z x y : A) → (t ≡ false → x ≡ y) → cond t z x ≡ cond t z y
either true z x y h = refl
either false z x y h = h refl

-- ---- zeros, however many

zeros-length : (n : ℕ) → ◌≡◌ {A = List ℕ} (replicate n 0) (replicate (length (replicate {A = ℕ} n 0)) 0)
zeros-length n = ap (λ k. replicate k 0) (sym (length-replicate {A = ℕ} n 0))

zero_at : (index n : ℕ) → ◌≡◌ {A = ℕ} (get_or (replicate n 0) index 0) 0
zero_at index zero = refl
zero_at zero (suc n) = refl
zero_at (suc index) (suc n) = zero_at index n

zeros_pass : (test : ℕ → Bool) → test 0 ≡ true → (n : ℕ) → list_all test (replicate n 0) ≡ true
zeros_pass test is zero = refl
zeros_pass test is (suc n) = ap (λ t. t && list_all test (replicate n 0)) is ∙ zeros_pass test is n

no_zero : (n : ℕ) → list_any is_some (replicate n 0) ≡ false
no_zero zero = refl
no_zero (suc n) = no_zero n

none_retained : (n : ℕ) → filter is_some (replicate n 0) ≡ []
none_retained zero = refl
none_retained (suc n) = none_retained n

zero_more : (k : ℕ) → k ≡ 0 → 0 + k ≡ 0
zero_more k e = omega (arith, e)

none_counted : (n : ℕ) → count_of (replicate n 0) ≡ 0
none_counted zero = refl
none_counted (suc n) =
    sum_by-cons (λ y. cond (is_some y) 1 0) 0 (replicate n 0)
    ∙ zero_more (count_of (replicate n 0)) (none_counted n)

-- ---- the numbers in a pointer block

module _ (blocks : Image) (number : ℕ) where
  pub in_length : length (numbers_in blocks number) ≡ INDIRECT_INDEXES
  unfolding numbers_in
  in_length =
      by_test (nat_eq number 0) (numbers_at INDIRECT_INDEXES 0 (blocks number))
      (numbers-length INDIRECT_INDEXES 0 (blocks number))
    where
      by_test : (none : Bool) (numbers : List ℕ) → length numbers ≡ INDIRECT_INDEXES
          → length (cond none (replicate INDIRECT_INDEXES 0) numbers) ≡ INDIRECT_INDEXES
      by_test true numbers long = length-replicate {A = ℕ} INDIRECT_INDEXES 0
      by_test false numbers long = long

  -- where there is a block, they are what its bytes spell
  pub some_in : nat_eq number 0 ≡ false → numbers_in blocks number ≡ numbers_at INDIRECT_INDEXES 0 (blocks number)
  unfolding numbers_in
  some_in some =
      ap (λ none. cond none (replicate INDIRECT_INDEXES 0) (numbers_at INDIRECT_INDEXES 0 (blocks number))) some

  module _ (none : nat_eq number 0 ≡ true) where
    -- where there is none, they have what zeros have, however many
    as_zeros : (P : List ℕ → Type 0) → ((n : ℕ) → P (replicate n 0)) → P (numbers_in blocks number)
    unfolding numbers_in
    as_zeros P zeros =
        subst (λ t. P (cond t (replicate INDIRECT_INDEXES 0) (numbers_at INDIRECT_INDEXES 0 (blocks number))))
        (sym none) (zeros INDIRECT_INDEXES)

    pub none_in : numbers_in blocks number ≡ replicate (length (numbers_in blocks number)) 0
    none_in = as_zeros (λ l. l ≡ replicate (length l) 0) zeros-length

    pub none_at : (index : ℕ) → get_or (numbers_in blocks number) index 0 ≡ 0
    none_at index = as_zeros (λ l. get_or l index 0 ≡ 0) (zero_at index)

    pub none_pass : (test : ℕ → Bool) → test 0 ≡ true → list_all test (numbers_in blocks number) ≡ true
    none_pass test is = as_zeros (λ l. list_all test l ≡ true) (zeros_pass test is)

    pub none_some : list_any is_some (numbers_in blocks number) ≡ false
    none_some = as_zeros (λ l. list_any is_some l ≡ false) no_zero

    pub none_left : filter is_some (numbers_in blocks number) ≡ []
    none_left = as_zeros (λ l. filter is_some l ≡ []) none_retained

    pub none_count : count_of (numbers_in blocks number) ≡ 0
    none_count = as_zeros (λ l. count_of l ≡ 0) none_counted

  -- they are those of data blocks, where those that a block spells are
  pub placed_in : (g : Geometry)
      → (nat_eq number 0 ≡ false
      → list_all (is_data_block_or_none g) (numbers_at INDIRECT_INDEXES 0 (blocks number)) ≡ true)
      → list_all (is_data_block_or_none g) (numbers_in blocks number) ≡ true
  placed_in g placed = by_test (nat_eq number 0) refl
    where
      by_test : (none : Bool) → nat_eq number 0 ≡ none
          → list_all (is_data_block_or_none g) (numbers_in blocks number) ≡ true
      by_test true none = none_pass none (is_data_block_or_none g) refl
      by_test false some = ap (list_all (is_data_block_or_none g)) (some_in some) ∙ placed some

-- they look at their block alone
pub same_in : (one two : Image) (number : ℕ) → (nat_eq number 0 ≡ false → one number ≡ two number)
    → numbers_in one number ≡ numbers_in two number
unfolding numbers_in
same_in one two number same =
    either (nat_eq number 0) (replicate INDIRECT_INDEXES 0) (numbers_at INDIRECT_INDEXES 0 (one number))
    (numbers_at INDIRECT_INDEXES 0 (two number))
    (λ some. ap (numbers_at INDIRECT_INDEXES 0) (same some))

-- ---- the numbers that a double indirect block reaches

-- pointers of which none is one
nothing_at : (blocks : Image) (pointer : ℕ) → pointer ≡ 0 → filter is_some (numbers_in blocks pointer) ≡ []
nothing_at blocks pointer none = none_left blocks pointer (ap (λ n. nat_eq n 0) none)

module _ (blocks : Image) (number : ℕ) where
  pub doubled_length : length (doubled_in blocks number) ≡ DOUBLE_INDEXES
  unfolding doubled_in
  doubled_length =
      pieces-length (numbers_in blocks) INDIRECT_INDEXES (in_length blocks) (numbers_in blocks number)
      ∙ ap (λ n. n * INDIRECT_INDEXES) (in_length blocks number)

  -- each lies in an inner block
  pub doubled_at : (inner j : ℕ) → inner < INDIRECT_INDEXES → j < INDIRECT_INDEXES
      → get_or (doubled_in blocks number) (inner * INDIRECT_INDEXES + j) 0
      ≡ get_or (numbers_in blocks (get_or (numbers_in blocks number) inner 0)) j 0
  unfolding doubled_in
  doubled_at inner j row column =
      let wide = in_length blocks number in
      piece_at (numbers_in blocks) INDIRECT_INDEXES (in_length blocks) (numbers_in blocks number) inner j
      (omega (arith, row, wide)) column

  -- what all of them pass, those of each inner block do, and back
  pub doubled_pass : (test : ℕ → Bool)
      → list_all test (doubled_in blocks number)
      ≡ list_all (λ inner. list_all test (numbers_in blocks inner)) (numbers_in blocks number)
  unfolding doubled_in
  doubled_pass test = pieces_pass (numbers_in blocks) test (numbers_in blocks number)

  module _ (none : nat_eq number 0 ≡ true) where
    -- without a double indirect block they are zeros: what zeros pass they do
    pub no_double_pass : (test : ℕ → Bool) → test 0 ≡ true → list_all test (doubled_in blocks number) ≡ true
    no_double_pass test is =
        doubled_pass test
        ∙ none_pass blocks number none (λ inner. list_all test (numbers_in blocks inner))
        (none_pass blocks 0 refl test is)

    -- and none is that of a block
    pub no_double_left : filter is_some (doubled_in blocks number) ≡ []
    unfolding doubled_in
    no_double_left =
        pieces_retained (numbers_in blocks) is_some (numbers_in blocks number)
        (λ i less. nothing_at blocks (get_or (numbers_in blocks number) i 0) (none_at blocks number none i))

-- they look at the double block and its inner blocks alone
pub same_doubled : (one two : Image) (number other : ℕ)
    → ((i : ℕ) → i < INDIRECT_INDEXES → numbers_in one (get_or (numbers_in one number) i 0)
    ≡ numbers_in two (get_or (numbers_in two other) i 0))
    → doubled_in one number ≡ doubled_in two other
unfolding doubled_in
same_doubled one two number other same =
    let was = in_length two other in
    let now = in_length one number in
    same_pieces (numbers_in two) (numbers_in one) (numbers_in two other) (numbers_in one number)
    (now ∙ sym was) (λ i less. same i (omega (arith, less, was)))

-- ---- lists without the number of a block

retained_more : (b : Bool) (x : ℕ) (xs : List ℕ) → cond b (x ∷ xs) xs ≡ [] → (b ≡ false) × (xs ≡ [])
retained_more true x xs e = cc
retained_more false x xs e = (refl, e)

pub left_any : (xs : List ℕ) → filter is_some xs ≡ [] → list_any is_some xs ≡ false
left_any [] none = refl
left_any (x ∷ xs) none =
    let both = retained_more (is_some x) x (filter is_some xs) none in
    ap (λ t. t || list_any is_some xs) both.0 ∙ left_any xs both.1

pub left_count : (xs : List ℕ) → filter is_some xs ≡ [] → count_of xs ≡ 0
left_count xs none = sym (length-filter is_some xs) ∙ ap length none
