-- The bytes of blocks past a size, block by block.
use Rattle.std.proofs.Common.{◌≡◌, ℕ, zero, suc, ◌+◌, ◌-◌, ◌*◌, ◌<◌, ◌≤◌, sym, ap, ◌∙◌, refl, Bool, true, false, cond, ◌&&◌}
use Rattle.std.proofs.Common.{List, [], ◌∷◌, ◌++◌, length, take, drop, get_or, nat_eq, replicate, arith, length-append}
use Rattle.std.specs.List.{flat_map}
use Rattle.std.proofs.lemmas.List.{append-nil, drop_all, take_more, take-append-drop, length-take-le}
use Rattle.std.proofs.lemmas.List.Concat.{flat_map-append}
use Rattle.std.proofs.lemmas.List.Folds.{list_all-append}
use Rattle.base.specs.declared.TheConstants.{BLOCK_BYTES}
use Rattle.disk.specs.Crash.{Image}
use Rattle.layout.specs.Decode.{bytes_of, content_of}
use Rattle.layout.specs.Fields.{is_zeros}

-- what is left of two lists
drop_both : (n : ℕ) (xs ys : List ℕ) → drop n (xs ++ ys) ≡ drop n xs ++ drop (n - length xs) ys
drop_both n [] ys =
    let same : n ≡ n - 0 = omega arith in
    let none : ◌≡◌ {A = List ℕ} (drop n []) [] = drop_all n [] (omega arith) in
    ap (λ k. drop k ys) same ∙ sym (ap (λ l. l ++ drop (n - 0) ys) none)
drop_both zero (x ∷ xs) ys =
    let none : 0 ≡ 0 - length (x ∷ xs) = omega arith in
    ap (λ k. x ∷ (xs ++ drop k ys)) none
drop_both (suc n) (x ∷ xs) ys =
    let same : n - length xs ≡ suc n - length (x ∷ xs) = omega arith in
    drop_both n xs ys ∙ ap (λ k. drop n xs ++ drop k ys) same

zeros_are : (n k : ℕ) → is_zeros (drop n (replicate k 0)) ≡ true
zeros_are n zero =
    let none : ◌≡◌ {A = List ℕ} (drop n []) [] = drop_all n [] (omega arith) in ap is_zeros none
zeros_are zero (suc k) = zeros_are zero k
zeros_are (suc n) (suc k) = zeros_are n k

not_both : (a b : Bool) → a ≡ false → (a && b) ≡ false
not_both true b e = cc
not_both false b e = refl

module _ (content : Image) (long : (number : ℕ) → length (content number) ≡ BLOCK_BYTES) where
  one_long : (number : ℕ) → length (content_of content number) ≡ BLOCK_BYTES
  one_long number = by_test (nat_eq number 0)
    where
      by_test : (none : Bool) → length (cond none (replicate BLOCK_BYTES 0) (content number)) ≡ BLOCK_BYTES
      by_test true = refl
      by_test false = long number

  all_long : (numbers : List ℕ) → length (bytes_of content numbers) ≡ BLOCK_BYTES * length numbers
  unfolding bytes_of
  all_long [] = refl
  all_long (n ∷ numbers) =
      let here = one_long n in
      let rest = all_long numbers in
      let both = length-append (content_of content n) (flat_map (content_of content) numbers) in
      omega (arith, both, here, rest)

  -- no bytes are left of a block of which all are passed
  pub nothing_left : (number from : ℕ) → BLOCK_BYTES ≤ from → is_zeros (drop from (content_of content number)) ≡ true
  nothing_left number from past =
      let all = one_long number in
      ap is_zeros (drop_all from (content_of content number) (omega (arith, all, past)))

  -- those of no block are zeros
  pub no_block : (number from : ℕ) → nat_eq number 0 ≡ true → is_zeros (drop from (content_of content number)) ≡ true
  no_block number from none =
      ap (λ b. is_zeros (drop from (cond b (replicate BLOCK_BYTES 0) (content number)))) none ∙ zeros_are from BLOCK_BYTES

  -- of two runs of blocks one behind another each is passed by its own
  pub zeros_both : (size : ℕ) (xs ys : List ℕ) → is_zeros (drop size (bytes_of content (xs ++ ys)))
      ≡ (is_zeros (drop size (bytes_of content xs)) && is_zeros (drop (size - BLOCK_BYTES * length xs) (bytes_of content ys)))
  unfolding bytes_of
  zeros_both size xs ys =
      ap (λ l. is_zeros (drop size l)) (flat_map-append (content_of content) xs ys)
      ∙ ap is_zeros (drop_both size (bytes_of content xs) (bytes_of content ys))
      ∙ list_all-append (λ byte. nat_eq byte 0) (drop size (bytes_of content xs))
      (drop (size - length (bytes_of content xs)) (bytes_of content ys))
      ∙ ap (λ k. is_zeros (drop size (bytes_of content xs)) && is_zeros (drop (size - k) (bytes_of content ys)))
      (all_long xs)

  one_block : (number : ℕ) → bytes_of content (number ∷ []) ≡ content_of content number
  unfolding bytes_of
  one_block number = append-nil (content_of content number)

  -- those of no blocks are zeros
  pub zero_bytes : (size count : ℕ) → is_zeros (drop size (bytes_of content (replicate count 0))) ≡ true
  unfolding bytes_of
  zero_bytes size zero =
      let none : ◌≡◌ {A = List ℕ} (drop size []) [] = drop_all size [] (omega arith) in ap is_zeros none
  zero_bytes size (suc count) =
      let here : is_zeros (drop size (bytes_of content (0 ∷ []))) ≡ true =
      ap (λ l. is_zeros (drop size l)) (one_block 0) ∙ no_block 0 size refl in
      let rest = zero_bytes (size - BLOCK_BYTES * length {A = ℕ} (0 ∷ [])) count in
      zeros_both size (0 ∷ []) (replicate count 0) ∙ (λ i. here i && rest i)

  module _ (size : ℕ) (numbers : List ℕ) where
    pub none_yet : is_zeros (drop size (bytes_of content (take 0 numbers))) ≡ true
    unfolding bytes_of
    none_yet =
        let none : ◌≡◌ {A = List ℕ} (drop size []) [] = drop_all size [] (omega arith) in ap is_zeros none

    -- one block more
    pub one_more : (index_within : ℕ) → index_within < length numbers → is_zeros (drop size (bytes_of content (take (index_within + 1) numbers)))
        ≡ (is_zeros (drop size (bytes_of content (take index_within numbers)))
        && is_zeros (drop (size - BLOCK_BYTES * index_within) (content_of content (get_or numbers index_within 0))))
    one_more index_within less =
        let few = length-take-le index_within numbers (omega (arith, less)) in
        ap (λ l. is_zeros (drop size (bytes_of content l))) (take_more numbers index_within 0 less)
        ∙ zeros_both size (take index_within numbers) (get_or numbers index_within 0 ∷ [])
        ∙ (λ i. is_zeros (drop size (bytes_of content (take index_within numbers)))
        && is_zeros (drop (size - BLOCK_BYTES * few i) (one_block (get_or numbers index_within 0) i)))

    -- where the first blocks have something past the size, all have
    pub some_there : (index_within : ℕ) → is_zeros (drop size (bytes_of content (take index_within numbers))) ≡ false
        → is_zeros (drop size (bytes_of content numbers)) ≡ false
    some_there index_within some =
        ap (λ l. is_zeros (drop size (bytes_of content l))) (sym (take-append-drop index_within numbers))
        ∙ zeros_both size (take index_within numbers) (drop index_within numbers)
        ∙ not_both (is_zeros (drop size (bytes_of content (take index_within numbers))))
        (is_zeros (drop (size - BLOCK_BYTES * length (take index_within numbers)) (bytes_of content (drop index_within numbers)))) some
