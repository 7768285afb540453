-- The bytes of a file's blocks after bytes were written over some in one of them, and those of the file.
use Rattle.std.proofs.Common.{◌≡◌, ℕ, zero, suc, ◌+◌, ◌-◌, ◌*◌, ◌<◌, ◌≤◌, max, inl, inr, sym, ap, ◌∙◌, refl}
use Rattle.std.proofs.Common.{true, List, [], ◌∷◌, ◌++◌, length, take, drop, get_or, replicate, nat_eq}
use Rattle.std.proofs.Common.{append_assoc, set, arith, append-nil}
use Rattle.std.specs.List.{flat_map}
use Rattle.std.proofs.lemmas.Bool.{cases_lt}
use Rattle.std.proofs.lemmas.List.{drop-append-le, drop-drop, ext_get_or, get_or-drop, get_or-take, get_or_past}
use Rattle.std.proofs.lemmas.List.{length-drop, length-take, take-append-le}
use Rattle.std.proofs.Math.Seq.{drop-append-add, take-append-add}
use Rattle.base.specs.declared.TheConstants.{BLOCK_BYTES}
use Rattle.objects.specs.Spliced.{spliced}
use Rattle.layout.specs.Fields.{is_zeros}
use Rattle.nfs_spec.specs.Procedures.Write.{overwritten}
use Rattle.nfs_spec.proofs.ProceduresLemmas.Overwriting.{preserved_before, preserved_behind, length_overwritten, written_at}
use Rattle.inode.proofs.AllTests.{all_two, same_number}

-- ---- lists with some items written over, and others before or behind

pub spliced_first : (xs ys piece : List ℕ) (at : ℕ) → at + length piece ≤ length xs
    → spliced (xs ++ ys) at piece ≡ spliced xs at piece ++ ys
spliced_first xs ys piece at has_space =
    (λ i. take-append-le at xs ys (omega (arith, has_space)) i ++ piece
    ++ drop-append-le (at + length piece) xs ys has_space i)
    ∙ sym (append_assoc (take at xs ++ piece) (drop (at + length piece) xs) ys)

pub spliced_behind : (xs ys piece : List ℕ) (at : ℕ)
    → spliced (xs ++ ys) (length xs + at) piece ≡ xs ++ spliced ys at piece
spliced_behind xs ys piece at =
    let there : length xs + at + length piece ≡ length xs + (at + length piece) = omega arith in
    (λ i. take-append-add xs ys at i ++ piece
    ++ (ap (λ k. drop k (xs ++ ys)) there ∙ drop-append-add xs ys (at + length piece)) i)
    ∙ ap (λ l. l ++ drop (at + length piece) ys) (append_assoc xs (take at ys) piece)
    ∙ append_assoc xs (take at ys ++ piece) (drop (at + length piece) ys)

module _ (f h : ℕ → List ℕ) where
  -- blocks that have the same bytes at each index
  pub same_bytes : (numbers : List ℕ)
      → ((j : ℕ) → j < length numbers → h (get_or numbers j 0) ≡ f (get_or numbers j 0))
      → flat_map h numbers ≡ flat_map f numbers
  same_bytes [] same = refl
  same_bytes (n ∷ numbers) same = λ i.
      same 0 (omega arith) i ++ same_bytes numbers (λ j less. same (suc j) (omega (arith, less))) i

  -- one of them has another block, with these bytes in it
  pub one_block : (numbers : List ℕ) (index b at : ℕ) (piece : List ℕ) → index < length numbers
      → ((n : ℕ) → length (f n) ≡ BLOCK_BYTES) → at + length piece ≤ BLOCK_BYTES
      → ((j : ℕ) → j < length numbers → (j ≡ index → ⊥) → h (get_or numbers j 0) ≡ f (get_or numbers j 0))
      → h b ≡ spliced (f (get_or numbers index 0)) at piece
      → flat_map h (set numbers index b) ≡ spliced (flat_map f numbers) (BLOCK_BYTES * index + at) piece
  one_block [] index b at piece less long has_space others here = absurd (omega (arith, less))
  one_block (n ∷ numbers) zero b at piece less long has_space others here =
      let all = long n in
      (λ i. here i ++ same_bytes numbers (λ j low. others (suc j) (omega (arith, low)) (λ is. omega (arith, is))) i)
      ∙ sym (spliced_first (f n) (flat_map f numbers) piece at (omega (arith, all, has_space)))
      ∙ ap (λ k. spliced (f n ++ flat_map f numbers) k piece) (omega arith)
  one_block (n ∷ numbers) (suc index) b at piece less long has_space others here =
      let there : length (f n) + (BLOCK_BYTES * index + at) ≡ BLOCK_BYTES * suc index + at =
      let all = long n in omega (arith, all) in
      (λ i. others 0 (omega arith) (λ is. omega (arith, is)) i
      ++ one_block numbers index b at piece (omega (arith, less)) long has_space
      (λ j low not. others (suc j) (omega (arith, low)) (λ is. not (omega (arith, is)))) here i)
      ∙ sym (spliced_behind (f n) (flat_map f numbers) piece (BLOCK_BYTES * index + at))
      ∙ ap (λ k. spliced (f n ++ flat_map f numbers) k piece) there

-- ---- the bytes of the file

over_is : (offset : ℕ) (piece all : List ℕ) → offset ≤ length all
    → spliced all offset piece ≡ overwritten offset piece all
over_is offset piece all low =
    let none : 0 ≡ offset - length all = omega (arith, low) in
    ap (λ (l : List ℕ). l ++ piece ++ drop (offset + length piece) all) (sym (append-nil (take offset all)))
    ∙ ap (λ k. take offset all ++ replicate k 0 ++ piece ++ drop (offset + length piece) all) none

zero_at : (bytes : List ℕ) (i : ℕ) → is_zeros bytes ≡ true → get_or bytes i 0 ≡ 0
zero_at [] i zeros = refl
zero_at (x ∷ xs) zero zeros = same_number x 0 (all_two (nat_eq x 0) (is_zeros xs) zeros).0
zero_at (x ∷ xs) (suc i) zeros = zero_at xs i (all_two (nat_eq x 0) (is_zeros xs) zeros).1

all_behind : (k : ℕ) (xs : List ℕ) → is_zeros xs ≡ true → is_zeros (drop k xs) ≡ true
all_behind zero xs zeros = zeros
all_behind (suc k) [] zeros = refl
all_behind (suc k) (x ∷ xs) zeros = all_behind k xs (all_two (nat_eq x 0) (is_zeros xs) zeros).1

module _ (all piece : List ℕ) (offset size : ℕ) (has_space : offset + length piece ≤ length all)
    (small : size ≤ length all) (zeros : is_zeros (drop size all) ≡ true) where
  abbrev pub new_size : ℕ
  new_size = max size (offset + length piece)

  abbrev bytes : List ℕ
  bytes = take size all

  short : length bytes ≡ size
  short = let long = length-take size all in omega (arith, long, small)

  -- an item of the file, which is a zero past its end
  item : (i : ℕ) → get_or bytes i 0 ≡ get_or all i 0
  item i = elim (cases_lt i size) [
    | inl less ↦ get_or-take size all i 0 less
    | inr past ↦
        let there : size + (i - size) ≡ i = omega (arith, past) in
        get_or_past bytes i 0 (let count = short in omega (arith, count, past))
        ∙ sym (ap (λ k. get_or all k 0) (sym there) ∙ sym (get_or-drop size all (i - size) 0)
        ∙ zero_at (drop size all) (i - size) zeros)
  ]

  each : (i : ℕ) → get_or (overwritten offset piece all) i 0 ≡ get_or (overwritten offset piece bytes) i 0
  each i = elim (cases_lt i offset) [
    | inl before ↦ preserved_before offset i piece all before ∙ sym (item i)
        ∙ sym (preserved_before offset i piece bytes before)
    | inr above ↦ (elim (cases_lt i (offset + length piece)) [
      | inl inside ↦ written_at offset i piece all above inside ∙ sym (written_at offset i piece bytes above inside)
      | inr behind ↦ preserved_behind offset i piece all behind ∙ sym (item i)
          ∙ sym (preserved_behind offset i piece bytes behind)
    ])
  ]

  pub file_bytes : take new_size (spliced all offset piece) ≡ overwritten offset piece bytes
  file_bytes =
      let whole = length_overwritten offset piece all in
      let part = length_overwritten offset piece bytes in
      let count = short in
      let taken = length-take new_size (overwritten offset piece all) in
      ap (take new_size) (over_is offset piece all (omega (arith, has_space)))
      ∙ ext_get_or 0 (take new_size (overwritten offset piece all)) (overwritten offset piece bytes)
      (omega (arith, whole, part, count, taken, has_space, small))
      (λ i inside. get_or-take new_size (overwritten offset piece all) i 0 (omega (arith, inside, taken))
      ∙ each i)

  pub zeros_behind : is_zeros (drop new_size (spliced all offset piece)) ≡ true
  zeros_behind =
      let whole = length_overwritten offset piece all in
      let left = length-drop new_size (overwritten offset piece all) in
      let before = length-drop new_size all in
      let there : size + (new_size - size) ≡ new_size = omega arith in
      ap (λ l. is_zeros (drop new_size l)) (over_is offset piece all (omega (arith, has_space)))
      ∙ ap is_zeros (ext_get_or 0 (drop new_size (overwritten offset piece all)) (drop new_size all)
      (omega (arith, whole, left, before, has_space))
      (λ i inside. get_or-drop new_size (overwritten offset piece all) i 0
      ∙ preserved_behind offset (new_size + i) piece all (omega arith) ∙ sym (get_or-drop new_size all i 0)))
      ∙ ap is_zeros (ap (λ k. drop k all) (sym there) ∙ sym (drop-drop (new_size - size) size all))
      ∙ all_behind (new_size - size) (drop size all) zeros
