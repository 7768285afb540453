-- The bytes of a file's blocks where the first ones stay, the last of them with zeros behind its first bytes.
use Rattle.std.proofs.Common.{◌≡◌, ℕ, zero, suc, ◌+◌, ◌-◌, ◌*◌, ◌<◌, ◌≤◌, sym, ap, ◌∙◌, refl, subst}
use Rattle.std.proofs.Common.{List, [], ◌∷◌, ◌++◌, length, take, get_or, replicate, append_assoc, arith}
use Rattle.std.specs.List.{flat_map}
use Rattle.std.proofs.lemmas.List.{take-append-le}
use Rattle.std.proofs.Math.Seq.{take-append-add}
use Rattle.base.specs.declared.TheConstants.{BLOCK_BYTES}
use Rattle.inode_sizes.specs.Cut.{first_of, zeroed}
use Rattle.inode_sizes.proofs.FirstOnes.{more_zeros}

module _ (f h : ℕ → List ℕ) (none : h 0 ≡ replicate BLOCK_BYTES 0)
    (long : (n : ℕ) → length (f n) ≡ BLOCK_BYTES) where
  all_zeros : (n : ℕ) → flat_map h (replicate n 0) ≡ replicate (BLOCK_BYTES * n) 0
  all_zeros zero = refl
  all_zeros (suc n) =
      (λ i. none i ++ all_zeros n i) ∙ more_zeros BLOCK_BYTES (BLOCK_BYTES * n)
      ∙ ap (λ k. replicate {A = ℕ} k 0) there
    where
      there : BLOCK_BYTES + BLOCK_BYTES * n ≡ BLOCK_BYTES * suc n
      there = omega arith

  nothing_left : (numbers : List ℕ) → flat_map h (first_of 0 numbers)
      ≡ take 0 (flat_map f numbers) ++ replicate (BLOCK_BYTES * length numbers - 0) 0
  nothing_left numbers =
      ap (λ k. flat_map h (replicate {A = ℕ} k 0)) there ∙ all_zeros (length numbers)
      ∙ ap (λ k. replicate {A = ℕ} k 0) here
    where
      there : length numbers - 0 ≡ length numbers
      there = omega arith

      here : BLOCK_BYTES * length numbers ≡ BLOCK_BYTES * length numbers - 0
      here = omega arith

  -- the first of them, which is the last that stays
  last_here : (n : ℕ) (ns : List ℕ) (size : ℕ) → size ≤ BLOCK_BYTES → h n ≡ zeroed size (f n)
      → flat_map h (first_of 1 (n ∷ ns))
      ≡ take size (f n ++ flat_map f ns) ++ replicate (BLOCK_BYTES * length (n ∷ ns) - size) 0
  last_here n ns size most here =
      let all = long n in
      let left : suc (length ns) - 1 ≡ length ns = omega arith in
      let sums : BLOCK_BYTES - size + BLOCK_BYTES * length ns ≡ BLOCK_BYTES * suc (length ns) - size =
      omega (arith, most) in
      ap (λ k. h n ++ flat_map h (replicate {A = ℕ} k 0)) left
      ∙ (λ i. here i ++ all_zeros (length ns) i)
      ∙ append_assoc (take size (f n)) (replicate (BLOCK_BYTES - size) 0) (replicate (BLOCK_BYTES * length ns) 0)
      ∙ (λ i. sym (take-append-le size (f n) (flat_map f ns) (omega (arith, all, most))) i
      ++ (more_zeros (BLOCK_BYTES - size) (BLOCK_BYTES * length ns)
      ∙ ap (λ k. replicate {A = ℕ} k 0) sums) i)

  pub cut_bytes : (numbers : List ℕ) (k size : ℕ) → k ≤ length numbers → size ≤ BLOCK_BYTES * k
      → BLOCK_BYTES * k < size + BLOCK_BYTES
      → ((j : ℕ) → suc j < k → h (get_or numbers j 0) ≡ f (get_or numbers j 0))
      → ((j : ℕ) → suc j ≡ k → h (get_or numbers j 0) ≡ zeroed (size - BLOCK_BYTES * j) (f (get_or numbers j 0)))
      → flat_map h (first_of k numbers)
      ≡ take size (flat_map f numbers) ++ replicate (BLOCK_BYTES * length numbers - size) 0
  cut_bytes numbers zero size low most least others last =
      let is : 0 ≡ size = omega (arith, most) in
      subst (λ s. flat_map h (first_of 0 numbers)
      ≡ take s (flat_map f numbers) ++ replicate (BLOCK_BYTES * length numbers - s) 0) is (nothing_left numbers)
  cut_bytes [] (suc k) size low most least others last = absurd (omega (arith, low))
  cut_bytes (n ∷ ns) (suc zero) size low most least others last =
      let same : size - BLOCK_BYTES * 0 ≡ size = omega arith in
      last_here n ns size (omega (arith, most)) (last 0 refl ∙ ap (λ s. zeroed s (f n)) same)
  cut_bytes (n ∷ ns) (suc (suc k)) size low most least others last =
      let rest = size - BLOCK_BYTES in
      let whole : length (f n) + (size - BLOCK_BYTES) ≡ size = let all = long n in omega (arith, all, least) in
      let left : suc (length ns) - suc (suc k) ≡ length ns - suc k = omega arith in
      let sums : BLOCK_BYTES * length ns - (size - BLOCK_BYTES) ≡ BLOCK_BYTES * suc (length ns) - size =
      omega (arith, least) in
      ap (λ m. h n ++ flat_map h (take (suc k) ns ++ replicate {A = ℕ} m 0)) left
      ∙ (λ i. others 0 (omega arith) i
      ++ cut_bytes ns (suc k) (size - BLOCK_BYTES) (omega (arith, low)) (omega (arith, most)) (omega (arith, least))
      (λ j less. others (suc j) (omega (arith, less)))
      (λ j is. last (suc j) (omega (arith, is))
      ∙ ap (λ s. zeroed s (f (get_or ns j 0))) (shift j is)) i)
      ∙ sym (append_assoc (f n) (take (size - BLOCK_BYTES) (flat_map f ns))
      (replicate (BLOCK_BYTES * length ns - (size - BLOCK_BYTES)) 0))
      ∙ (λ i. (sym (take-append-add (f n) (flat_map f ns) (size - BLOCK_BYTES))
      ∙ ap (λ s. take s (f n ++ flat_map f ns)) whole) i ++ replicate {A = ℕ} (sums i) 0)
    where
      shift : (j : ℕ) → suc j ≡ suc k → size - BLOCK_BYTES * suc j ≡ size - BLOCK_BYTES - BLOCK_BYTES * j
      shift j is = omega arith
