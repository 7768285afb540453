-- A sum over the entries of a map is one over the numbers below a bound of its keys.
use Rattle.std.proofs.Common.{◌≡◌, ℕ, zero, suc, ◌+◌, ◌≤◌, inl, inr, sym, ap, ◌∙◌, refl}
use Rattle.std.proofs.Common.{cond, List, [], ◌∷◌, length, get_or, None, sum_by, arith}
use Rattle.std.specs.Cmp.{nat_cmp_total}
use Rattle.std.specs.FinMap.{FinMap, entries, get, get-remove, nat_cmp-IsAntisymmetric, remove}
use Rattle.std.specs.List.{range_with_len}
use Rattle.std.specs.Ordering.{eq_by_cmp, nat_cmp}
use Rattle.std.proofs.lemmas.Bool.{cases_eq}
use Rattle.nfs_spec.proofs.ModelLemmas.Sets.{itself}
use Rattle.nfs_spec.proofs.ProceduresLemmas.Parts.{part, sum_remove}
use Rattle.nfs_spec.proofs.ProceduresLemmas.Sums.{got_at}
use Rattle.layout.proofs.FreshFiles.{not_equal}
use Rattle.bitmap.proofs.Ranges.{one_more, same_sums}

module _ {X : Type 0} (f : ℕ × X → ℕ) where
  -- what a number counts in a map
  abbrev pub at : FinMap nat_cmp X → ℕ → ℕ
  at m n = part f n (get m n)

  no_key : (m : FinMap nat_cmp X) → ((n : ℕ) → get m n ≡ None) → (es : List (ℕ × X)) → entries m ≡ es
      → sum_by f es ≡ 0
  no_key m none [] is = refl
  no_key m none (e ∷ es) is =
      let long : length (entries m) ≡ suc (length es) = ap (λ xs. length xs) is in
      let some = got_at m e 0 (omega (arith, long)) in
      let clash = sym (none (get_or (entries m) 0 e).0) ∙ some in cc

  without : (m : FinMap nat_cmp X) (k n : ℕ) → (n ≡ k → ⊥) → get (remove m k) n ≡ get m n
  without m k n other =
      get-remove nat_cmp_total m k n
      ∙ ap (λ b. cond b None (get m n)) (not_equal n k other (eq_by_cmp nat_cmp n k) refl)

  last_gone : (m : FinMap nat_cmp X) (k : ℕ) → ((n : ℕ) → suc k ≤ n → get m n ≡ None) → (n : ℕ) → k ≤ n
      → get (remove m k) n ≡ None
  last_gone m k none n past =
      elim (cases_eq n k) [
        | inl is ↦ get-remove nat_cmp_total m k n
            ∙ ap (λ b. cond b None (get m n)) (ap (λ q. eq_by_cmp nat_cmp q k) is ∙ itself k)
        | inr other ↦ without m k n other ∙ none n (later n k past other)
      ]
    where
      later : (n k : ℕ) → k ≤ n → (n ≡ k → ⊥) → suc k ≤ n
      later n k past other = omega (arith, past, other)

  pub sum_of : (k : ℕ) (m : FinMap nat_cmp X) → ((n : ℕ) → k ≤ n → get m n ≡ None)
      → sum_by f (entries m) ≡ sum_by (at m) (range_with_len 0 k)
  sum_of zero m none = no_key m (λ n. none n (omega arith)) (entries m) refl
  sum_of (suc k) m none =
      let less = sum_of k (remove m k) (last_gone m k none) in
      let same = same_sums (at (remove m k)) (at m) 0 k (λ n from to.
      ap (part f n) (without m k n (λ is. omega (arith, is, to)))) in
      let gone = sum_remove nat_cmp_total nat_cmp-IsAntisymmetric f m k in
      let more = one_more (at m) 0 k in
      let last : at m (0 + k) ≡ part f k (get m k) = ap (at m) (omega arith) in
      omega (arith, less, same, gone, more, last)
