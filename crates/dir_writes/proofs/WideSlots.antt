-- The entries of slots behind which more are free.
use Rattle.std.proofs.Common.{◌≡◌, ℕ, zero, suc, ◌+◌, ◌<◌, ◌≤◌, ap, ◌∙◌, refl, cond, nat_lt}
use Rattle.std.proofs.Common.{[], None, Ok, arith}
use Rattle.std.specs.List.{cons_option}
use Rattle.std.proofs.lemmas.Bool.{le-ltb, lt-ltb}
use Rattle.layout.specs.Decode.{dirent_in}
use Rattle.dir.specs.Slots.{Lying}
use Rattle.dir.proofs.FoundIn.{entries}

-- these slots, and free ones behind them
abbrev pub widened : Lying → ℕ → Lying
widened lies end k = cond (nat_lt k end) (lies k) (Ok None)

module _ (lies : Lying) (end : ℕ) where
  pub within : (k : ℕ) → k < end → widened lies end k ≡ lies k
  within k less = ap (λ t. cond t (lies k) (Ok None)) (lt-ltb k end less)

  pub past : (k : ℕ) → end ≤ k → widened lies end k ≡ Ok None
  past k more = ap (λ t. cond t (lies k) (Ok None)) (le-ltb k end more)

  none_more : (a m : ℕ) → end ≤ a → entries (widened lies end) a m ≡ []
  none_more a zero more = refl
  none_more a (suc m) more = λ i.
      cons_option (dirent_in a (past a more i)) (none_more (a + 1) m (omega (arith, more)) i)

  pub as_many : (a n m : ℕ) → a + n ≡ end → entries (widened lies end) a (n + m) ≡ entries lies a n
  as_many a zero m e = ap (entries (widened lies end) a) (plus m) ∙ none_more a m (omega (arith, e))
    where
      plus : (m : ℕ) → 0 + m ≡ m
      plus m = omega arith
  as_many a (suc n) m e =
      ap (entries (widened lies end) a) (plus n m)
      ∙ (λ i. cons_option (dirent_in a (within a (omega (arith, e)) i)) (as_many (a + 1) n m (omega (arith, e)) i))
    where
      plus : (n m : ℕ) → suc n + m ≡ suc (n + m)
      plus n m = omega arith
