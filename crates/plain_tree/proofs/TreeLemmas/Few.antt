-- Of numbers below a bound there are no more than the bound says.
use Rattle.std.proofs.Common.{rules, ◌≡◌, ℕ, zero, suc, ◌+◌, ◌-◌, ◌<◌, ◌≤◌, sym, ap, ◌∙◌, refl, Bool, true}
use Rattle.std.proofs.Common.{false, cond, ◌&&◌}
use Rattle.std.proofs.Common.{◌||◌, not, nat_eq, arith}
use Rattle.std.specs.Cmp.{nat_cmp_total}
use Rattle.std.specs.FinSet.{FinSet, contains, contains-empty, contains-insert, contains-remove, empty}
use Rattle.std.specs.FinSet.{insert, len}
use Rattle.std.specs.FinSet.{len-empty, len-remove, nat_cmp-IsAntisymmetric, remove, retain, same_set}
use Rattle.std.specs.Ordering.{eq_by_cmp, nat_cmp}
use Rattle.base.specs.declared.TheConstants.{FILE_INDEXES}
use Rattle.nfs_spec.proofs.ModelLemmas.Sets.{contains_retain, eq_by_cmp-is, itself}
use Rattle.plain_tree.specs.Tree.Indexes.{AreIndexes}

no_member : (b : Bool) → (b ≡ true → ⊥) → b ≡ false
no_member true h = absurd (h refl)
no_member false h = refl

and_first : (a b : Bool) → (a && b) ≡ true → a ≡ true
and_first true b e = refl
and_first false b e = cc

and_second : (a b : Bool) → (a && b) ≡ true → b ≡ true
and_second true b e = e
and_second false b e = cc

not_true : (b : Bool) → not b ≡ true → b ≡ false
not_true true e = cc
not_true false e = refl

one_less : (b : Bool) (n m : ℕ) → m ≡ cond b (n - 1) n → n ≤ m + 1
one_less true n m e = omega arith
one_less false n m e = omega arith

below : (q n : ℕ) → q < suc n → eq_by_cmp nat_cmp q n ≡ false → q < n
below q n less other =
    elim (nat_eq q n) as (λ b. nat_eq q n ≡ b → q < n) [
      | true ↦ λ e.
          let same : q ≡ n = search rules in
          let tied : eq_by_cmp nat_cmp q n ≡ true = ap (λ k. eq_by_cmp nat_cmp k n) same ∙ itself n in
          let no = sym tied ∙ other in cc
      | false ↦ λ e. search rules
    ] refl

pub few : (n : ℕ) (s : FinSet nat_cmp) → ((q : ℕ) → contains s q ≡ true → q < n) → len s ≤ n
few zero s members =
    let none : s ≡ empty =
    same_set nat_cmp_total nat_cmp-IsAntisymmetric s empty (λ q. no_member (contains s q)
    (λ is. let less = members q is in absurd (omega arith))
    ∙ sym (contains-empty nat_cmp q)) in
    let size : len s ≡ 0 = ap len none ∙ len-empty nat_cmp in
    omega (arith, size)
few (suc n) s members =
    let rest : len (remove s n) ≤ n = few n (remove s n) (λ q is.
    let both = sym (contains-remove nat_cmp_total s n q) ∙ is in
    below q n (members q (and_second _ _ both)) (not_true _ (and_first _ _ both))) in
    let size = one_less (contains s n) (len s) (len (remove s n)) (len-remove nat_cmp_total s n) in
    omega (arith, rest, size)

-- a file has no more blocks than indexes
pub few_indexes : (s : FinSet nat_cmp) → AreIndexes s → len s ≤ FILE_INDEXES
few_indexes s are = few FILE_INDEXES s are

or_cases : (a b : Bool) → (a || b) ≡ true → (P : Type 0) → (a ≡ true → P) → (b ≡ true → P) → P
or_cases true b e P f g = f refl
or_cases false b e P f g = g e

pub with_index : (s : FinSet nat_cmp) (k : ℕ) → k < FILE_INDEXES → AreIndexes s → AreIndexes (insert s k)
with_index s k small are q is =
    or_cases (eq_by_cmp nat_cmp q k) (contains s q) (sym (contains-insert nat_cmp_total s k q) ∙ is)
    (q < FILE_INDEXES)
    (λ same. let e = eq_by_cmp-is q k same in omega (arith, e, small)) (are q)

pub fewer_indexes : (s : FinSet nat_cmp) (p : ℕ → Bool) → AreIndexes s → AreIndexes (retain s p)
fewer_indexes s p are q is = are q (and_first (contains s q) (p q) (sym (contains_retain s p q) ∙ is))

pub no_indexes : AreIndexes empty
no_indexes q is = let no = sym (contains-empty nat_cmp q) ∙ is in cc
