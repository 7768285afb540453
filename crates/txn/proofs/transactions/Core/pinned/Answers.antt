use Rattle.std.proofs.Common.{◌≡◌, ◌<◌, ◌≤◌, ◌∙◌, ℕ, zero, suc, refl, true, Option, Some, None, IsSome, List, length, nat_eq, subst, sym, arith}
use Rattle.std.specs.Cmp.{nat_eq_equiv}
use Rattle.std.specs.Map.{lookup}
use Rattle.std.specs.Option.{unwrap_or}
use Rattle.std.proofs.lemmas.Map.Steps.{length-le_from_keys}
use Rattle.txn_law.specs.Core.{CoreState}
use Rattle.txn.specs.Pinned.{ArePinned}
use Rattle.txn.proofs.transactions.Core.pinned.Goals as goal

-- what has a count that isn't zero is listed
listed : (found : Option ℕ) → 0 < unwrap_or found 0 → IsSome found
listed None more = absurd (omega (arith, more))
listed (Some count) more = refl

pub returns : goal.returns
returns g c =
    let core = c.self.inside in λ numbers pinned.
    let of_parts = subst (λ (state : CoreState). ArePinned state numbers) (sym c.self.view_is) pinned in
    let few = length-le_from_keys nat_eq_equiv numbers core.present.counts of_parts.distinct (λ q has.
    listed (lookup (nat_eq q) core.present.counts)
    (subst (λ (n : ℕ). 0 < n) (sym (c.self.invariant.0.counted (record { 0 = q }))) (of_parts.pinned (record { 0 = q }) has))) in
    omega (arith, few, c.pinned.ensures)
