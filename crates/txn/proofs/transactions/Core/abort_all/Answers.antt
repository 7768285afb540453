-- Each ending leaves fewer.
use Rattle.std.proofs.Common.{subst, sym, ℕ, ◌<◌, length}
use Rattle.txn_law.specs.Core.{CoreState, without}
use Rattle.txn.proofs.Fewer.{fewer}
use Rattle.txn.proofs.transactions.Core.abort_all.Goals as goal

pub ending-smaller : goal.ending-smaller
ending-smaller g c =
    let out = c.ending.self.out in
    let some = c.in-Some.ensures.some in
    let less = subst (λ (n : ℕ). length (without n out) < length out) some.1 (fewer out some.0) in
    subst (λ (core : CoreState). length core.out < length out) (sym c.abort.ensures.only) less
