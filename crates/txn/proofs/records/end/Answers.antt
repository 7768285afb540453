use Rattle.std.proofs.Common.{rules, ℕ, not, nat_eq}
use Rattle.std.proofs.lemmas.Fn.{filter_same}
use Rattle.txn.proofs.records.end.Goals as goal

pub returns-clause-out : goal.returns-clause-out
returns-clause-out c = filter_same _ (λ (other : ℕ). not (nat_eq other c.args.transaction)) _
    (λ x b f r. search rules) _ _ c.retain.ensures.filtered
