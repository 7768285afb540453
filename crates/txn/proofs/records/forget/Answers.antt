use Rattle.std.proofs.Common.{rules, nat_lt}
use Rattle.std.proofs.lemmas.Fn.{filter_same}
use Rattle.txn.proofs.records.forget.Goals as goal

pub returns-clause-records : goal.returns-clause-records
returns-clause-records g c = filter_same _ (λ kept. nat_lt c.args.installed.0 kept.place) _
    (λ x b f r. search rules) _ _ c.retain.ensures.filtered
