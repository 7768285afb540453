use Rattle.std.proofs.Common.{subst}
use Rattle.txn_law.specs.WellFormed.{AreApart}
use Rattle.locks.proofs.Apart.{one_holder}
use Rattle.locks.proofs.table.Table.lawful.Goals as goal

pub returns-clause-one : goal.returns-clause-one
returns-clause-one c = λ one other here there same exclusive_hold.
    one_holder c.args.self.now one other (subst AreApart c.self.view_is c.self.invariant.apart) here there same exclusive_hold
