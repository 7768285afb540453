use Rattle.txn.proofs.Sides.{core_back, home_back, leaves_back, reads_back}
use Rattle.txn.proofs.transactions.Core.done.Goals as goal

pub returns-clause-core : goal.returns-clause-core
returns-clause-core g c =
    core_back c.args.role c.args.self.now c.take_back.new.self c.take_back.ensures.others

pub returns-clause-leaves : goal.returns-clause-leaves
returns-clause-leaves g c =
    leaves_back c.args.role c.args.self.now c.take_back.new.self c.take_back.ensures.others
    c.lawful.ensures.well_formed

pub returns-clause-stays : goal.returns-clause-stays
returns-clause-stays g c = λ other.
    reads_back c.args.role c.args.self.now c.take_back.new.self c.take_back.ensures.others other

pub returns-clause-preserves : goal.returns-clause-preserves
returns-clause-preserves g c = λ base h.
    home_back c.args.role base c.args.self.now c.take_back.new.self c.args.io c.args.ok c.take_back.ensures.others
    c.take_back.ensures.log c.lawful.ensures.log c.lawful.ensures.well_formed h
