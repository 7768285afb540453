use Rattle.txn.proofs.Answered.{wanted_home, wanted_leaves, wanted_reads}
use Rattle.txn.proofs.transactions.Core.want.Goals as goal

pub returns-clause-answer : goal.returns-clause-answer
returns-clause-answer g c =
    wanted_leaves c.args.self.now c.take_object.new.self c.args.tx c.args.addr c.args.mode c.take_object.result
    c.take_object.ensures.answer

pub returns-clause-stays : goal.returns-clause-stays
returns-clause-stays g c = λ other.
    wanted_reads c.args.self.now c.take_object.new.self c.args.tx c.args.addr c.args.mode c.take_object.result
    c.take_object.ensures.answer other

pub returns-clause-preserves : goal.returns-clause-preserves
returns-clause-preserves g c =
    wanted_home c.args.self.now c.take_object.new.self c.args.tx c.args.addr c.args.mode c.take_object.result
    c.take_object.ensures.answer
