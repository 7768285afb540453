use Rattle.txn_law.specs.Commit.{Planned}
use Rattle.txn.specs.Answering.{OfSome}
use Rattle.txn.proofs.Answered.{commit_leaves, commit_preserves, commit_reads, commit_set}
use Rattle.txn.proofs.transactions.Core.commit.Goals as goal

pub returns-clause-answer : goal.returns-clause-answer
returns-clause-answer g c =
    let plan : Planned = g.C.Change.planned c.args.change in
    commit_leaves c.args.self.now c.try_commit.new.self c.args.tx plan c.args.change c.try_commit.result
    c.lawful.ensures.well_formed c.try_commit.ensures.answer

pub returns-clause-sets : goal.returns-clause-sets
returns-clause-sets g c =
    let plan : Planned = g.C.Change.planned c.args.change in
    commit_set c.args.self.now c.try_commit.new.self c.args.tx plan c.args.change c.try_commit.result
    c.lawful.ensures.log c.lawful.ensures.well_formed c.try_commit.ensures.answer

pub returns-clause-stays : goal.returns-clause-stays
returns-clause-stays g c = λ other differ.
    let plan : Planned = g.C.Change.planned c.args.change in
    commit_reads (OfSome g.C.Change.is_plan) c.args.self.now c.try_commit.new.self c.args.tx plan c.args.change
    c.try_commit.result c.lawful.ensures c.try_commit.ensures.answer other differ

pub returns-clause-preserves : goal.returns-clause-preserves
returns-clause-preserves g c =
    let plan : Planned = g.C.Change.planned c.args.change in
    commit_preserves c.args.self.now c.try_commit.new.self c.args.tx plan c.args.change c.try_commit.result
    c.lawful.ensures.log c.lawful.ensures.well_formed c.try_commit.ensures.answer
