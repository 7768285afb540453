use Rattle.txn.proofs.Answered.{claimed_home, claimed_leaves, claimed_reads}
use Rattle.txn.proofs.transactions.Core.claim.Goals as goal

pub returns-clause-answer : goal.returns-clause-answer
returns-clause-answer g c = (
  c.whole.result,
  c.whole.ensures.value,
  claimed_leaves c.args.self.now c.claim_at.new.self c.args.tx c.whole.result c.claim_at.result c.claim_at.ensures,
)

pub returns-clause-stays : goal.returns-clause-stays
returns-clause-stays g c = λ other.
    claimed_reads c.args.self.now c.claim_at.new.self c.args.tx c.whole.result c.claim_at.result c.claim_at.ensures
    other

pub returns-clause-preserves : goal.returns-clause-preserves
returns-clause-preserves g c =
    claimed_home c.args.self.now c.claim_at.new.self c.args.tx c.whole.result c.claim_at.result c.claim_at.ensures
