use Rattle.std.proofs.Common.{rules, subst}
use Rattle.txn_law.specs.Core.{CoreState}
use Rattle.txn_law.specs.CoreLaw.{IsLawfulCore}
use Rattle.txn_law.proofs.CoreLaws.{lawful_new}
use Rattle.txn.specs.Answering.{OfSome}
use Rattle.txn.proofs.transactions.Core.new.Goals as goal

pub invariant_of-result : goal.invariant_of-result
invariant_of-result g c = (
  search rules,
  subst (λ (core : CoreState). IsLawfulCore (OfSome g.C.Change.is_plan) core) (search rules)
      (lawful_new (OfSome g.C.Change.is_plan) c.args.log c.args.inodes c.args.boot c.lawful.ensures c.requires.fresh
      c.whole.ensures),
  c.requires.counts,
)
