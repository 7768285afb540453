use Rattle.std.proofs.Common.{length, rules, subst, sym}
use Rattle.objects.specs.declared.mode.Mode.TheVariants as modes
use Rattle.txn_law.specs.Core.{CoreState}
use Rattle.txn_law.specs.CoreLaw.{IsLawfulCore}
use Rattle.txn_law.specs.Holds.{with_hold}
use Rattle.txn_law.specs.LockAnswers.{IsOpen}
use Rattle.txn_law.specs.declared.hold.Hold.{Hold}
use Rattle.txn_law.proofs.CoreLaws.{lawful_claim}
use Rattle.txn.specs.Answering.{OfSome}
use Rattle.txn.specs.Consistent.{core_of}
use Rattle.txn.proofs.Consistent.{consistent_took}
use Rattle.txn.proofs.TakenLaw.{lawful_took}
use Rattle.txn.proofs.transactions.Core.take_for_writing.Goals as goal

pub invariant_of-self : goal.invariant_of-self
invariant_of-self g c =
    let core = c.self.inside in
    let old : CoreState = core_of core.log core.inodes core.begun core.out.items core.holds core.present.blocks
    core.records.items core.boot (length core.log_calls.items) (length core.inst_calls.items)
    (length core.refused.items) in
    let open' : IsOpen old c.args.transaction c.args.addr modes.Exclusive =
    subst (λ (before : CoreState). IsOpen before c.args.transaction c.args.addr modes.Exclusive) (sym c.self.view_is)
    c.requires.free in (
      consistent_took core.log core.holds c.for_writing.result
          core.records.items
          core.present c.take.result c.take.new.holds c.take.new.present c.lawful.ensures.apart c.take.ensures.taken
          c.take.ensures.pinned c.take.ensures.refused c.take.ensures.same c.take.ensures.blocks c.self.invariant.0,
      lawful_took (OfSome g.C.Change.is_plan) old c.for_writing.result c.take.result c.take.new.holds
          c.take.new.present.blocks c.take.ensures.taken c.take.ensures.refused
          c.take.ensures.blocks
          (subst (λ (hold : Hold). IsLawfulCore (OfSome g.C.Change.is_plan)
          (record old { holds = with_hold core.holds hold })) (sym c.for_writing.ensures)
          (lawful_claim (OfSome g.C.Change.is_plan) old c.args.transaction c.args.addr.block c.args.addr c.requires.whole open'
          c.self.invariant.1)) c.self.invariant.1,
      c.self.invariant.2,
    )
