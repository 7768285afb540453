use Rattle.std.proofs.Common.{◌≡◌, ◌∙◌, ap, arith, length, rules, sym, subst}
use Rattle.circ.specs.Log.Log.{IsLawful, Log, installed_place}
use Rattle.txn_law.specs.Core.{CoreState}
use Rattle.txn_law.specs.CoreLaw.{IsLawfulCore}
use Rattle.txn_law.specs.CoreWindow.{IsHomeOf, PreservesHome}
use Rattle.txn.specs.Answering.{OfSome}
use Rattle.txn.specs.Consistent.{core_of}
use Rattle.txn.specs.Sides.{counted, with_call}
use Rattle.txn.proofs.Answered.{log_counts}
use Rattle.txn.proofs.Consistent.{consistent_on}
use Rattle.txn.proofs.Sides.{call_blocks, call_inodes, call_place, home_call, lawful_call}
use Rattle.wal.specs.Sides.{with_out}
use Rattle.txn.proofs.transactions.Core.next.Goals as goal

pub invariant_of-self-2 : goal.invariant_of-self-2
invariant_of-self-2 g c =
    let core = c.self.inside in
    let old : CoreState = core_of core.log core.inodes core.begun core.out.items core.holds core.present.blocks
    core.records.items core.boot (length core.log_calls.items) (length core.inst_calls.items)
    (length core.refused.items) in
    let log : Log = c.next.new.self in
    let out : log ≡ with_out c.args.role core.log = search rules in
    let call : CoreState = with_call c.args.role old in
    let is : record old {
      log = log;
      log_calls = length c.count.new.log_calls.items;
      inst_calls = length c.count.new.inst_calls.items;
    } ≡ call =
    c.count.ensures (record old { log = log })
    ∙ ap (λ (l : Log). counted c.args.role (record old { log = l })) out in
    let place : installed_place log ≡ installed_place core.log =
    ap installed_place out ∙ call_place c.args.role core.log in (
      consistent_on core.log log core.holds core.records.items core.present c.next.ensures.seen
          (omega (arith, place)) c.self.invariant.0,
      subst (λ (now : CoreState). IsLawfulCore (OfSome g.C.Change.is_plan) now) (sym is)
          (lawful_call (OfSome g.C.Change.is_plan) c.args.role old
          (subst IsLawful (ap (λ (core : CoreState). core.log) is) c.lawful.ensures) c.self.invariant.1),
      subst (λ (now : CoreState). g.C.Change.are_counts now.log.blocks now.inodes) (sym is)
          (log_counts g.C.Change.are_counts old call (call_blocks c.args.role old) (call_inodes c.args.role old)
          c.self.invariant.2),
    )

pub returns-clause-some : goal.returns-clause-some
returns-clause-some g c = λ some.
    let core = c.self.inside in
    let old : CoreState = core_of core.log core.inodes core.begun core.out.items core.holds core.present.blocks
    core.records.items core.boot (length core.log_calls.items) (length core.inst_calls.items)
    (length core.refused.items) in
    let log : Log = c.next.new.self in
    let out : log ≡ with_out c.args.role core.log = search rules in
    let new : CoreState = record old {
      log = log;
      log_calls = length c.count.new.log_calls.items;
      inst_calls = length c.count.new.inst_calls.items;
    } in
    let is : new ≡ with_call c.args.role old =
    c.count.ensures (record old { log = log })
    ∙ ap (λ (l : Log). counted c.args.role (record old { log = l })) out in
    is ∙ ap (λ (before : CoreState). with_call c.args.role before) c.self.view_is

pub returns-clause-preserves : goal.returns-clause-preserves
returns-clause-preserves g c =
    let core = c.self.inside in
    let old : CoreState = core_of core.log core.inodes core.begun core.out.items core.holds core.present.blocks
    core.records.items core.boot (length core.log_calls.items) (length core.inst_calls.items)
    (length core.refused.items) in
    let log : Log = c.next.new.self in
    let out : log ≡ with_out c.args.role core.log = search rules in
    let new : CoreState = record old {
      log = log;
      log_calls = length c.count.new.log_calls.items;
      inst_calls = length c.count.new.inst_calls.items;
    } in
    let is : new ≡ with_call c.args.role old =
    c.count.ensures (record old { log = log })
    ∙ ap (λ (l : Log). counted c.args.role (record old { log = l })) out in
    subst (λ (before : CoreState). PreservesHome before new) c.self.view_is
    (λ base h. subst (λ (now : CoreState). IsHomeOf base now) (sym is)
    (home_call c.args.role old c.self.invariant.1.log base h))
