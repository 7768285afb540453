use Rattle.std.proofs.Common.{◌≡◌, ◌∙◌, Option, Some, None, ap, length, refl, rules, sym, subst}
use Rattle.disk.specs.Device.{Content}
use Rattle.objects.specs.Present.{bytes_in, content_in, present_of}
use Rattle.objects.specs.declared.present.Present.{Present}
use Rattle.circ.specs.Log.Log.{newest, or_else}
use Rattle.txn_law.specs.Core.{CoreState}
use Rattle.txn_law.specs.CoreLaw.{IsLawfulCore}
use Rattle.txn_law.specs.Holds.{for_fetching, for_reading, with_hold}
use Rattle.txn_law.specs.declared.hold.Hold.{Hold}
use Rattle.txn_law.specs.Lists.{taken}
use Rattle.txn_law.specs.LockAnswers.{IsOpen}
use Rattle.txn_law.specs.Window.{part}
use Rattle.txn_law.proofs.CoreLaws.{lawful_fetch, lawful_held}
use Rattle.txn.specs.Answering.{OfSome}
use Rattle.txn.specs.Consistent.{core_of}
use Rattle.txn.proofs.Consistent.{consistent_took}
use Rattle.txn.proofs.TakenLaw.{lawful_in_memory, lawful_took}
use Rattle.txn.proofs.transactions.Core.take_for_reading.Goals as goal

pub invariant_of-self-in-Some : goal.invariant_of-self-in-Some
invariant_of-self-in-Some g c =
    let core = c.self.inside in
    let old : CoreState = core_of core.log core.inodes core.begun core.out.items core.holds core.present.blocks
    core.records.items core.boot (length core.log_calls.items) (length core.inst_calls.items)
    (length core.refused.items) in
    let open' : IsOpen old c.args.transaction c.args.addr c.args.mode =
    subst (λ (before : CoreState). IsOpen before c.args.transaction c.args.addr c.args.mode) (sym (c.self.view_is ∙ c.bytes_at.ensures.same))
    c.requires in
    let there : Some c.in-Some.bytes ≡ bytes_in (content_in (present_of core.present.blocks c.args.addr.block))
    c.args.addr.offset c.args.addr.len = search rules in (
      consistent_took core.log core.holds c.for_reading.result
          core.records.items
          core.present c.take.result c.take.new.holds c.take.new.present c.lawful.ensures.apart c.take.ensures.taken
          c.take.ensures.pinned c.take.ensures.refused c.take.ensures.same c.take.ensures.blocks c.self.invariant.0,
      lawful_took (OfSome g.C.Change.is_plan) old c.for_reading.result c.take.result c.take.new.holds
          c.take.new.present.blocks c.take.ensures.taken c.take.ensures.refused c.take.ensures.blocks
          (subst (λ (hold : Hold). IsLawfulCore (OfSome g.C.Change.is_plan)
          (record old { holds = with_hold core.holds hold })) (sym c.for_reading.ensures)
          (lawful_in_memory (OfSome g.C.Change.is_plan) old c.args.transaction c.args.addr c.args.mode
          c.in-Some.bytes open' there c.self.invariant.1)) c.self.invariant.1,
      c.self.invariant.2,
    )

pub take_with-requires-clause-lawful : goal.take_with-requires-clause-lawful
take_with-requires-clause-lawful g c =
    let now : CoreState = c.bytes_at.new.self in
    let lawful : IsLawfulCore (OfSome g.C.Change.is_plan) now =
    subst (λ (core : CoreState). IsLawfulCore (OfSome g.C.Change.is_plan) core) c.self.view_is c.self.invariant.1 in
    let open' : IsOpen now c.args.transaction c.args.addr c.args.mode =
    subst (λ (before : CoreState). IsOpen before c.args.transaction c.args.addr c.args.mode)
    (sym c.bytes_at.ensures.same) c.requires in
    let absent : present_of now.present c.args.addr.block ≡ None = search rules in
    let content : Content = c.in_ok-content.content in
    let logged : newest now.log c.args.addr.block.0 ≡ Some content = search rules in
    subst (λ (hold : Hold). IsLawfulCore (OfSome g.C.Change.is_plan) (taken now hold (Some content)))
    (sym c.for_reading-in-Some-latest.ensures)
    (lawful_held (OfSome g.C.Change.is_plan) now
    (taken now (for_reading c.args.transaction c.args.addr c.args.mode) (Some content))
    c.args.transaction c.args.addr c.args.mode (part content c.args.addr) open' (record {
      content = content;
      current = ap (λ (there : Option Present). or_else (content_in there) (newest now.log c.args.addr.block.0)) absent
          ∙ logged;
      bytes_there = refl;
      core = refl;
    }) lawful)

pub take_with-requires-2-clause-lawful : goal.take_with-requires-2-clause-lawful
take_with-requires-2-clause-lawful g c =
    let now : CoreState = c.bytes_at.new.self in
    let lawful : IsLawfulCore (OfSome g.C.Change.is_plan) now =
    subst (λ (core : CoreState). IsLawfulCore (OfSome g.C.Change.is_plan) core) c.self.view_is c.self.invariant.1 in
    let open' : IsOpen now c.args.transaction c.args.addr c.args.mode =
    subst (λ (before : CoreState). IsOpen before c.args.transaction c.args.addr c.args.mode)
    (sym c.bytes_at.ensures.same) c.requires in
    let absent : present_of now.present c.args.addr.block ≡ None = search rules in
    subst (λ (hold : Hold). IsLawfulCore (OfSome g.C.Change.is_plan) (taken now hold None))
    (sym c.for_fetching.ensures)
    (lawful_fetch (OfSome g.C.Change.is_plan) now
    (taken now (for_fetching c.args.transaction c.args.addr c.args.mode) None)
    c.args.transaction c.args.addr c.args.mode (record { block = c.args.addr.block; content = c.in_ok-buffer.buffer })
    open' (record {
      block = refl;
      absent = absent;
      unlogged = search rules;
      core = refl;
    }) lawful)
