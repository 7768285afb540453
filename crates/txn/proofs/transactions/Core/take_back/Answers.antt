use Rattle.std.proofs.Common.{◌≡◌, Bool, true, ◌≤◌, ◌∙◌, ℕ, if◌then◌else◌, ap, refl, sym, subst, List, nat_lt, arith, length}
use Rattle.wal.specs.Sides.{call_comes_back}
use Rattle.circ.specs.Log.Log.{Log, installed_place}
use Rattle.objects.specs.Pins.{Residents, Unpins, pins_of}
use Rattle.objects.specs.declared.present.Present.{Present}
use Rattle.objects.proofs.Wanted.{spared_all}
use Rattle.txn_law.specs.Core.{CoreState, past}
use Rattle.txn_law.specs.Window.{Footprint}
use Rattle.txn.specs.Answering.{OfSome}
use Rattle.txn.specs.Consistent.{IsConsistent, core_of}
use Rattle.txn.specs.Pinned.{objects_in, total}
use Rattle.txn.specs.Sides.{LetsGo}
use Rattle.txn.proofs.Answered.{log_counts}
use Rattle.txn.proofs.ByParts.{installed_is}
use Rattle.txn.proofs.Consistent.{consistent_installed, consistent_on, past_same}
use Rattle.txn.proofs.Counted.{swept_is}
use Rattle.txn.proofs.Sides.{lawful_back, lets_go, preserves_all}
use Rattle.txn.proofs.transactions.Core.take_back.Goals as goal

pub invariant_of-self : goal.invariant_of-self
invariant_of-self g c =
    let core = c.self.inside in
    let old : CoreState = core_of core.log core.inodes core.begun core.out.items core.holds core.present.blocks
    core.records.items core.boot (length core.log_calls.items) (length core.inst_calls.items)
    (length core.refused.items) in
    let log : Log = c.done.new.self in
    let le : installed_place log ≤ installed_place core.log =
    let at = c.is_at_most.ensures.0 c.if-is_at_most.true in
    omega (arith, at, c.installed-installed.ensures, c.installed-before.ensures) in
    let records : List Footprint = core.records.items in
    let resident : Residents = core.present in
    let past_is : past (installed_place log) records ≡ records =
    past_same (installed_place log) core.log records le c.self.invariant.0.kept in
    let new : CoreState = record old { log = log } in
    let back : LetsGo c.args.role old new =
    preserves_all c.args.role old new refl (
      (λ (resident : Present). true),
      installed_is (λ (resident : Present). true) old log records resident.blocks (sym past_is)
          (spared_all (pins_of resident) resident.blocks),
    ) in (
      consistent_on core.log log core.holds records resident c.done.ensures.seen le c.self.invariant.0,
      lawful_back (OfSome g.C.Change.is_plan) c.args.role old new c.args.io c.args.ok back c.done.ensures.log
          c.lawful.ensures c.self.invariant.1,
      log_counts g.C.Change.are_counts old new c.done.ensures.seen.blocks refl c.self.invariant.2,
    )

pub returns-then-is_at_most-clause-others : goal.returns-then-is_at_most-clause-others
returns-then-is_at_most-clause-others g c =
    let core = c.self.inside in
    let old : CoreState = core_of core.log core.inodes core.begun core.out.items core.holds core.present.blocks
    core.records.items core.boot (length core.log_calls.items) (length core.inst_calls.items)
    (length core.refused.items) in
    let log : Log = c.done.new.self in
    let le : installed_place log ≤ installed_place core.log =
    let at = c.is_at_most.ensures.0 c.if-is_at_most.true in
    omega (arith, at, c.installed-installed.ensures, c.installed-before.ensures) in
    let records : List Footprint = core.records.items in
    let resident : Residents = core.present in
    let past_is : past (installed_place log) records ≡ records =
    past_same (installed_place log) core.log records le c.self.invariant.0.kept in
    let new : CoreState = record old { log = log } in
    let back : LetsGo c.args.role old new =
    preserves_all c.args.role old new refl (
      (λ (resident : Present). true),
      installed_is (λ (resident : Present). true) old log records resident.blocks (sym past_is)
          (spared_all (pins_of resident) resident.blocks),
    ) in
    subst (λ (before : CoreState). LetsGo c.args.role before new) c.self.view_is back

pub returns-then-is_at_most-clause-law : goal.returns-then-is_at_most-clause-law
returns-then-is_at_most-clause-law g c =
    subst (λ (before : CoreState). call_comes_back c.args.role before.log c.args.io c.args.ok c.done.new.self)
    c.self.view_is c.done.ensures.law

-- what the records that go have read, told by the same place
gone : (records : List Footprint) (old new : Residents) (place other : ℕ) → place ≡ other
    → Unpins old (λ at. total (λ kept. if nat_lt place kept.place then 0 else objects_in kept.read at) records) new
    → Unpins old (λ at. total (λ kept. if nat_lt other kept.place then 0 else objects_in kept.read at) records) new
gone records old new place other same unpins =
    subst (λ (p : ℕ). Unpins old (λ at. total (λ (kept : Footprint). if nat_lt p kept.place then 0
    else objects_in kept.read at) records) new) same unpins

pub invariant_of-self-2 : goal.invariant_of-self-2
invariant_of-self-2 g c =
    let core = c.self.inside in
    let old : CoreState = core_of core.log core.inodes core.begun core.out.items core.holds core.present.blocks
    core.records.items core.boot (length core.log_calls.items) (length core.inst_calls.items)
    (length core.refused.items) in
    let log : Log = c.done.new.self in
    let before : List Footprint = core.records.items in
    let there : Residents = core.present in
    let left : Residents = c.forget.new.present in
    let past_is : c.forget.new.records.items ≡ past (installed_place log) before =
    c.forget.ensures.records ∙ ap (λ place. past place before) c.installed-installed.ensures in
    let consistent : IsConsistent log core.holds (past (installed_place log) before) left =
    consistent_installed core.log log core.holds before there left c.done.ensures.seen
    (gone before there left c.installed-installed.result.0 (installed_place log) c.installed-installed.ensures
    c.forget.ensures.pins) c.self.invariant.0 in
    let spare : Present → Bool = c.forget.ensures.pins.1.0 in
    let more : installed_place log ≤ installed_place old.log → ⊥ = λ le.
    let at = c.is_at_most.ensures.1 (omega (arith, le, c.installed-installed.ensures, c.installed-before.ensures)) in
    let no = c.if-is_at_most.false in grind arith in
    let new : CoreState = record old {
      log = log;
      records = c.forget.new.records.items;
      present = left.blocks;
    } in
    let back : LetsGo c.args.role old new =
    lets_go c.args.role old new c.args.io c.args.ok c.done.ensures.log more (
      spare,
      installed_is spare old log c.forget.new.records.items left.blocks past_is
          (c.forget.ensures.pins.1.1
          ∙ swept_is spare core.holds (past (installed_place log) before) (pins_of left) there.blocks
          consistent.counted),
    ) in (
      subst (λ (rs : List Footprint). IsConsistent log core.holds rs left) (sym past_is) consistent,
      lawful_back (OfSome g.C.Change.is_plan) c.args.role old new c.args.io c.args.ok back c.done.ensures.log
          c.lawful.ensures c.self.invariant.1,
      log_counts g.C.Change.are_counts old new c.done.ensures.seen.blocks refl c.self.invariant.2,
    )

pub returns-clause-others : goal.returns-clause-others
returns-clause-others g c =
    let core = c.self.inside in
    let old : CoreState = core_of core.log core.inodes core.begun core.out.items core.holds core.present.blocks
    core.records.items core.boot (length core.log_calls.items) (length core.inst_calls.items)
    (length core.refused.items) in
    let log : Log = c.done.new.self in
    let before : List Footprint = core.records.items in
    let there : Residents = core.present in
    let left : Residents = c.forget.new.present in
    let past_is : c.forget.new.records.items ≡ past (installed_place log) before =
    c.forget.ensures.records ∙ ap (λ place. past place before) c.installed-installed.ensures in
    let consistent : IsConsistent log core.holds (past (installed_place log) before) left =
    consistent_installed core.log log core.holds before there left c.done.ensures.seen
    (gone before there left c.installed-installed.result.0 (installed_place log) c.installed-installed.ensures
    c.forget.ensures.pins) c.self.invariant.0 in
    let spare : Present → Bool = c.forget.ensures.pins.1.0 in
    let more : installed_place log ≤ installed_place old.log → ⊥ = λ le.
    let at = c.is_at_most.ensures.1 (omega (arith, le, c.installed-installed.ensures, c.installed-before.ensures)) in
    let no = c.if-is_at_most.false in grind arith in
    let new : CoreState = record old {
      log = log;
      records = c.forget.new.records.items;
      present = left.blocks;
    } in
    let back : LetsGo c.args.role old new =
    lets_go c.args.role old new c.args.io c.args.ok c.done.ensures.log more (
      spare,
      installed_is spare old log c.forget.new.records.items left.blocks past_is
          (c.forget.ensures.pins.1.1
          ∙ swept_is spare core.holds (past (installed_place log) before) (pins_of left) there.blocks
          consistent.counted),
    ) in
    subst (λ (before : CoreState). LetsGo c.args.role before new) c.self.view_is back

pub returns-clause-law : goal.returns-clause-law
returns-clause-law g c =
    subst (λ (before : CoreState). call_comes_back c.args.role before.log c.args.io c.args.ok c.done.new.self)
    c.self.view_is c.done.ensures.law
