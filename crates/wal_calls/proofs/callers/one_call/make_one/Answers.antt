use Rattle.std.proofs.Common.{◌≡◌, ◌∙◌, true, Option, None, is_some, rules, subst, sym}
use Rattle.wal.specs.Sides.{may_call}
use Rattle.circ.specs.Log.Io.{Io}
use Rattle.wal_calls.specs.Callers.Steps.{HasStepped, comes_back, goes_out}
use Rattle.wal_calls.proofs.CallersLemmas.Sides.{makes_one, stepped_may}
use Rattle.txn.specs.Answering.{OfSome}
use Rattle.wal_calls.proofs.callers.one_call.make_one.Goals as goal

pub returns-clause-may : goal.returns-clause-may
returns-clause-may g c =
    let side = c.args.side in
    let some : is_some c.step.result ≡ true = search rules in
    let first : HasStepped (may_call side) (goes_out side) (comes_back side) c.args.core.now None
    c.new-caller.result.made c.step.result c.step.new.core c.step.new.self.io c.step.new.self.made =
    subst (λ (out : Option Io). HasStepped (may_call side) (goes_out side) (comes_back side) c.args.core.now out
    c.new-caller.result.made c.step.result c.step.new.core c.step.new.self.io c.step.new.self.made)
    c.new-caller.ensures.0 c.step.ensures.step in
    sym some ∙ stepped_may side c.args.core.now c.step.new.core c.new-caller.result.made c.step.result
    c.step.new.self.io c.step.new.self.made first

pub returns-clause-one : goal.returns-clause-one
returns-clause-one g c = λ _.
    let side = c.args.side in
    let some : is_some c.step.result ≡ true = search rules in
    let first : HasStepped (may_call side) (goes_out side) (comes_back side) c.args.core.now None
    c.new-caller.result.made c.step.result c.step.new.core c.step.new.self.io c.step.new.self.made =
    subst (λ (out : Option Io). HasStepped (may_call side) (goes_out side) (comes_back side) c.args.core.now out
    c.new-caller.result.made c.step.result c.step.new.core c.step.new.self.io c.step.new.self.made)
    c.new-caller.ensures.0 c.step.ensures.step in
    makes_one side (OfSome g.C.Change.is_plan) c.args.core.now c.step.new.core c.step-2.new.core c.end-2.new.core
    (g.D.CrashDisk.device c.args.disk.now) (g.D.CrashDisk.device c.make.new.disk) c.new-caller.result.made
    c.step.result c.step-2.result c.step.new.self.io c.step-2.new.self.io c.step.new.self.made c.make.new.self.made
    c.step-2.new.self.made c.make.result first some c.lawful.ensures (c.make.ensures.made side)
    (subst (λ (out : Option Io). HasStepped (may_call side) (goes_out side) (comes_back side) c.step.new.core out
    c.make.new.self.made c.step-2.result c.step-2.new.core c.step-2.new.self.io c.step-2.new.self.made)
    c.make.ensures.io c.step-2.ensures.step)
    c.end-2.ensures.back
