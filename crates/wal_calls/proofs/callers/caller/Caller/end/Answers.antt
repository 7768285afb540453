-- What was out came back.
use Rattle.std.proofs.Common.{Bool, Option, subst, sym}
use Rattle.circ.specs.Log.Io.{Io}
use Rattle.wal_calls.specs.Callers.Steps.{HasEnded, comes_back}
use Rattle.wal_calls.proofs.callers.caller.Caller.end.Goals as goal

pub returns-in-Some-clause-back : goal.returns-in-Some-clause-back
returns-in-Some-clause-back g c =
    let old = c.args.core.now in
    let new = c.done.new.core in
    subst (λ (out : Option Io). HasEnded (comes_back c.args.side) old out c.args.self.made new) (sym c.in-Some.is)
    (subst (λ (ok : Bool). comes_back c.args.side old c.in-Some.io ok new) c.was_ok.ensures c.done.ensures.back)
