-- A call that was made on a port, with its answer.
use Rattle.std.proofs.Common.{refl, subst, sym, Bool, Option, Some, None, Result}
use Rattle.disk.specs.Ports.{AnsweredCalls}
use Rattle.disk.specs.declared.device.Failed.{Failed}
use Rattle.wal_calls.specs.Callers.Making.{IsTriedOn}
use Rattle.circ.specs.Log.Io.{Io}
use Rattle.wal_calls.specs.Seats.Numbers.{MakesCall}

pub makes_call : (out : Option Io) (made later : Option Bool) (step_result : Option (Result Unit Failed))
    (old new : AnsweredCalls) → IsTriedOn old out made step_result new later → MakesCall out made later old new
makes_call (Some io) None later (Some answer) old new tried =
    subst (λ (l : Option Bool). MakesCall (Some io) None l old new) (sym tried.1) (answer, refl, tried.0)
makes_call (Some io) None later None old new tried = absurd tried
makes_call (Some io) (Some ok) later step_result old new tried = (tried.2, tried.1)
makes_call None made later step_result old new tried = (tried.2, tried.1)
