-- What a read by a source leaves of a worker.
use Rattle.std.specs.Prelude.{◌≡◌, [], ◌∷◌, ◌++◌, Option, Some, None, Result, is_ok}
use Rattle.disk.specs.Device.{Content}
use Rattle.disk.specs.Overlap.{reads}
use Rattle.disk.specs.Ports.{AnsweredCalls}
use Rattle.disk.specs.declared.device.Failed.{Failed}
use Rattle.txn.specs.Fetch.{Fetch}
use Rattle.circ.specs.declared.log.outcomes.Seq.{Seq}
use Rattle.store_promise.specs.declared.events.Step.{Step}
use Rattle.store_promise.specs.declared.events.Step.TheVariants as step
use Rattle.store_workers.specs.WorkerReads.{with_read}
use Rattle.store_workers.specs.declared.workers.parts.Phase.{Phase}
use Rattle.store_workers.specs.declared.workers.parts.Phase.TheVariants.{Waiting}
use Rattle.store_workers.specs.declared.workers.parts.State.{State}

-- The source was asked for the block that was due, and for nothing else; what it answered and brought is what
-- the worker gives back.
pub record HasReadFrom (before : AnsweredCalls) (old : State) (made : Step) (after : AnsweredCalls)
    (new : State) : Type 0 where
  pub io : Fetch
  pub io_is : old.begun.io ≡ Some io
  pub answer : Result Unit Failed
  pub made_is : made ≡ step.Read io.block (is_ok answer)
  pub content : Content
  pub worker : new ≡ with_read (is_ok answer) io content old
  pub call : after ≡ before ++ (reads io.block.0 content, answer) ∷ []

-- the place that a committed procedure waits for
abbrev pub place_awaited : Phase → Option Seq
place_awaited (Waiting place) = Some place
place_awaited _ = None
