use Rattle.std.proofs.Common.{◌+◌, refl, Some}
use Rattle.circ.specs.declared.log.calls.IoCall.TheVariants.{Barrier, Write}
use Rattle.store_promise.specs.declared.events.Step.TheVariants as step
use Rattle.store_promise.specs.Transcript.{device_calls}
use Rattle.store_promise.proofs.Called.{did, logged, no_more, not_settled}
use Rattle.store_promise.proofs.promises.a_device_call_is_the_one_in_the_steps.Goals as goal

pub returns-clause-barrier : goal.returns-clause-barrier
returns-clause-barrier c = λ before later tree first workers start index block events t side clock is out_is on
    long is_preserved.
    not_settled side block (later.contents (start + device_calls t index))
    (later.contents (start + device_calls t index + 1)) on
    (logged before later tree first workers start index events t (Some (step.LogIo _)) clock is is_preserved
    (Barrier side) _ refl out_is) long

pub returns-clause-write : goal.returns-clause-write
returns-clause-write c = λ before later tree first workers start index block events t written ok clock is out_is
    other changed is_preserved.
    changed ((logged before later tree first workers start index events t (Some (step.LogIo ok)) clock is is_preserved
    (Write written) ok refl out_is).others block other)

pub returns-clause-content : goal.returns-clause-content
returns-clause-content c = λ before later tree first workers start index events t written clock is out_is few
    is_preserved.
    no_more _ _
    (logged before later tree first workers start index events t (Some (step.LogIo _)) clock is is_preserved
    (Write written) _ refl out_is).grows few

pub returns-clause-read : goal.returns-clause-read
returns-clause-read c = λ before later tree first workers start index block events t of ok clock is changed
    is_preserved.
    changed (did before later tree first workers start index events t (Some (step.Read of ok)) clock is is_preserved
    block)
