-- A device call that was made is the one that its step tells.
use Rattle.std.proofs.Common.{◌≡◌, ◌⊎◌, inl, inr, ◌∙◌, ap, sym, subst, ℕ, Bool, false, arith}
use Rattle.std.proofs.Common.{List, [], ◌∷◌, ◌++◌, Option, Some, Result, Ok, Err, is_ok}
use Rattle.disk.specs.Device.{Content, Device, current}
use Rattle.disk.specs.declared.device.Failed.{Failed}
use Rattle.circ.specs.Log.Io.{HasMade, HasMadeCall, Io}
use Rattle.circ.specs.declared.log.calls.IoCall.{IoCall}
use Rattle.circ.specs.declared.log.calls.IoCall.TheVariants.{Write, Barrier}
use Rattle.store_promise.specs.declared.events.Step.{Step}
use Rattle.store_promise.specs.declared.events.Step.TheVariants as step
use Rattle.store_promise.specs.DeviceCalls.{AreStill, Contents, DoesCall, DoesStep, Grows}
use Rattle.store_promise.specs.FailedCalls.{one_if}
use Rattle.store_promise.specs.LogState.{CallState}
use Rattle.store_promise.specs.Running.{IsMovedBy}
use Rattle.store_promise.specs.Transcript.{calls_device}

-- ---- a call

maybe_more : (old new : List Content) (content : Content) → (new ≡ old) ⊎ (new ≡ old ++ content ∷ [])
    → Grows false old new
maybe_more old new content (inl same) = inl same
maybe_more old new content (inr more) = inr (content, more)

by_call : (old new : Device) (call : IoCall) (content : Content) (answer : Result Unit Failed)
    → HasMadeCall old call content answer new → DoesCall call (is_ok answer) (current old) (current new)
by_call old new (Write block) content (Ok done) made =
    record { grows = (content, made.written); others = made.others }
by_call old new (Write block) content (Err failed) made = record {
  grows = maybe_more (current old block.0) (current new block.0) content made.written;
  others = made.others;
}
by_call old new (Barrier side) content (Ok done) made = made.contents
by_call old new (Barrier side) content (Err failed) made = made.contents

pub does_call : (old new : Device) (io : Io) (answer : Result Unit Failed) (ok : Bool) → ok ≡ is_ok answer
    → HasMade old io answer new → DoesCall io.call ok (current old) (current new)
does_call old new io answer ok ok_is made =
    subst (λ (b : Bool). DoesCall io.call b (current old) (current new)) (sym ok_is)
    (by_call old new io.call io.content answer made)

-- ---- no call

-- a step that is no call of the device changes nothing
pub does_nothing : (logging installing : CallState) (made : Option Step) (old new : Contents)
    → calls_device made ≡ false → AreStill old new → DoesStep logging installing made old new
does_nothing logging installing (Some (step.LogIo ok)) old new none still = cc
does_nothing logging installing (Some (step.InstIo ok)) old new none still = cc
does_nothing logging installing _ old new none still = still

-- nor does a device that has made none
pub not_called : (old new : Device) (made : Option Step) → IsMovedBy old made new → calls_device made ≡ false
    → AreStill (current old) (current new)
not_called old new made moved none = λ block.
    let calls = moved.calls in
    let no = ap one_if none in
    let at : new.clock ≡ old.clock = omega (arith, calls, no) in
    ap (λ (clock : ℕ). new.contents clock block) at ∙ moved.past.past old.clock block (omega arith)
