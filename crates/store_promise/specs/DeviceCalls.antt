-- What the device calls that steps tell do to the contents that a crash may leave.
use Rattle.std.specs.Prelude.{◌≡◌, ◌≢◌, ◌⊎◌, ℕ, ◌+◌, Bool, true, false, if◌then◌else◌, List, [], ◌∷◌, ◌++◌}
use Rattle.std.specs.Prelude.{Option, Some, count_by, slice_get, take}
use Rattle.disk.specs.Device.{Content, is_on, newest_only}
use Rattle.disk.specs.declared.block.Side.{Side}
use Rattle.circ.specs.declared.log.calls.IoCall.{IoCall}
use Rattle.circ.specs.declared.log.calls.IoCall.TheVariants.{Write, Barrier}
use Rattle.store_promise.specs.declared.events.Step.{Step}
use Rattle.store_promise.specs.declared.events.Step.TheVariants as step
use Rattle.store_promise.specs.FailedCalls.{one_if}
use Rattle.store_promise.specs.LogState.{CallState, LogState, idle, out, was_made}
use Rattle.store_promise.specs.Schedule.{Schedule, state_before}
use Rattle.store_promise.specs.Transcript.{calls_device}

-- the contents that a crash may leave of each block
abbrev pub Contents : Type 0
Contents = ℕ → List Content

-- no block has changed
abbrev pub AreStill : Contents → Contents → Type 0
AreStill old new = (block : ℕ) → new block ≡ old block

-- a block may have one content more
abbrev pub HasOneMore : List Content → List Content → Type 0
HasOneMore old new = (content : Content) × (new ≡ old ++ content ∷ [])

-- after a write it has; after one that failed it has, or has changed nothing
abbrev pub Grows : Bool → List Content → List Content → Type 0
Grows true old new = HasOneMore old new
Grows false old new = (new ≡ old) ⊎ HasOneMore old new

-- a block is written: no other changes
pub record Writes (block : ℕ) (ok : Bool) (old new : Contents) : Type 0 where
  pub grows : Grows ok (old block) (new block)
  pub others : (other : ℕ) → other ≢ block → new other ≡ old other

-- a barrier leaves the newest content alone of each block of its side; one that failed changes nothing
abbrev pub SettlesSide : Side → Bool → Contents → Contents → Type 0
SettlesSide side true old new = (block : ℕ)
    → new block ≡ (if is_on side block then newest_only (old block) else old block)
SettlesSide side false old new = AreStill old new

abbrev pub DoesCall : IoCall → Bool → Contents → Contents → Type 0
DoesCall (Write block) ok old new = Writes block.0 ok old new
DoesCall (Barrier side) ok old new = SettlesSide side ok old new

-- the call that is out is made, and no other
abbrev pub DoesCallOut : CallState → Bool → Contents → Contents → Type 0
DoesCallOut (out call) ok old new = DoesCall call ok old new
DoesCallOut idle ok old new = ⊥
DoesCallOut (was_made call before) ok old new = ⊥

-- What a step does, by the calls that the log and the installer have out: it makes that call, and else, as a
-- read and a step that is no call of the device, it changes nothing.
abbrev pub DoesStep : CallState → CallState → Option Step → Contents → Contents → Type 0
DoesStep logging installing (Some (step.LogIo ok)) old new = DoesCallOut logging ok old new
DoesStep logging installing (Some (step.InstIo ok)) old new = DoesCallOut installing ok old new
DoesStep logging installing _ old new = AreStill old new

-- so by what is told of the log
abbrev pub DoesStepBy : LogState → Option Step → Contents → Contents → Type 0
DoesStepBy log made old new = DoesStep log.log_call log.inst_call made old new

-- the step of each index does so, of contents by clock, where the first call is that of this number
abbrev pub DoEachStep : (ℕ → Contents) → Schedule → ℕ → List (Option Step) → Type 0
DoEachStep contents events start steps = (index : ℕ) (made : Option Step) → slice_get steps index ≡ Some made
    → DoesStepBy (state_before events steps index).log made
    (contents (start + count_by calls_device (take index steps)))
    (contents (start + count_by calls_device (take index steps) + one_if (calls_device made)))
