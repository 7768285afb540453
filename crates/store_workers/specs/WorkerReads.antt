-- What a read leaves of a worker.
use Rattle.std.specs.Prelude.{◌≡◌, Bool, true, false, Option, Some, None, Result, is_ok}
use Rattle.disk.specs.Device.{Content, CountsFailure, Device, HasRead, current, newest}
use Rattle.disk.specs.declared.device.Failed.{Failed}
use Rattle.txn.specs.Fetch.{Fetch}
use Rattle.store_promise.specs.declared.events.Step.{Step}
use Rattle.store_promise.specs.declared.events.Step.TheVariants as step
use Rattle.store_workers.specs.declared.workers.parts.Phase.TheVariants.{Read, Reading}
use Rattle.store_workers.specs.declared.workers.parts.State.{State}

-- a worker whose block was read, well or not, with what its buffer has then
abbrev pub with_read : Bool → Fetch → Content → State → State
with_read ok io content state = record state {
  phase = Read ok;
  begun = record state.begun { io = Some (record { block = io.block; content = content }) };
}

-- The block that was due was read, or not: the phase tells which, and where it was, the fetch has the newest
-- content, while the device keeps its model and no write of the block has failed.
pub record HasReadBlock (keeps_model : Type 0) (before : Device) (old : State) (made : Step) (after : Device)
    (new : State) : Type 0 where
  pub io : Fetch
  pub io_is : old.begun.io ≡ Some io
  pub answer : Result Unit Failed
  pub made_is : made ≡ step.Read io.block (is_ok answer)
  pub content : Content
  pub worker : new ≡ with_read (is_ok answer) io content old
  pub call : HasRead before after
  pub failure : CountsFailure before after answer
  pub brings : keeps_model → before.uncertain io.block.0 ≡ false → is_ok answer ≡ true
      → content ≡ newest (current before io.block.0)

-- a worker makes the read that is due; else nothing happens
abbrev pub MakesRead : Type 0 → Device → State → Option Step → Device → State → Type 0
MakesRead keeps_model before old None after new = (new ≡ old) × (after ≡ before)
    × (old.phase ≡ Reading → ⊥)
MakesRead keeps_model before old (Some made) after new = (old.phase ≡ Reading)
    × HasReadBlock keeps_model before old made after new
