-- What a run tells, as lists.
use Rattle.std.specs.Prelude.{ℕ, zero, suc, ◌+◌, Bool, true, false, not, List, map, take, count_by, slice_get}
use Rattle.std.specs.Prelude.{length}
use Rattle.std.specs.Prelude.{Option, Some, None, nat_le}
use Rattle.nfs_spec.specs.Model.Entry.{Entry}
use Rattle.store_promise.specs.declared.events.Step.{Step}
use Rattle.store_promise.specs.declared.events.Step.TheVariants as step
use Rattle.store_promise.specs.declared.transcript.Answer.{Answer}
use Rattle.store_promise.specs.declared.transcript.Committed.{Committed}
use Rattle.store_promise.specs.declared.transcript.Run.{Run}

-- the boot number, the committed procedures, the answers, and the step of each event that was taken, if it
-- made one
pub record Transcript : Type 0 where
  pub boot : ℕ
  pub history : List Committed
  pub answers : List Answer
  pub steps : List (Option Step)

-- what a run tells
abbrev pub transcript_of : Run → Transcript
transcript_of run = record {
  boot = run.boot;
  history = run.history.items;
  answers = run.answers.items;
  steps = run.steps.items;
}

-- how often memory was refused to a run, to tell of one more event
abbrev pub refusals : Run → ℕ
refusals run = length run.refused.items

-- what a run hands back: what it tells, and how often memory was refused to it
pub record Report : Type 0 where
  pub run_transcript : Transcript
  pub refused : ℕ

abbrev pub report_of : Run → Report
report_of run = record { run_transcript = transcript_of run; refused = refusals run }

-- a committed procedure as an entry of the sequential server's history
abbrev pub entry_of : Committed → Entry
entry_of c = record { worker = c.worker; ctx = c.ctx; call = c.call; reply = c.reply }

-- the history, in the order of the places
abbrev pub entries_of : Transcript → List Entry
entries_of t = map entry_of t.history

-- the committed procedure of a place; places count from 1
abbrev pub committed_at : Transcript → ℕ → Option Committed
committed_at t zero = None
committed_at t (suc index) = slice_get t.history index

-- the step of an event, if one was made
abbrev pub made : Option (Option Step) → Option Step
made None = None
made (Some step) = step

abbrev pub step_at : Transcript → ℕ → Option Step
step_at t event = made (slice_get t.steps event)

-- a step that is a call of the device
abbrev pub calls_device : Option Step → Bool
calls_device (Some (step.Read block ok)) = true
calls_device (Some (step.LogIo ok)) = true
calls_device (Some (step.InstIo ok)) = true
calls_device _ = false

-- a step that is a call of the device that failed
abbrev pub fails : Option Step → Bool
fails (Some (step.Read block ok)) = not ok
fails (Some (step.LogIo ok)) = not ok
fails (Some (step.InstIo ok)) = not ok
fails _ = false

-- how many device calls the events before this one made
abbrev pub device_calls : Transcript → ℕ → ℕ
device_calls t event = count_by calls_device (take event t.steps)

-- the procedures that were committed by a clock, where the events began at this one
abbrev pub commits_by : ℕ → Transcript → ℕ → ℕ
commits_by began t clock = count_by (λ c. nat_le (began + c.clock) clock) t.history
