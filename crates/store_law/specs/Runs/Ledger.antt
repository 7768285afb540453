-- What a run keeps of its numbers and places, so that no two procedures have one transaction number and none is
-- answered twice.
use Rattle.std.specs.Prelude.{◌≡◌, ℕ, ◌≤◌, length, slice_get, List, Option, Some, None}
use Rattle.store_promise.specs.declared.transcript.Answer.{Answer}
use Rattle.store_promise.specs.declared.transcript.Committed.{Committed}
use Rattle.store_promise.specs.Progress.{Again, At, Called, Idle, Planning, Progress, Read, Reading, Refused}
use Rattle.store_promise.specs.Progress.{Stage, Waiting}
use Rattle.store_promise.specs.Schedule.{Schedule, RunState}
use Rattle.store_promise.specs.Transcript.{Transcript}
use Rattle.store_law.specs.Runs.Tracing.{state_now}

-- the number of the transaction that is out
abbrev pub stage_number : Stage → Option ℕ
stage_number (Called known) = None
stage_number (Planning begun) = Some begun.number
stage_number (Reading begun taken) = Some begun.number
stage_number (Read begun taken ok) = Some begun.number
stage_number (Refused begun why) = Some begun.number
stage_number (Again begun request) = Some begun.number
stage_number (Waiting place) = None

abbrev pub number_out : Progress → Option ℕ
number_out Idle = None
number_out (At job stage) = stage_number stage

-- the place that a worker waits for
abbrev pub stage_place : Stage → Option ℕ
stage_place (Called known) = None
stage_place (Planning begun) = None
stage_place (Reading begun taken) = None
stage_place (Read begun taken ok) = None
stage_place (Refused begun why) = None
stage_place (Again begun request) = None
stage_place (Waiting place) = Some place

abbrev pub place_waited : Progress → Option ℕ
place_waited Idle = None
place_waited (At job stage) = stage_place stage

-- A transaction that is out has a number that was begun, which no other has that is out, and no procedure
-- that was committed.
pub record AreNumbered (run_state : RunState) (history : List Committed) : Type 0 where
  pub begun : (worker number : ℕ) → number_out (run_state.workers worker) ≡ Some number → number ≤ run_state.begun
  pub unique : (worker other number : ℕ) → number_out (run_state.workers worker) ≡ Some number
      → number_out (run_state.workers other) ≡ Some number → worker ≡ other
  pub unused : (worker number index : ℕ) (c : Committed) → number_out (run_state.workers worker) ≡ Some number
      → slice_get history index ≡ Some c → c.ctx.transaction ≡ number → ⊥
  pub used : (index : ℕ) (c : Committed) → slice_get history index ≡ Some c → c.ctx.transaction ≤ run_state.begun

-- A place that is waited for was taken, nobody else waits for it, and no answer has it; each answer has a
-- place that was taken.
pub record ArePlaced (run_state : RunState) (history : List Committed) (answers : List Answer) : Type 0 where
  pub taken : (worker place : ℕ) → place_waited (run_state.workers worker) ≡ Some place → place ≤ length history
  pub unique : (worker other place : ℕ) → place_waited (run_state.workers worker) ≡ Some place
      → place_waited (run_state.workers other) ≡ Some place → worker ≡ other
  pub unanswered : (worker place index : ℕ) (a : Answer) → place_waited (run_state.workers worker) ≡ Some place
      → slice_get answers index ≡ Some a → a.place ≡ Some (record { 0 = place }) → ⊥
  pub answered : (index place : ℕ) (a : Answer) → slice_get answers index ≡ Some a
      → a.place ≡ Some (record { 0 = place }) → place ≤ length history

pub record HasLedger (events : Schedule) (t : Transcript) : Type 0 where
  pub places : (state_now events t).log.places ≡ length t.history
  pub numbers : AreNumbered (state_now events t) t.history
  pub waits : ArePlaced (state_now events t) t.history t.answers
