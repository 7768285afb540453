-- What shows that a step committed a procedure.
use Rattle.std.specs.Prelude.{◌≡◌, Option, Some, None, option_map}
use Rattle.procs.specs.Outcome.{Outcome}
use Rattle.store_promise.specs.declared.answers.Entry.{Entry}
use Rattle.store_promise.specs.declared.events.Committing.{Committing}
use Rattle.store_promise.specs.declared.events.Committing.TheVariants as committing
use Rattle.store_promise.specs.declared.events.Step.{Step}
use Rattle.store_promise.specs.declared.events.Step.TheVariants as step
use Rattle.txn.specs.Receipts.{Given}
use Rattle.txn.specs.declared.outcomes.Commit.{Commit}
use Rattle.txn.specs.declared.outcomes.Commit.TheVariants as commit
use Rattle.circ.specs.declared.log.outcomes.Seq.{Seq}
use Rattle.store_workers.specs.Traces.{committed_by}
use Rattle.store_workers.specs.declared.workers.trace.Trace.{Trace}
use Rattle.store_workers.specs.declared.workers.parts.State.{State}

-- the procedure that was committed
abbrev pub witnessed_entry : Given Outcome → Entry
witnessed_entry given = record {
  ctx = given.change.ctx;
  call = given.change.asked;
  reply = given.change.reply;
}

-- the place that a commit took, and that a step took
abbrev pub placed_as : Committing → Option Seq
placed_as (committing.Committed place) = Some place
placed_as committing.Full = None
placed_as committing.Foreign = None
placed_as (committing.NoMemory error) = None
placed_as committing.Broken = None
placed_as committing.Spent = None

abbrev pub placed_by : Option Step → Option Seq
placed_by (Some (step.Commit added answer)) = placed_as answer
placed_by _ = None

-- It shows the procedure that the step committed, and at which place; there is one just where one was committed.
pub record WitnessesCommit (made : Option Step) (state : State) (witness : Option (Given Outcome)) : Type 0 where
  pub entry : option_map witnessed_entry witness ≡ committed_by made state
  pub place : option_map (λ given. given.place) witness ≡ placed_by made

-- the note of a step has it then
abbrev pub IsWitnessed : Option Step → State → Trace → Trace → Type 0
IsWitnessed made state old new = old.witness ≡ None → WitnessesCommit made state new.witness

-- What a commit is answered with leaves a witness where it was committed, and else what was there.
abbrev pub PreservesWitness : {C : Type 0} → Commit C → Option (Given C) → Option (Given C) → Type 0
PreservesWitness (commit.Committed receipt) before after = after ≡ Some receipt
PreservesWitness (commit.Full back change) before after = after ≡ before
PreservesWitness (commit.Foreign back change) before after = after ≡ before
PreservesWitness (commit.NoMemory back change error) before after = after ≡ before
PreservesWitness (commit.Broken back change) before after = after ≡ before
PreservesWitness (commit.Spent back change) before after = after ≡ before
