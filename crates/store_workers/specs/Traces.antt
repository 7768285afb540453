-- The note that is taken of a step: what it committed.
use Rattle.std.specs.Prelude.{◌≡◌, Bool, true, false, Option, Some, None}
use Rattle.nfs_types.specs.declared.reply.Reply.{Reply}
use Rattle.store_promise.specs.declared.answers.Entry.{Entry}
use Rattle.store_promise.specs.declared.events.Committing.{Committing}
use Rattle.store_promise.specs.declared.events.Committing.TheVariants as committing
use Rattle.store_promise.specs.declared.events.Step.{Step}
use Rattle.store_promise.specs.declared.events.Step.TheVariants as step
use Rattle.store_workers.specs.declared.workers.trace.Trace.{Trace}
use Rattle.store_workers.specs.declared.workers.parts.State.{State}

-- the copy of a reply, where a note is wanted
abbrev pub copied : Bool → Reply → Option Reply
copied true reply = Some reply
copied false reply = None

-- the entry that lies ready once a commit was answered so
abbrev pub committed_as : Committing → State → Option Entry
committed_as (committing.Committed place) state = state.work.entry
committed_as committing.Full state = None
committed_as committing.Foreign state = None
committed_as (committing.NoMemory error) state = None
committed_as committing.Broken state = None
committed_as committing.Spent state = None

-- and once a step was made
abbrev pub committed_by : Option Step → State → Option Entry
committed_by (Some (step.Commit added answer)) state = committed_as answer state
committed_by _ state = None

-- a wanted note has what the step committed
abbrev pub IsTraced : Option Step → State → Trace → Trace → Type 0
IsTraced made state old new = old.wanted ≡ true → old.entry ≡ None → new.entry ≡ committed_by made state
