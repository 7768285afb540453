-- What holds of a worker at its seat between its steps.
use Rattle.std.specs.Prelude.{◌≡◌, Option, Some, None, IsSomeAnd}
use Rattle.nfs_spec.specs.Model.Refused.{refused}
use Rattle.nfs_types.specs.declared.status.Status.TheVariants as status
use Rattle.procs.specs.Outcome.{Outcome}
use Rattle.store_workers.specs.declared.workers.parts.Phase.{Phase}
use Rattle.store_workers.specs.declared.workers.parts.Phase.TheVariants.{Idle, Called, Planning}
use Rattle.store_workers.specs.declared.workers.parts.Phase.TheVariants.{Reading, Read}
use Rattle.store_workers.specs.declared.workers.parts.Phase.TheVariants.{Refused, Again, Waiting}
use Rattle.store_workers.specs.declared.workers.parts.Job as own
use Rattle.store_workers.specs.declared.workers.parts.State.{State}
use Rattle.txn.specs.Receipts.{Given}
use Rattle.circ.specs.declared.log.outcomes.Seq.{Seq}
use Rattle.pool_requests.specs.Answers.Evident.{IsOwn}
use Rattle.pool_requests.specs.Jobs.Sent.{Sent}
use Rattle.pool.specs.CallInFlight.{CallInFlight}

-- it is the call of the job, for its credential, and at the moment at which it was taken up
pub record IsOf (sent : Sent) (mine : own.Job) : Type 0 where
  pub call : mine.call ≡ sent.job.call
  pub credential : mine.ctx.credential ≡ sent.job.credential
  pub moment : mine.ctx.moment ≡ sent.moment

abbrev pub HasCall : State → Sent → Type 0
HasCall state sent = IsSomeAnd state.work.job (IsOf sent)

-- It waits for the place of the job's change, with the reply of this and with IO in its place.
pub record WaitsWith (place : Seq) (state : State) (sent : Sent) (given : Given Outcome) : Type 0 where
  pub place_is : given.place ≡ place
  pub own : IsOwn sent given.change
  pub reply_is : state.work.reply ≡ Some given.change.reply
  pub broken_is : state.work.broken_reply ≡ Some (refused status.Io sent.job.call)

abbrev pub StandsWith : Option Sent → Option (Given Outcome) → Phase → State → Type 0
StandsWith reply_address witness Idle state = Unit {0}
StandsWith reply_address witness Called state = IsSomeAnd reply_address (HasCall state)
StandsWith reply_address witness Planning state = IsSomeAnd reply_address (HasCall state)
StandsWith reply_address witness Reading state = IsSomeAnd reply_address (HasCall state)
StandsWith reply_address witness (Read ok) state = IsSomeAnd reply_address (HasCall state)
StandsWith reply_address witness (Refused why) state = IsSomeAnd reply_address (HasCall state)
StandsWith reply_address witness Again state = IsSomeAnd reply_address (HasCall state)
StandsWith reply_address witness (Waiting place) state =
    IsSomeAnd reply_address (λ sent. IsSomeAnd witness (WaitsWith place state sent))

-- A worker that was handed a job: what it has is the job's, and it waits only for the place of the job's change.
pub record IsSeated (worker : State) (in_flight : CallInFlight) : Type 0 where
  pub entry : worker.work.entry ≡ None
  pub given : worker.work.answer ≡ None
  pub stands : StandsWith in_flight.reply_address in_flight.witness worker.phase worker
