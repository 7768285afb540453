-- What a clause sees of what a seat has of its job.
use Rattle.std.specs.Prelude.{Option}
use Rattle.pool_requests.specs.Answers.Evident.{Answered}
use Rattle.pool_requests.specs.Jobs.Sent.{Sent}
use Rattle.procs.specs.Outcome.{Outcome}
use Rattle.txn.specs.Receipts.{Given}

-- where its answer goes, until it is answered; what shows that its procedure was committed; and the answer that lies ready
pub record CallInFlight : Type 0 where
  pub reply_address : Option Sent
  pub witness : Option (Given Outcome)
  pub answer : Option Answered
