-- What a clause sees of a worker at its seat.
use Rattle.store_workers.specs.declared.workers.parts.State.{State}
use Rattle.pool.specs.CallInFlight.{CallInFlight}
use Rattle.pool.specs.declared.step_result.StepResult.{StepResult}

-- the worker, what the seat has of its job, and what the worker's last step was told
pub record Working : Type 0 where
  pub worker : State
  pub in_flight : CallInFlight
  pub step_result : StepResult
