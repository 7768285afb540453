-- When a run has room to tell of one more event.
use Rattle.std.specs.Prelude.{◌<◌, vec_len, vec_capacity}
use Rattle.store_promise.specs.declared.transcript.Run.{Run}

-- room for one more procedure, answer and step
pub record HasReserved (run : Run) : Type 0 where
  pub history : vec_len run.history < vec_capacity run.history
  pub answers : vec_len run.answers < vec_capacity run.answers
  pub steps : vec_len run.steps < vec_capacity run.steps
