-- What was told of the step is taken from the worker.
use Rattle.pool.proofs.work.advance.Goals as goal

pub returns : goal.returns
returns c = (
  c.step_witnessed-made.new.self.state,
  c.step_witnessed-made.ensures.step,
  c.take_answer-given.ensures.rest,
  c.take_answer-given.ensures.result,
  c.step_witnessed-made.ensures.witnessed,
)
