use Rattle.std.proofs.Common.{rules}
use Rattle.store_workers.proofs.workers.parts.State.read.Goals as goal

pub returns-clause-step : goal.returns-clause-step
returns-clause-step g c = record {
  io = c.in-Some.io.now;
  io_is = search rules;
  answer = c.perform.result;
  made_is = search rules;
  content = c.perform.new.self.content;
  worker = search rules;
  call = c.perform.ensures.call;
  failure = c.perform.ensures.failure;
  brings = search rules;
}
