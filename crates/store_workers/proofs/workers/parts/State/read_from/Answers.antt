use Rattle.std.proofs.Common.{rules}
use Rattle.store_workers.proofs.workers.parts.State.read_from.Goals as goal

pub returns : goal.returns
returns g c = record {
  io = c.in-Some.io.now;
  io_is = search rules;
  answer = c.read_from.result;
  made_is = search rules;
  content = c.read_from.new.self.content;
  worker = search rules;
  call = c.read_from.ensures.call;
}
