use Rattle.std.proofs.Common.{rules}
use Rattle.sim_stops.proofs.runs.run_first.Goals as goal

pub returns : goal.returns
returns c = record {
  before = c.in_ok-make.field-0;
  made = c.in_ok-make.ensures;
  events = c.truncate.new.self.items;
  promised = λ tree first. rw c.in_ok-run_record.was at (c.run-disk.ensures.promised tree first);
  all = search rules;
}
