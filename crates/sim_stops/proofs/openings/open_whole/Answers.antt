use Rattle.std.proofs.Common.{rules}
use Rattle.store_promise.specs.Transcript.{report_of}
use Rattle.sim_stops.proofs.openings.open_whole.Goals as goal

pub returns-in-None : goal.returns-in-None
returns-in-None c = record {
  opened = c.run-disk.result.0;
  seen = c.show.new.disk;
  report = report_of c.in_default.field-0;
  found = c.in-Ok.found;
  promised = λ tree first. rw c.new.ensures.items at (rw c.in_default.is at (c.run-disk.ensures.promised tree first));
  seen_files = record { reads = c.show.ensures.reads; shown = c.in-Ok.ensures.shown tt };
  wanted = search rules;
}
