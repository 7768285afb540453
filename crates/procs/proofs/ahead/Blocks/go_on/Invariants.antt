-- fewer are left
use Rattle.std.proofs.Common.{◌-◌}
use Rattle.procs.proofs.ahead.Blocks.go_on.Given as goal

abbrev pub decreases-indexes : goal.decreases-indexes
decreases-indexes l = l.self.end - l.self.at
