-- fewer are left
use Rattle.std.proofs.Common.{◌-◌}
use Rattle.procs.proofs.pieces.Pieces.go_on.Given as goal

abbrev pub decreases-pieces : goal.decreases-pieces
decreases-pieces l = l.end - l.self.at
