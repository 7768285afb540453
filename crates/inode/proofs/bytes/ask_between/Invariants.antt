-- the index isn't before the first one
use Rattle.std.proofs.Common.{◌≤◌}
use Rattle.inode.proofs.bytes.ask_between.Given as goal

abbrev pub invariant-indexes : goal.invariant-indexes
invariant-indexes l = l.first ≤ l.index
