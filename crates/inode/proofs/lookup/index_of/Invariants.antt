use Rattle.std.proofs.Common.{take}
use Rattle.inode.specs.Indexed.{AreKnown}
use Rattle.inode.proofs.lookup.index_of.Given as goal

abbrev pub invariant-positions : goal.invariant-positions
invariant-positions l = AreKnown l.index (take l.at l.objects)
