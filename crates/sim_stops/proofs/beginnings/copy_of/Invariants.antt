use Rattle.std.proofs.Common.{◌≡◌, length}
use Rattle.disk.specs.Memory.{blocks_of}
use Rattle.sim_stops.proofs.beginnings.copy_of.Given as goal

abbrev pub invariant-blocks-2 : goal.invariant-blocks-2
invariant-blocks-2 l = length (blocks_of l.copy) ≡ length (blocks_of l.disk)
