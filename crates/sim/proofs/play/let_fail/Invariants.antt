use Rattle.std.proofs.Common.{◌≡◌, ◌++◌, map, take}
use Rattle.disk.specs.Memory.{blocks_of, memory_device, past_of, to_fail}
use Rattle.sim.specs.Simulated.{number_behind}
use Rattle.sim.proofs.play.let_fail.Given as goal

abbrev pub invariant-calls : goal.invariant-calls
invariant-calls l = record {
  blocks : blocks_of l.disk ≡ blocks_of l.fn.disk;
  past : past_of l.disk ≡ past_of l.fn.disk;
  fails : to_fail l.disk ≡ to_fail l.fn.disk
      ++ map (number_behind (memory_device l.fn.disk).clock) (take l.call-index l.calls);
}
