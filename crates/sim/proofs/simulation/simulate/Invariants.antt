use Rattle.std.specs.Vec.Iter.{into_iter_items}
use Rattle.nfs_spec.specs.Model.Sound.{SoundTime}
use Rattle.sim.specs.declared.stage.Stage.TheVariants.{First}
use Rattle.sim.proofs.Printed.{IsBegun}
use Rattle.sim.proofs.simulation.simulate.Given as goal

abbrev pub invariant-commands : goal.invariant-commands
invariant-commands g l = SoundTime l.moment
    × IsBegun (record { seconds = 0; nanoseconds = 0 }) l.moment First l.stage l.fn.script.items
    (into_iter_items l.command-iterator) (g.W.Write.contents l.fn.out) (g.W.Write.contents l.out)
