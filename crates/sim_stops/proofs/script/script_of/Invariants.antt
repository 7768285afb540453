use Rattle.nfs_spec.specs.Model.Sound.{SoundTime}
use Rattle.sim_stops.proofs.script.script_of.Given as goal

abbrev pub invariant-commands : goal.invariant-commands
invariant-commands l = SoundTime l.moment
