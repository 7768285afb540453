-- nothing is handed out, and each fragment leaves less ahead
use Rattle.std.proofs.Common.{◌≡◌}
use Rattle.rpc.specs.Cutting.{IsCut, text_of, ahead}
use Rattle.rpc.proofs.cutter.Cutter.scan.Given as goal

abbrev pub invariant-fragments : goal.invariant-fragments
invariant-fragments l = IsCut l.self × (text_of l.self ≡ text_of l.initial.self)

abbrev pub decreases-fragments : goal.decreases-fragments
decreases-fragments l = ahead l.self
