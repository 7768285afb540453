use Rattle.std.proofs.Common.{ℕ, ◌+◌, ◌<◌}
use Rattle.circ.specs.Log.Log.{IsHomeOn}
use Rattle.circ.specs.Log.Overlay.{home_at}
use Rattle.circ.proofs.recovery.has_homes.Given as goal

abbrev pub invariant-loop-i : goal.invariant-loop-i
invariant-loop-i l = (k : ℕ) → k < l.i → IsHomeOn l.blocks (home_at l.header (l.start + k))
