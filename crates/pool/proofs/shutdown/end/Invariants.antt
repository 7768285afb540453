use Rattle.std.proofs.Common.{◌≡◌, length}
use Rattle.pool.proofs.shutdown.end.Given as goal

abbrev pub invariant-loop-seat : goal.invariant-loop-seat
invariant-loop-seat g l = l.rt ≡ l.fn.rt

abbrev pub decreases-loop-seat : goal.decreases-loop-seat
decreases-loop-seat g l = length l.seats.items
