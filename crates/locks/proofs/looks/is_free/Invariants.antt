-- each hold of the block that was passed leaves the address free
use Rattle.locks.specs.Looks.{LetsPass}
use Rattle.locks.specs.Walks.{IsPassed}
use Rattle.locks.proofs.looks.is_free.Given as goal

abbrev pub invariant-loop-name : goal.invariant-loop-name
invariant-loop-name l = IsPassed (LetsPass l.transaction l.addr l.mode) l.holds l.addr.block.0 l.name

abbrev pub decreases-loop-name : goal.decreases-loop-name
decreases-loop-name l = l.name
