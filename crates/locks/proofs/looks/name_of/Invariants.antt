-- no hold of the block that was passed is the transaction's hold of the address
use Rattle.std.proofs.Common.{◌≡◌, false}
use Rattle.txn_law.specs.Holds.{is_hold_of}
use Rattle.txn_law.specs.declared.hold.Hold.{Hold}
use Rattle.locks.specs.Walks.{IsPassed}
use Rattle.locks.proofs.looks.name_of.Given as goal

abbrev pub invariant-loop-name : goal.invariant-loop-name
invariant-loop-name l =
    IsPassed (λ (hold : Hold). is_hold_of l.transaction l.addr hold ≡ false) l.holds l.addr.block.0 l.name

abbrev pub decreases-loop-name : goal.decreases-loop-name
decreases-loop-name l = l.name
