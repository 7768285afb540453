-- the pointers so far are to the blocks that stand first
use Rattle.std.proofs.Common.{◌≡◌, take}
use Rattle.txn_groups.proofs.group.pointers_to.Given as goal

abbrev pub invariant-loop-change : goal.invariant-loop-change
invariant-loop-change l = l.pointers.items ≡ take l.change-index l.group
