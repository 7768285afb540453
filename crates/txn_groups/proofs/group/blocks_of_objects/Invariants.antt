-- what is found so far, and the rest, are the blocks of all
use Rattle.std.proofs.Common.{◌≡◌, drop}
use Rattle.txn_law.specs.Group.{blocks_of, blocks_after}
use Rattle.txn_groups.proofs.group.blocks_of_objects.Given as goal

abbrev pub invariant-loop-object : goal.invariant-loop-object
invariant-loop-object l = blocks_after l.blocks.items (drop l.object-index l.objects) ≡ blocks_of l.objects
