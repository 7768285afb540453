-- the blocks so far are those that stand first, each with its content
use Rattle.std.proofs.Common.{◌≡◌, length, take, All}
use Rattle.base.specs.declared.TheConstants.{BLOCK_BYTES}
use Rattle.circ.specs.Log.Log.{blocks_of}
use Rattle.txn_law.specs.Group.{IsOverlaid}
use Rattle.txn_groups.proofs.group.group_of.Given as goal

abbrev pub invariant-loop-block : goal.invariant-loop-block
invariant-loop-block l = (blocks_of l.group.items ≡ take l.block-index l.blocks)
    × All (IsOverlaid l.present.blocks l.wal l.objects) l.group.items
    × All (λ change. length change.1 ≡ BLOCK_BYTES) l.group.items
