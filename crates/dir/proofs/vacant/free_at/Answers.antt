use Rattle.std.proofs.Common.{◌*◌, ◌+◌}
use Rattle.base.specs.declared.TheConstants.{SLOTS_PER_BLOCK}
use Rattle.layout.specs.Parts.{content_in}
use Rattle.dir.specs.Slots.{block_slot, slot_at}
use Rattle.dir.proofs.VacantIn.{moved_free}
use Rattle.dir.proofs.vacant.free_at.Goals as goal

pub returns-in-Ok-clause-ok : goal.returns-in-Ok-clause-ok
returns-in-Ok-clause-ok c = λ blocks tree file is less.
    moved_free
    (slot_at c.args.snap.now.geometry.inodes (content_in c.args.snap.now.geometry blocks) c.args.inode.now)
    (block_slot c.args.snap.now.geometry.inodes (SLOTS_PER_BLOCK * c.args.index) c.in-Ok.block.now)
    (SLOTS_PER_BLOCK * c.args.index) (SLOTS_PER_BLOCK * c.args.index + SLOTS_PER_BLOCK)
    (c.in-Ok.ensures.ok blocks tree file is less) c.free_in_block.result
    (c.free_in_block.ensures c.args.snap.now.geometry.inodes)
