use Rattle.std.proofs.Common.{◌*◌, ◌+◌}
use Rattle.base.specs.declared.TheConstants.{SLOTS_PER_BLOCK}
use Rattle.layout.specs.Parts.{content_in}
use Rattle.dir.specs.Slots.{block_slot, slot_at}
use Rattle.dir.proofs.Moved.{moved_found}
use Rattle.dir.proofs.lookup.find_at.Goals as goal

pub returns-clause-ok : goal.returns-clause-ok
returns-clause-ok c = λ blocks tree file is less.
    moved_found
    (slot_at c.args.snap.now.geometry.inodes (content_in c.args.snap.now.geometry blocks) c.args.inode.now)
    (block_slot c.args.snap.now.geometry.inodes (SLOTS_PER_BLOCK * c.args.index) c.in_ok-block.block.now)
    (SLOTS_PER_BLOCK * c.args.index) (SLOTS_PER_BLOCK * c.args.index + SLOTS_PER_BLOCK)
    (c.in_ok-block.ensures.ok blocks tree file is less) c.args.name.now c.find_in_block-scanned.result.found
    c.find_in_block-scanned.ensures.found
