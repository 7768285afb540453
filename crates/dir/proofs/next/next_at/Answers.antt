use Rattle.std.proofs.Common.{rules, ◌*◌, ◌+◌, arith}
use Rattle.base.specs.declared.TheConstants.{SLOTS_PER_BLOCK}
use Rattle.layout.specs.Parts.{content_in}
use Rattle.dir.specs.Slots.{block_slot, slot_at}
use Rattle.dir.proofs.Moved.{moved_next}
use Rattle.dir.proofs.Needed.{still_needed}
use Rattle.dir.proofs.Passed.{at_err}
use Rattle.dir.proofs.SlotBlocks.{no_fault_there}
use Rattle.dir.proofs.next.next_at.Goals as goal

pub returns-in-Ok-clause-ok : goal.returns-in-Ok-clause-ok
returns-in-Ok-clause-ok c = λ blocks tree file is less.
    moved_next
    (slot_at c.args.snap.now.geometry.inodes (content_in c.args.snap.now.geometry blocks) c.args.inode.now)
    (block_slot c.args.snap.now.geometry.inodes (SLOTS_PER_BLOCK * c.args.index) c.in_ok-block.block.now)
    c.args.from (SLOTS_PER_BLOCK * c.args.index + SLOTS_PER_BLOCK)
    (λ slot low high. c.in_ok-block.ensures.ok blocks tree file is less slot
    (let from = c.requires.from in omega (arith, from, low)) high) c.in-Ok.found (rw c.in-Ok.is at c.in_ok-found.ensures.ok)

pub returns-in-Err-clause-resumable : goal.returns-in-Err-clause-resumable
returns-in-Err-clause-resumable c = λ blocks tree file is less.
    no_fault_there c.args.snap.now blocks tree file c.args.inode.now c.args.index c.args.from
    c.in_ok-block.block.now is less (c.in_ok-block.ensures.ok blocks tree file is less) c.requires.from
    (rw c.in-Err.is at c.in_ok-found.ensures.err)

pub returns-in_err-block-clause-asks : goal.returns-in_err-block-clause-asks
returns-in_err-block-clause-asks c =
    at_err c.from_residual.result c.in_err-block.field-0.0 _ (search rules)
    (still_needed c.args.snap.now c.args.inode.now c.args.index c.in_err-block.field-0.0 c.in_err-block.ensures.asks)
