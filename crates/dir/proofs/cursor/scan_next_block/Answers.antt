use Rattle.std.proofs.Common.{ℕ, List, refl, subst, ◌*◌, ◌+◌}
use Rattle.base.specs.declared.TheConstants.{SLOTS_PER_BLOCK}
use Rattle.layout.specs.Parts.{content_in}
use Rattle.dir.specs.Slots.{IsFound, block_slot, slot_at}
use Rattle.dir.proofs.Grown.{scanned}
use Rattle.dir.proofs.Moved.{moved_found}
use Rattle.dir.proofs.cursor.scan_next_block.Goals as goal

pub returns-clause-knows : goal.returns-clause-knows
returns-clause-knows c =
    let inode = c.args.inode.now in
    let snap = c.args.snap.now in
    let old = c.args.cursor.now in
    let bytes = c.in_ok-block.block.now in
    let first = SLOTS_PER_BLOCK * old.blocks in
    scanned snap old _ inode refl refl refl c.requires.none c.requires.less c.requires.there
    (λ blocks tree file is less.
    moved_found (slot_at snap.geometry.inodes (content_in snap.geometry blocks) inode)
    (block_slot snap.geometry.inodes first bytes) first (first + SLOTS_PER_BLOCK)
    (c.in_ok-block.ensures.ok blocks tree file is less) old.name c.find_in_block-scanned.result.found
    (subst (λ (name : List ℕ). IsFound (block_slot snap.geometry.inodes first bytes) name first
    (first + SLOTS_PER_BLOCK) c.find_in_block-scanned.result.found) c.as_slice.ensures
    c.find_in_block-scanned.ensures.found))
    first bytes refl c.in_ok-block.ensures.is c.valid_behind-valid_blocks.ensures
