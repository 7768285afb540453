use Rattle.std.proofs.Common.{◌≡◌, ◌-◌, ap, ◌∙◌, arith}
use Rattle.base.specs.declared.TheConstants.{FIRST_HOME_BLOCK}
use Rattle.layout.specs.Geometry.{bitmap_blocks}
use Rattle.bitmap.specs.Clear.{clear_of}
use Rattle.bitmap.proofs.FreeBits.{data_there, free_blocks}
use Rattle.bitmap.proofs.OfResults.{mapped}
use Rattle.bitmap.proofs.pieces.free_blocks.Goals as goal

pub returns-clause-ok : goal.returns-clause-ok
returns-clause-ok c = mapped _ _ (λ clear is blocks tree saw holds.
    let g = c.args.snap.now.geometry in
    let there = data_there g blocks tree holds in
    let first = c.inode_bitmap-first.ensures in
    let count : c.inode_bitmap-first.result.0 - FIRST_HOME_BLOCK ≡ bitmap_blocks g.blocks =
    omega (arith, first) in
    is blocks saw
    (λ number less. (holds.bytes number (omega (arith, less, there, first))).0)
    ∙ ap (clear_of blocks FIRST_HOME_BLOCK) count ∙ free_blocks g blocks tree holds) c.clear_of.result c.clear_of.ensures.ok
