use Rattle.std.proofs.Common.{◌≡◌, ◌-◌, ◌∙◌, arith}
use Rattle.layout.specs.Geometry.{bitmap_blocks}
use Rattle.bitmap.specs.Clear.{clear_of}
use Rattle.bitmap.proofs.FreeBits.{data_there, free_numbers}
use Rattle.bitmap.proofs.OfResults.{mapped}
use Rattle.bitmap.proofs.pieces.free_numbers.Goals as goal

pub returns-clause-ok : goal.returns-clause-ok
returns-clause-ok c = mapped _ _ (λ clear is blocks tree saw holds.
    let g = c.args.snap.now.geometry in
    let there = data_there g blocks tree holds in
    let first = c.inode_bitmap-first.ensures in
    let end = c.inode_table-end.ensures in
    let count : c.inode_table-end.result.0 - c.inode_bitmap-first.result.0 ≡ bitmap_blocks g.inodes =
    omega (arith, first, end) in
    is blocks saw
    (λ number less. (holds.bytes number (omega (arith, less, there, first, end))).0)
    ∙ (λ i. clear_of blocks (first i) (count i)) ∙ free_numbers g blocks tree holds) c.clear_of.result c.clear_of.ensures.ok
