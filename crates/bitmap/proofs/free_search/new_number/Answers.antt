use Rattle.std.proofs.Common.{◌≡◌, ◌-◌, arith, subst}
use Rattle.layout.specs.Geometry.{bitmap_blocks, inode_bitmap_at}
use Rattle.bitmap.specs.Bits.{IsClearOf}
use Rattle.bitmap.proofs.Clears.{is_new}
use Rattle.bitmap.proofs.OfResults.{mapped}
use Rattle.bitmap.proofs.free_search.new_number.Goals as goal

pub returns-clause-ok : goal.returns-clause-ok
returns-clause-ok c = mapped _ _ (λ found is blocks tree saw holds.
    let g = c.args.snap.now.geometry in
    let first = c.inode_bitmap-first.ensures in
    let end = c.inode_table-end.ensures in
    let count : c.inode_table-end.result.0 - c.inode_bitmap-first.result.0 ≡ bitmap_blocks g.inodes =
    omega (arith, first, end) in
    is_new g blocks tree holds found
    (subst (λ n. IsClearOf blocks (inode_bitmap_at g.blocks) n found) count
    (subst (λ n. IsClearOf blocks n (c.inode_table-end.result.0 - c.inode_bitmap-first.result.0) found) first
    (is blocks saw)))) c.clear_among.result c.clear_among.ensures.ok
