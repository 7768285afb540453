use Rattle.std.proofs.Common.{◌≡◌, ◌-◌, ap, ◌∙◌, nat_le, arith}
use Rattle.base.specs.declared.TheConstants.{FIRST_HOME_BLOCK}
use Rattle.layout.specs.Geometry.{bitmap_blocks}
use Rattle.bitmap.specs.Clear.{clear_of}
use Rattle.bitmap.proofs.FreeBits.{data_there, free_blocks}
use Rattle.bitmap.proofs.OfResults.{mapped}
use Rattle.bitmap.proofs.enough_free.are_enough_free.Goals as goal

pub returns-clause-ok : goal.returns-clause-ok
returns-clause-ok c = mapped _ _ (λ is ok blocks tree saw holds.
    let g = c.args.snap.now.geometry in
    let there = data_there g blocks tree holds in
    let first = c.inode_bitmap-first.ensures in
    let count : c.inode_bitmap-first.result.0 - FIRST_HOME_BLOCK ≡ bitmap_blocks g.blocks = omega (arith, first) in
    let all = ap (clear_of blocks FIRST_HOME_BLOCK) count ∙ free_blocks g blocks tree holds in
    ok blocks saw (λ number less. (holds.bytes number (omega (arith, less, there, first))).0)
    ∙ ap (nat_le c.args.wanted) all) c.is_clear_enough.result c.is_clear_enough.ensures.ok
