use Rattle.std.proofs.Common.{◌≡◌, suc, ◌+◌, ◌-◌, ◌/◌, sym, ap, ◌∙◌, length, arith}
use Rattle.std.specs.List.{range_with_len}
use Rattle.base.specs.declared.TheConstants.{BLOCK_BYTES}
use Rattle.nfs_spec.specs.Model.Cost.{cost, file_cost}
use Rattle.nfs_spec.specs.Procedures.Write.{mapped_with, with_text}
use Rattle.layout.specs.Decode.{body_of, mapped_of, numbers_of}
use Rattle.layout.specs.Parts.{content_in}
use Rattle.bitmap.proofs.OfResults.{mapped}
use Rattle.inode_data.proofs.Whole.{has_regular}
use Rattle.inode_data.proofs.added_blocks.unmapped.Goals as goal

pub returns-in-Regular-clause-ok : goal.returns-in-Regular-clause-ok
returns-in-Regular-clause-ok c =
    let g = c.args.snap.now.geometry in
    let inode = c.args.inode.now in
    let offset = c.args.offset in
    let first = offset / BLOCK_BYTES in
    let last = (offset + c.args.count - 1) / BLOCK_BYTES in
    mapped _ _ (λ added is blocks tree file text held size.
    let content = content_in g blocks in
    let maps = mapped_of (numbers_of content inode) in
    let some = c.requires.some in
    let many : last + 1 - first ≡ suc ((offset + length text - 1) / BLOCK_BYTES - first) =
    omega (arith, size, some) in
    is blocks tree file (has_regular c.args.snap.now blocks tree file inode held c.in-Regular.is) held
    ∙ ap (λ k. file_cost (mapped_with (range_with_len first k) maps) - file_cost maps) many
    ∙ sym (ap (λ kind. cost (with_text offset text (body_of g.inodes content kind inode))
    - cost (body_of g.inodes content kind inode)) c.in-Regular.is))
    c.unmapped_between.result c.unmapped_between.ensures.ok
