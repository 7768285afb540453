use Rattle.std.proofs.Common.{◌≡◌, ◌≤◌, ◌+◌, ◌-◌, ◌/◌, suc, ap, ◌∙◌, arith}
use Rattle.std.specs.FinSet.{insert}
use Rattle.std.specs.List.{range_with_len}
use Rattle.base.specs.declared.TheConstants.{BLOCK_BYTES}
use Rattle.nfs_spec.specs.Procedures.Write.{mapped_with}
use Rattle.plain_steps.proofs.Touched.{mapped_more}
use Rattle.plain_steps.proofs.tree_files.overwrites.with_touched.Goals as goal

pub indexes-preserved : goal.indexes-preserved
indexes-preserved c =
    let order : c.args.offset / BLOCK_BYTES ≤ c.indexes.index = c.indexes.auto.index in
    c.in_ok-map_index.ensures.ok
    ∙ ap (λ s. insert s c.indexes.index) c.indexes.invariant
    ∙ mapped_more c.args.mapped.now (c.args.offset / BLOCK_BYTES) c.indexes.index order

pub returns : goal.returns
returns c =
    let first = c.args.offset / BLOCK_BYTES in
    let last = (c.args.offset + c.args.count - 1) / BLOCK_BYTES in
    let some = c.requires.some in
    let order : first ≤ last = omega (arith, some) in
    let auto = c.indexes.auto.index in
    let end = c.indexes-test.false in
    let count : c.indexes.index - first ≡ suc (last - first) = omega (arith, order, auto, end) in
    c.indexes.invariant ∙ ap (λ n. mapped_with (range_with_len first n) c.args.mapped.now) count
