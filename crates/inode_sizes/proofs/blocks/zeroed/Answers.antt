use Rattle.std.proofs.Common.{◌∙◌, ◌-◌, ◌++◌, take, replicate, arith}
use Rattle.std.proofs.lemmas.List.{take_all, length-take-le}
use Rattle.base.specs.declared.TheConstants.{BLOCK_BYTES}
use Rattle.inode_sizes.proofs.blocks.zeroed.Goals as goal

pub returns-clause-is : goal.returns-clause-is
returns-clause-is c =
    let block = c.args.block.now in
    let whole = c.requires.len in
    let few = c.requires.from in
    let count = length-take-le c.args.from block (omega (arith, whole, few)) in
    c.in_ok-resize.ensures.items
    ∙ (λ i. take BLOCK_BYTES (c.in_ok-bytes.ensures.items i) ++ replicate (BLOCK_BYTES - c.in_ok-bytes.ensures.len i) 0)
    ∙ (λ i. take_all BLOCK_BYTES (take c.args.from block) (omega (arith, count, few)) i
    ++ replicate (BLOCK_BYTES - count i) 0)
