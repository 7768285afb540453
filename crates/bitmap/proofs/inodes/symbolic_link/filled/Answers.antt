use Rattle.std.proofs.Common.{ap, ◌∙◌, ◌-◌, ◌++◌, length, take, replicate}
use Rattle.std.proofs.lemmas.List.{take_all}
use Rattle.base.specs.declared.TheConstants.{BLOCK_BYTES}
use Rattle.bitmap.proofs.inodes.symbolic_link.filled.Goals as goal

pub returns-clause-is : goal.returns-clause-is
returns-clause-is c =
    c.in_ok-resize.ensures.items
    ∙ (λ i. take BLOCK_BYTES (c.in_ok-block.ensures.items i)
    ++ replicate (BLOCK_BYTES - c.in_ok-block.ensures.len i) 0)
    ∙ ap (λ l. l ++ replicate (BLOCK_BYTES - length c.args.bytes.now) 0)
    (take_all BLOCK_BYTES c.args.bytes.now c.requires)
