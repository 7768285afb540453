use Rattle.std.proofs.Common.{arith}
use Rattle.dir.proofs.SlotBlocks.{small}
use Rattle.dir.proofs.span.span_of.Goals as goal

pub returns-then-inode-gt-LARGEST_DIRECTORY-clause-none : goal.returns-then-inode-gt-LARGEST_DIRECTORY-clause-none
returns-then-inode-gt-LARGEST_DIRECTORY-clause-none c = λ snap blocks tree file is.
    let few = small snap blocks tree file c.args.inode.now is in
    let large = c.if-inode-gt-LARGEST_DIRECTORY.true in omega (arith, few, large)
