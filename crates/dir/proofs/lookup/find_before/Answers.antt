use Rattle.dir.specs.Asked.{LackBefore}
use Rattle.dir.proofs.Needed.{behind}
use Rattle.dir.proofs.lookup.find_before.Goals as goal

pub returns-in-Err-directory_block-clause-asks : goal.returns-in-Err-directory_block-clause-asks
returns-in-Err-directory_block-clause-asks c = λ less.
    behind (LackBefore c.args.name.now) c.args.snap.now c.args.inode.now c.args.index less
    (λ blocks tree file is. rw c.in-Ok-None.field-0-is at (c.in-Ok-None.ensures.ok blocks tree file is less))
    c.in-Err-directory_block.suspend c.in-Err-directory_block.ensures.asks
