use Rattle.layout.specs.Parts.{content_in}
use Rattle.dir.proofs.Filled.{no_names, some_names}
use Rattle.dir.proofs.SlotBlocks.{of_directory}
use Rattle.dir.proofs.empty.is_empty.Goals as goal

pub returns-in-Ok-Some-clause-ok : goal.returns-in-Ok-Some-clause-ok
returns-in-Ok-Some-clause-ok c = λ blocks tree file is.
    some_names c.args.snap.now.geometry (content_in c.args.snap.now.geometry blocks) c.args.inode.now
    (of_directory c.args.snap.now blocks tree file c.args.inode.now is) c.in-Ok-Some.field-0-0
    (rw c.in-Ok-Some.field-0-is at (c.in-Ok-Some.ensures.ok) blocks tree file is)

pub returns-in-Ok-None-clause-ok : goal.returns-in-Ok-None-clause-ok
returns-in-Ok-None-clause-ok c = λ blocks tree file is.
    no_names c.args.snap.now.geometry (content_in c.args.snap.now.geometry blocks) c.args.inode.now
    (of_directory c.args.snap.now blocks tree file c.args.inode.now is)
    (rw c.in-Ok-None.field-0-is at (c.in-Ok-None.ensures.ok) blocks tree file is)
