use Rattle.std.proofs.Common.{ap, ◌∙◌}
use Rattle.nfs_spec.specs.Procedures.Places.{least_free_slot}
use Rattle.plain_tree.specs.Tree.Plain.{numbered, tree_of}
use Rattle.plain_steps.proofs.Bodies.{file_body, file_there}
use Rattle.plain_steps.proofs.tree_files.tree_updates.PlainFilesWritableFiles.free_slot.Goals as goal

pub returns-in-Some-clause-ok : goal.returns-in-Some-clause-ok
returns-in-Some-clause-ok c = λ world tree body stands at.
    c.least_free_slot.ensures
    ∙ ap least_free_slot (file_body (tree_of c.args.self.now.tree) tree c.args.directory.now body
    (numbered c.in-Some.file.now) stands at c.in-Some.ensures.some)

pub returns-in-None-clause-ok : goal.returns-in-None-clause-ok
returns-in-None-clause-ok c = λ world tree body stands at.
    absurd (file_there (tree_of c.args.self.now.tree) tree c.args.directory.now body stands at
    c.in-None.ensures.none)
