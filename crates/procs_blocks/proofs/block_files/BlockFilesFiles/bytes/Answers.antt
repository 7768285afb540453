use Rattle.std.proofs.Common.{ap, ◌∙◌}
use Rattle.std.proofs.lemmas.Result.{IfErr-weaker, IfOk-weaker}
use Rattle.nfs_spec.specs.Procedures.Read.{bytes_of, piece}
use Rattle.procs_blocks.proofs.InodeNodes.{same_body}
use Rattle.procs_blocks.proofs.block_files.BlockFilesFiles.bytes.Goals as goal

pub returns-in-Some-clause-resumable : goal.returns-in-Some-clause-resumable
returns-in-Some-clause-resumable c =
    IfErr-weaker c.bytes_from.result _ _ (λ why resumes blocks tree over.
    resumes blocks tree c.args.file.now.number (rw c.in-Some.is at (c.in_ok-inode.ensures.ok blocks tree over)).0)
    c.bytes_from.ensures.resumable

pub returns-in-Some-clause-ok : goal.returns-in-Some-clause-ok
returns-in-Some-clause-ok c =
    IfOk-weaker c.bytes_from.result _ _ (λ bytes is blocks tree body over file.
    let held = rw c.in-Some.is at (c.in_ok-inode.ensures.ok blocks tree over) in
    is blocks tree c.args.file.now.number held.0
    ∙ ap (λ one. piece c.args.offset c.args.count (bytes_of one))
    (same_body c.args.self.now.snap.now blocks tree c.args.file.now body c.in-Some.inode held file))
    c.bytes_from.ensures.ok
