use Rattle.std.proofs.Common.{subst}
use Rattle.std.proofs.lemmas.Result.{IfErr-weaker, IfOk-weaker}
use Rattle.procs_files.specs.Heads.{IsNextName}
use Rattle.procs_blocks.proofs.InodeNodes.{none_there, same_body}
use Rattle.procs_blocks.proofs.block_files.BlockFilesFiles.next_name.Goals as goal

pub returns-in-Some-clause-ok : goal.returns-in-Some-clause-ok
returns-in-Some-clause-ok c =
    IfOk-weaker c.name_from.result _ _ (λ found is blocks tree body over file.
    let held = rw c.in-Some.is at (c.in_ok-inode.ensures.ok blocks tree over) in
    subst (λ one. IsNextName one c.args.from found)
    (same_body c.args.self.now.snap.now blocks tree c.args.directory.now body c.in-Some.inode held file)
    (is blocks tree c.args.directory.now.number held.0)) c.name_from.ensures.ok

pub returns-in-Some-clause-resumable : goal.returns-in-Some-clause-resumable
returns-in-Some-clause-resumable c =
    IfErr-weaker c.name_from.result _ _ (λ why p blocks tree over.
    p blocks tree c.args.directory.now.number
    (rw c.in-Some.is at (c.in_ok-inode.ensures.ok blocks tree over)).0) c.name_from.ensures.resumable

pub returns-in-None-clause-ok : goal.returns-in-None-clause-ok
returns-in-None-clause-ok c = λ blocks tree body over file.
    absurd (none_there c.args.self.now.snap.now blocks tree c.args.directory.now body
    (rw c.in-None.is at (c.in_ok-inode.ensures.ok blocks tree over)) file)
