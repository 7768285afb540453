use Rattle.std.proofs.Common.{ap, ◌∙◌}
use Rattle.std.proofs.lemmas.Result.{IfErr-weaker, IfOk-weaker}
use Rattle.nfs_spec.specs.Procedures.Places.{least_free_slot}
use Rattle.procs_blocks.proofs.InodeNodes.{none_there, same_body}
use Rattle.procs_blocks.proofs.block_files.BlockFiles.free_slot.Goals as goal

pub returns-in-Some-clause-ok : goal.returns-in-Some-clause-ok
returns-in-Some-clause-ok c =
    IfOk-weaker c.first_free_slot.result _ _ (λ found is blocks tree body over file.
    let held = rw c.in-Some.is at (c.in_ok-inode.ensures.ok blocks tree over) in
    is blocks tree c.args.directory.now.number held.0
    ∙ ap (λ one. least_free_slot one)
    (same_body c.args.self.now.snap.now blocks tree c.args.directory.now body c.in-Some.inode held file))
    c.first_free_slot.ensures.ok

pub returns-in-Some-clause-resumable : goal.returns-in-Some-clause-resumable
returns-in-Some-clause-resumable c =
    IfErr-weaker c.first_free_slot.result _ _ (λ why p blocks tree over.
    p blocks tree c.args.directory.now.number
    (rw c.in-Some.is at (c.in_ok-inode.ensures.ok blocks tree over)).0) c.first_free_slot.ensures.resumable

pub returns-in-None-clause-ok : goal.returns-in-None-clause-ok
returns-in-None-clause-ok c = λ blocks tree body over file.
    absurd (none_there c.args.self.now.snap.now blocks tree c.args.directory.now body
    (rw c.in-None.is at (c.in_ok-inode.ensures.ok blocks tree over)) file)
