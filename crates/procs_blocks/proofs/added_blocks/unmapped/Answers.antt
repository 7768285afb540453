use Rattle.std.proofs.Common.{◌-◌, ap, ◌∙◌}
use Rattle.std.proofs.lemmas.Result.{IfErr-weaker, IfOk-weaker}
use Rattle.nfs_spec.specs.Model.Cost.{cost}
use Rattle.nfs_spec.specs.Procedures.Write.{with_text}
use Rattle.inode.specs.WriteSets.WriteSetContents.{image_of}
use Rattle.procs_blocks.proofs.WriteSets.{reads}
use Rattle.procs_blocks.proofs.InodeNodes.{none_there, same_body}
use Rattle.procs_blocks.proofs.added_blocks.unmapped.Goals as goal

pub returns-in-Ok-Some-clause-ok : goal.returns-in-Ok-Some-clause-ok
returns-in-Ok-Some-clause-ok c =
    IfOk-weaker c.unmapped.result _ _ (λ added is blocks tree body text write_set file size.
    let image = image_of blocks c.args.write_set.now in
    let over = reads c.args.write_set.now c.there-there.result.now blocks tree c.there-there.ensures.there write_set in
    let held = rw c.in-Ok-Some.field-0-is at (c.in-Ok-Some.ensures.ok image tree over) in
    is image tree c.args.inode_attributes.now.number text held.0 size
    ∙ ap (λ one. cost (with_text c.args.offset text one) - cost one)
    (same_body c.there-there.result.now image tree c.args.inode_attributes.now body c.in-Ok-Some.inode held file))
    c.unmapped.ensures.ok

pub returns-in-Ok-Some-clause-resumable : goal.returns-in-Ok-Some-clause-resumable
returns-in-Ok-Some-clause-resumable c =
    IfErr-weaker c.unmapped.result _ _ (λ why resumes blocks tree write_set.
    let image = image_of blocks c.args.write_set.now in
    let over = reads c.args.write_set.now c.there-there.result.now blocks tree c.there-there.ensures.there write_set in
    let held = rw c.in-Ok-Some.field-0-is at (c.in-Ok-Some.ensures.ok image tree over) in
    resumes image tree c.args.inode_attributes.now.number held.0) c.unmapped.ensures.resumable

pub returns-in-Ok-None-clause-ok : goal.returns-in-Ok-None-clause-ok
returns-in-Ok-None-clause-ok c = λ blocks tree body text write_set file size.
    let image = image_of blocks c.args.write_set.now in
    let over = reads c.args.write_set.now c.there-there.result.now blocks tree c.there-there.ensures.there write_set in
    absurd (none_there c.there-there.result.now image tree c.args.inode_attributes.now body
    (rw c.in-Ok-None.field-0-is at (c.in-Ok-None.ensures.ok image tree over)) file)
