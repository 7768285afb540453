use Rattle.std.proofs.Common.{◌≡◌, sym, ◌∙◌, Option, Some, None}
use Rattle.std.proofs.lemmas.Result.{IfErr-weaker}
use Rattle.nfs_spec.specs.Model.Node.{Node}
use Rattle.inode.proofs.WriteSetsLemmas.PutThere.{carried_there}
use Rattle.procs_blocks.proofs.removal.depart.Goals as goal

pub returns-in-Ok-Some-clause-resumable : goal.returns-in-Ok-Some-clause-resumable
returns-in-Ok-Some-clause-resumable c =
    IfErr-weaker c.depart_there.result _ _ (λ why resumes blocks tree write_set.
    let there = carried_there c.args.write_set.now c.there.result.now blocks tree c.args.inode_attributes.now.number
    (Some c.in-Ok-Some.field-0-0) c.there.ensures.there
    (rw c.in-Ok-Some.field-0-is at c.in-Ok-Some.ensures.ok) write_set in
    resumes blocks tree _ write_set there.1) c.depart_there.ensures.resumable

pub returns-in-Ok-None-clause-ok : goal.returns-in-Ok-None-clause-ok
returns-in-Ok-None-clause-ok c = λ blocks tree node write_set was fits sound.
    let none = carried_there c.args.write_set.now c.there.result.now blocks tree c.args.inode_attributes.now.number None
    c.there.ensures.there (rw c.in-Ok-None.field-0-is at c.in-Ok-None.ensures.ok) write_set in
    let clash : ◌≡◌ {A = Option Node} None (Some node) = sym none ∙ was in cc
