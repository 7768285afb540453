use Rattle.std.proofs.Common.{◌≡◌, sym, ◌∙◌, subst, Option, Some, None}
use Rattle.std.proofs.lemmas.Result.{IfErr-weaker, IfOk-weaker}
use Rattle.nfs_spec.specs.Model.Node.{Node}
use Rattle.nfs_spec.specs.Model.SetAttr.{with_length}
use Rattle.nfs_spec.specs.Model.Tree.{with_node}
use Rattle.layout.specs.declared.inode.Inode.{Inode}
use Rattle.layout.specs.Decode.{node_with}
use Rattle.layout.specs.InodeForm.{SoundInode}
use Rattle.inode.specs.Shown.{body_in}
use Rattle.inode.specs.WriteSets.Attributes.{attributed}
use Rattle.inode.specs.WriteSets.WriteSetContents.{IsWriteSet, image_of}
use Rattle.inode.proofs.WriteSetsLemmas.PutThere.{same_inode, carried_there}
use Rattle.inode_sizes.specs.Sized.{IsUse}
use Rattle.inode_sizes.proofs.size_changes.resize.Goals as goal

pub returns-in-Ok-Some-clause-ok : goal.returns-in-Ok-Some-clause-ok
returns-in-Ok-Some-clause-ok c =
    IfOk-weaker c.resize_there.result _ _ (λ used leads blocks tree node inode write_set was read sound.
    let g = c.args.write_set.now.there.geometry in
    let there = carried_there c.args.write_set.now c.there.result.now blocks tree c.args.number
    (Some c.in-Ok-Some.inode) c.there.ensures.there (rw c.in-Ok-Some.field-0-is at c.in-Ok-Some.ensures.ok) write_set in
    let same : c.in-Ok-Some.inode ≡ inode = same_inode c.in-Ok-Some.inode inode (sym there.0.there ∙ read) in
    subst (λ (one : Inode). IsUse used
    (body_in g (image_of blocks c.args.write_set.now) (attributed one c.args.looks.now))
    (with_length (Some c.args.size) (body_in g (image_of blocks c.args.write_set.now) (attributed one c.args.looks.now)))
    × IsWriteSet c.resize_there.new.write_set blocks (with_node tree c.args.number
    (node_with (attributed one c.args.looks.now) (with_length (Some c.args.size)
    (body_in g (image_of blocks c.args.write_set.now) (attributed one c.args.looks.now)))))) same
    (leads blocks tree node write_set was there.0
    (subst (λ (one : Inode). SoundInode g (attributed one c.args.looks.now)) (sym same) sound)))
    c.resize_there.ensures.ok

pub returns-in-Ok-Some-clause-resumable : goal.returns-in-Ok-Some-clause-resumable
returns-in-Ok-Some-clause-resumable c =
    IfErr-weaker c.resize_there.result _ _ (λ why resumes blocks tree write_set.
    resumes blocks tree write_set
    (carried_there c.args.write_set.now c.there.result.now blocks tree c.args.number (Some c.in-Ok-Some.inode)
    c.there.ensures.there (rw c.in-Ok-Some.field-0-is at c.in-Ok-Some.ensures.ok) write_set).0)
    c.resize_there.ensures.resumable

pub returns-in-Ok-None-clause-ok : goal.returns-in-Ok-None-clause-ok
returns-in-Ok-None-clause-ok c = λ blocks tree node inode write_set was read sound.
    let none = carried_there c.args.write_set.now c.there.result.now blocks tree c.args.number None
    c.there.ensures.there (rw c.in-Ok-None.field-0-is at c.in-Ok-None.ensures.ok) write_set in
    let clash : ◌≡◌ {A = Option Node} None (Some node) = sym none ∙ was in cc
