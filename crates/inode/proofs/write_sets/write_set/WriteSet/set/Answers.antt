use Rattle.std.proofs.Common.{◌≡◌, sym, ap, ◌∙◌, subst, Option, Some, None}
use Rattle.std.proofs.lemmas.Result.{IfErr-weaker}
use Rattle.nfs_spec.specs.Model.Node.{Node}
use Rattle.layout.specs.Parts.{with_inode}
use Rattle.inode.specs.WriteSets.WriteSetContents.{Shows, image_of}
use Rattle.inode.proofs.WriteSetsLemmas.PutThere.{attributes_there, both_ok, carried_there}
use Rattle.inode.proofs.write_sets.write_set.WriteSet.set.Goals as goal

pub returns-in-Ok-Some-clause-ok : goal.returns-in-Ok-Some-clause-ok
returns-in-Ok-Some-clause-ok c =
    both_ok c.put_inode.result (λ shows images blocks tree node inode write_set was read sound.
    attributes_there c.args.self.now c.put_inode.new.self blocks tree c.args.number node inode
    c.in-Ok-Some.inode c.args.looks.now c.put_inode.ensures.geometry
    (λ image is. subst
    (λ k. Shows c.put_inode.new.self (with_inode c.args.self.now.there.geometry image c.args.number k))
    c.attributed.ensures (shows image is))
    (λ base. images base
    ∙ ap (with_inode c.args.self.now.there.geometry (image_of base c.args.self.now) c.args.number)
    c.attributed.ensures)
    write_set was read
    (carried_there c.args.self.now c.there.result.now blocks tree c.args.number (Some c.in-Ok-Some.inode)
    c.there.ensures.there (rw c.in-Ok-Some.field-0-is at c.in-Ok-Some.ensures.ok) write_set).0.there
    sound) c.put_inode.ensures.shows c.put_inode.ensures.image

pub returns-in-Ok-Some-clause-resumable : goal.returns-in-Ok-Some-clause-resumable
returns-in-Ok-Some-clause-resumable c =
    IfErr-weaker c.put_inode.result _ _ (λ why resumes blocks tree write_set.
    resumes (carried_there c.args.self.now c.there.result.now blocks tree c.args.number (Some c.in-Ok-Some.inode)
    c.there.ensures.there (rw c.in-Ok-Some.field-0-is at c.in-Ok-Some.ensures.ok) write_set).0.less)
    c.put_inode.ensures.resumable

pub returns-in-Ok-None-clause-ok : goal.returns-in-Ok-None-clause-ok
returns-in-Ok-None-clause-ok c = λ blocks tree node inode write_set was read sound.
    let none = carried_there c.args.self.now c.there.result.now blocks tree c.args.number None
    c.there.ensures.there (rw c.in-Ok-None.field-0-is at c.in-Ok-None.ensures.ok) write_set in
    let clash : ◌≡◌ {A = Option Node} None (Some node) = sym none ∙ was in cc
