use Rattle.std.proofs.Common.{◌≡◌, ◌<◌, true, false, ap, sym, ◌∙◌, subst}
use Rattle.std.proofs.lemmas.Result.{IfErr-weaker}
use Rattle.layout.specs.declared.geometry.Geometry.{Geometry}
use Rattle.layout.specs.Parts.{with_inode}
use Rattle.inode.specs.WriteSets.Attributes.{attributed}
use Rattle.inode.specs.WriteSets.WriteSetContents.{Shows, image_of}
use Rattle.inode.proofs.WriteSetsLemmas.PutThere.{both_ok}
use Rattle.procs_blocks.proofs.EnteredThere.{entered_there}
use Rattle.procs_blocks.proofs.insertion.enter_there.Goals as goal

pub returns-in-Ok-Some-clause-ok : goal.returns-in-Ok-Some-clause-ok
returns-in-Ok-Some-clause-ok c =
    both_ok c.put_inode.result (λ shows images blocks tree node write_set was fits sound can has_space.
    let inode_attributes = c.args.inode_attributes.now in
    let mid = c.enter.new.write_set in
    let one = c.in-Ok-Some.inode in
    let entered = c.in-Ok-Some.ensures.ok blocks tree node write_set was can has_space in
    let spelled = c.attributed.ensures ∙ ap (attributed one) c.looks_of.ensures in
    entered_there mid c.put_inode.new.self blocks tree inode_attributes node c.args.name.now c.args.dirent.number c.args.dirent.slot
    one c.put_inode.ensures.geometry
    (λ image is. subst (λ k. Shows c.put_inode.new.self (with_inode mid.there.geometry image inode_attributes.number k)) spelled
    (shows image is))
    (λ base. images base ∙ ap (with_inode mid.there.geometry (image_of base mid) inode_attributes.number) spelled)
    fits sound entered.0 (rw c.in-Ok-Some.field-0-is at entered.1)) c.put_inode.ensures.shows c.put_inode.ensures.image

pub returns-in-Ok-Some-clause-resumable : goal.returns-in-Ok-Some-clause-resumable
returns-in-Ok-Some-clause-resumable c =
    IfErr-weaker c.put_inode.result _ _ (λ why resumes blocks tree write_set.
    resumes (subst (λ (g : Geometry). c.args.inode_attributes.now.number < g.inodes) (sym c.enter.ensures.geometry)
    ((rw c.in-Ok-Some.field-0-is at c.in-Ok-Some.ensures.less) blocks tree write_set)))
    c.put_inode.ensures.resumable

pub returns-in-Ok-None-clause-ok : goal.returns-in-Ok-None-clause-ok
returns-in-Ok-None-clause-ok c = λ blocks tree node write_set was fits sound can has_space.
    let some = (c.in-Ok-None.ensures.ok blocks tree node write_set was can has_space).2 in
    let clash : false ≡ true = (rw c.in-Ok-None.field-0-is at some) in cc
