use Rattle.std.proofs.Common.{◌≡◌, refl, sym, ◌∙◌, Option, Some, None}
use Rattle.layout.specs.declared.inode.InodeKind.TheVariants as kinds
use Rattle.nfs_spec.specs.Model.Node.{Node}
use Rattle.inode.specs.WriteSets.WriteSetContents.{image_of}
use Rattle.inode.proofs.WriteSetsLemmas.PutThere.{carried_there}
use Rattle.dir_writes.proofs.Spanned.{kind_there}
use Rattle.dir_writes.proofs.insertion.enter.Goals as goal

pub returns-in-Regular-clause-ok : goal.returns-in-Regular-clause-ok
returns-in-Regular-clause-ok c = λ blocks tree node write_set was can has_space.
    let kind = kind_there c.args.write_set.now.there (image_of blocks c.args.write_set.now) tree c.args.number
    c.in-Ok-Some.inode node
    (carried_there c.args.write_set.now c.there.result.now blocks tree c.args.number (Some c.in-Ok-Some.inode)
    c.there.ensures.there (rw c.in-Ok-Some.field-0-is at c.in-Ok-Some.ensures.ok) write_set).0 was can.directory in
    let clash : kinds.Regular ≡ kinds.Directory = sym c.in-Regular.is ∙ kind in cc

pub returns-in-Link-clause-ok : goal.returns-in-Link-clause-ok
returns-in-Link-clause-ok c = λ blocks tree node write_set was can has_space.
    let kind = kind_there c.args.write_set.now.there (image_of blocks c.args.write_set.now) tree c.args.number
    c.in-Ok-Some.inode node
    (carried_there c.args.write_set.now c.there.result.now blocks tree c.args.number (Some c.in-Ok-Some.inode)
    c.there.ensures.there (rw c.in-Ok-Some.field-0-is at c.in-Ok-Some.ensures.ok) write_set).0 was can.directory in
    let clash : kinds.Link ≡ kinds.Directory = sym c.in-Link.is ∙ kind in cc

pub returns-in-Ok-None-clause-ok : goal.returns-in-Ok-None-clause-ok
returns-in-Ok-None-clause-ok c = λ blocks tree node write_set was can has_space.
    let none = carried_there c.args.write_set.now c.there.result.now blocks tree c.args.number None
    c.there.ensures.there (rw c.in-Ok-None.field-0-is at c.in-Ok-None.ensures.ok) write_set in
    let clash : ◌≡◌ {A = Option Node} None (Some node) = sym none ∙ was in cc

pub returns-in-Ok-clause-ok : goal.returns-in-Ok-clause-ok
returns-in-Ok-clause-ok c = λ blocks tree node write_set was can has_space.
    let both = c.in-Ok.ensures.ok blocks tree node write_set was (record {
      has = (carried_there c.args.write_set.now c.there.result.now blocks tree c.args.number (Some c.in-Ok-Some.inode)
          c.there.ensures.there (rw c.in-Ok-Some.field-0-is at c.in-Ok-Some.ensures.ok) write_set).0;
      kind = c.in-Directory.is;
    }) can has_space in
    (both.0, both.1, refl)
