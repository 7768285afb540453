use Rattle.std.proofs.Common.{◌≡◌, ◌∙◌, ap, subst}
use Rattle.layout.specs.Parts.{with_inode}
use Rattle.inode.specs.WriteSets.Attributes.{attributed}
use Rattle.inode.specs.WriteSets.WriteSetContents.{Shows, image_of}
use Rattle.inode.proofs.WriteSetsLemmas.PutThere.{both_ok, moved_write_set}
use Rattle.inode_sizes.specs.Sized.{sized}
use Rattle.inode_sizes.proofs.Grown.{grows, same_cost}
use Rattle.inode_sizes.proofs.size_changes.grow.Goals as goal

pub returns-clause-ok : goal.returns-clause-ok
returns-clause-ok c =
    let g = c.args.write_set.now.there.geometry in
    let n = c.args.number in
    let inode = c.args.inode.now in
    let looks = c.args.looks.now in
    let new = sized (attributed inode looks) c.args.size in
    let is : c.sized.result ≡ new = c.sized.ensures ∙ ap (λ one. sized one c.args.size) c.attributed.ensures in
    both_ok c.put_inode.result (λ shows images blocks tree write_set has sound.
    let image = image_of blocks c.args.write_set.now in
    moved_write_set c.args.write_set.now c.put_inode.new.self blocks (with_inode g image n new) _
    c.put_inode.ensures.geometry (images blocks ∙ ap (with_inode g image n) is)
    (subst (λ one. Shows c.put_inode.new.self (with_inode g image n one)) is (shows image write_set.shows))
    (grows g image tree n inode looks c.args.size write_set.holds has.less has.there c.requires.regular
    c.requires.more c.requires.small sound))
    c.put_inode.ensures.shows c.put_inode.ensures.image

pub returns-clause-cost : goal.returns-clause-cost
returns-clause-cost c = λ blocks tree write_set has sound.
    same_cost c.args.write_set.now.there.geometry (image_of blocks c.args.write_set.now) tree c.args.number
    c.args.inode.now c.args.looks.now c.args.size write_set.holds has.less has.there c.requires.regular
    c.requires.more c.requires.small sound
