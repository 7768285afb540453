use Rattle.std.proofs.Common.{sym, ap, subst}
use Rattle.nfs_spec.specs.Model.Cost.{cost}
use Rattle.nfs_spec.specs.Model.Node.{Body}
use Rattle.nfs_spec.specs.Model.Tree.{with_node}
use Rattle.layout.specs.Decode.{node_with}
use Rattle.inode.specs.WriteSets.Attributes.{attributed}
use Rattle.inode.specs.WriteSets.WriteSetContents.{IsWriteSet, image_of}
use Rattle.inode_sizes.proofs.Grown.{preserves_length}
use Rattle.inode_sizes.proofs.size_changes.keep.Goals as goal

pub returns-in-Ok-clause-ok : goal.returns-in-Ok-clause-ok
returns-in-Ok-clause-ok c = λ blocks tree node write_set was has sound.
    let g = c.args.write_set.now.there.geometry in
    let image = image_of blocks c.args.write_set.now in
    let shown = attributed c.args.inode.now c.args.looks.now in
    let same = preserves_length g image shown c.args.size c.requires.other in (
      sym (ap cost same),
      subst (λ (b : Body). IsWriteSet c.set.new.self blocks (with_node tree c.args.number (node_with shown b))) same
          (c.in-Ok.ensures.ok blocks tree node c.args.inode.now write_set was has.there sound),
    )
