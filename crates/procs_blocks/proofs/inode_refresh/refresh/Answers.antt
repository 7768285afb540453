use Rattle.std.proofs.Common.{◌≡◌, ◌∙◌, subst, Some}
use Rattle.nfs_spec.specs.Model.Node.{Body}
use Rattle.nfs_spec.specs.Model.Tree.{node_at, with_node}
use Rattle.nfs_spec.specs.Procedures.Rename.{with_parent}
use Rattle.procs_files.specs.declared.inode_attributes.InodeAttributes.{InodeAttributes}
use Rattle.procs_files.specs.Writable.{SoundInodeAttributes, headed}
use Rattle.procs_files.specs.Heads.{IsBodyOf, node_of}
use Rattle.inode.specs.WriteSets.WriteSetContents.{IsWriteSet, image_of}
use Rattle.procs_blocks.proofs.WriteSets.{reads}
use Rattle.procs_blocks.proofs.Refreshed.{headed_fits, headed_sound, parent_preserved, read_size}
use Rattle.procs_blocks.proofs.inode_refresh.refresh.Goals as goal

pub returns-in-Ok-clause-ok : goal.returns-in-Ok-clause-ok
returns-in-Ok-clause-ok c = λ blocks tree node write_set was kind parent sound.
    let inode_attributes = c.args.inode_attributes.now in
    let n = inode_attributes.number in
    let sizes = read_size tree n c.in-Ok-Some.found node
    (rw c.in-Ok-Some.field-0-is at (c.in-Ok-Some.ensures.ok (image_of blocks c.args.write_set.now) tree
    (reads c.args.write_set.now c.there.result.now blocks tree c.there.ensures.there write_set))) was in
    let next : c.as_large-next.result ≡ headed inode_attributes node.body =
    c.as_large-next.ensures ∙ (λ i. record inode_attributes { size = sizes.0 i; used = sizes.1 i }) in (
      next,
      subst (λ (b : Body). IsWriteSet c.set.new.write_set blocks (with_node tree n (node_of inode_attributes b)))
          (parent_preserved inode_attributes.parent node.body parent)
          (subst (λ (h : InodeAttributes). node_at tree h.number ≡ Some node → IsBodyOf h (with_parent h.parent node.body)
          → SoundInodeAttributes tree.geometry.inodes h
          → IsWriteSet c.set.new.write_set blocks (with_node tree h.number (node_of h (with_parent h.parent node.body))))
          next (c.in-Ok.ensures.ok blocks tree node write_set) was (headed_fits inode_attributes node.body kind parent)
          (headed_sound tree.geometry.inodes inode_attributes node.body sound)),
    )
