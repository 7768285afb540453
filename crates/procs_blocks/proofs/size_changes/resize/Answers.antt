use Rattle.std.proofs.Common.{subst, Some}
use Rattle.nfs_spec.specs.Model.Node.{Body}
use Rattle.nfs_spec.specs.Model.SetAttr.{with_length}
use Rattle.nfs_spec.specs.Model.Tree.{with_node}
use Rattle.procs_files.specs.Heads.{node_of}
use Rattle.inode.specs.WriteSets.WriteSetContents.{IsWriteSet, image_of}
use Rattle.inode_sizes.specs.Sized.{IsUse}
use Rattle.procs_blocks.proofs.SetThere.{found}
use Rattle.procs_blocks.proofs.SizedThere.{same_body, sound}
use Rattle.procs_blocks.proofs.size_changes.resize.Goals as goal

pub returns-in-Ok-clause-ok : goal.returns-in-Ok-clause-ok
returns-in-Ok-clause-ok c = λ blocks tree node write_set was fits good.
    let g = c.args.write_set.now.there.geometry in
    let image = image_of blocks c.args.write_set.now in
    let inode_attributes = c.args.inode_attributes.now in
    let n = inode_attributes.number in
    let size = c.args.size in
    let one = found g image tree n node write_set.holds was in
    let body = same_body g image tree inode_attributes node write_set.holds was fits in
    let done = (rw c.looks_of.ensures at c.in-Ok.ensures.ok) blocks tree node one.inode write_set was one.there
    (sound g image tree inode_attributes node write_set.holds was fits good) in
    let both = subst (λ (b : Body). IsUse c.in-Ok.used b (with_length (Some size) b)
    × IsWriteSet c.resize.new.write_set blocks (with_node tree n (node_of inode_attributes (with_length (Some size) b)))) body done in
    (c.resized.ensures node.body fits both.0, both.1)
