use Rattle.std.proofs.Common.{refl, ap, subst}
use Rattle.std.proofs.lemmas.Result.{on_ok_weaker}
use Rattle.nfs_spec.specs.Model.Tree as trees
use Rattle.nfs_spec.specs.Model.Tree.{with_node}
use Rattle.inode.specs.WriteSets.WriteSetContents.{IsWriteSet, image_of}
use Rattle.procs_blocks.proofs.MadeThere.{directory_node, directory_sound, link_node, link_space, link_sound, link_target, no_parent, regular_node, regular_sound}
use Rattle.procs_blocks.proofs.new_file.make.Goals as goal

pub returns-in-Directory-clause-ok : goal.returns-in-Directory-clause-ok
returns-in-Directory-clause-ok c =
    on_ok_weaker c.make_empty.result (λ leads blocks tree write_set unused fits sound whole has_space.
    let g = c.args.write_set.now.there.geometry in
    let inode_attributes = c.args.inode_attributes.now in
    let image = image_of blocks c.args.write_set.now in
    subst (λ n. IsWriteSet c.make_empty.new.write_set blocks (with_node tree inode_attributes.number n))
    (directory_node g image inode_attributes c.args.target.now c.in-Directory.is)
    ((rw c.inode_of.ensures at leads) blocks tree write_set unused
    (directory_sound g image tree.geometry.inodes inode_attributes sound
    (ap (λ (one : trees.Geometry). one.inodes) write_set.holds.parts.geometry) c.in-Directory.is)))
    c.make_empty.ensures.ok

pub returns-in-Regular-clause-ok : goal.returns-in-Regular-clause-ok
returns-in-Regular-clause-ok c =
    on_ok_weaker c.make_empty-in-Regular.result (λ leads blocks tree write_set unused fits sound whole has_space.
    let g = c.args.write_set.now.there.geometry in
    let inode_attributes = c.args.inode_attributes.now in
    let image = image_of blocks c.args.write_set.now in
    subst (λ n. IsWriteSet c.make_empty-in-Regular.new.write_set blocks (with_node tree inode_attributes.number n))
    (regular_node g image inode_attributes c.args.target.now c.in-Regular.is)
    ((rw c.inode_of-in-Regular.ensures at leads) blocks tree write_set unused
    (regular_sound g image tree.geometry.inodes inode_attributes sound
    (ap (λ (one : trees.Geometry). one.inodes) write_set.holds.parts.geometry) c.in-Regular.is
    (no_parent inode_attributes c.args.target.now c.in-Regular.is fits))))
    c.make_empty-in-Regular.ensures.ok

pub returns-in-Link-clause-ok : goal.returns-in-Link-clause-ok
returns-in-Link-clause-ok c =
    on_ok_weaker c.make_link.result (λ leads blocks tree write_set unused fits sound whole has_space.
    let g = c.args.write_set.now.there.geometry in
    let inode_attributes = c.args.inode_attributes.now in
    let target = c.args.target.now in
    let image = image_of blocks c.args.write_set.now in
    let is = c.in-Link.is in
    let good = link_target inode_attributes target is whole in
    subst (λ n. IsWriteSet c.make_link.new.write_set blocks (with_node tree inode_attributes.number n)) (link_node inode_attributes target is)
    ((rw c.inode_of-in-Link.ensures at leads) blocks tree write_set unused refl good
    (λ block lies. link_sound g image tree.geometry.inodes inode_attributes target sound
    (ap (λ (one : trees.Geometry). one.inodes) write_set.holds.parts.geometry) is fits good block lies)
    (link_space inode_attributes target (trees.free tree) is has_space)))
    c.make_link.ensures.ok
