use Rattle.std.proofs.Common.{subst}
use Rattle.std.proofs.lemmas.Result.{on_ok_weaker}
use Rattle.nfs_spec.specs.Model.Tree.{with_node}
use Rattle.inode.specs.WriteSets.WriteSetContents.{IsWriteSet, image_of}
use Rattle.procs_blocks.proofs.SetThere.{found, set_node, set_sound}
use Rattle.procs_blocks.proofs.attributes.set.Goals as goal

pub returns-clause-ok : goal.returns-clause-ok
returns-clause-ok c =
    on_ok_weaker c.set.result (λ leads blocks tree node write_set was fits sound.
    let g = c.args.write_set.now.there.geometry in
    let image = image_of blocks c.args.write_set.now in
    let one = found g image tree c.args.inode_attributes.now.number node write_set.holds was in
    subst (λ n. IsWriteSet c.set.new.self blocks (with_node tree c.args.inode_attributes.now.number n))
    (set_node g image one.inode c.args.inode_attributes.now node one.body)
    ((rw c.looks_of.ensures at leads) blocks tree node one.inode write_set was one.there
    (set_sound g image tree c.args.inode_attributes.now node write_set.holds was fits sound))) c.set.ensures.ok
