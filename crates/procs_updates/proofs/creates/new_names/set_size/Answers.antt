use Rattle.std.proofs.Common.{◌≡◌, sym, subst}
use Rattle.std.proofs.lemmas.Result.{IfOk-weaker}
use Rattle.nfs_spec.specs.Model.SetAttr.{with_length}
use Rattle.nfs_spec.specs.Model.Tree.{with_node}
use Rattle.procs_files.specs.Writable.{headed}
use Rattle.procs_files.specs.Heads.{node_of}
use Rattle.procs_updates.proofs.WritesLemmas.Touched.{headed_is, preserved_tree}
use Rattle.procs_updates.proofs.creates.new_names.set_size.Goals as goal

pub returns-in-Some-clause-ok : goal.returns-in-Some-clause-ok
returns-in-Some-clause-ok g c =
    let inode_attributes = c.args.inode_attributes.now in
    IfOk-weaker c.resize.result _ _ (λ last then world tree body stands at sound.
    subst (λ s. (last ≡ headed inode_attributes (with_length s body))
    × g.F.Files.stands c.resize.new.self world
    (with_node tree inode_attributes.number (node_of inode_attributes (with_length s body)))) (sym c.in-Some.is)
    (then world tree (node_of inode_attributes body) stands at.there at.fits sound))
    c.resize.ensures.ok

pub returns-in-None-clause-ok : goal.returns-in-None-clause-ok
returns-in-None-clause-ok g c = λ world tree body stands at sound.
    let inode_attributes = c.args.inode_attributes.now in
    subst (λ s. (inode_attributes ≡ headed inode_attributes (with_length s body))
    × g.F.Files.stands c.args.files.now world
    (with_node tree inode_attributes.number (node_of inode_attributes (with_length s body)))) (sym c.in-None.is) (
      sym (headed_is inode_attributes body at.fits),
      subst (g.F.Files.stands c.args.files.now world)
          (sym (preserved_tree tree inode_attributes.number (node_of inode_attributes body) at.there)) stands,
    )
