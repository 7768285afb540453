use Rattle.std.proofs.Common.{◌≡◌, sym, subst, ◌∙◌}
use Rattle.std.proofs.lemmas.Result.{IfOk-weaker}
use Rattle.nfs_spec.specs.Model.SetAttr.{with_length}
use Rattle.nfs_spec.specs.Model.Tree.{with_node}
use Rattle.procs_files.specs.Writable.{headed}
use Rattle.procs_files.specs.Heads.{IsBodyOf, node_of}
use Rattle.procs_updates.specs.Writes.Acting.{set_inode_attributes}
use Rattle.procs_updates.proofs.WritesLemmas.Touched.{headed_is, same_parent, same_fits}
use Rattle.procs_updates.proofs.writes.set_attr.set_file.Goals as goal

pub returns-in-Some-clause-ok : goal.returns-in-Some-clause-ok
returns-in-Some-clause-ok g c =
    let inode_attributes = set_inode_attributes c.args.moment.now c.args.wanted.now c.args.file.now in
    IfOk-weaker c.resize.result _ _ (λ next then world tree body stands at sound.
    subst (λ s. (next ≡ headed inode_attributes (with_length s body))
    × g.F.Files.stands c.resize.new.self world
    (with_node tree c.args.file.now.number (node_of inode_attributes (with_length s body)))) (sym c.in-Some.is)
    ((rw c.set_inode_attributes-inode_attributes.ensures at then) world tree (node_of c.args.file.now body) stands at.there
    (same_fits c.args.moment.now c.args.wanted.now c.args.file.now body at.fits) sound))
    c.resize.ensures.ok

pub returns-in_ok-set-in-None-clause-ok : goal.returns-in_ok-set-in-None-clause-ok
returns-in_ok-set-in-None-clause-ok g c = λ world tree body stands at sound.
    let inode_attributes = set_inode_attributes c.args.moment.now c.args.wanted.now c.args.file.now in
    let fits = same_fits c.args.moment.now c.args.wanted.now c.args.file.now body at.fits in
    let same = same_parent c.args.file.now.parent body at.fits.parent in
    let put = (rw c.set_inode_attributes-inode_attributes.ensures at c.in_ok-set-in-None.ensures.ok) world tree
    (node_of c.args.file.now body) stands at.there (subst (λ b. IsBodyOf inode_attributes b) (sym same) fits) sound in
    subst (λ s. (c.set_inode_attributes-inode_attributes.result ≡ headed inode_attributes (with_length s body))
    × g.F.Files.stands c.set.new.self world
    (with_node tree c.args.file.now.number (node_of inode_attributes (with_length s body)))) (sym c.in-None.is) (
      c.set_inode_attributes-inode_attributes.ensures ∙ sym (headed_is inode_attributes body fits),
      subst (λ b. g.F.Files.stands c.set.new.self world (with_node tree c.args.file.now.number (node_of inode_attributes b)))
          same put,
    )
