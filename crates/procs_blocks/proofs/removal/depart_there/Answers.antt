use Rattle.std.proofs.Common.{ap, ◌∙◌, subst}
use Rattle.std.proofs.lemmas.Result.{IfErr-weaker, on_ok_weaker}
use Rattle.nfs_spec.specs.Model.Node.{Body}
use Rattle.nfs_spec.specs.Model.Tree.{with_node}
use Rattle.procs_files.specs.Heads.{node_of}
use Rattle.inode.specs.WriteSets.WriteSetContents.{IsWriteSet}
use Rattle.inode.proofs.WriteSetsLemmas.OneFile.{here_next}
use Rattle.dir_writes.specs.Clearing.{without_name}
use Rattle.procs_blocks.proofs.Departed.{departs_body, same_parent, twice}
use Rattle.procs_blocks.proofs.removal.depart_there.Goals as goal

pub returns-in-Ok-clause-ok : goal.returns-in-Ok-clause-ok
returns-in-Ok-clause-ok c =
    on_ok_weaker c.set.result (λ leads blocks tree node write_set was fits sound.
    let inode_attributes = c.args.inode_attributes.now in
    let name = c.args.name.now in
    let n = inode_attributes.number in
    let less = without_name name node in
    subst (IsWriteSet c.set.new.write_set blocks)
    (twice tree n less _ ∙ ap (λ (b : Body). with_node tree n (node_of inode_attributes b)) (same_parent inode_attributes name node.body fits))
    (leads blocks (with_node tree n less) less (c.in-Ok.ensures.ok blocks tree node write_set was)
    (here_next tree n less) (departs_body inode_attributes name node.body fits) sound)) c.set.ensures.ok

pub returns-in-Ok-clause-resumable : goal.returns-in-Ok-clause-resumable
returns-in-Ok-clause-resumable c =
    IfErr-weaker c.set.result _ _ (λ why resumes blocks tree node write_set was.
    resumes blocks (with_node tree c.args.inode_attributes.now.number (without_name c.args.name.now node))
    (c.in-Ok.ensures.ok blocks tree node write_set was)) c.set.ensures.resumable
