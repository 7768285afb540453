use Rattle.std.proofs.Common.{◌∙◌, subst}
use Rattle.std.proofs.lemmas.Result.{IfErr-weaker}
use Rattle.nfs_spec.specs.Model.Node.{Node}
use Rattle.nfs_spec.specs.Model.Tree.{with_node}
use Rattle.nfs_spec.specs.Procedures.Write.{with_text}
use Rattle.procs_files.specs.Heads.{node_of}
use Rattle.inode.specs.WriteSets.WriteSetContents.{IsWriteSet}
use Rattle.inode.proofs.WriteSetsLemmas.OneFile.{here_next}
use Rattle.bitmap.proofs.OfResults.{mapped}
use Rattle.inode_data.specs.Written.{rewritten}
use Rattle.inode_data.proofs.Steps.{same_nodes}
use Rattle.procs_blocks.proofs.Departed.{twice}
use Rattle.procs_blocks.proofs.Refreshed.{kind_preserved, parent_stays}
use Rattle.procs_blocks.proofs.writes.write.Goals as goal

pub returns-in-Ok-true-clause-ok : goal.returns-in-Ok-true-clause-ok
returns-in-Ok-true-clause-ok c =
    let n = c.args.inode_attributes.now.number in
    let offset = c.args.offset in
    let text = c.args.text.now in
    mapped _ _ (λ next leads blocks tree node write_set was fits sound has_space.
    let wrote = c.in-Ok-true.ensures.ok c.in-Ok-true.field-0-test blocks tree write_set in
    let same = same_nodes tree n wrote.node node wrote.was was in
    let new = rewritten offset text node in
    let is = subst (λ (one : Node). IsWriteSet c.write.new.write_set blocks (with_node tree n (rewritten offset text one))) same
    wrote.is in
    let both = leads blocks (with_node tree n new) new is (here_next tree n new)
    (kind_preserved offset text node.body ∙ fits.kind) (parent_stays offset text node.body ∙ fits.parent) sound in (
      both.0,
      subst (IsWriteSet c.refresh.new.write_set blocks)
          (twice tree n new (node_of c.args.inode_attributes.now (with_text offset text node.body))) both.1,
    )) c.refresh.result c.refresh.ensures.ok

pub returns-in-Ok-true-clause-resumable : goal.returns-in-Ok-true-clause-resumable
returns-in-Ok-true-clause-resumable c =
    IfErr-weaker c.refresh.result _ _ (λ why resumes blocks tree write_set.
    let n = c.args.inode_attributes.now.number in
    let wrote = c.in-Ok-true.ensures.ok c.in-Ok-true.field-0-test blocks tree write_set in
    let new = rewritten c.args.offset c.args.text.now wrote.node in
    resumes blocks (with_node tree n new) new wrote.is (here_next tree n new)) c.refresh.ensures.resumable
