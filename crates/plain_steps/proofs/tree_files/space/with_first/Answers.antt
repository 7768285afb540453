use Rattle.std.proofs.Common.{◌≡◌, ◌+◌, ap, ◌∙◌, drop, arith}
use Rattle.std.specs.FinMap as map
use Rattle.nfs_spec.specs.Model.Cost.{cost}
use Rattle.nfs_spec.specs.Model.Tree.{cost_at}
use Rattle.plain_tree.specs.Tree.Plain.{body_of}
use Rattle.plain_tree.specs.declared.tree.tree.NumberedNode.{NumberedNode}
use Rattle.plain_steps.specs.Numbered.{files_of}
use Rattle.plain_steps.proofs.Numbered as listed
use Rattle.plain_steps.proofs.tree_files.space.with_first.Goals as goal

pub overflow_sub-result : goal.overflow_sub-result
overflow_sub-result c =
    let file : NumberedNode = c.index-files-index.result in
    let sum = listed.with_first c.args.files.now c.args.index file c.requires.inside c.index-files-index.is in
    let hidden : c.cost_at-hidden.result
    ≡ cost_at (map.get (files_of (drop (c.args.index + 1) c.args.files.now)) file.number) =
    c.cost_at-hidden.ensures.is ∙ ap (λ xs. cost_at (map.get (files_of xs) file.number)) c.behind.ensures in
    let own : c.cost.result ≡ cost (body_of file.node.body) =
    c.cost.ensures.cost in
    let counted = c.requires.counted in
    omega (arith, sum, hidden, own, counted)

pub returns-clause-counted : goal.returns-clause-counted
returns-clause-counted c =
    let file : NumberedNode = c.index-files-index.result in
    let sum = listed.with_first c.args.files.now c.args.index file c.requires.inside c.index-files-index.is in
    let hidden : c.cost_at-hidden.result
    ≡ cost_at (map.get (files_of (drop (c.args.index + 1) c.args.files.now)) file.number) =
    c.cost_at-hidden.ensures.is ∙ ap (λ xs. cost_at (map.get (files_of xs) file.number)) c.behind.ensures in
    let own : c.cost.result ≡ cost (body_of file.node.body) =
    c.cost.ensures.cost in
    let counted = c.requires.counted in
    omega (arith, sum, hidden, own, counted)
