use Rattle.std.proofs.Common.{sym, ap, ◌∙◌, Option, Some, None, IfNone}
use Rattle.std.specs.Option.{option_map}
use Rattle.plain_tree.proofs.TreeLemmas.Found.{absent, first_of}
use Rattle.plain_tree.specs.Tree.Plain.{node_of}
use Rattle.plain_steps.proofs.tree_files.nodes.file_at.Goals as goal

if_none : {A : Type 0} (o : Option A) (P : Type 0) → P → IfNone o P
if_none None P p = p
if_none (Some x) P p = tt

pub returns-in_err-index-clause-none : goal.returns-in_err-index-clause-none
returns-in_err-index-clause-none c =
    if_none c.from_residual.result _
    (ap (option_map (λ node. (c.args.number, node)))
    (absent c.args.tree.now c.args.number (sym c.position_of.ensures ∙ c.in_err-index.was)))

pub returns-clause-some : goal.returns-clause-some
returns-clause-some c =
    let at = first_of c.args.tree.now c.args.number c.in_ok-index.index c.index.result.now
    (sym c.position_of.ensures ∙ c.in_ok-index.was) c.index.ensures in
    ap (option_map (λ node. (c.args.number, node))) at.got
    ∙ (λ i. Some (at.number_is i, node_of c.index.result.now.node))
