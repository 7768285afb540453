use Rattle.std.proofs.Common.{sym, ap, ◌∙◌, Option, Some, None, IfNone, position}
use Rattle.std.specs.FinMap as finmap
use Rattle.plain_tree.proofs.TreeLemmas.Placed.{absent, eq, leads}
use Rattle.plain_tree.proofs.tree.plain_names.PlainNames.get.Goals as goal

if_none : {A : Type 0} (o : Option A) (P : Type 0) → P → IfNone o P
if_none None P p = p
if_none (Some x) P p = tt

pub returns-in_err-index-clause-none : goal.returns-in_err-index-clause-none
returns-in_err-index-clause-none c =
    if_none c.from_residual.result _
    (ap (λ m. finmap.get m c.args.name.now) (sym c.self.view_is)
    ∙ absent c.self.inside.entries.items c.args.name.now c.self.invariant
    (ap (λ xs. position (λ e. eq c.args.name.now e.name) xs) (sym c.deref.ensures.value)
    ∙ sym c.position_of.ensures ∙ c.in_err-index.was))

pub returns-clause-some : goal.returns-clause-some
returns-clause-some c =
    ap (λ m. finmap.get m c.args.name.now) (sym c.self.view_is)
    ∙ leads c.self.inside.entries.items c.args.name.now c.in_ok-index.index c.index.result.now c.self.invariant
    (ap (λ xs. position (λ e. eq c.args.name.now e.name) xs) (sym c.deref.ensures.value)
    ∙ sym c.position_of.ensures ∙ c.in_ok-index.was) c.index.ensures
