use Rattle.std.proofs.Common.{◌≡◌, ℕ, cond, sym, ap, ◌∙◌, arith}
use Rattle.std.specs.List.{list_any}
use Rattle.base.specs.declared.TheConstants.{INDIRECT_INDEXES}
use Rattle.nfs_spec.specs.Model.Cost.{is_inner}
use Rattle.plain_tree.proofs.TreeLemmas.InnerCosts.{next_inner, no_inner, none_yet}
use Rattle.plain_tree.proofs.tree.mapped.inner_cost.Goals as goal
use Rattle.plain_tree.proofs.tree.mapped.inner_cost.Goals.{then-any_is_inner, else-any_is_inner}

pub returns-then-not-any_is_double-clause-is : goal.returns-then-not-any_is_double-clause-is
returns-then-not-any_is_double-clause-is c =
    sym (no_inner c.args.indexes.now (sym c.any_is_double.ensures ∙ c.if-not-any_is_double.true) INDIRECT_INDEXES)

pub each-init : goal.each-init
each-init c = (sym (none_yet c.args.indexes.now), omega arith)

pub each-preserved : goal.each-preserved
each-preserved c =
    let next = next_inner c.args.indexes.now c.each.inner in
    let so_far = c.each.invariant.0 in
    let few = c.each.invariant.1 in
    elim c.if-any_is_inner.branch [
      | then-any_is_inner w ↦
          let named : ◌≡◌ {A = ℕ} (cond (list_any (is_inner c.each.inner) c.args.indexes.now) 1 0) 1 =
          ap (λ b. cond b 1 0) (sym c.any_is_inner.ensures ∙ w.if-any_is_inner.true) in
          let cost = w.cost-is in
          (omega (arith, next, so_far, named, cost), omega (arith, few, cost))
      | else-any_is_inner w ↦
          let named : ◌≡◌ {A = ℕ} (cond (list_any (is_inner c.each.inner) c.args.indexes.now) 1 0) 0 =
          ap (λ b. cond b 1 0) (sym c.any_is_inner.ensures ∙ w.if-any_is_inner.false) in
          let cost = w.cost-is in
          (omega (arith, next, so_far, named, cost), omega (arith, few, cost))
    ]
