use Rattle.std.proofs.Common.{◌≡◌, ◌<◌, ◌≤◌, sym, ap, subst, ◌∙◌, nat_eq, eq-eqb}
use Rattle.nfs_spec.specs.Model.Names.{ancestor, parent_in}
use Rattle.nfs_spec.specs.Model.Tree.{node_at}
use Rattle.procs_renames.proofs.Parents.{fails, next_ancestor, none_behind, none_passes, other, passes, stays}
use Rattle.procs_renames.proofs.ancestors.is_within.Goals as goal

pub returns-then-at-file-clause-ok : goal.returns-then-at-file-clause-ok
returns-then-at-file-clause-ok g c = λ world tree stands.
    let so_far = c.steps.invariant world tree stands in
    let reached = eq-eqb _ c.args.file (sym so_far.0 ∙ c.if-at-file.true) in
    sym (so_far.1
    ∙ passes (λ steps. nat_eq (ancestor tree steps c.args.number) c.args.file) c.steps.steps
    tree.geometry.inodes (subst (λ n. c.steps.steps < n) (c.inodes-end.ensures world tree stands)
    c.steps-test.true) reached)

pub returns-then-parent-at-clause-ok : goal.returns-then-parent-at-clause-ok
returns-then-parent-at-clause-ok g c = λ world tree stands.
    let so_far = c.steps.invariant world tree stands in
    let own : parent_in (node_at tree c.steps.at) ≡ c.steps.at =
    sym (c.in_ok-parent.ensures.ok world tree stands) ∙ c.if-parent-at.true in
    sym (so_far.1
    ∙ none_passes (λ steps. nat_eq (ancestor tree steps c.args.number) c.args.file) c.steps.steps
    tree.geometry.inodes (λ more.
    ap (λ n. nat_eq n c.args.file) (stays tree c.args.number c.steps.steps c.steps.at more (sym so_far.0) own)
    ∙ other c.steps.at c.args.file c.if-at-file.false))

pub steps-preserved : goal.steps-preserved
steps-preserved g c = λ world tree stands.
    let so_far = c.steps.invariant world tree stands in (
      c.in_ok-parent.ensures.ok world tree stands
          ∙ ap (λ n. parent_in (node_at tree n)) so_far.0
          ∙ sym (next_ancestor tree c.steps.steps c.args.number),
      so_far.1
          ∙ fails (λ steps. nat_eq (ancestor tree steps c.args.number) c.args.file) c.steps.steps
          tree.geometry.inodes (subst (λ n. c.steps.steps < n) (c.inodes-end.ensures world tree stands)
          c.steps-test.true)
          (ap (λ n. nat_eq n c.args.file) (sym so_far.0)
          ∙ other c.steps.at c.args.file c.if-at-file.false),
    )

pub returns-clause-ok : goal.returns-clause-ok
returns-clause-ok g c = λ world tree stands.
    let so_far = c.steps.invariant world tree stands in
    sym (so_far.1
    ∙ none_behind (λ steps. nat_eq (ancestor tree steps c.args.number) c.args.file) c.steps.steps
    tree.geometry.inodes (subst (λ n. n ≤ c.steps.steps) (c.inodes-end.ensures world tree stands)
    c.steps-test.false))
