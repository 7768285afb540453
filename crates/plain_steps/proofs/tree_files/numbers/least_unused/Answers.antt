use Rattle.std.proofs.Common.{sym, ◌∙◌, is_none, ◌≤◌, rules, Some, None}
use Rattle.nfs_spec.specs.Model.Tree.{node_at}
use Rattle.plain_tree.specs.Tree.Plain.{tree_of}
use Rattle.plain_steps.proofs.Ranges.{fails, least_is_new, none_behind, passes}
use Rattle.plain_steps.proofs.tree_files.numbers.least_unused.Goals as goal

pub returns-then-is_unused : goal.returns-then-is_unused
returns-then-is_unused c =
    let tree = tree_of c.args.tree.now in
    let least = c.numbers.invariant
    ∙ passes (λ n. is_none (node_at tree n)) c.numbers.number c.args.tree.now.inodes c.numbers-test.true
    (sym c.is_unused.ensures ∙ c.if-is_unused.true) in
    record { least = sym least; new = least_is_new tree (Some c.numbers.number) (sym least) }

pub numbers-preserved : goal.numbers-preserved
numbers-preserved c =
    c.numbers.invariant
    ∙ fails (λ n. is_none (node_at (tree_of c.args.tree.now) n)) c.numbers.number c.args.tree.now.inodes
    c.numbers-test.true (sym c.is_unused.ensures ∙ c.if-is_unused.false)

pub returns : goal.returns
returns c =
    let tree = tree_of c.args.tree.now in
    let end : c.args.tree.now.inodes ≤ c.numbers.number = search rules in
    let least = c.numbers.invariant
    ∙ none_behind (λ n. is_none (node_at tree n)) c.numbers.number c.args.tree.now.inodes end in
    record { least = sym least; new = least_is_new tree None (sym least) }
