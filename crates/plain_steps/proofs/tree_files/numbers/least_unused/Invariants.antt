use Rattle.std.proofs.Common.{◌≡◌, ◌-◌, is_none}
use Rattle.nfs_spec.specs.Model.Tree.{node_at}
use Rattle.plain_tree.specs.Tree.Plain.{tree_of}
use Rattle.plain_steps.proofs.Ranges.{first_in}
use Rattle.plain_steps.specs.Numbered.{least_unused}
use Rattle.plain_steps.proofs.tree_files.numbers.least_unused.Given as goal

abbrev pub invariant-numbers : goal.invariant-numbers
invariant-numbers l =
    least_unused (tree_of l.tree)
    ≡ first_in (λ n. is_none (node_at (tree_of l.tree) n)) l.number l.end

abbrev pub decreases-numbers : goal.decreases-numbers
decreases-numbers l = l.end - l.number
