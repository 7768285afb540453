use Rattle.std.proofs.Common.{◌-◌, ◌≡◌, ◌≤◌}
use Rattle.plain_tree.specs.Tree.Plain.{body_of}
use Rattle.procs_files.specs.Heads.{listed_from}
use Rattle.plain_steps.proofs.tree_files.next_names.next_name.Given as goal

abbrev pub invariant-slots : goal.invariant-slots
invariant-slots l = (l.from ≤ l.slot)
    × (listed_from l.from (body_of l.body) ≡ listed_from l.slot (body_of l.body))

abbrev pub decreases-slots : goal.decreases-slots
decreases-slots l = l.end - l.slot
