-- What a history leads to.
use Rattle.std.specs.Prelude.{◌≡◌, List, [], ◌∷◌}
use Rattle.nfs_spec.specs.Model.Entry.{Entry}
use Rattle.nfs_spec.specs.Model.Tree.{Tree}
use Rattle.nfs_spec.specs.Procedures.Step.{step}

-- the entries of a history, one step after another, lead from a tree to a tree
abbrev pub after : Tree → List Entry → Tree → Type 0
after tree [] next = next ≡ tree
after tree (entry ∷ entries) next = (middle : Tree) × step tree entry.ctx entry.call entry.reply middle
    × after middle entries next
