-- What a list of files stands for.
use Rattle.std.specs.Prelude.{ℕ, ◌-◌, List, map, is_none, Option, Some, None, sum_by}
use Rattle.std.specs.FinMap.{FinMap, entries, from_entries}
use Rattle.std.specs.List.{find, range_with_len}
use Rattle.std.specs.Ordering.{nat_cmp}
use Rattle.nfs_spec.specs.Model.Cost.{cost}
use Rattle.nfs_spec.specs.Model.Node.{Node}
use Rattle.nfs_spec.specs.Model.Tree.{Tree, node_at}
use Rattle.plain_tree.specs.Tree.Plain.{numbered}
use Rattle.plain_tree.specs.declared.tree.tree.NumberedNode.{NumberedNode}

-- the files under their numbers: of those of one number the first
abbrev pub files_of : List NumberedNode → FinMap nat_cmp Node
files_of files = from_entries (map numbered files)

-- the blocks that they use together
abbrev pub blocks_of : List NumberedNode → ℕ
blocks_of files = sum_by (λ dirent. cost dirent.1.body) (entries (files_of files))

abbrev pub weight_at : (ℕ × Node → ℕ) → ℕ → Option Node → ℕ
weight_at weight number None = 0
weight_at weight number (Some node) = weight (number, node)

-- what the files weigh together
abbrev pub weight_of : (ℕ × Node → ℕ) → List NumberedNode → ℕ
weight_of weight files = sum_by weight (entries (files_of files))

-- the least number that a file may have and none has
abbrev pub least_unused : Tree → Option ℕ
least_unused tree = find (λ number. is_none (node_at tree number)) (range_with_len 1 (tree.geometry.inodes - 1))
