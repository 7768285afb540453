-- All files of the server.
use Rattle.std.specs.Prelude.{ℕ, ◌-◌, Option, Some, None, sum_by}
use Rattle.std.specs.Ordering.{nat_cmp}
use Rattle.std.specs.FinMap.{FinMap, get, insert, entries}
use Rattle.nfs_spec.specs.Model.Node.{Node}
use Rattle.nfs_spec.specs.Model.Cost.{cost}

-- how many blocks there are for what is in files, and below which number each file's number lies
pub record Geometry : Type 0 where
  pub data_blocks : ℕ
  pub inodes : ℕ

-- the files under their numbers
pub record Tree : Type 0 where
  pub geometry : Geometry
  pub nodes : FinMap nat_cmp Node

-- the file of a number
abbrev pub node_at : Tree → ℕ → Option Node
node_at tree number = get tree.nodes number

-- the tree with this file under this number
abbrev pub with_node : Tree → ℕ → Node → Tree
with_node tree number node = record { geometry = tree.geometry; nodes = insert tree.nodes number node }

-- the blocks that the files use together
abbrev pub used : Tree → ℕ
used tree = sum_by (λ dirent. cost dirent.1.body) (entries tree.nodes)

-- the data blocks that no file uses
abbrev pub free : Tree → ℕ
free tree = tree.geometry.data_blocks - used tree

-- the blocks that the file of a number uses
abbrev pub cost_at : Option Node → ℕ
cost_at None = 0
cost_at (Some node) = cost node.body

-- the blocks that a change from one tree to the other adds, file by file, whatever it frees of others
abbrev pub need : Tree → Tree → ℕ
need old new = sum_by (λ dirent. cost dirent.1.body - cost_at (node_at old dirent.0)) (entries new.nodes)
