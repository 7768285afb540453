-- Which tree the plain structs of this crate stand for.
use Rattle.std.specs.Prelude.{◌≡◌, ℕ, ◌<◌, false, nat_eq, List, map, length, get_or, Result, Ok}
use Rattle.std.specs.Prelude.{Err}
use Rattle.std.specs.FinMap.{from_entries}
use Rattle.nfs_types.specs.declared.status.Status.{Status}
use Rattle.nfs_spec.specs.Model.Node.{Node, Body, Regular, Directory, Link}
use Rattle.nfs_spec.specs.Model.Tree.{Tree}
use Rattle.plain_tree.specs.declared.tree.node.PlainBody.{PlainBody}
use Rattle.plain_tree.specs.declared.tree.node.PlainBody.TheVariants as plain
use Rattle.plain_tree.specs.declared.tree.node.PlainNode.{PlainNode}
use Rattle.plain_tree.specs.declared.tree.tree.NumberedNode.{NumberedNode}
use Rattle.plain_tree.specs.declared.tree.tree.PlainTree.{PlainTree}

abbrev pub body_of : PlainBody → Body
body_of (plain.Regular bytes mapped) = Regular bytes.items mapped
body_of (plain.Directory entries span parent) = Directory entries span parent
body_of (plain.Link target) = Link target

abbrev pub node_of : PlainNode → Node
node_of node = record {
  mode = node.mode;
  uid = node.uid;
  gid = node.gid;
  nlink = node.nlink;
  atime = node.atime;
  mtime = node.mtime;
  ctime = node.ctime;
  stamp = node.stamp;
  verifier = node.verifier;
  body = body_of node.body;
}

-- a number that stands twice has its first file
abbrev pub numbered : NumberedNode → ℕ × Node
numbered n = (n.number, node_of n.node)

abbrev pub tree_of : PlainTree → Tree
tree_of tree = record {
  geometry = record { data_blocks = tree.data_blocks; inodes = tree.inodes };
  nodes = from_entries (map numbered tree.nodes.items);
}

-- what stands at an index of the list is what was found
pub record StandsAt (nodes : List NumberedNode) (index : ℕ) (found : Result (ℕ × Node) Status) : Type 0 where
  pub file : NumberedNode
  pub inside : index < length nodes
  pub here : get_or nodes index file ≡ file
  pub first : (before : ℕ) → before < index → nat_eq file.number (get_or nodes before file).number ≡ false
  pub is : found ≡ Ok (numbered file)

-- an index of the list, or why there is none
abbrev pub Locates : List NumberedNode → Result ℕ Status → Result (ℕ × Node) Status → Type 0
Locates nodes (Ok index) found = StandsAt nodes index found
Locates nodes (Err status) found = found ≡ Err status
