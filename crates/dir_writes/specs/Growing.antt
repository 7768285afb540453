-- A directory that spans one block more, in which a name lies.
use Rattle.std.specs.Prelude.{◌≡◌, ℕ, ◌*◌, List, Some, Ok}
use Rattle.base.specs.declared.TheConstants.{SLOTS_PER_BLOCK}
use Rattle.disk.specs.Crash.{Image}
use Rattle.nfs_spec.specs.Model.Node.{Node}
use Rattle.nfs_spec.specs.Model.Tree.{Tree, node_at, with_node}
use Rattle.procs_files.specs.Writable.{CanEnter}
use Rattle.layout.specs.declared.inode.Inode.{Inode}
use Rattle.layout.specs.Decode.{inode_at, span_of}
use Rattle.inode.specs.declared.snap.Snap.{Snap}
use Rattle.dir.specs.Slots.{IsDirectoryOf}
use Rattle.inode.specs.WriteSets.WriteSetContents.{WriteSetContents, IsWriteSet, image_of}
use Rattle.dir_writes.specs.NameInsertion.{dirent_in}

-- the write set holds the tree with this file, whose inode this is
abbrev pub HoldsWith : WriteSetContents → Image → Tree → ℕ → Node → Inode → Type 0
HoldsWith write_set blocks tree n node inode =
    IsWriteSet write_set blocks (with_node tree n node)
    × (inode_at write_set.there.geometry (image_of blocks write_set) n ≡ Ok (Some inode))

-- A directory gets a name in the first slot behind those that it spans.
pub record IsGrowth (snap : Snap) (image : Image) (tree : Tree) (n : ℕ) (inode : Inode) (node : Node)
    (name : List ℕ) (number : ℕ) : Type 0 where
  pub is : IsDirectoryOf snap image tree n inode
  pub was : node_at tree n ≡ Some node
  pub can : CanEnter tree node.body name (dirent_in number (SLOTS_PER_BLOCK * span_of inode))
