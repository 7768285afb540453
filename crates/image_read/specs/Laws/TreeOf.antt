-- The one tree that an image can stand for: the files of its inodes; and the numbers that its directories name.
use Rattle.std.specs.Prelude.{◌≡◌, ℕ, zero, suc, ◌*◌, ◌<◌, List, [], map, Option, Some, None, Result, Ok, Err}
use Rattle.std.specs.Ordering.{nat_cmp}
use Rattle.std.specs.FinMap.{FinMap, empty, insert}
use Rattle.std.specs.List.{flat_map, range_with_len}
use Rattle.base.specs.declared.TheConstants.{SLOTS_PER_BLOCK}
use Rattle.disk.specs.Crash.{Image}
use Rattle.nfs_spec.specs.Model.Node.{DirentValue, Node}
use Rattle.nfs_spec.specs.Model.Sound.{SoundName}
use Rattle.nfs_spec.specs.Model.Tree.{Tree}
use Rattle.layout.specs.declared.fault.LayoutFault.{LayoutFault}
use Rattle.layout.specs.declared.geometry.Geometry.{Geometry}
use Rattle.layout.specs.declared.inode.Inode.{Inode}
use Rattle.layout.specs.declared.inode.InodeKind.{InodeKind}
use Rattle.layout.specs.declared.inode.InodeKind.TheVariants.{Directory, Link, Regular}
use Rattle.layout.specs.declared.slot.Slot.{Slot}
use Rattle.layout.specs.Decode.{named_in, slot_bytes, span_of}
use Rattle.layout.specs.Parts.{Parts, parts_of}
use Rattle.layout.specs.SlotForm.{read_slot}
use Rattle.layout.specs.Stands.{file_at, geometry_of}

-- the map with the file of a number, if it has one
abbrev pub with_file : ℕ → Option Node → FinMap nat_cmp Node → FinMap nat_cmp Node
with_file number None nodes = nodes
with_file number (Some node) nodes = insert nodes number node

-- the files of the numbers below a bound
unfoldable pub files_below : (ℕ → Option Node) → ℕ → FinMap nat_cmp Node
files_below file zero = empty
files_below file (suc number) = with_file number (file number) (files_below file number)

-- the tree of the files of all inodes, sound or not
abbrev pub tree_of : Geometry → Image → Tree
tree_of g blocks = record {
  geometry = geometry_of g;
  nodes = files_below (file_at g (parts_of g blocks)) g.inodes;
}

-- the numbers that entries name
abbrev pub numbers_named : List (List ℕ × DirentValue) → List ℕ
numbers_named es = map (λ (e : List ℕ × DirentValue). e.1.number) es

-- the numbers that the slots of an inode's directory name, and none of another kind
abbrev pub named_numbers : ℕ → Image → InodeKind → Inode → List ℕ
named_numbers inodes content Directory inode = numbers_named (named_in inodes content inode)
named_numbers inodes content Regular inode = []
named_numbers inodes content Link inode = []

abbrev pub named_of : ℕ → Image → Result (Option Inode) LayoutFault → List ℕ
named_of inodes content (Ok (Some inode)) = named_numbers inodes content inode.kind inode
named_of inodes content (Ok None) = []
named_of inodes content (Err fault) = []

-- the numbers that the slots of all directories name, one slot after another
unfoldable pub all_named : Geometry → Parts → List ℕ
all_named g parts =
    flat_map (λ number. named_of g.inodes parts.content (parts.table number)) (range_with_len 0 g.inodes)

-- each name in the slots of an inode's directory is one
abbrev pub HasNames : Geometry → Image → Inode → Type 0
HasNames g content inode = (index : ℕ) (slot : Slot) → index < SLOTS_PER_BLOCK * span_of inode
    → read_slot g.inodes (slot_bytes content inode index) ≡ Ok (Some slot) → SoundName slot.name
