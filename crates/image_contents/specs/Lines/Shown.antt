-- What is shown of an image that is good.
use Rattle.std.specs.Prelude.{⊤, ◌≡◌, ℕ, ◌+◌, ◌^◌, ◌≤◌, List, map, Result, Ok, Err}
use Rattle.std.specs.Prelude.{Vec}
use Rattle.std.specs.declared.alloc.Global.{Global}
use Rattle.std.specs.FinMap as finmap
use Rattle.std.specs.FinSet as set
use Rattle.disk.specs.Crash.{Image}
use Rattle.disk.specs.Device.{Content}
use Rattle.disk.specs.declared.block.BlockNo.{BlockNo}
use Rattle.nfs_spec.specs.Model.Attributes.{size_of}
use Rattle.nfs_spec.specs.Model.Node as node
use Rattle.nfs_spec.specs.Model.Node.{Body, Node}
use Rattle.nfs_spec.specs.Model.Tree.{Tree}
use Rattle.layout.specs.declared.inode.InodeKind.{InodeKind}
use Rattle.layout.specs.declared.inode.InodeKind.TheVariants.{Directory, Link, Regular}
use Rattle.circ.specs.Log.Overlay.{HasHomes, IsInRange, logged_in}
use Rattle.store_promise.specs.declared.fault.OpenFault.{OpenFault}
use Rattle.store_promise.specs.declared.fault.OpenFault.TheVariants as fault
use Rattle.image_read.specs.declared.parts.fault.PartFault.{PartFault}
use Rattle.image_read.specs.declared.parts.fault.PartFault.TheVariants as part
use Rattle.image_contents.specs.declared.lines.line.Line.{Line}

-- the kind of a file
abbrev pub shown_kind : Body → InodeKind
shown_kind (node.Regular bytes mapped) = Regular
shown_kind (node.Directory entries span parent) = Directory
shown_kind (node.Link target) = Link

-- in how many blocks its bytes lie
abbrev pub shown_blocks : Body → ℕ
shown_blocks (node.Regular bytes mapped) = set.len mapped
shown_blocks (node.Directory entries span parent) = span
shown_blocks (node.Link target) = 1

-- the line of a file, by its number
abbrev pub line_of : ℕ × Node → Line
line_of entry = record {
  number = entry.0;
  kind = shown_kind entry.1.body;
  mode = entry.1.mode;
  uid = entry.1.uid;
  gid = entry.1.gid;
  nlink = entry.1.nlink;
  size = size_of entry.1.body;
  blocks = shown_blocks entry.1.body;
}

-- the lines of all files of a tree, by rising number
abbrev pub lines_of : Tree → List Line
lines_of tree = map line_of (finmap.entries tree.nodes)

-- What is shown of a good image with this tree and this boot number: the lines of its files. It is refused for its boot
-- number alone, where that is the greatest, or for a failure of the device or want of memory.
abbrev pub IsShown : Tree → ℕ → Result (Vec Line Global) OpenFault → Type 0
IsShown tree boot (Ok lines) = lines.items ≡ lines_of tree
IsShown tree boot (Err fault.Range) = 2 ^ 64 ≤ boot + 1
IsShown tree boot (Err fault.Device) = ⊤
IsShown tree boot (Err (fault.NoMemory error)) = ⊤
IsShown tree boot (Err fault.Magic) = ⊥
IsShown tree boot (Err fault.Version) = ⊥
IsShown tree boot (Err fault.Log) = ⊥

-- what the files of a tree show, once their blocks can be found
abbrev pub AreLines : Tree → Result (Vec Line Global) PartFault → Type 0
AreLines tree (Ok lines) = lines.items ≡ lines_of tree
AreLines tree (Err part.Range) = ⊥
AreLines tree (Err part.Device) = ⊤
AreLines tree (Err (part.NoMemory error)) = ⊤

-- what the log of an image of so many blocks lays over it
abbrev pub IsOverlay : ℕ → Image → Result (List (BlockNo × Content)) OpenFault → Type 0
IsOverlay size image (Ok logged) = logged ≡ logged_in image
IsOverlay size image (Err fault.Log) = IsInRange image → HasHomes size image → ⊥
IsOverlay size image (Err fault.Device) = ⊤
IsOverlay size image (Err (fault.NoMemory error)) = ⊤
IsOverlay size image (Err fault.Magic) = ⊥
IsOverlay size image (Err fault.Version) = ⊥
IsOverlay size image (Err fault.Range) = ⊥
