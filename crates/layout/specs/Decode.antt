-- The file that an inode and its blocks are.
use Rattle.std.specs.Prelude.{◌≡◌, ℕ, ◌*◌, ◌/◌, Bool, true, cond, not, ◌||◌, List, ◌∷◌, ◌++◌, nat_eq, take}
use Rattle.std.specs.Prelude.{drop, length}
use Rattle.std.specs.Prelude.{replicate, get_or, filter, All, IsOk, Option, Some, None, Result, Ok, Err}
use Rattle.std.specs.List.{flat_map, filter_map, list_all, list_any, range_with_len}
use Rattle.std.specs.Ordering.{nat_cmp}
use Rattle.std.specs.FinMap as map
use Rattle.std.specs.FinSet as set
use Rattle.base.specs.declared.TheConstants.{BLOCK_BYTES, INDIRECT_INDEXES, INODE_BYTES, SLOTS_PER_BLOCK}
use Rattle.disk.specs.Crash.{Image}
use Rattle.nfs_spec.specs.Model.Node.{Node, Body, Entries, DirentValue}
use Rattle.nfs_spec.specs.Model.Node as model
use Rattle.layout.specs.declared.fault.LayoutFault.{LayoutFault}
use Rattle.layout.specs.declared.geometry.Geometry.{Geometry}
use Rattle.layout.specs.declared.inode.Inode.{Inode}
use Rattle.layout.specs.declared.inode.InodeKind.{InodeKind}
use Rattle.layout.specs.declared.inode.InodeKind.TheVariants as kinds
use Rattle.layout.specs.declared.slot.Slot.{Slot}
use Rattle.layout.specs.declared.slot.TheConstants.{SLOT_BYTES}
use Rattle.layout.specs.Fields.{numbers_at, is_zeros}
use Rattle.layout.specs.InodeForm.{read_inode, is_data_block_or_none, names_first}
use Rattle.layout.specs.Places.{inode_block, inode_offset}
use Rattle.layout.specs.SlotForm.{read_slot}

-- the numbers in a block that holds numbers, zeros where there is none
unfoldable pub numbers_in : Image → ℕ → List ℕ
numbers_in blocks number =
    cond (nat_eq number 0) (replicate INDIRECT_INDEXES 0) (numbers_at INDIRECT_INDEXES 0 (blocks number))

-- the numbers that a double indirect block reaches: those in each of its inner blocks, one behind another
unfoldable pub doubled_in : Image → ℕ → List ℕ
doubled_in blocks number = flat_map (numbers_in blocks) (numbers_in blocks number)

-- the numbers of the blocks that hold numbers themselves, 0 where there is none: the indirect block, the double
-- indirect block, and its inner blocks
unfoldable pub pointer_blocks : Image → Inode → List ℕ
pointer_blocks blocks inode = inode.indirect ∷ inode.double ∷ numbers_in blocks inode.double

-- the numbers of the blocks of all indexes, 0 where no block is mapped: the direct ones, then those in the
-- indirect block, then those that the double indirect block reaches
unfoldable pub numbers_of : Image → Inode → List ℕ
numbers_of blocks inode =
    inode.direct ++ numbers_in blocks inode.indirect ++ doubled_in blocks inode.double

-- a block that holds numbers is used: it has one of a block, or it is none
abbrev pub is_used_pointer : Image → ℕ → Bool
is_used_pointer blocks number =
    nat_eq number 0 || list_any (λ one. not (nat_eq one 0)) (numbers_in blocks number)

-- the bytes of an index: zeros where no block is mapped
abbrev pub content_of : Image → ℕ → List ℕ
content_of blocks number = cond (nat_eq number 0) (replicate BLOCK_BYTES 0) (blocks number)

-- the bytes of all these blocks, one behind another
unfoldable pub bytes_of : Image → List ℕ → List ℕ
bytes_of blocks numbers = flat_map (content_of blocks) numbers

-- the indexes at which a block is mapped
unfoldable pub mapped_of : List ℕ → set.FinSet nat_cmp
mapped_of numbers =
    set.from_list
    (filter (λ index. not (nat_eq (get_or numbers index 0) 0)) (range_with_len 0 (length numbers)))

-- how many blocks a directory spans
abbrev pub span_of : Inode → ℕ
span_of inode = inode.size / BLOCK_BYTES

-- the bytes of a slot, by its number in the directory
unfoldable pub slot_bytes : Image → Inode → ℕ → List ℕ
slot_bytes blocks inode slot =
    take SLOT_BYTES
    (drop (SLOT_BYTES * slot) (bytes_of blocks (take (span_of inode) (numbers_of blocks inode))))

-- the numbers of a directory's slots
abbrev pub slots_of : Inode → List ℕ
slots_of inode = range_with_len 0 (SLOTS_PER_BLOCK * span_of inode)

-- the entry in a slot, under its name
abbrev pub dirent_in : ℕ → Result (Option Slot) LayoutFault → Option (List ℕ × DirentValue)
dirent_in index (Ok (Some slot)) = Some (slot.name, record { number = slot.number; slot = index })
dirent_in index (Ok None) = None
dirent_in index (Err fault) = None

-- the entries of a directory in the order of their slots
unfoldable pub named_in : ℕ → Image → Inode → List (List ℕ × DirentValue)
named_in inodes blocks inode =
    filter_map (λ index. dirent_in index (read_slot inodes (slot_bytes blocks inode index))) (slots_of inode)

abbrev pub entries_in : ℕ → Image → Inode → Entries
entries_in inodes blocks inode = map.from_entries (named_in inodes blocks inode)

-- what is in a regular file, in a directory, and in a link, whose target lies in its first block
abbrev pub regular_in : Image → Inode → Body
regular_in blocks inode =
    model.Regular (take inode.size (bytes_of blocks (numbers_of blocks inode)))
    (mapped_of (numbers_of blocks inode))

abbrev pub directory_in : ℕ → Image → Inode → Body
directory_in inodes blocks inode =
    model.Directory (entries_in inodes blocks inode) (span_of inode) inode.parent

abbrev pub link_in : Image → Inode → Body
link_in blocks inode = model.Link (take inode.size (bytes_of blocks (take 1 inode.direct)))

-- a file with this in it
abbrev pub node_with : Inode → Body → Node
node_with inode body = record {
  mode = inode.mode;
  uid = inode.uid;
  gid = inode.gid;
  nlink = inode.nlink;
  atime = inode.atime;
  mtime = inode.mtime;
  ctime = inode.ctime;
  stamp = inode.stamp;
  verifier = inode.verifier;
  body = body;
}

-- what is in the file of an inode of this kind
abbrev pub body_of : ℕ → Image → InodeKind → Inode → Body
body_of inodes blocks kinds.Regular inode = regular_in blocks inode
body_of inodes blocks kinds.Directory inode = directory_in inodes blocks inode
body_of inodes blocks kinds.Link inode = link_in blocks inode

-- the file of an inode: none where it is free
abbrev pub file_of : ℕ → Image → Result (Option Inode) LayoutFault → Option Node
file_of inodes blocks (Ok (Some inode)) = Some (node_with inode (body_of inodes blocks inode.kind inode))
file_of inodes blocks (Ok None) = None
file_of inodes blocks (Err fault) = None

-- the inode of a number
unfoldable pub inode_at : Geometry → Image → ℕ → Result (Option Inode) LayoutFault
inode_at g blocks number =
    read_inode g
    (take INODE_BYTES (drop (inode_offset number) (blocks (inode_block g number))))

-- All its blocks are data blocks, and each that holds numbers has one.
pub record IsMapped (g : Geometry) (blocks : Image) (inode : Inode) : Type 0 where
  pub pointers : list_all (is_data_block_or_none g) (pointer_blocks blocks inode) ≡ true
  pub numbers : list_all (is_data_block_or_none g) (numbers_of blocks inode) ≡ true
  pub used : list_all (is_used_pointer blocks) (pointer_blocks blocks inode) ≡ true

-- a regular file's bytes past its size are zero
pub record IsRegular (g : Geometry) (blocks : Image) (inode : Inode) : Type 0 where
  pub mapped : IsMapped g blocks inode
  pub zeros : is_zeros (drop inode.size (bytes_of blocks (numbers_of blocks inode))) ≡ true

-- a directory has each block that it spans and no other, its slots are slots, and no name is in two of them
pub record IsDirectory (g : Geometry) (blocks : Image) (inode : Inode) : Type 0 where
  pub mapped : IsMapped g blocks inode
  pub spans : names_first (span_of inode) (numbers_of blocks inode) ≡ true
  pub slots : All (λ index. IsOk (read_slot g.inodes (slot_bytes blocks inode index))) (slots_of inode)
  pub once : map.len (entries_in g.inodes blocks inode) ≡ length (named_in g.inodes blocks inode)

-- behind a link's target its block is zero
pub record IsLink (blocks : Image) (inode : Inode) : Type 0 where
  pub zeros : is_zeros (drop inode.size (bytes_of blocks (take 1 inode.direct))) ≡ true

-- an inode's blocks are as its kind has them
abbrev pub IsOfKind : Geometry → Image → InodeKind → Inode → Type 0
IsOfKind g blocks kinds.Regular inode = IsRegular g blocks inode
IsOfKind g blocks kinds.Directory inode = IsDirectory g blocks inode
IsOfKind g blocks kinds.Link inode = IsLink blocks inode

-- it is a free inode, or one whose blocks are as its kind has them
abbrev pub IsFile : Geometry → Image → Result (Option Inode) LayoutFault → Type 0
IsFile g blocks (Ok (Some inode)) = IsOfKind g blocks inode.kind inode
IsFile g blocks (Ok None) = Unit {0}
IsFile g blocks (Err fault) = ⊥
