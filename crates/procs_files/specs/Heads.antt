-- What is known of a file without what is in it, and when it is known of a tree's file.
use Rattle.std.specs.Prelude.{◌≡◌, ℕ, suc, ◌*◌, ◌+◌, Bool, true, false, cond, nat_le, List, [], ◌∷◌, Option}
use Rattle.std.specs.Prelude.{Some, None, Result, Ok, Err}
use Rattle.std.specs.List.{filter, filter_map}
use Rattle.std.specs.Option.{option_map}
use Rattle.std.specs.FinMap as map
use Rattle.std.specs.FinSet as set
use Rattle.nfs_types.specs.declared.attributes.FileKind.{FileKind}
use Rattle.nfs_types.specs.declared.attributes.FileKind.TheVariants as kinds
use Rattle.nfs_types.specs.declared.entries.ListedItem.{ListedItem}
use Rattle.nfs_types.specs.declared.status.Status.{Status}
use Rattle.base.specs.declared.TheConstants.{BLOCK_BYTES}
use Rattle.nfs_spec.specs.Model.Attributes.{kind_of, size_of}
use Rattle.nfs_spec.specs.Model.Cost.{cost}
use Rattle.nfs_spec.specs.Model.Names.{parent_of}
use Rattle.nfs_spec.specs.Model.Node.{Node, Body, DirentValue, Regular, Directory, Link}
use Rattle.nfs_spec.specs.Model.Tree.{Tree, node_at}
use Rattle.nfs_spec.specs.Procedures.Listing.{listed_in, slots_of}
use Rattle.nfs_spec.specs.declared.procedures.cookies.TheConstants.{FIRST_SLOT_COOKIE}
use Rattle.nfs_spec.specs.Procedures.StepForms.{Effect, answer_of, tree_after}
use Rattle.procs_files.specs.declared.dirent.SlotDirent.{SlotDirent}
use Rattle.procs_files.specs.declared.dirent.SlotName.{SlotName}
use Rattle.procs_files.specs.declared.inode_attributes.InodeAttributes.{InodeAttributes}

abbrev pub is_kind_directory : FileKind → Bool
is_kind_directory kinds.Directory = true
is_kind_directory _ = false

abbrev pub is_kind_regular : FileKind → Bool
is_kind_regular kinds.Regular = true
is_kind_regular _ = false

-- a file with this in it
abbrev pub node_of : InodeAttributes → Body → Node
node_of inode_attributes body = record {
  mode = inode_attributes.mode;
  uid = inode_attributes.uid;
  gid = inode_attributes.gid;
  nlink = inode_attributes.nlink;
  atime = inode_attributes.atime;
  mtime = inode_attributes.mtime;
  ctime = inode_attributes.ctime;
  stamp = inode_attributes.stamp;
  verifier = inode_attributes.verifier;
  body = body;
}

-- what is in the file is of this kind and size, uses the blocks of as many bytes, and has this parent
pub record IsBodyOf (inode_attributes : InodeAttributes) (body : Body) : Type 0 where
  pub kind : kind_of body ≡ inode_attributes.kind
  pub size : size_of body ≡ inode_attributes.size
  pub used : BLOCK_BYTES * cost body ≡ inode_attributes.used
  pub parent : parent_of body ≡ inode_attributes.parent

-- the tree has this file, with this in it
pub record IsFileIn (tree : Tree) (inode_attributes : InodeAttributes) (body : Body) : Type 0 where
  pub there : node_at tree inode_attributes.number ≡ Some (node_of inode_attributes body)
  pub fits : IsBodyOf inode_attributes body

-- what was found under a number is the tree's file of it, or the tree has none
abbrev pub IsFileAt : Tree → ℕ → Option InodeAttributes → Type 0
IsFileAt tree number (Some inode_attributes) = (inode_attributes.number ≡ number) × ((body : Body) × IsFileIn tree inode_attributes body)
IsFileAt tree number None = node_at tree number ≡ None

-- what was found is this file of the tree
abbrev pub IsFound : Tree → Option (ℕ × Node) → Option InodeAttributes → Type 0
IsFound tree file (Some inode_attributes) =
    (body : Body) × (file ≡ Some (inode_attributes.number, node_of inode_attributes body)) × IsFileIn tree inode_attributes body
IsFound tree file None = file ≡ None

-- what a handle names is the tree's file, or why it names none
abbrev pub IsNamed : Tree → Result (ℕ × Node) Status → Result InodeAttributes Status → Type 0
IsNamed tree file (Ok inode_attributes) =
    (body : Body) × (file ≡ Ok (inode_attributes.number, node_of inode_attributes body)) × IsFileIn tree inode_attributes body
IsNamed tree file (Err status) = file ≡ Err status

-- a body of a file's kind that has nothing in it: the tests look no further
abbrev pub shell : InodeAttributes → Body
shell inode_attributes = cond (is_kind_directory inode_attributes.kind) (Directory map.empty 0 inode_attributes.parent)
    (cond (is_kind_regular inode_attributes.kind) (Regular [] set.empty) (Link []))

abbrev pub bare : InodeAttributes → Node
bare inode_attributes = node_of inode_attributes (shell inode_attributes)

-- what a name leads to
abbrev pub dirent_of : SlotDirent → DirentValue
dirent_of dirent = record { number = dirent.number; slot = dirent.slot }

-- what is listed of a directory from a slot on, by rising slots
abbrev pub listed_from : ℕ → Body → List ListedItem
listed_from from directory = filter_map (listed_in directory) (filter (λ slot. nat_le from slot) (slots_of directory))

-- a name as it is listed
abbrev pub listing_of : SlotName → ListedItem
listing_of found = record {
  number = found.number;
  name = found.name;
  cookie = found.slot + FIRST_SLOT_COOKIE;
}

-- the first that is listed from a slot on, if anything is
abbrev pub IsNextName : Body → ℕ → Option SlotName → Type 0
IsNextName directory from None = listed_from from directory ≡ []
IsNextName directory from (Some found) =
    listed_from from directory ≡ listing_of found ∷ listed_from (suc found.slot) directory

-- what was answered, and the tree that the files now stand for, are those of what the call does
pub record IsDone {A : Type 0} (stands : Tree → Type 0) (tree : Tree) (effect : Result (Effect A) Status)
    (outcome : Result A Status) : Type 0 where
  pub answered : outcome ≡ answer_of effect
  pub leads : stands (tree_after tree effect)

-- a file that was found, with nothing in it
abbrev pub barely : Option InodeAttributes → Option (ℕ × Node)
barely found = option_map (λ inode_attributes. (inode_attributes.number, bare inode_attributes)) found

-- the status of the first part, or else that of the second
abbrev pub first_of : Option Status → Option Status → Option Status
first_of (Some status) later = Some status
first_of None later = later
