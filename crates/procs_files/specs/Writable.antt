-- What has to hold where files change.
use Rattle.std.specs.Prelude.{◌≡◌, ℕ, ◌-◌, ◌*◌, ◌^◌, ◌<◌, ◌≤◌, ◌⊎◌, true, false, cond, List, [], Some, None}
use Rattle.std.specs.FinMap as map
use Rattle.std.specs.FinSet as set
use Rattle.base.specs.declared.TheConstants.{BLOCK_BYTES, MODE_BITS, MOST_LINKS, MOST_SPAN, SLOTS_PER_BLOCK}
use Rattle.nfs_spec.specs.Model.Attributes.{size_of}
use Rattle.nfs_spec.specs.Model.Cost.{cost}
use Rattle.nfs_spec.specs.Model.Names.{is_directory}
use Rattle.nfs_spec.specs.Model.Node.{Body, DirentValue, Regular, Directory, Link}
use Rattle.nfs_spec.specs.Model.Sound.{SoundName, SoundStamp, SoundTime, SoundVerifier}
use Rattle.nfs_spec.specs.Model.Tree.{Tree}
use Rattle.nfs_spec.specs.Procedures.Places.{dirent_at, is_taken_slot}
use Rattle.procs_files.specs.declared.inode_attributes.InodeAttributes.{InodeAttributes}
use Rattle.procs_files.specs.Heads.{is_kind_directory, is_kind_regular, shell}

-- A file may have these attributes, where so many inodes are.
pub record SoundInodeAttributes (inodes : ℕ) (inode_attributes : InodeAttributes) : Type 0 where
  pub mode : inode_attributes.mode ≤ MODE_BITS
  pub uid : inode_attributes.uid < 2 ^ 32
  pub gid : inode_attributes.gid < 2 ^ 32
  pub linked : 0 < inode_attributes.nlink
  pub nlink : inode_attributes.nlink ≤ MOST_LINKS
  pub atime : SoundTime inode_attributes.atime
  pub mtime : SoundTime inode_attributes.mtime
  pub ctime : SoundTime inode_attributes.ctime
  pub stamp : SoundStamp inode_attributes.stamp
  pub verifier : SoundVerifier (shell inode_attributes) inode_attributes.verifier
  pub directory : is_kind_directory inode_attributes.kind ≡ true
      → (2 ≤ inode_attributes.nlink) × (0 < inode_attributes.parent) × (inode_attributes.parent < inodes)

-- the blocks that a file uses more
abbrev pub adds : Body → Body → ℕ
adds new old = cost new - cost old

-- how many blocks a directory spans
abbrev pub spanned : Body → ℕ
spanned (Regular bytes mapped) = 0
spanned (Directory entries span parent) = span
spanned (Link target) = 0

-- what is in a new file of this head: nothing, or of a link its target
abbrev pub first_body : InodeAttributes → List ℕ → Body
first_body inode_attributes target = cond (is_kind_directory inode_attributes.kind) (Directory map.empty 0 inode_attributes.parent)
    (cond (is_kind_regular inode_attributes.kind) (Regular [] set.empty) (Link target))

-- the name is the entry's own: it is there and lies in this slot, or it isn't and no name lies there
abbrev pub IsOwnSlot : Body → List ℕ → DirentValue → Type 0
IsOwnSlot directory name dirent =
    ((dirent_at directory name ≡ None) × (is_taken_slot directory dirent.slot ≡ false))
    ⊎ ((old : DirentValue) × (dirent_at directory name ≡ Some old) × (old.slot ≡ dirent.slot))

-- A directory can be given this name for a file. Its slot is at most the first behind those that the directory
-- spans.
pub record CanEnter (tree : Tree) (body : Body) (name : List ℕ) (dirent : DirentValue) : Type 0 where
  pub directory : is_directory body ≡ true
  pub lawful : SoundName name
  pub some : 0 < dirent.number
  pub within : dirent.number < tree.geometry.inodes
  pub slot : dirent.slot < SLOTS_PER_BLOCK * MOST_SPAN
  pub within_span : dirent.slot ≤ SLOTS_PER_BLOCK * spanned body
  pub own : IsOwnSlot body name dirent

-- the head of the file with this in it, whose other attributes are these
abbrev pub headed : InodeAttributes → Body → InodeAttributes
headed inode_attributes body = record inode_attributes { size = size_of body; used = BLOCK_BYTES * cost body }
