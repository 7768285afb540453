-- What an inode shows of what is in its file.
use Rattle.std.specs.Prelude.{◌≡◌, ℕ, ◌+◌, cond, nat_eq}
use Rattle.nfs_types.specs.declared.attributes.FileKind.{FileKind}
use Rattle.nfs_types.specs.declared.attributes.FileKind.TheVariants as kinds
use Rattle.disk.specs.Crash.{Image}
use Rattle.nfs_spec.specs.Model.Attributes.{kind_of, size_of}
use Rattle.nfs_spec.specs.Model.Cost.{cost}
use Rattle.nfs_spec.specs.Model.Names.{parent_of}
use Rattle.nfs_spec.specs.Model.Node.{Body}
use Rattle.nfs_spec.specs.Model.Tree.{Tree, node_at}
use Rattle.std.specs.Prelude.{Option, Some, None}
use Rattle.layout.specs.declared.geometry.Geometry.{Geometry}
use Rattle.layout.specs.declared.inode.Inode.{Inode}
use Rattle.layout.specs.declared.inode.InodeKind.{InodeKind}
use Rattle.layout.specs.declared.inode.InodeKind.TheVariants.{Regular, Directory, Link}
use Rattle.layout.specs.Decode.{body_of, doubled_in, node_with, numbers_in}
use Rattle.layout.specs.Fields.{count_of}
use Rattle.layout.specs.Parts.{content_in}
use Rattle.inode.specs.declared.snap.Snap.{Snap}
use Rattle.inode.specs.Over.{HasInode}

-- the kind that is told
abbrev pub file_kind : InodeKind → FileKind
file_kind Regular = kinds.Regular
file_kind Directory = kinds.Directory
file_kind Link = kinds.Link

-- what is in the file is of the inode's kind, size and parent, and uses so many blocks
pub record IsShown (inode : Inode) (count : ℕ) (body : Body) : Type 0 where
  pub kind : kind_of body ≡ file_kind inode.kind
  pub size : size_of body ≡ inode.size
  pub used : cost body ≡ count
  pub parent : parent_of body ≡ inode.parent

-- how many blocks a double indirect block reaches, with itself and its inner blocks: none where there is none
unfoldable pub double_held : Image → ℕ → ℕ
double_held content double =
    cond (nat_eq double 0) 0 (1 + count_of (numbers_in content double) + count_of (doubled_in content double))

-- what is in the file of an inode
abbrev pub body_in : Geometry → Image → Inode → Body
body_in g blocks inode = body_of g.inodes (content_in g blocks) inode.kind inode

-- the tree has the file of this inode under the number, or none
abbrev pub IsInodeOf : Snap → Image → Tree → ℕ → Option Inode → Type 0
IsInodeOf snap blocks tree number (Some inode) = HasInode snap blocks tree number inode
    × (node_at tree number ≡ Some (node_with inode (body_in snap.geometry blocks inode)))
IsInodeOf snap blocks tree number None = node_at tree number ≡ None
