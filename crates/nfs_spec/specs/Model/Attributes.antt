-- What a reply tells of a file (RFC 1813, section 2.6).
use Rattle.std.specs.Prelude.{ℕ, ◌*◌, Some, None, length}
use Rattle.base.specs.declared.TheConstants.{BLOCK_BYTES, FILE_SYSTEM}
use Rattle.nfs_types.specs.declared.attributes.Attributes.{Attributes}
use Rattle.nfs_types.specs.declared.attributes.FileKind.{FileKind}
use Rattle.nfs_types.specs.declared.attributes.FileKind.TheVariants as kinds
use Rattle.nfs_types.specs.declared.attributes.WeakCacheAttributes.{WeakCacheAttributes}
use Rattle.nfs_types.specs.declared.attributes.WeakCacheData.{WeakCacheData}
use Rattle.nfs_spec.specs.Model.Node.{Node, Body, Regular, Directory, Link}
use Rattle.nfs_spec.specs.Model.Cost.{cost}

-- the kind of a file
abbrev pub kind_of : Body → FileKind
kind_of (Regular bytes mapped) = kinds.Regular
kind_of (Directory entries span parent) = kinds.Directory
kind_of (Link target) = kinds.Link

-- the size in bytes: a directory's is that of the blocks that it spans
abbrev pub size_of : Body → ℕ
size_of (Regular bytes mapped) = length bytes
size_of (Directory entries span parent) = BLOCK_BYTES * span
size_of (Link target) = length target

-- the attributes of a file with this number: no file is a device
abbrev pub attributes_of : ℕ → Node → Attributes
attributes_of number node = record {
  kind = kind_of node.body;
  mode = node.mode;
  nlink = node.nlink;
  uid = node.uid;
  gid = node.gid;
  size = size_of node.body;
  used = BLOCK_BYTES * cost node.body;
  device = record { major = 0; minor = 0 };
  file_system = FILE_SYSTEM;
  number = number;
  atime = node.atime;
  mtime = node.mtime;
  ctime = node.ctime;
}

-- what is told of a file as it was before a change
abbrev pub before_change : Node → WeakCacheAttributes
before_change node = record { size = size_of node.body; mtime = node.mtime; ctime = node.ctime }

-- a file that was old and is new after the call
abbrev pub change_of : ℕ → Node → Node → WeakCacheData
change_of number old new = record {
  before = Some (before_change old);
  after = Some (attributes_of number new);
}

-- nothing is told of a file
abbrev pub untold : WeakCacheData
untold = record { before = None; after = None }
