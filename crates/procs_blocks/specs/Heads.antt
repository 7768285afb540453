-- What an inode tells of its file.
use Rattle.std.specs.Prelude.{ℕ, ◌*◌, replicate}
use Rattle.base.specs.declared.TheConstants.{BLOCK_BYTES, DIRECT_INDEXES}
use Rattle.procs_files.specs.declared.inode_attributes.InodeAttributes.{InodeAttributes}
use Rattle.layout.specs.declared.inode.Inode.{Inode}
use Rattle.layout.specs.declared.inode.InodeKind.{InodeKind}
use Rattle.layout.specs.declared.inode.InodeKind.TheVariants.{Regular}
use Rattle.inode.specs.Shown.{file_kind}

-- the head of the file of an inode that uses so many blocks
abbrev pub inode_attributes_of : ℕ → Inode → ℕ → InodeAttributes
inode_attributes_of number inode used = record {
  number = number;
  kind = file_kind inode.kind;
  mode = inode.mode;
  uid = inode.uid;
  gid = inode.gid;
  nlink = inode.nlink;
  size = inode.size;
  used = BLOCK_BYTES * used;
  parent = inode.parent;
  atime = inode.atime;
  mtime = inode.mtime;
  ctime = inode.ctime;
  stamp = inode.stamp;
  verifier = inode.verifier;
}

-- an inode with the attributes of a head, and no blocks
abbrev pub looks_of : InodeAttributes → Inode
looks_of inode_attributes = record {
  kind = Regular;
  mode = inode_attributes.mode;
  uid = inode_attributes.uid;
  gid = inode_attributes.gid;
  nlink = inode_attributes.nlink;
  size = 0;
  atime = inode_attributes.atime;
  mtime = inode_attributes.mtime;
  ctime = inode_attributes.ctime;
  stamp = inode_attributes.stamp;
  parent = inode_attributes.parent;
  verifier = inode_attributes.verifier;
  direct = replicate DIRECT_INDEXES 0;
  indirect = 0;
  double = 0;
}

-- an inode of this kind with the attributes of a head, and no blocks
abbrev pub inode_of : InodeAttributes → InodeKind → Inode
inode_of inode_attributes kind = record (looks_of inode_attributes) { kind = kind }
