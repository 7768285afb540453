-- What an inode says that is no matter of its kind, its size and its blocks.
use Rattle.layout.specs.declared.inode.Inode.{Inode}

-- the inode with the attributes of another
abbrev pub attributed : Inode → Inode → Inode
attributed inode looks =
    record looks {
      kind = inode.kind;
      size = inode.size;
      direct = inode.direct;
      indirect = inode.indirect;
      double = inode.double;
    }
