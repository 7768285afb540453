-- An inode without blocks.
use Rattle.std.specs.Prelude.{replicate}
use Rattle.base.specs.declared.TheConstants.{DIRECT_INDEXES}
use Rattle.layout.specs.declared.inode.Inode.{Inode}

-- the inode with no bytes and no blocks
abbrev pub emptied : Inode → Inode
emptied inode = record inode { size = 0; direct = replicate DIRECT_INDEXES 0; indirect = 0; double = 0 }
