-- A file that has blocks by their indexes.
use Rattle.std.proofs.Common.{◌≡◌, ℕ, List, length}
use Rattle.base.specs.declared.TheConstants.{BLOCK_BYTES, FILE_INDEXES}
use Rattle.disk.specs.Crash.{Image}
use Rattle.nfs_spec.specs.Model.Tree.{Tree}
use Rattle.layout.specs.declared.geometry.Geometry.{Geometry}
use Rattle.layout.specs.declared.inode.Inode.{Inode}
use Rattle.layout.specs.Decode.{numbers_of}
use Rattle.layout.specs.InodeForm.{SoundInode}
use Rattle.layout.specs.Parts.{content_in}
use Rattle.layout.proofs.AllNumbers.{all-length}
use Rattle.inode.proofs.InodeThere.{is_read, long}
use Rattle.inode_data.specs.Filling.{HasMapped, HasRegular}
use Rattle.inode_data.proofs.PieceWritten.{rules}

module _ (g : Geometry) (base : Image) (tree : Tree) (n : ℕ) (inode : Inode) (has : HasMapped g base tree n inode)
  where
    abbrev pub content : Image
    content = content_in g base

    abbrev pub numbers : List ℕ
    numbers = numbers_of content inode

    pub sound : SoundInode g inode
    sound = is_read g base tree n inode has.holds has.less has.read

    pub count : length numbers ≡ FILE_INDEXES
    count = all-length content inode sound.fits.count

    pub long_content : (q : ℕ) → length (content q) ≡ BLOCK_BYTES
    long_content = long g base tree n inode has.holds has.less has.read

-- a regular file is one
pub as_mapped : (g : Geometry) (base : Image) (tree : Tree) (n : ℕ) (inode : Inode)
    → HasRegular g base tree n inode → HasMapped g base tree n inode
as_mapped g base tree n inode has = record {
  holds = has.holds;
  less = has.less;
  read = has.read;
  mapped = (rules g base tree n inode has).mapped;
}
