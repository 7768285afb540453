-- The inode and the block of a link.
use Rattle.std.specs.Prelude.{◌≡◌, ℕ, ◌-◌, ◌<◌, true, List, ◌∷◌, [], ◌++◌, length, replicate}
use Rattle.base.specs.declared.TheConstants.{BLOCK_BYTES}
use Rattle.disk.specs.Crash.{Image}
use Rattle.layout.specs.declared.geometry.Geometry.{Geometry}
use Rattle.layout.specs.declared.inode.Inode.{Inode}
use Rattle.layout.specs.Parts.{with_bytes, with_inode}
use Rattle.bitmap.specs.Bits.{MarksNumber}

-- the inode with so many bytes in this block
abbrev pub linked : Inode → ℕ → ℕ → Inode
linked inode size block =
    record inode { size = size; direct = block ∷ 0 ∷ 0 ∷ 0 ∷ 0 ∷ 0 ∷ 0 ∷ 0 ∷ []; indirect = 0; double = 0 }

-- a block with these bytes, and zeros behind them
abbrev pub filled : List ℕ → List ℕ
filled bytes = bytes ++ replicate (BLOCK_BYTES - length bytes) 0

-- blocks in one of which these bytes were put, and then an inode whose number was marked
pub record IsLinkWritten (g : Geometry) (number block : ℕ) (bytes : List ℕ) (inode : Inode) (old new : Image) : Type 0
  where
    pub middle : Image
    pub marks : MarksNumber g number true (with_bytes old block 0 bytes) middle
    pub long : (q : ℕ) → q < g.blocks → length (middle q) ≡ BLOCK_BYTES
    pub is : new ≡ with_inode g middle number inode
