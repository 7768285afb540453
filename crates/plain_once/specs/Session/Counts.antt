-- Which counts an image may have, and how many blocks are left for data (docs/FORMAT.md).
use Rattle.std.specs.Prelude.{◌≡◌, ℕ, ◌+◌, ◌-◌, ◌/◌, ◌%◌, ◌≤◌, Option, Some, None}
use Rattle.base.specs.declared.TheConstants.{BITS_PER_BLOCK, FIRST_HOME_BLOCK, INODES_PER_BLOCK}
use Rattle.base.specs.declared.TheConstants.{LEAST_BLOCKS, LEAST_DATA_BLOCKS, LEAST_INODES}
use Rattle.base.specs.declared.TheConstants.{MOST_BLOCKS, MOST_INODES}

-- the bits of a bitmap take whole blocks
abbrev pub bitmap_blocks : ℕ → ℕ
bitmap_blocks bits = (bits + (BITS_PER_BLOCK - 1)) / BITS_PER_BLOCK

-- what stands before the data: the super block and the log, the two bitmaps, and the table of inodes
abbrev pub taken_blocks : ℕ → ℕ → ℕ
taken_blocks blocks inodes =
    FIRST_HOME_BLOCK + bitmap_blocks blocks + bitmap_blocks inodes + inodes / INODES_PER_BLOCK

-- an image may have so many blocks and inodes
pub record IsLawful (blocks inodes : ℕ) : Type 0 where
  pub least_blocks : LEAST_BLOCKS ≤ blocks
  pub most_blocks : blocks ≤ MOST_BLOCKS
  pub least_inodes : LEAST_INODES ≤ inodes
  pub most_inodes : inodes ≤ MOST_INODES
  pub whole : inodes % INODES_PER_BLOCK ≡ 0
  pub has_space : taken_blocks blocks inodes + LEAST_DATA_BLOCKS ≤ blocks

-- the data blocks of an image with these counts, where there is one
abbrev pub HasData : ℕ → ℕ → Option ℕ → Type 0
HasData blocks inodes (Some left) = IsLawful blocks inodes × (taken_blocks blocks inodes + left ≡ blocks)
HasData blocks inodes None = IsLawful blocks inodes → ⊥
