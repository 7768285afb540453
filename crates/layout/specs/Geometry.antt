-- Where the parts of an image lie, by how many blocks and inodes it has. Blocks 0 to 513 are the super block
-- and the log; behind them lie the bitmap of blocks, the bitmap of inodes, the table of inodes and the data.
use Rattle.std.specs.Prelude.{◌≡◌, ℕ, ◌+◌, ◌-◌, ◌/◌, ◌%◌, ◌≤◌}
use Rattle.base.specs.declared.TheConstants.{BITS_PER_BLOCK, FIRST_HOME_BLOCK, INODES_PER_BLOCK}
use Rattle.base.specs.declared.TheConstants.{LEAST_BLOCKS, LEAST_DATA_BLOCKS, LEAST_INODES}
use Rattle.base.specs.declared.TheConstants.{MOST_BLOCKS, MOST_INODES}

-- the blocks of a bitmap of so many items
abbrev pub bitmap_blocks : ℕ → ℕ
bitmap_blocks items = (items + (BITS_PER_BLOCK - 1)) / BITS_PER_BLOCK

-- the first block of the inodes' bitmap
abbrev pub inode_bitmap_at : ℕ → ℕ
inode_bitmap_at blocks = FIRST_HOME_BLOCK + bitmap_blocks blocks

-- the first block of the table of inodes
abbrev pub table_at : ℕ → ℕ → ℕ
table_at blocks inodes = inode_bitmap_at blocks + bitmap_blocks inodes

-- the first data block
abbrev pub data_at : ℕ → ℕ → ℕ
data_at blocks inodes = table_at blocks inodes + inodes / INODES_PER_BLOCK

-- an image may have so many blocks
abbrev pub IsLawfulSize : ℕ → Type 0
IsLawfulSize blocks = (LEAST_BLOCKS ≤ blocks) × (blocks ≤ MOST_BLOCKS)

-- an image of so many blocks may have so many inodes: whole blocks of them, and blocks are left for data
abbrev pub IsLawfulCount : ℕ → ℕ → Type 0
IsLawfulCount blocks inodes =
    (LEAST_INODES ≤ inodes) × (inodes ≤ MOST_INODES) × (inodes % INODES_PER_BLOCK ≡ 0)
    × (data_at blocks inodes + LEAST_DATA_BLOCKS ≤ blocks)

abbrev pub IsLawful : ℕ → ℕ → Type 0
IsLawful blocks inodes = IsLawfulSize blocks × IsLawfulCount blocks inodes
