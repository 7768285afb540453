-- Which blocks of an image are data, and where an inode of it lies.
use Rattle.std.specs.Prelude.{ℕ, ◌+◌, ◌*◌, ◌/◌, ◌%◌, Bool, ◌&&◌, nat_le, nat_lt}
use Rattle.base.specs.declared.TheConstants.{INODES_PER_BLOCK, INODE_BYTES}
use Rattle.layout.specs.declared.geometry.Geometry.{Geometry}
use Rattle.layout.specs.Geometry.{data_at, table_at}

-- a block of data
abbrev pub is_data : Geometry → ℕ → Bool
is_data g number = nat_le (data_at g.blocks g.inodes) number && nat_lt number g.blocks

-- the block of the table in which an inode lies, and its offset there
abbrev pub inode_block : Geometry → ℕ → ℕ
inode_block g number = table_at g.blocks g.inodes + number / INODES_PER_BLOCK

abbrev pub inode_offset : ℕ → ℕ
inode_offset number = INODE_BYTES * (number % INODES_PER_BLOCK)
