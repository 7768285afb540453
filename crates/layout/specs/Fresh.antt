-- The blocks of an image that was just made.
use Rattle.std.specs.Prelude.{◌≡◌, ℕ, ◌+◌, ◌-◌, ◌*◌, ◌/◌, ◌<◌, ◌≤◌, Bool, ◌||◌, cond, List, ◌++◌, length, map}
use Rattle.std.specs.Prelude.{nat_eq, nat_le, nat_lt, replicate, None}
use Rattle.std.specs.List.{range_with_len}
use Rattle.base.specs.declared.TheConstants.{BITS_PER_BLOCK, BLOCK_BYTES, DIRECT_INDEXES, FIRST_HOME_BLOCK}
use Rattle.base.specs.declared.TheConstants.{INODE_BYTES, INODES_PER_BLOCK, LOG_HEADER_BLOCK, ROOT}
use Rattle.base.specs.declared.TheConstants.{ROOT_MODE, START_BLOCK, SUPER_BLOCK}
use Rattle.disk.specs.Crash.{Image}
use Rattle.nfs_types.specs.declared.ctx.Moment.{Moment}
use Rattle.nfs_types.specs.Fits.{AreBytes}
use Rattle.layout.specs.declared.geometry.Geometry.{Geometry}
use Rattle.layout.specs.declared.inode.Inode.{Inode}
use Rattle.layout.specs.declared.inode.InodeKind.TheVariants.{Directory}
use Rattle.layout.specs.InodeForm.{inode_bytes}
use Rattle.layout.specs.Geometry.{bitmap_blocks, inode_bitmap_at, table_at, data_at}
use Rattle.layout.specs.SuperForm.{super_bytes}

-- the root: an empty directory that is its own parent, made at the moment by no transaction
abbrev pub root_inode : Moment → Inode
root_inode moment = record {
  kind = Directory;
  mode = ROOT_MODE;
  uid = 0;
  gid = 0;
  nlink = 2;
  size = 0;
  atime = moment;
  mtime = moment;
  ctime = moment;
  stamp = record { boot = 0; transaction = 0 };
  parent = ROOT;
  verifier = None;
  direct = replicate DIRECT_INDEXES 0;
  indirect = 0;
  double = 0;
}

-- the block of the table in which it lies: inode 0 is free, then comes the root, and all others are free
abbrev pub root_block : Moment → List ℕ
root_block moment =
    replicate INODE_BYTES 0
    ++ (inode_bytes (root_inode moment) ++ replicate (BLOCK_BYTES - INODE_BYTES - INODE_BYTES) 0)

abbrev pub bit : Bool → ℕ
bit marked = cond marked 1 0

-- eight bits, from that of a number on, as a byte: the least stands for the first
abbrev pub byte_of : (ℕ → Bool) → ℕ → ℕ
byte_of marked number =
    bit (marked number) + 2 * bit (marked (number + 1)) + 4 * bit (marked (number + 2))
    + 8 * bit (marked (number + 3))
    + 16 * bit (marked (number + 4)) + 32 * bit (marked (number + 5)) + 64 * bit (marked (number + 6))
    + 128 * bit (marked (number + 7))

-- the block of a bitmap that begins with the bit of a number
unfoldable pub bitmap_block : (ℕ → Bool) → ℕ → List ℕ
bitmap_block marked first = map (λ index. byte_of marked (first + 8 * index)) (range_with_len 0 BLOCK_BYTES)

-- the numbers below one and those from another on
abbrev pub is_outside : ℕ → ℕ → ℕ → Bool
is_outside below past number = nat_lt number below || nat_le past number

-- The homes of an image that was just made, whatever its data blocks hold: bitmaps in which no data block is
-- marked and no inode but 0 and the root, and a table of free inodes with the root.
pub record HasFreshHomes (g : Geometry) (moment : Moment) (image : Image) : Type 0 where
  pub bytes : (number : ℕ) → FIRST_HOME_BLOCK ≤ number → number < g.blocks
      → (length (image number) ≡ BLOCK_BYTES) × AreBytes (image number)
  pub blocks : (k : ℕ) → k < bitmap_blocks g.blocks
      → image (FIRST_HOME_BLOCK + k)
      ≡ bitmap_block (is_outside (data_at g.blocks g.inodes) g.blocks) (BITS_PER_BLOCK * k)
  pub inodes : (k : ℕ) → k < bitmap_blocks g.inodes
      → image (inode_bitmap_at g.blocks + k)
      ≡ bitmap_block (is_outside (ROOT + 1) g.inodes) (BITS_PER_BLOCK * k)
  pub root : image (table_at g.blocks g.inodes) ≡ root_block moment
  pub free : (k : ℕ) → 0 < k → k < g.inodes / INODES_PER_BLOCK
      → image (table_at g.blocks g.inodes + k) ≡ replicate BLOCK_BYTES 0

-- An image that was just made, whatever its slots hold: the super block, an empty log, and fresh homes.
pub record IsFresh (g : Geometry) (moment : Moment) (image : Image) : Type 0 where
  pub super : image SUPER_BLOCK ≡ super_bytes (record { geometry = g; boot = 0 })
  pub header : image LOG_HEADER_BLOCK ≡ replicate BLOCK_BYTES 0
  pub start : image START_BLOCK ≡ replicate BLOCK_BYTES 0
  pub homes : HasFreshHomes g moment image

-- one of them, whose slots and data blocks are zeros
unfoldable pub fresh : Geometry → Moment → Image
fresh g moment number =
    cond (nat_eq number SUPER_BLOCK) (super_bytes (record { geometry = g; boot = 0 }))
    (cond (nat_lt number FIRST_HOME_BLOCK) (replicate BLOCK_BYTES 0)
    (cond (nat_lt number (inode_bitmap_at g.blocks))
    (bitmap_block (is_outside (data_at g.blocks g.inodes) g.blocks)
    (BITS_PER_BLOCK * (number - FIRST_HOME_BLOCK)))
    (cond (nat_lt number (table_at g.blocks g.inodes))
    (bitmap_block (is_outside (ROOT + 1) g.inodes) (BITS_PER_BLOCK * (number - inode_bitmap_at g.blocks)))
    (cond (nat_eq number (table_at g.blocks g.inodes)) (root_block moment) (replicate BLOCK_BYTES 0)))))
