-- The numbers in a block that holds numbers, and those of a file that lie in no inner block.
use Rattle.std.specs.Prelude.{◌≡◌, ℕ, true, not, List, ◌++◌, nat_eq}
use Rattle.std.specs.List.{list_all, list_any}
use Rattle.base.specs.declared.TheConstants.{INDIRECT_INDEXES}
use Rattle.disk.specs.Crash.{Image}
use Rattle.layout.specs.declared.geometry.Geometry.{Geometry}
use Rattle.layout.specs.declared.inode.Inode.{Inode}
use Rattle.layout.specs.Decode.{doubled_in, is_used_pointer, numbers_in}
use Rattle.layout.specs.Fields.{numbers_at}
use Rattle.layout.specs.InodeForm.{is_data_block_or_none}
use Rattle.layout.specs.Places.{is_data}

-- A block of this number that holds numbers has these numbers: it is a data block, each of them is 0 or that of one,
-- and not all are 0.
pub record AreRowNumbers (g : Geometry) (image : Image) (indirect : ℕ) (numbers : List ℕ) : Type 0 where
  pub lies : is_data g indirect ≡ true
  pub are : numbers ≡ numbers_at INDIRECT_INDEXES 0 (image indirect)
  pub placed : list_all (is_data_block_or_none g) numbers ≡ true
  pub some : list_any (λ number. not (nat_eq number 0)) numbers ≡ true

-- the numbers that lie in no inner block
abbrev pub numbers_before_double : Image → Inode → List ℕ
numbers_before_double content inode = inode.direct ++ numbers_in content inode.indirect

-- they are those of data blocks, and the indirect block has one
pub record IsMappedBeforeDouble (g : Geometry) (content : Image) (inode : Inode) : Type 0 where
  pub indirect : is_data_block_or_none g inode.indirect ≡ true
  pub numbers : list_all (is_data_block_or_none g) (numbers_before_double content inode) ≡ true
  pub used : is_used_pointer content inode.indirect ≡ true

-- the blocks that an inner block names are data blocks, and it names one, if it is there
pub record IsRowMapped (g : Geometry) (content : Image) (pointer : ℕ) : Type 0 where
  pub lies : is_data_block_or_none g pointer ≡ true
  pub placed : list_all (is_data_block_or_none g) (numbers_in content pointer) ≡ true
  pub used : is_used_pointer content pointer ≡ true

-- so it is with the double indirect block, and with each inner one
pub record IsBelowMapped (g : Geometry) (content : Image) (double : ℕ) : Type 0 where
  pub double_mapped : IsRowMapped g content double
  pub placed : list_all (is_data_block_or_none g) (doubled_in content double) ≡ true
  pub used : list_all (is_used_pointer content) (numbers_in content double) ≡ true
