-- The indirect block: the numbers of the blocks that an inode doesn't name itself.
use Rattle.std.specs.Prelude.{◌≡◌, ℕ, ◌*◌, ◌<◌, ◌^◌, true, List, length}
use Rattle.std.specs.List.{list_all, AllByRecursion}
use Rattle.base.specs.declared.TheConstants.{INDIRECT_INDEXES}
use Rattle.objects.specs.Spliced.{spliced}
use Rattle.layout.specs.declared.geometry.Geometry.{Geometry}
use Rattle.layout.specs.declared.numbers.TheConstants.{NUMBER_BYTES}
use Rattle.layout.specs.Fields.{four_bytes, number_bytes}
use Rattle.layout.specs.InodeForm.{is_data_block_or_none}

-- as many numbers as a block has, each 0 or that of a data block
pub record AreSoundNumbers (g : Geometry) (numbers : List ℕ) : Type 0 where
  pub count : length numbers ≡ INDIRECT_INDEXES
  pub small : AllByRecursion (λ number. number < 2 ^ 32) numbers
  pub places : list_all (is_data_block_or_none g) numbers ≡ true

-- these are the bytes of these numbers
pub record IsNumbers (g : Geometry) (bytes : List ℕ) (numbers : List ℕ) : Type 0 where
  pub spelled : bytes ≡ number_bytes numbers
  pub sound : AreSoundNumbers g numbers

-- a block with another number at an index
abbrev pub with_number : List ℕ → ℕ → ℕ → List ℕ
with_number block index number = spliced block (NUMBER_BYTES * index) (four_bytes number)
