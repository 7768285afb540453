-- What blocks are in which those of a file were written that is cut.
use Rattle.std.specs.Prelude.{◌≡◌, ℕ, ◌+◌, ◌-◌, ◌≤◌, true, List, length, drop, filter, count_by, Some, Ok}
use Rattle.base.specs.declared.TheConstants.{DIRECT_INDEXES, FIRST_DOUBLE_INDEX, INDIRECT_INDEXES}
use Rattle.disk.specs.Crash.{Image}
use Rattle.layout.specs.declared.geometry.Geometry.{Geometry}
use Rattle.layout.specs.declared.inode.Inode.{Inode}
use Rattle.layout.specs.Decode.{numbers_in}
use Rattle.layout.specs.InodeForm.{is_data_block_or_none}
use Rattle.layout.specs.Parts.{content_in, parts_of, put}
use Rattle.bitmap.specs.Bits.{AreOfBytes}
use Rattle.bitmap.specs.Inodes.Frees.{without}
use Rattle.inode_sizes.specs.Cut.{IsRowCut, first_of, is_some, with_numbers, with_zeros}
use Rattle.inode_sizes.specs.Doubles.{FitsDouble, IsDoubleCut}
use Rattle.inode_sizes.specs.declared.cuts.CutPointers.{CutPointers}

-- in one block the bytes are zeros from one on
pub record HasZeros (g : Geometry) (number from : ℕ) (old new : Image) : Type 0 where
  pub bytes : AreOfBytes g old → AreOfBytes g new
  pub parts : parts_of g new ≡ record (parts_of g old) { content = with_zeros (content_in g old) number from }

-- one block has these numbers
pub record HasNumbers (g : Geometry) (number : ℕ) (numbers : List ℕ) (old new : Image) : Type 0 where
  pub bytes : AreOfBytes g old → AreOfBytes g new
  pub parts : parts_of g new ≡ record (parts_of g old) { content = with_numbers (content_in g old) number numbers }

-- what stays of a file's numbers of blocks has as many as there are places for, and pointer blocks are data blocks
pub record FitsCut (g : Geometry) (cut : CutPointers) : Type 0 where
  pub direct_part : (length cut.direct_part.numbers.items ≡ DIRECT_INDEXES) × (cut.direct_part.count ≤ DIRECT_INDEXES)
  pub indirect_part : (length cut.indirect_part.numbers.items ≡ INDIRECT_INDEXES) × (cut.indirect_part.used ≤ INDIRECT_INDEXES + 1)
  pub indirect_part_placed : is_data_block_or_none g cut.indirect_part.pointer ≡ true
  pub double : FitsDouble g cut.double

-- it is what stays of these where the first so many indexes do
pub record IsCutOf (content : Image) (inode : Inode) (count : ℕ) (cut : CutPointers) : Type 0 where
  pub direct_part : cut.direct_part.numbers.items ≡ first_of count inode.direct
  pub direct_part_count : cut.direct_part.count ≡ count_by is_some cut.direct_part.numbers.items
  pub between : List ℕ
  pub indirect_part : IsRowCut inode.indirect (numbers_in content inode.indirect) (count - DIRECT_INDEXES)
      (filter is_some (drop count inode.direct)) cut.indirect_part.pointer cut.indirect_part.numbers.items cut.indirect_part.used between
  pub further : IsDoubleCut content inode.double (count - FIRST_DOUBLE_INDEX) between cut.double cut.gone.items

-- the blocks with the numbers that stay in pointer blocks of which a part stays
abbrev pub with_pointers : Image → CutPointers → Image
with_pointers content cut =
    with_numbers (with_numbers (with_numbers content cut.indirect_part.pointer cut.indirect_part.numbers.items) cut.double.inners.part
    cut.double.inners.part_numbers.items) cut.double.pointer cut.double.inners.numbers.items

-- they have them
pub record HasPointers (g : Geometry) (cut : CutPointers) (old new : Image) : Type 0 where
  pub bytes : AreOfBytes g old → AreOfBytes g new
  pub parts : parts_of g new ≡ record (parts_of g old) { content = with_pointers (content_in g old) cut }

-- and an inode has what stays, and the blocks that are gone are free
pub record IsCut (g : Geometry) (number : ℕ) (inode : Inode) (last from : ℕ) (cut : CutPointers) (old new : Image)
    : Type 0 where
  pub bytes : AreOfBytes g old → AreOfBytes g new
  pub parts : parts_of g new ≡ record (parts_of g old) {
    table = put (parts_of g old).table number (Ok (Some inode));
    content = with_pointers (with_zeros (content_in g old) last from) cut;
    block_bits = without cut.gone.items (parts_of g old).block_bits;
  }
