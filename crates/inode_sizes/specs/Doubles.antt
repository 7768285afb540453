-- What stays of a double indirect block where its file is cut.
use Rattle.std.specs.Prelude.{◌≡◌, ℕ, ◌+◌, ◌-◌, ◌*◌, ◌/◌, ◌<◌, ◌≤◌, false, true, List, [], ◌∷◌, ◌++◌, length, get_or}
use Rattle.std.specs.Prelude.{filter, nat_eq, count_by}
use Rattle.std.specs.List.{flat_map, list_all}
use Rattle.base.specs.declared.TheConstants.{DOUBLE_INDEXES, INDIRECT_INDEXES}
use Rattle.disk.specs.Crash.{Image}
use Rattle.layout.specs.declared.geometry.Geometry.{Geometry}
use Rattle.layout.specs.Decode.{numbers_in}
use Rattle.layout.specs.InodeForm.{is_data_block_or_none}
use Rattle.inode_sizes.specs.Cut.{first_of, is_some, left_over, lost, one_of}
use Rattle.inode_sizes.specs.declared.doubles.Double.{Double}
use Rattle.inode_sizes.specs.declared.doubles.Inners.{Inners}

-- the numbers that stay in one of these pointer blocks, which have such numbers, where so many of all these stay
abbrev pub row_left : (ℕ → List ℕ) → List ℕ → ℕ → ℕ → List ℕ
row_left f pointers count k = first_of (count - INDIRECT_INDEXES * k) (f (get_or pointers k 0))

-- as many of a number are among these, but for zeros
abbrev pub times : ℕ → List ℕ → ℕ
times q numbers = count_by (λ one. nat_eq one q) (filter is_some numbers)

-- Of each of these pointer blocks stays what lies before the cut. The one through which the cut goes is told with its
-- numbers. Before it went on to them other blocks were gone already: what the blocks had is what they have now, and
-- what has gone since.
pub record AreInnersCut (f : ℕ → List ℕ) (pointers : List ℕ) (count : ℕ) (before : List ℕ) (numbers : List ℕ)
    (part : ℕ) (part_numbers : List ℕ) (used : ℕ) (gone : List ℕ) : Type 0 where
  pub long : length numbers ≡ length pointers
  pub numbers_are : (k : ℕ) → k < length pointers
      → get_or numbers k 0 ≡ left_over (get_or pointers k 0) (row_left f pointers count k)
  pub part_is : part ≡ get_or numbers (count / INDIRECT_INDEXES) 0
  pub part_numbers_are : nat_eq part 0 ≡ false → part_numbers ≡ row_left f pointers count (count / INDIRECT_INDEXES)
  pub used_is : used ≡ count_by is_some numbers + count_by is_some (first_of count (flat_map f pointers))
  pub gone_are : (q : ℕ)
      → count_by (λ one. nat_eq one q) gone + (times q numbers + times q (first_of count (flat_map f pointers)))
      ≡ count_by (λ one. nat_eq one q) before + (times q pointers + times q (flat_map f pointers))

-- The inner blocks are cut, and the double indirect block stays where one of them does.
pub record IsDoubleCut (content : Image) (double count : ℕ) (before : List ℕ) (cut : Double) (gone : List ℕ) : Type 0
  where
    pub between : List ℕ
    pub inners : AreInnersCut (numbers_in content) (numbers_in content double) count before cut.inners.numbers.items
        cut.inners.part cut.inners.part_numbers.items cut.inners.used between
    pub pointer_is : cut.pointer ≡ left_over double cut.inners.numbers.items
    pub used_is : cut.used ≡ one_of cut.pointer + cut.inners.used
    pub gone_are : gone ≡ between ++ filter is_some (lost double cut.inners.numbers.items ∷ [])

-- They are data blocks, and there are as many numbers as there are places for.
pub record FitInners (g : Geometry) (inners : Inners) : Type 0 where
  pub placed : list_all (is_data_block_or_none g) inners.numbers.items ≡ true
  pub part_placed : is_data_block_or_none g inners.part ≡ true
  pub part_count : length inners.part_numbers.items ≡ INDIRECT_INDEXES
  pub few : inners.used ≤ (INDIRECT_INDEXES + 1) * length inners.numbers.items

pub record FitsDouble (g : Geometry) (double : Double) : Type 0 where
  pub placed : is_data_block_or_none g double.pointer ≡ true
  pub inners : FitInners g double.inners
  pub count : length double.inners.numbers.items ≡ INDIRECT_INDEXES
  pub few : double.used ≤ DOUBLE_INDEXES + INDIRECT_INDEXES + 1
