-- A regular file of which the end is cut off.
use Rattle.std.specs.Prelude.{◌≡◌, ℕ, ◌+◌, ◌-◌, ◌*◌, ◌/◌, Bool, not, cond, List, [], ◌∷◌, ◌++◌, length, take, drop}
use Rattle.std.specs.Prelude.{replicate, get_or, filter, nat_eq, count_by}
use Rattle.std.specs.List.{list_any}
use Rattle.base.specs.declared.TheConstants.{BLOCK_BYTES}
use Rattle.disk.specs.Crash.{Image}
use Rattle.layout.specs.declared.inode.Inode.{Inode}
use Rattle.layout.specs.Fields.{number_bytes}
use Rattle.layout.specs.Parts.{put}

-- the number of a block
abbrev pub is_some : ℕ → Bool
is_some number = not (nat_eq number 0)

-- how many indexes lie before the end
abbrev pub count_before : ℕ → ℕ
count_before size = (size + (BLOCK_BYTES - 1)) / BLOCK_BYTES

-- the numbers of which the first so many stay
abbrev pub first_of : ℕ → List ℕ → List ℕ
first_of count numbers = take count numbers ++ replicate (length numbers - count) 0

-- one of them is that of a block
abbrev pub has_some : List ℕ → Bool
has_some numbers = list_any is_some numbers

-- a block that holds numbers stays where one of them does, and else is gone
abbrev pub left_over : ℕ → List ℕ → ℕ
left_over pointer stay = cond (has_some stay) pointer 0

abbrev pub lost : ℕ → List ℕ → ℕ
lost pointer stay = cond (has_some stay) 0 pointer

-- as many blocks as this number is that of
abbrev pub one_of : ℕ → ℕ
one_of number = cond (is_some number) 1 0

-- What stays of a block that holds numbers, of which the first so many stay: these, and the block where one of them is
-- that of a block. All others are gone, and the block where none stays.
pub record IsRowCut (pointer : ℕ) (numbers : List ℕ) (count : ℕ) (before : List ℕ) (now : ℕ) (stay : List ℕ)
    (used : ℕ) (gone : List ℕ) : Type 0 where
  pub numbers_are : stay ≡ first_of count numbers
  pub pointer_is : now ≡ left_over pointer stay
  pub used_is : used ≡ one_of now + count_by is_some stay
  pub gone_are : gone ≡ before ++ filter is_some (drop count numbers) ++ filter is_some (lost pointer stay ∷ [])

-- the inode of this size with these numbers
abbrev pub numbered : Inode → ℕ → List ℕ → ℕ → ℕ → Inode
numbered inode size direct indirect double =
    record inode { size = size; direct = direct; indirect = indirect; double = double }

-- the block of the last index that stays, 0 if there is none, and how many of its bytes stay
abbrev pub last_of : ℕ → List ℕ → ℕ
last_of count numbers = get_or (first_of count numbers) (count - 1) 0

abbrev pub left_in : ℕ → ℕ
left_in size = size - BLOCK_BYTES * (count_before size - 1)

-- the bytes of a block with zeros behind the first so many
abbrev pub zeroed : ℕ → List ℕ → List ℕ
zeroed from bytes = take from bytes ++ replicate (BLOCK_BYTES - from) 0

-- the blocks with one of them so, if it is one
abbrev pub with_zeros : Image → ℕ → ℕ → Image
with_zeros content number from = cond (nat_eq number 0) content (put content number (zeroed from (content number)))

-- the blocks with these numbers in one of them, if it is one
abbrev pub with_numbers : Image → ℕ → List ℕ → Image
with_numbers content number numbers = cond (nat_eq number 0) content (put content number (number_bytes numbers))
