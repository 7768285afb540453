-- What the double indirect block of a file reaches.
use Rattle.std.specs.Prelude.{ℕ, ◌+◌, ◌-◌, ◌*◌, Bool, ◌++◌, ◌∷◌, List, drop, filter}
use Rattle.std.specs.List.{flat_map}
use Rattle.base.specs.declared.TheConstants.{BLOCK_BYTES, FIRST_DOUBLE_INDEX, INDIRECT_INDEXES}
use Rattle.disk.specs.Crash.{Image}
use Rattle.layout.specs.declared.inode.Inode.{Inode}
use Rattle.layout.specs.Decode.{bytes_of, doubled_in, numbers_in}
use Rattle.layout.specs.Fields.{is_zeros}
use Rattle.image_read.specs.Counts.Adds.{is_some}

-- the double indirect block, its inner blocks, and those that these name
abbrev pub below_of : Image → ℕ → List ℕ
below_of content double =
    filter is_some (double ∷ numbers_in content double) ++ filter is_some (doubled_in content double)

-- the blocks that an inner block names have nothing but zeros past the file's size
abbrev pub is_zero_row : Image → ℕ → ℕ → ℕ → Bool
is_zero_row content size pointer inner =
    is_zeros (drop (size - BLOCK_BYTES * (FIRST_DOUBLE_INDEX + INDIRECT_INDEXES * inner))
    (bytes_of content (numbers_in content pointer)))

-- so have those that inner blocks name
abbrev pub are_zero_rows : Image → ℕ → List ℕ → Bool
are_zero_rows content size inner =
    is_zeros (drop (size - BLOCK_BYTES * FIRST_DOUBLE_INDEX) (bytes_of content (flat_map (numbers_in content) inner)))

-- and those that all inner blocks of a file name
abbrev pub is_zero_below : Image → Inode → Bool
is_zero_below content inode =
    is_zeros (drop (inode.size - BLOCK_BYTES * FIRST_DOUBLE_INDEX) (bytes_of content (doubled_in content inode.double)))
