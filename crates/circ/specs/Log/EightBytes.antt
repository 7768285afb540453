-- Numbers of eight bytes in a block, the lowest byte first.
use Rattle.std.specs.Prelude.{ℕ, ◌+◌, ◌++◌, take, drop}
use Rattle.std.specs.Int.{w64, to_le_bytes, from_le_bytes}
use Rattle.disk.specs.Device.{Content}

-- the number at an offset
unfoldable pub number_at : Content → ℕ → ℕ
number_at content offset = from_le_bytes w64 (take 8 (drop offset content))

-- the content with a number at an offset
unfoldable pub with_number : Content → ℕ → ℕ → Content
with_number content offset number = take offset content ++ to_le_bytes w64 number ++ drop (offset + 8) content
