-- How many bits are clear of the blocks of a bitmap.
use Rattle.std.specs.Prelude.{ℕ, ◌*◌, not, count_by}
use Rattle.std.specs.List.{range_with_len}
use Rattle.base.specs.declared.TheConstants.{BITS_PER_BLOCK}
use Rattle.disk.specs.Crash.{Image}
use Rattle.layout.specs.Parts.{bit_at}

-- the clear bits of a bitmap that begins with this block and has so many
abbrev pub clear_of : Image → ℕ → ℕ → ℕ
clear_of blocks first count =
    count_by (λ bit. not (bit_at blocks first bit)) (range_with_len 0 (BITS_PER_BLOCK * count))
