-- the bytes so far are the bitmap's
use Rattle.std.proofs.Common.{◌≡◌, ◌+◌, ◌*◌, take, map, length}
use Rattle.std.specs.List.{range_with_len}
use Rattle.base.specs.declared.TheConstants.{BITS_PER_BLOCK, BLOCK_BYTES}
use Rattle.layout.specs.Fresh.{byte_of, is_outside}
use Rattle.layout.proofs.fresh_image.put_bitmap.Given as goal

abbrev pub invariant-bytes : goal.invariant-bytes
invariant-bytes l =
    (take l.index l.block
    ≡ map (λ index. byte_of (is_outside l.below l.past) (BITS_PER_BLOCK * l.part + 8 * index))
    (range_with_len 0 l.index))
    × (length l.block ≡ BLOCK_BYTES)
