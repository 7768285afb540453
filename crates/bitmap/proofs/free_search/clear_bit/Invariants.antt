-- each bit of the bytes so far is set
use Rattle.std.proofs.Common.{◌≡◌, ℕ, ◌*◌, ◌<◌, true}
use Rattle.layout_records.specs.Bits.{bit_in}
use Rattle.bitmap.proofs.free_search.clear_bit.Given as goal

abbrev pub invariant-bytes : goal.invariant-bytes
invariant-bytes l = (other : ℕ) → other < 8 * l.at → bit_in l.bytes other ≡ true
