use Rattle.std.proofs.Common.{◌≡◌, ◌+◌, ◌<◌, ℕ, get_or, false}
use Rattle.image_read.specs.Parts.Marks.{bit_in}
use Rattle.image_read.proofs.parts.marks.has_bits_of.Given as goal

abbrev pub invariant-bits : goal.invariant-bits
invariant-bits l = (bit : ℕ) → bit < l.bit → bit_in l.block bit ≡ get_or l.marks (l.from + bit) false
