-- the bytes so far are counted
use Rattle.std.proofs.Common.{◌≡◌, ◌≤◌, ◌*◌, take}
use Rattle.layout_records.specs.Bits.{clear_in}
use Rattle.layout_records.proofs.bit_counts.clear_in.Given as goal

abbrev pub invariant-words : goal.invariant-words
invariant-words l = (l.clear ≡ clear_in (take (8 * l.word) l.bytes)) × (l.clear ≤ 64 * l.word)

abbrev pub invariant-rest : goal.invariant-rest
invariant-rest l = (l.clear ≡ clear_in (take l.at l.bytes)) × (l.clear ≤ 8 * l.at)
