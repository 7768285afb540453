use Rattle.std.proofs.Common.{◌≡◌, ℕ, ◌+◌, ◌*◌, ◌<◌, ◌∙◌, ap, arith, Fits, get_or}
use Rattle.std.specs.Int.{w8}
use Rattle.layout_records.specs.Bits.{bit_in}
use Rattle.bitmap.proofs.LowestClear.{byte_more, lowest_clear}
use Rattle.bitmap.proofs.free_search.clear_bit.Goals as goal

pub returns-then-byte-clause-is : goal.returns-then-byte-clause-is
returns-then-byte-clause-is c =
    let bytes = c.args.bytes.now in
    let at = c.bytes.at in
    let fits = c.type_inv.bytes at in
    let low : get_or bytes at 0 < 255 = below (get_or bytes at 0) fits c.if-byte.true in
    let found = lowest_clear bytes at c.bytes-test.true low in
    let is = c.trailing_ones.ensures in
    (omega (arith, found.0, is), ap (λ index_within. bit_in bytes (8 * at + index_within)) is ∙ found.1)
  where
    below : (byte : ℕ) → Fits w8 byte → (byte ≡ 255 → ⊥) → byte < 255
    below byte fits not = omega (arith, fits, not)

pub bytes-preserved : goal.bytes-preserved
bytes-preserved c = byte_more c.args.bytes.now c.bytes.at c.if-byte.false c.bytes.invariant
