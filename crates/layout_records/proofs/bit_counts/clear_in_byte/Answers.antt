use Rattle.std.proofs.Common.{◌≡◌, ◌-◌, arith, sym}
use Rattle.std.specs.Int.RustNames.{count_ones}
use Rattle.layout_records.specs.Bits.{clear_in_byte}
use Rattle.layout_records.proofs.Ones.{clear_bits}
use Rattle.layout_records.proofs.bit_counts.clear_in_byte.Goals as goal

pub returns-clause-is : goal.returns-clause-is
returns-clause-is c =
    let all = clear_bits c.args.byte (omega (arith, c.ranges.byte)) in
    let sum : clear_in_byte c.args.byte ≡ 8 - count_ones c.args.byte = omega (arith, all) in sym sum
