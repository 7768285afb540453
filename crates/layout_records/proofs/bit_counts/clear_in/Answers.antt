use Rattle.std.proofs.Common.{◌≡◌, ◌+◌, ◌*◌, ap, take, arith}
use Rattle.layout_records.specs.Bits.{clear_in}
use Rattle.layout_records.proofs.Words.{next_eight}
use Rattle.layout_records.proofs.bit_counts.clear_in.Goals as goal

pub words-preserved : goal.words-preserved
words-preserved c =
    let bytes = c.args.bytes.now in
    let at = 8 * c.words.word in
    let more = next_eight bytes at in
    let count : at + 8 ≡ 8 * (c.words.word + 1) = omega arith in
    let all : clear_in (take (at + 8) bytes) ≡ clear_in (take (8 * (c.words.word + 1)) bytes) =
    ap (λ n. clear_in (take n bytes)) count in
    let set = c.set_at.ensures.is in
    let was = c.words.invariant.0 in
    let few = c.words.invariant.1 in
    (omega (arith, more, all, set, was), omega (arith, few))
