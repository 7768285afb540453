use Rattle.std.proofs.Common.{◌≡◌, ℕ, suc, ◌+◌, ◌-◌, ap, arith}
use Rattle.layout_records.specs.Bits.{clear_in, piece_in}
use Rattle.bitmap.proofs.Ranges.{beginning, one_more, sum_from}
use Rattle.bitmap.proofs.enough_free.clear_until.Goals as goal

pub returns-then-clear-wanted-clause-ok : goal.returns-then-clear-wanted-clause-ok
returns-then-clear-wanted-clause-ok c = λ blocks saw.
    let f : ℕ → ℕ = λ piece. clear_in (piece_in blocks c.args.first piece) in
    let from = c.args.from in
    let sum = c.pieces.invariant.2 blocks saw in
    let below = c.pieces-test.true in
    let enough = c.if-clear-wanted.true in
    let first = beginning f from (c.pieces.piece - from) (c.args.end - from) (omega (arith, below)) in
    record { some = omega (arith, sum, first); each = λ less. absurd (omega (arith, less, enough)) }

pub pieces-preserved : goal.pieces-preserved
pieces-preserved c =
    let from = c.args.from in
    let few = c.in_ok-clear.ensures.few in
    let was = c.pieces.invariant.0 in
    let low = c.pieces.invariant.1 in (
      omega (arith, few, was, low),
      omega (arith, low),
      λ blocks saw.
          let f : ℕ → ℕ = λ piece. clear_in (piece_in blocks c.args.first piece) in
          let now = c.in_ok-clear.ensures.ok blocks saw in
          let before = c.pieces.invariant.2 blocks saw in
          let more = one_more f from (c.pieces.piece - from) in
          let offsets_agree : from + (c.pieces.piece - from) ≡ c.pieces.piece = omega (arith, low) in
          let same : f (from + (c.pieces.piece - from)) ≡ f c.pieces.piece = ap f offsets_agree in
          let count : suc (c.pieces.piece - from) ≡ c.pieces.piece + 1 - from = omega (arith, low) in
          let len : sum_from f from (suc (c.pieces.piece - from)) ≡ sum_from f from (c.pieces.piece + 1 - from) =
          ap (sum_from f from) count in
          omega (arith, before, more, now, same, len),
    )

pub returns-clause-ok : goal.returns-clause-ok
returns-clause-ok c = λ blocks saw.
    let f : ℕ → ℕ = λ piece. clear_in (piece_in blocks c.args.first piece) in
    let end : c.pieces.piece ≡ c.args.end = omega (arith, c.pieces-test.false, c.pieces.auto.piece-end) in
    let count : c.pieces.piece - c.args.from ≡ c.args.end - c.args.from = ap (λ n. n - c.args.from) end in
    let all : sum_from f c.args.from (c.pieces.piece - c.args.from) ≡ sum_from f c.args.from (c.args.end - c.args.from) =
    ap (sum_from f c.args.from) count in
    let sum = c.pieces.invariant.2 blocks saw in
    record { some = omega (arith, sum, all); each = λ less. omega (arith, sum, all) }
