use Rattle.std.proofs.Common.{◌≡◌, ℕ, suc, ◌+◌, ◌*◌, ap, ◌∙◌, sum_by, arith}
use Rattle.std.specs.List.{range_with_len}
use Rattle.layout_records.specs.Bits.{clear_in}
use Rattle.layout_records.specs.Bits.{piece_in}
use Rattle.bitmap.proofs.Chunks.{clear_pieces}
use Rattle.bitmap.proofs.Ranges.{one_more}
use Rattle.bitmap.proofs.pieces.clear_of.Goals as goal

pub loop-piece-preserved : goal.loop-piece-preserved
loop-piece-preserved c =
    let few = c.in_ok-clear.ensures.few in
    let was = c.loop-piece.invariant.0 in (
      omega (arith, few, was),
      λ blocks saw.
          let f : ℕ → ℕ = λ piece. clear_in (piece_in blocks c.args.first piece) in
          let more = one_more f 0 c.loop-piece.piece in
          let last : f (0 + c.loop-piece.piece) ≡ f c.loop-piece.piece = ap f (omega arith) in
          let now = c.in_ok-clear.ensures.ok blocks saw in
          let before = c.loop-piece.invariant.1 blocks saw in
          let sum : c.loop-piece.clear + c.in_ok-clear.field-0 ≡ sum_by f (range_with_len 0 (suc c.loop-piece.piece)) =
          omega (arith, more, last, now, before) in
          sum ∙ ap (λ n. sum_by f (range_with_len 0 n)) (next c.loop-piece.piece),
    )
  where
    next : (n : ℕ) → suc n ≡ n + 1
    next n = omega arith

pub returns-clause-ok : goal.returns-clause-ok
returns-clause-ok c = λ blocks saw long.
    let end : c.loop-piece.piece ≡ 8 * c.args.count =
    omega (arith, c.loop-piece-test.false, c.loop-piece.auto.piece-end) in
    c.loop-piece.invariant.1 blocks saw
    ∙ ap (λ n. sum_by (λ piece. clear_in (piece_in blocks c.args.first piece)) (range_with_len 0 n)) end
    ∙ clear_pieces blocks c.args.first c.args.count long
