use Rattle.std.proofs.Common.{◌≡◌, ℕ, ◌-◌, ◌*◌, ap, refl, arith}
use Rattle.layout_records.specs.Bits.{clear_in, piece_in}
use Rattle.bitmap.specs.Clear.{clear_of}
use Rattle.bitmap.proofs.Chunks.{clear_pieces}
use Rattle.bitmap.proofs.Enough.{at_once, in_all}
use Rattle.bitmap.proofs.Ranges.{in_two, sum_from}
use Rattle.bitmap.proofs.enough_free.is_clear_enough.Goals as goal

pub returns-then-behind-wanted-clause-ok : goal.returns-then-behind-wanted-clause-ok
returns-then-behind-wanted-clause-ok c = λ blocks saw long.
    let f : ℕ → ℕ = λ piece. clear_in (piece_in blocks c.args.first piece) in
    let start = c.start_in-start.result in
    let pieces = 8 * c.args.count in
    let two = in_two f start pieces c.start_in-start.ensures.within in
    let all = clear_pieces blocks c.args.first c.args.count long in
    at_once c.args.wanted c.in_ok-behind.behind (sum_from f start (pieces - start))
    (clear_of blocks c.args.first c.args.count) c.if-behind-wanted.true (c.in_ok-behind.ensures.ok blocks saw)
    (omega (arith, two, all))

pub returns-clause-ok : goal.returns-clause-ok
returns-clause-ok c = λ blocks saw long.
    let f : ℕ → ℕ = λ piece. clear_in (piece_in blocks c.args.first piece) in
    let start = c.start_in-start.result in
    let pieces = 8 * c.args.count in
    let two = in_two f start pieces c.start_in-start.ensures.within in
    let all = clear_pieces blocks c.args.first c.args.count long in
    let count : start - 0 ≡ start = omega arith in
    let first : sum_from f 0 (start - 0) ≡ sum_from f 0 start = ap (sum_from f 0) count in
    in_all c.args.wanted c.in_ok-behind.behind c.in_ok-before.before (sum_from f start (pieces - start))
    (sum_from f 0 (start - 0)) (clear_of blocks c.args.first c.args.count) _ c.if-behind-wanted.false
    (c.in_ok-behind.ensures.ok blocks saw) (c.in_ok-before.ensures.ok blocks saw) (omega (arith, two, first, all)) refl
