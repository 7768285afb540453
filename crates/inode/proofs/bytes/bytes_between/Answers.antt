use Rattle.std.proofs.Common.{◌/◌, rules, ◌≡◌, ℕ, ◌+◌, ◌-◌, ◌<◌, ◌^◌, List, length, length-append, take, drop, ap, ◌∙◌, arith}
use Rattle.inode.specs.Over.{all_bytes}
use Rattle.base.specs.declared.TheConstants.{BLOCK_BYTES}
use Rattle.inode.specs.Asked.{IsNeededBetween}
use Rattle.inode.proofs.Needed.{may_between, may_indirect_at, may_mapped_at}
use Rattle.inode.proofs.Stops.{at_err, suspend_may}
use Rattle.inode.proofs.Pieces.{grown, next_piece}
use Rattle.inode.proofs.bytes.bytes_between.Goals as goal

pub pieces-preserved : goal.pieces-preserved
pieces-preserved c =
    let order = c.pieces.invariant.0 in
    let more = c.pieces-test.true in
    let end = c.piece_len-len.ensures.end in
    let small = c.requires.small in (
      omega (arith, order),
      omega (arith, end),
      λ blocks tree file has.
          c.in_ok-push.ensures.put
          ∙ grown c.args.start c.pieces.at c.piece_len-len.result
          (all_bytes c.args.snap.now.geometry blocks c.args.inode.now) c.pieces.bytes _ order
          (c.pieces.invariant.2 blocks tree file has)
          (c.in_ok-part.ensures.ok blocks tree has.over
          ∙ next_piece c.args.snap.now blocks tree file c.args.inode.now has c.in_ok-number.number c.pieces.at
          c.piece_len-len.result (omega (arith, more, small)) c.piece_len-len.ensures.within
          (c.in_ok-number.ensures.ok blocks tree file has)),
      (let put = ap (λ (bytes : List ℕ). length bytes) c.in_ok-push.ensures.put in
          let long = length-append c.pieces.bytes c.in_ok-part.part in let short = c.in_ok-part.ensures.short in
          let before = c.pieces.invariant.3 in omega (arith, put, long, short, before)),
    )

pub returns-clause-ok : goal.returns-clause-ok
returns-clause-ok c = λ blocks tree file has.
    let done = c.pieces-test.false in
    let before = c.pieces.invariant.1 in
    let end : c.pieces.at ≡ c.args.end = omega (arith, done, before) in
    c.pieces.invariant.2 blocks tree file has
    ∙ ap (λ (at : ℕ). take (at - c.args.start) (drop c.args.start
    (all_bytes c.args.snap.now.geometry blocks c.args.inode.now))) end

pub returns-in_err-ask_between-clause-asks : goal.returns-in_err-ask_between-clause-asks
returns-in_err-ask_between-clause-asks c =
    at_err c.from_residual.result c.in_err-ask_between.field-0.0 _ (search rules)
    (suspend_may (IsNeededBetween c.args.snap.now c.args.inode.now c.args.start c.args.end)
    (IsNeededBetween c.args.snap.now c.args.inode.now c.args.start c.args.end) (λ addr needed. needed)
    c.in_err-ask_between.field-0.0 c.in_err-ask_between.ensures.asks)

pub returns-in_err-number-clause-asks : goal.returns-in_err-number-clause-asks
returns-in_err-number-clause-asks c =
    let from = c.pieces.invariant.0 in
    let below = c.pieces-test.true in
    at_err c.from_residual-in_err-number.result c.in_err-number.field-0.0 _ (search rules)
    (may_between c.args.snap.now c.args.inode.now (c.pieces.at / BLOCK_BYTES) c.args.start c.args.end
    (omega (arith, from)) (omega (arith, below)) c.in_err-number.field-0.0
    (may_indirect_at c.args.snap.now c.args.inode.now (c.pieces.at / BLOCK_BYTES) c.in_err-number.field-0.0
    c.in_err-number.ensures.asks))

pub returns-in_err-part-clause-asks : goal.returns-in_err-part-clause-asks
returns-in_err-part-clause-asks c =
    let from = c.pieces.invariant.0 in
    let below = c.pieces-test.true in
    at_err c.from_residual-in_err-part.result c.in_err-part.field-0.0 _ (search rules)
    (may_between c.args.snap.now c.args.inode.now (c.pieces.at / BLOCK_BYTES) c.args.start c.args.end
    (omega (arith, from)) (omega (arith, below)) c.in_err-part.field-0.0
    (may_mapped_at c.args.snap.now c.args.inode.now (c.pieces.at / BLOCK_BYTES) c.in_ok-number.number
    c.in_ok-number.ensures.read c.in_err-part.field-0.0 c.in_err-part.ensures.asks))

pub push-requires : goal.push-requires
push-requires c =
    let before = c.pieces.invariant.3 in let short = c.in_ok-part.ensures.short in
    let end = c.piece_len-len.ensures.end in let small = c.requires.small in omega (arith, before, short, end, small)
