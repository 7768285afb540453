use Rattle.std.proofs.Common.{arith}
use Rattle.bitmap.proofs.Clears.{found_clear, more_set}
use Rattle.bitmap.proofs.free_search.clear_between.Goals as goal

pub overflow_add-result : goal.overflow_add-result
overflow_add-result c =
    let few = rw c.in-Ok-Some.field-0-is at c.in-Ok-Some.ensures.few in
    let less = c.pieces-test.true in
    let to = c.requires.to in
    let blocks = c.args.snap.now.geometry.lawful.0.1 in
    let inodes = c.args.snap.now.geometry.lawful.1.1 in
    omega (arith, few, less, to, blocks, inodes)

pub returns-in-Ok-Some-clause-ok : goal.returns-in-Ok-Some-clause-ok
returns-in-Ok-Some-clause-ok c = λ blocks saw.
    found_clear blocks c.args.first c.args.from c.args.end c.pieces.piece c.in-Ok-Some.bit c.pieces.invariant.0
    c.pieces-test.true (rw c.in-Ok-Some.field-0-is at (c.in-Ok-Some.ensures.ok blocks saw))

pub pieces-preserved : goal.pieces-preserved
pieces-preserved c =
    let low = c.pieces.invariant.0 in (
      omega (arith, low),
      λ blocks saw.
          more_set blocks c.args.first c.args.from c.pieces.piece (c.pieces.invariant.1 blocks saw)
          (rw c.in-Ok-None.field-0-is at (c.in-Ok-None.ensures.ok blocks saw)),
    )
