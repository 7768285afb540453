use Rattle.std.proofs.Common.{◌+◌, ◌∙◌, min, arith}
use Rattle.std.proofs.lemmas.Result.{IfErr-weaker, IfOk-weaker}
use Rattle.inode.specs.Over.{all_bytes}
use Rattle.inode.proofs.Needed.{may_within}
use Rattle.inode.proofs.Pieces.{all_that_is_left, as_many_as_asked, regular_small}
use Rattle.inode.proofs.bytes.piece.Goals as goal

pub returns-then-inode-gt-LARGEST_FILE-clause-resumable : goal.returns-then-inode-gt-LARGEST_FILE-clause-resumable
returns-then-inode-gt-LARGEST_FILE-clause-resumable c = λ blocks tree file has kind.
    let small = regular_small c.args.snap.now blocks tree file c.args.inode.now has kind in
    let large = c.if-inode-gt-LARGEST_FILE.true in
    absurd (omega (arith, small, large))

pub returns-then-rest-count-clause-ok : goal.returns-then-rest-count-clause-ok
returns-then-rest-count-clause-ok c =
    let inside = c.if-offset-inode.false in
    let few = c.if-rest-count.true in
    IfOk-weaker c.bytes_between.result _ _ (λ bytes is blocks tree file has.
    is blocks tree file has
    ∙ all_that_is_left c.args.inode.now.size c.args.offset c.args.count
    (all_bytes c.args.snap.now.geometry blocks c.args.inode.now) (omega (arith, inside)) (omega (arith, few)))
    c.bytes_between.ensures.ok

pub returns-then-rest-count-clause-resumable : goal.returns-then-rest-count-clause-resumable
returns-then-rest-count-clause-resumable c =
    IfErr-weaker c.bytes_between.result _ _ (λ suspend resumable blocks tree file has kind. resumable blocks tree file has)
    c.bytes_between.ensures.resumable

pub returns-else-rest-count-clause-ok : goal.returns-else-rest-count-clause-ok
returns-else-rest-count-clause-ok c =
    let inside = c.if-offset-inode.false in
    let many = c.if-rest-count.false in
    IfOk-weaker c.bytes_between-else-rest-count.result _ _ (λ bytes is blocks tree file has.
    is blocks tree file has
    ∙ as_many_as_asked c.args.inode.now.size c.args.offset c.args.count
    (all_bytes c.args.snap.now.geometry blocks c.args.inode.now) (omega (arith, inside)) (omega (arith, many)))
    c.bytes_between-else-rest-count.ensures.ok

pub returns-else-rest-count-clause-resumable : goal.returns-else-rest-count-clause-resumable
returns-else-rest-count-clause-resumable c =
    IfErr-weaker c.bytes_between-else-rest-count.result _ _
    (λ suspend resumable blocks tree file has kind. resumable blocks tree file has)
    c.bytes_between-else-rest-count.ensures.resumable

pub returns-then-rest-count-clause-asks : goal.returns-then-rest-count-clause-asks
returns-then-rest-count-clause-asks c =
    let inside = c.if-offset-inode.false in
    let few = c.if-rest-count.true in
    IfErr-weaker c.bytes_between.result _ _
    (may_within c.args.snap.now c.args.inode.now c.args.offset c.args.inode.now.size
    (min c.args.inode.now.size (c.args.offset + c.args.count)) (omega (arith, inside, few)))
    c.bytes_between.ensures.asks

pub returns-else-rest-count-clause-asks : goal.returns-else-rest-count-clause-asks
returns-else-rest-count-clause-asks c =
    let inside = c.if-offset-inode.false in
    let many = c.if-rest-count.false in
    IfErr-weaker c.bytes_between-else-rest-count.result _ _
    (may_within c.args.snap.now c.args.inode.now c.args.offset (c.args.offset + c.args.count)
    (min c.args.inode.now.size (c.args.offset + c.args.count)) (omega (arith, inside, many)))
    c.bytes_between-else-rest-count.ensures.asks
