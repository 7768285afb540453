use Rattle.std.proofs.Common.{rules, ◌/◌, ◌≤◌, ◌*◌, ◌+◌, arith}
use Rattle.base.specs.declared.TheConstants.{SLOTS_PER_BLOCK}
use Rattle.layout.specs.Parts.{content_in}
use Rattle.dir.specs.Slots.{slot_at}
use Rattle.dir.specs.Asked.{FreeBefore}
use Rattle.dir.proofs.Needed.{may_behind}
use Rattle.dir.proofs.Passed.{at_err}
use Rattle.dir.proofs.Moved.{first_next, free_more}
use Rattle.dir.proofs.next.next_below.Goals as goal

pub indexes-init : goal.indexes-init
indexes-init c = λ blocks tree file is slot low less. absurd (omega (arith, low, less))

pub indexes-preserved : goal.indexes-preserved
indexes-preserved c = λ blocks tree file is slot low less.
    let spans = c.requires.spans in
    let below = c.indexes-test.true in
    free_more
    (slot_at c.args.snap.now.geometry.inodes (content_in c.args.snap.now.geometry blocks) c.args.inode.now)
    c.args.from (SLOTS_PER_BLOCK * c.indexes.index) c.later-start.result
    (SLOTS_PER_BLOCK * c.indexes.index + SLOTS_PER_BLOCK) c.later-start.ensures.least
    (c.indexes.invariant blocks tree file is)
    (rw c.in-None.is at (c.in_ok-named.ensures.ok blocks tree file is (omega (arith, spans, below)))) slot low
    (omega (arith, less))

pub returns-in-Some-clause-ok : goal.returns-in-Some-clause-ok
returns-in-Some-clause-ok c = λ blocks tree file is.
    let spans = c.requires.spans in
    let below = c.indexes-test.true in
    first_next
    (slot_at c.args.snap.now.geometry.inodes (content_in c.args.snap.now.geometry blocks) c.args.inode.now)
    c.args.from (SLOTS_PER_BLOCK * c.indexes.index) c.later-start.result
    (SLOTS_PER_BLOCK * c.indexes.index + SLOTS_PER_BLOCK) c.later-start.ensures.least
    (SLOTS_PER_BLOCK * c.args.span) c.in-Some.named (omega (arith, below)) c.later-start.ensures.from
    (c.indexes.invariant blocks tree file is)
    (rw c.in-Some.is at (c.in_ok-named.ensures.ok blocks tree file is (omega (arith, spans, below))))

pub returns-clause-ok : goal.returns-clause-ok
returns-clause-ok c = λ blocks tree file is slot low less.
    let past = c.indexes-test.false in
    c.indexes.invariant blocks tree file is slot low (omega (arith, less, past))

pub returns-in_err-named-clause-resumable : goal.returns-in_err-named-clause-resumable
returns-in_err-named-clause-resumable c =
    let spans = c.requires.spans in
    let below = c.indexes-test.true in
    at_err c.from_residual.result c.in_err-named.field-0.0 _ (search rules) (λ blocks tree file is.
    c.in_err-named.ensures.resumable blocks tree file is (omega (arith, spans, below)))

pub returns-in_err-named-clause-asks : goal.returns-in_err-named-clause-asks
returns-in_err-named-clause-asks c =
    let spans = c.requires.spans in
    let below = c.indexes-test.true in
    let past : c.args.from / SLOTS_PER_BLOCK ≤ c.indexes.index = search rules in
    at_err c.from_residual.result c.in_err-named.field-0.0 _ (search rules)
    (may_behind (FreeBefore c.args.from) c.args.snap.now c.args.inode.now c.indexes.index (omega (arith, spans, below))
    (λ blocks tree file is. (past, c.indexes.invariant blocks tree file is)) c.in_err-named.field-0.0
    c.in_err-named.ensures.asks)
