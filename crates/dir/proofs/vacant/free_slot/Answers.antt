use Rattle.std.proofs.Common.{ℕ, rules, ◌*◌, ◌+◌, ◌∙◌, ap, Some, arith}
use Rattle.base.specs.declared.TheConstants.{SLOTS_PER_BLOCK}
use Rattle.layout.specs.Decode.{span_of}
use Rattle.layout.specs.Parts.{content_in}
use Rattle.dir.specs.Slots.{slot_at}
use Rattle.dir.specs.Asked.{TakenBefore}
use Rattle.dir.proofs.Needed.{behind}
use Rattle.dir.proofs.Passed.{at_err}
use Rattle.dir.proofs.SlotBlocks.{none_refused, of_directory, small}
use Rattle.dir.proofs.VacantIn.{first_more, least_behind, least_within, no_least, none_more}
use Rattle.dir.proofs.vacant.free_slot.Goals as goal

pub indexes-preserved : goal.indexes-preserved
indexes-preserved c = λ blocks tree file is slot low less.
    let spans = c.in-Some.ensures.some in
    let below = c.indexes-test.true in
    none_more
    (slot_at c.args.snap.now.geometry.inodes (content_in c.args.snap.now.geometry blocks) c.args.inode.now)
    (SLOTS_PER_BLOCK * c.indexes.index) (SLOTS_PER_BLOCK * c.indexes.index + SLOTS_PER_BLOCK)
    (c.indexes.invariant blocks tree file is)
    (rw c.in-None.is at (c.in_ok-slot.ensures.ok blocks tree file is (omega (arith, spans, below)))) slot low
    (omega (arith, less))

pub returns-in-Some-2-clause-ok : goal.returns-in-Some-2-clause-ok
returns-in-Some-2-clause-ok c = λ blocks tree file is.
    let spans = c.in-Some.ensures.some in
    let below = c.indexes-test.true in
    let few = small c.args.snap.now blocks tree file c.args.inode.now is in
    least_within c.args.snap.now.geometry (content_in c.args.snap.now.geometry blocks) c.args.inode.now
    (of_directory c.args.snap.now blocks tree file c.args.inode.now is)
    (none_refused c.args.snap.now blocks tree file c.args.inode.now is) (omega (arith, few)) c.in-Some-2.slot
    (first_more
    (slot_at c.args.snap.now.geometry.inodes (content_in c.args.snap.now.geometry blocks) c.args.inode.now)
    (SLOTS_PER_BLOCK * c.indexes.index) (SLOTS_PER_BLOCK * c.indexes.index + SLOTS_PER_BLOCK)
    (SLOTS_PER_BLOCK * span_of c.args.inode.now) c.in-Some-2.slot (omega (arith, spans, below))
    (c.indexes.invariant blocks tree file is)
    (rw c.in-Some-2.is at (c.in_ok-slot.ensures.ok blocks tree file is (omega (arith, spans, below)))))

pub returns-then-span-lt-MOST_SPAN-clause-ok : goal.returns-then-span-lt-MOST_SPAN-clause-ok
returns-then-span-lt-MOST_SPAN-clause-ok c = λ blocks tree file is.
    let spans = c.in-Some.ensures.some in
    let past = c.indexes-test.false in
    let fewer = c.if-span-lt-MOST_SPAN.true in
    let few = small c.args.snap.now blocks tree file c.args.inode.now is in
    ap (λ (k : ℕ). Some (SLOTS_PER_BLOCK * k)) spans
    ∙ least_behind c.args.snap.now.geometry (content_in c.args.snap.now.geometry blocks) c.args.inode.now
    (of_directory c.args.snap.now blocks tree file c.args.inode.now is)
    (none_refused c.args.snap.now blocks tree file c.args.inode.now is) (omega (arith, few))
    (λ slot low less. c.indexes.invariant blocks tree file is slot low (omega (arith, less, spans, past)))
    (omega (arith, fewer, spans))

pub returns-clause-ok : goal.returns-clause-ok
returns-clause-ok c = λ blocks tree file is.
    let spans = c.in-Some.ensures.some in
    let past = c.indexes-test.false in
    let most = c.if-span-lt-MOST_SPAN.false in
    let few = small c.args.snap.now blocks tree file c.args.inode.now is in
    no_least c.args.snap.now.geometry (content_in c.args.snap.now.geometry blocks) c.args.inode.now
    (of_directory c.args.snap.now blocks tree file c.args.inode.now is)
    (none_refused c.args.snap.now blocks tree file c.args.inode.now is) (omega (arith, few))
    (λ slot low less. c.indexes.invariant blocks tree file is slot low (omega (arith, less, spans, past)))
    (omega (arith, most, spans))

pub returns-in_err-slot-clause-resumable : goal.returns-in_err-slot-clause-resumable
returns-in_err-slot-clause-resumable c =
    let spans = c.in-Some.ensures.some in
    let below = c.indexes-test.true in
    at_err c.from_residual.result c.in_err-slot.field-0.0 _ (search rules) (λ blocks tree file is.
    c.in_err-slot.ensures.resumable blocks tree file is (omega (arith, spans, below)))

pub returns-in_err-slot-clause-asks : goal.returns-in_err-slot-clause-asks
returns-in_err-slot-clause-asks c =
    let spans = c.in-Some.ensures.some in
    let below = c.indexes-test.true in
    at_err c.from_residual.result c.in_err-slot.field-0.0 _ (search rules)
    (behind TakenBefore c.args.snap.now c.args.inode.now c.indexes.index (omega (arith, spans, below))
    c.indexes.invariant c.in_err-slot.field-0.0 c.in_err-slot.ensures.asks)
