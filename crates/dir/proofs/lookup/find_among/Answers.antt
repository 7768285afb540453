use Rattle.std.proofs.Common.{rules, ◌*◌, ◌+◌, arith}
use Rattle.base.specs.declared.TheConstants.{SLOTS_PER_BLOCK}
use Rattle.layout.specs.Decode.{span_of}
use Rattle.layout.specs.Parts.{content_in}
use Rattle.dir.specs.Slots.{slot_at}
use Rattle.dir.specs.Asked.{LackBefore}
use Rattle.dir.proofs.Needed.{behind}
use Rattle.dir.proofs.Passed.{at_err}
use Rattle.dir.proofs.FoundIn.{found_within, none_more}
use Rattle.dir.proofs.lookup.find_among.Goals as goal

pub indexes-preserved : goal.indexes-preserved
indexes-preserved c = λ blocks tree file is slot number low less.
    let spans = c.requires.spans in
    let below = c.indexes-test.true in
    none_more
    (slot_at c.args.snap.now.geometry.inodes (content_in c.args.snap.now.geometry blocks) c.args.inode.now)
    c.args.name.now (SLOTS_PER_BLOCK * c.indexes.index) (SLOTS_PER_BLOCK * c.indexes.index + SLOTS_PER_BLOCK)
    (c.indexes.invariant blocks tree file is)
    (rw c.in-None.is at (c.in_ok-search_hit.ensures.ok blocks tree file is (omega (arith, spans, below)))) slot number low
    (omega (arith, less))

pub returns-in-Some-clause-ok : goal.returns-in-Some-clause-ok
returns-in-Some-clause-ok c = λ blocks tree file is.
    let spans = c.requires.spans in
    let below = c.indexes-test.true in
    found_within
    (slot_at c.args.snap.now.geometry.inodes (content_in c.args.snap.now.geometry blocks) c.args.inode.now)
    c.args.name.now (SLOTS_PER_BLOCK * c.indexes.index) (SLOTS_PER_BLOCK * c.indexes.index + SLOTS_PER_BLOCK)
    (SLOTS_PER_BLOCK * span_of c.args.inode.now) c.in-Some.search_hit (omega (arith, spans, below))
    (rw c.in-Some.is at (c.in_ok-search_hit.ensures.ok blocks tree file is (omega (arith, spans, below))))

pub returns-clause-ok : goal.returns-clause-ok
returns-clause-ok c = λ blocks tree file is slot number low less.
    let spans = c.requires.spans in
    let past = c.indexes-test.false in
    c.indexes.invariant blocks tree file is slot number low (omega (arith, less, spans, past))

pub returns-in_err-search_hit-clause-resumable : goal.returns-in_err-search_hit-clause-resumable
returns-in_err-search_hit-clause-resumable c =
    let spans = c.requires.spans in
    let below = c.indexes-test.true in
    at_err c.from_residual.result c.in_err-search_hit.field-0.0 _ (search rules) (λ blocks tree file is.
    c.in_err-search_hit.ensures.resumable blocks tree file is (omega (arith, spans, below)))

pub returns-in_err-search_hit-clause-asks : goal.returns-in_err-search_hit-clause-asks
returns-in_err-search_hit-clause-asks c =
    let spans = c.requires.spans in
    let below = c.indexes-test.true in
    at_err c.from_residual.result c.in_err-search_hit.field-0.0 _ (search rules)
    (behind (LackBefore c.args.name.now) c.args.snap.now c.args.inode.now c.indexes.index (omega (arith, spans, below))
    (λ blocks tree file is slot number low less. c.indexes.invariant blocks tree file is slot number (omega arith) less)
    c.in_err-search_hit.field-0.0 c.in_err-search_hit.ensures.asks)
