use Rattle.std.proofs.Common.{Some, arith, rules}
use Rattle.layout.specs.Parts.{content_in}
use Rattle.dir.proofs.FoundIn.{is_found}
use Rattle.dir.proofs.Passed.{at_err, ok_more}
use Rattle.dir.proofs.SlotBlocks.{of_directory}
use Rattle.dir.proofs.lookup.find.Goals as goal

pub returns-in_default-clause-resumable : goal.returns-in_default-clause-resumable
returns-in_default-clause-resumable c = λ blocks tree file is.
    c.in_default.ensures.none c.args.snap.now blocks tree file is

pub returns-in-Some-2-clause-ok : goal.returns-in-Some-2-clause-ok
returns-in-Some-2-clause-ok c = λ blocks tree file is.
    let spans = c.in-Some.ensures.some in
    let below = c.if-index-span.true in
    let snap = c.args.snap.now in
    is_found snap.geometry (content_in snap.geometry blocks) c.args.inode.now c.args.name.now (Some c.in-Some-2.search_hit)
    (of_directory snap blocks tree file c.args.inode.now is)
    (rw c.in-Some-2.is at (c.in_ok-search_hit.ensures.ok blocks tree file is (omega (arith, spans, below))))

pub returns-clause-ok : goal.returns-clause-ok
returns-clause-ok c =
    let snap = c.args.snap.now in
    ok_more c.find_among.result (λ found is blocks tree file directory.
    is_found snap.geometry (content_in snap.geometry blocks) c.args.inode.now c.args.name.now found
    (of_directory snap blocks tree file c.args.inode.now directory) (is blocks tree file directory))
    c.find_among.ensures.ok

pub returns-in_err-search_hit-clause-asks : goal.returns-in_err-search_hit-clause-asks
returns-in_err-search_hit-clause-asks c =
    let spans = c.in-Some.ensures.some in
    let below = c.if-index-span.true in
    at_err c.from_residual.result c.in_err-search_hit.field-0.0 _ (search rules)
    (c.in_err-search_hit.ensures.asks (omega (arith, spans, below)))
