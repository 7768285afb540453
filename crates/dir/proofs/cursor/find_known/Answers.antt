use Rattle.std.proofs.Common.{ℕ, List, ap, ◌∙◌, Some, None, arith}
use Rattle.std.specs.FinMap.{get}
use Rattle.layout.specs.Decode.{entries_in}
use Rattle.layout.specs.Parts.{content_in}
use Rattle.dir.proofs.FoundIn.{is_found}
use Rattle.dir.proofs.Grown.{known_none, known_some}
use Rattle.std.proofs.lemmas.Result.{IfErr-weaker}
use Rattle.dir.proofs.Needed.{known_restarted, known_next}
use Rattle.dir.proofs.Passed.{ok_more}
use Rattle.dir.proofs.SlotBlocks.{of_directory}
use Rattle.dir.proofs.cursor.find_known.Goals as goal

pub returns-in_default-clause-resumable : goal.returns-in_default-clause-resumable
returns-in_default-clause-resumable c = λ blocks tree file is.
    c.in_default.ensures.none c.args.snap.now blocks tree file is

pub returns-in-Some-found-clause-ok : goal.returns-in-Some-found-clause-ok
returns-in-Some-found-clause-ok c = λ is blocks tree directory.
    let snap = c.args.snap.now in
    let cursor = c.args.cursor.now in
    is_found snap.geometry (content_in snap.geometry blocks) c.args.inode.now cursor.name (Some c.in-Some-found.search_hit)
    (of_directory snap blocks tree cursor.directory c.args.inode.now directory)
    (known_some snap cursor is blocks tree c.args.inode.now directory c.in-Some-found.search_hit c.in-Some-found.is)

pub returns-then-cursor-span-clause-ok : goal.returns-then-cursor-span-clause-ok
returns-then-cursor-span-clause-ok c = λ is blocks tree directory.
    let snap = c.args.snap.now in
    let cursor = c.args.cursor.now in
    let spans = c.in-Some.ensures.some in
    let most = c.if-cursor-span.true in
    is_found snap.geometry (content_in snap.geometry blocks) c.args.inode.now cursor.name None
    (of_directory snap blocks tree cursor.directory c.args.inode.now directory)
    (known_none snap cursor is blocks tree c.args.inode.now directory c.in_default-found.is
    (omega (arith, spans, most)))

pub returns-in-Ok-clause-ok : goal.returns-in-Ok-clause-ok
returns-in-Ok-clause-ok c =
    let snap = c.args.snap.now in
    ok_more c.find.result (λ found proven is blocks tree directory.
    proven blocks tree c.args.cursor.now.directory directory
    ∙ ap (λ (name : List ℕ). get (entries_in snap.geometry.inodes (content_in snap.geometry blocks) c.args.inode.now)
    name) c.as_slice.ensures) c.find.ensures.ok

pub returns-in-Ok-clause-asks : goal.returns-in-Ok-clause-asks
returns-in-Ok-clause-asks c =
    IfErr-weaker c.find.result _ _
    (known_restarted c.args.snap.now c.args.inode.now c.args.cursor.now c.as_slice.result.now c.as_slice.ensures)
    c.find.ensures.asks

pub returns-in-Err-clause-asks : goal.returns-in-Err-clause-asks
returns-in-Err-clause-asks c =
    let spans = c.in-Some.ensures.some in
    let more = c.if-cursor-span.false in
    known_next c.args.snap.now c.args.inode.now c.args.cursor.now c.in_default-found.is (omega (arith, spans, more))
    c.in-Err.suspend c.in-Err.ensures.asks
