use Rattle.std.proofs.Common.{rules, ◌≡◌, ◌∙◌, None, sym, subst, arith}
use Rattle.inode.specs.Asked.{IsSuspendFor}
use Rattle.dir.specs.declared.cursor.SearchCursor.{SearchCursor}
use Rattle.dir.specs.Asked.{IsAtCursor}
use Rattle.dir.proofs.Needed.{at_cursor}
use Rattle.dir.proofs.cursor.go_through.Goals as goal

pub returns-then-is_some-clause-knows : goal.returns-then-is_some-clause-knows
returns-then-is_some-clause-knows c = λ is. c.in-Ok.ensures.knows (c.indexes.invariant.0 is)

pub indexes-preserved : goal.indexes-preserved
indexes-preserved c =
    let at = c.indexes.invariant.4 in
    let next = c.in-Ok.ensures.next in
    let from = c.indexes.invariant.5 in
    let few = c.requires.few in
    let less = c.indexes-test.true in
    let was = c.indexes.invariant.7 in
    let more = c.in-Ok.ensures.count in
    let none : c.scan_next_block.new.cursor.found ≡ None = (let h = c.if-is_some.false in let i = c.is_some.ensures in
    search rules) in (
      λ is. c.in-Ok.ensures.knows (c.indexes.invariant.0 is),
      c.scan_next_block.ensures.directory ∙ c.indexes.invariant.1,
      c.scan_next_block.ensures.name ∙ c.indexes.invariant.2,
      none,
      omega (arith, at, next),
      omega (arith, from),
      λ _. omega (arith, few, less),
      omega (arith, was, more),
    )

pub returns-in-Err-clause-asks : goal.returns-in-Err-clause-asks
returns-in-Err-clause-asks c =
    let spans = c.requires.span in
    let below = c.indexes-test.true in
    let here = c.indexes.invariant.4 in
    subst (λ (one : SearchCursor). IsSuspendFor (IsAtCursor c.args.snap.now c.args.inode.now one) c.in-Err.suspend)
    (sym c.in-Err.ensures.same)
    (at_cursor c.args.snap.now c.args.inode.now c.indexes.cursor c.indexes.invariant.3
    (omega (arith, spans, below, here)) c.in-Err.suspend c.in-Err.ensures.asks)
