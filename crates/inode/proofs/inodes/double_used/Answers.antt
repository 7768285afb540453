use Rattle.std.proofs.Common.{rules, ◌≡◌, sym, ap, ◌∙◌, subst, true, arith}
use Rattle.layout.specs.InodeForm.{is_data_block_or_none}
use Rattle.layout.specs.Parts.{content_in}
use Rattle.inode.specs.Asked.{IsBlockAddr, IsOfDouble}
use Rattle.inode.specs.Asked.IsPointerNumber.{named}
use Rattle.inode.specs.Asked.IsOfDouble.{below, itself}
use Rattle.inode.specs.Over.{are_pointers_placed, pointer_number_at}
use Rattle.inode.proofs.HeldThere.{no_data}
use Rattle.inode.proofs.Placed.{inner_data, inner_part_placed, some_indirect}
use Rattle.inode.proofs.Stops.{at_err, suspend_more}
use Rattle.inode.proofs.UsedBlocks.{double_rows, no_double, row_held, rows_more}
use Rattle.inode.proofs.inodes.double_used.Goals as goal

pub returns-then-double-eq0-clause-ok : goal.returns-then-double-eq0-clause-ok
returns-then-double-eq0-clause-ok c = λ blocks tree over.
    no_double (content_in c.args.snap.now.geometry blocks) c.args.double (let h = c.if-double-eq0.true in search rules)

pub returns-then-not-is_data-clause-resumable : goal.returns-then-not-is_data-clause-resumable
returns-then-not-is_data-clause-resumable c = λ blocks tree over placed are.
    no_data c.args.snap.now.geometry c.args.double (let h = c.if-double-eq0.false in search rules)
    (search rules) placed

pub inner-preserved : goal.inner-preserved
inner-preserved c =
    let few = c.in_ok-indirect_part.ensures.few in
    let was = c.inner.invariant.0 in
    let less = c.inner-test.true in (
      omega (arith, few, was),
      λ blocks tree over.
          let content = content_in c.args.snap.now.geometry blocks in
          let named : c.at.result ≡ pointer_number_at content c.args.double c.inner.inner =
          c.at.ensures
          ∙ some_indirect content c.args.double c.inner.inner c.in_ok-bytes.bytes.now
          (let h = c.if-double-eq0.false in search rules) (c.in_ok-bytes.ensures.ok blocks tree over) in
          rows_more content c.args.double c.inner.inner c.inner.used c.in_ok-indirect_part.indirect_part (omega (arith, less))
          (c.inner.invariant.1 blocks tree over)
          (c.in_ok-indirect_part.ensures.ok blocks tree over ∙ ap (row_held content) named),
    )

pub returns-clause-ok : goal.returns-clause-ok
returns-clause-ok c = λ blocks tree over.
    let done = c.inner-test.false in
    let content = content_in c.args.snap.now.geometry blocks in
    c.inner.invariant.1 blocks tree over
    ∙ double_rows content c.args.double c.inner.inner (let h = c.if-double-eq0.false in search rules)
    (omega (arith, done))

pub returns-in_err-bytes-clause-asks : goal.returns-in_err-bytes-clause-asks
returns-in_err-bytes-clause-asks c =
    at_err c.from_residual.result c.in_err-bytes.field-0.0 _ (search rules)
    (suspend_more (IsBlockAddr c.args.double) (IsOfDouble c.args.snap.now.objects.items c.args.double)
    (λ addr at. itself at) c.in_err-bytes.field-0.0 c.in_err-bytes.ensures.asks)

pub returns-in_err-indirect_part-clause-asks : goal.returns-in_err-indirect_part-clause-asks
returns-in_err-indirect_part-clause-asks c =
    let less = c.inner-test.true in
    at_err c.from_residual-in_err-indirect_part.result c.in_err-indirect_part.field-0.0 _ (search rules)
    (suspend_more (IsBlockAddr c.at.result) (IsOfDouble c.args.snap.now.objects.items c.args.double)
    (λ addr at. below c.inner.inner c.at.result (omega (arith, less))
    (named c.in_ok-bytes.bytes.now c.in_ok-bytes.ensures.read c.at.ensures) at)
    c.in_err-indirect_part.field-0.0 c.in_err-indirect_part.ensures.asks)

pub returns-in_err-indirect_part-clause-resumable : goal.returns-in_err-indirect_part-clause-resumable
returns-in_err-indirect_part-clause-resumable c =
    at_err c.from_residual-in_err-indirect_part.result c.in_err-indirect_part.field-0.0 _ (search rules)
    (λ blocks tree over placed are.
    let g = c.args.snap.now.geometry in
    let named : pointer_number_at (content_in g blocks) c.args.double c.inner.inner ≡ c.at.result =
    sym (c.at.ensures
    ∙ some_indirect (content_in g blocks) c.args.double c.inner.inner c.in_ok-bytes.bytes.now
    (let h = c.if-double-eq0.false in search rules) (c.in_ok-bytes.ensures.ok blocks tree over)) in
    c.in_err-indirect_part.ensures.resumable blocks tree over
    (subst (λ n. is_data_block_or_none g n ≡ true) named (inner_data g blocks c.args.double are c.inner.inner))
    (subst (are_pointers_placed g blocks) named (inner_part_placed g blocks c.args.double are c.inner.inner)))
