use Rattle.std.proofs.Common.{◌≡◌, ◌-◌, ◌/◌, ◌%◌, sym, ap, ◌∙◌, subst, true, rules}
use Rattle.std.proofs.lemmas.Result.{IfErr-weaker, IfOk-weaker}
use Rattle.base.specs.declared.TheConstants.{FIRST_DOUBLE_INDEX, INDIRECT_INDEXES}
use Rattle.layout.specs.InodeForm.{is_data_block_or_none}
use Rattle.layout.specs.Parts.{content_in}
use Rattle.inode.specs.Asked.{IsBlockAddr, IsPointerFor}
use Rattle.inode.specs.Asked.IsNumberAt.{doubled}
use Rattle.inode.specs.Asked.IsPointerFor.{double, inner}
use Rattle.inode.specs.Over.{pointer_number_at}
use Rattle.inode.proofs.Pieces.{direct}
use Rattle.inode.proofs.Placed.{inner_data, inner_placed, inner_there}
use Rattle.inode.proofs.Stops.{at_err, suspend_more}
use Rattle.inode.proofs.map.double_number.Goals as goal

pub returns-clause-ok : goal.returns-clause-ok
returns-clause-ok c =
    IfOk-weaker c.pointer_number.result _ _ (λ number is blocks tree file has.
    is blocks tree has.over
    ∙ ap (λ n. pointer_number_at (content_in c.args.snap.now.geometry blocks) n
    ((c.args.index - FIRST_DOUBLE_INDEX) % INDIRECT_INDEXES)) (c.in_ok-inner.ensures.ok blocks tree file has)
    ∙ inner_there c.args.snap.now.geometry blocks c.args.inode.now c.args.index
    (direct c.args.snap.now blocks tree file c.args.inode.now has) c.requires.past c.requires.within)
    c.pointer_number.ensures.ok

pub returns-clause-resumable : goal.returns-clause-resumable
returns-clause-resumable c =
    IfErr-weaker c.pointer_number.result _ _ (λ suspend resumable blocks tree file has.
    resumable (subst (λ n. is_data_block_or_none c.args.snap.now.geometry n ≡ true)
    (sym (c.in_ok-inner.ensures.ok blocks tree file has))
    (inner_data c.args.snap.now.geometry blocks c.args.inode.now.double
    (inner_placed c.args.snap.now blocks tree file c.args.inode.now has)
    ((c.args.index - FIRST_DOUBLE_INDEX) / INDIRECT_INDEXES)))) c.pointer_number.ensures.resumable

pub returns-clause-read : goal.returns-clause-read
returns-clause-read c =
    IfOk-weaker c.pointer_number.result _ _ (λ number named.
    doubled c.requires.past c.in_ok-inner.inner c.in_ok-inner.ensures.read named) c.pointer_number.ensures.read

pub returns-clause-asks : goal.returns-clause-asks
returns-clause-asks c =
    IfErr-weaker c.pointer_number.result _ _
    (suspend_more (IsBlockAddr c.in_ok-inner.inner)
    (IsPointerFor c.args.snap.now.objects.items c.args.inode.now c.args.index)
    (λ addr at. inner c.requires.past c.in_ok-inner.inner c.in_ok-inner.ensures.read at)) c.pointer_number.ensures.asks

pub returns-in_err-inner-clause-asks : goal.returns-in_err-inner-clause-asks
returns-in_err-inner-clause-asks c =
    at_err c.from_residual.result c.in_err-inner.field-0.0 _ (search rules)
    (suspend_more (IsBlockAddr c.args.inode.now.double)
    (IsPointerFor c.args.snap.now.objects.items c.args.inode.now c.args.index)
    (λ addr at. double c.requires.past at) c.in_err-inner.field-0.0 c.in_err-inner.ensures.asks)
