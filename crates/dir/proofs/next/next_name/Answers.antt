use Rattle.std.proofs.Common.{◌*◌, subst, arith}
use Rattle.std.proofs.lemmas.Result.{IfOk-weaker}
use Rattle.base.specs.declared.TheConstants.{SLOTS_PER_BLOCK}
use Rattle.layout.specs.Parts.{content_in}
use Rattle.dir.specs.Slots.{IsNext, slot_at}
use Rattle.dir.proofs.next.next_name.Goals as goal

pub returns-in_default-clause-resumable : goal.returns-in_default-clause-resumable
returns-in_default-clause-resumable c = λ blocks tree file is.
    c.in_default.ensures.none c.args.snap.now blocks tree file is

pub returns-then-from-span-clause-ok : goal.returns-then-from-span-clause-ok
returns-then-from-span-clause-ok c = λ blocks tree file is slot low less.
    let spans = c.in-Some.ensures.some in
    let past = c.if-from-span.true in absurd (omega (arith, low, less, spans, past))

pub returns-clause-ok : goal.returns-clause-ok
returns-clause-ok c =
    IfOk-weaker c.next_below.result _ _ (λ found is blocks tree file there.
    subst (λ span. IsNext (slot_at c.args.snap.now.geometry.inodes
    (content_in c.args.snap.now.geometry blocks) c.args.inode.now) c.args.from (SLOTS_PER_BLOCK * span) found)
    c.in-Some.ensures.some (is blocks tree file there)) c.next_below.ensures.ok
