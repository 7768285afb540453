use Rattle.std.proofs.Common.{sym, subst, ◌∙◌}
use Rattle.std.proofs.lemmas.Result.{IfOk-weaker}
use Rattle.nfs_types.specs.Fits.{CreateHowFits}
use Rattle.procs_files.specs.Heads.{IsDone}
use Rattle.procs_updates.proofs.CreatesLemmas.Resized.{over_made, over_regular}
use Rattle.procs_updates.proofs.creates.existing_file.create_over.Goals as goal

pub returns-then-is_regular-clause-ok : goal.returns-then-is_regular-clause-ok
returns-then-is_regular-clause-ok g c =
    IfOk-weaker c.resize.result _ _ (λ r then world tree body stands at good now fits.
    subst (λ e. IsDone (g.F.Files.stands c.resize.new.files world) tree e r)
    (over_regular tree c.args.ctx.now c.args.file.now body at c.args.how.now c.in-Unchecked.wanted c.in-Unchecked.is
    (sym c.is_regular.ensures ∙ c.if-is_regular.true))
    (then world tree body stands at good now (subst CreateHowFits c.in-Unchecked.is fits).size))
    c.resize.ensures.ok

pub returns-then-is_made_with-clause-ok : goal.returns-then-is_made_with-clause-ok
returns-then-is_made_with-clause-ok g c =
    IfOk-weaker c.resize-then-is_made_with.result _ _ (λ r then world tree body stands at good now fits.
    subst (λ e. IsDone (g.F.Files.stands c.resize-then-is_made_with.new.files world) tree e r)
    (over_made tree c.args.ctx.now c.args.file.now body at c.args.how.now c.in-Exclusive.verifier c.in-Exclusive.is
    (sym c.is_made_with.ensures ∙ c.if-is_made_with.true))
    (then world tree body stands at good now tt))
    c.resize-then-is_made_with.ensures.ok
