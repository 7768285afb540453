use Rattle.std.proofs.Common.{rules, sym, subst, ◌∙◌}
use Rattle.std.proofs.lemmas.Result.{IfOk-weaker, MatchResult-weaker}
use Rattle.nfs_types.specs.Fits.{AreBytes}
use Rattle.nfs_spec.specs.Procedures.Rename.{rename}
use Rattle.procs_files.specs.Heads.{IsDone}
use Rattle.procs_renames.proofs.Doings.{both_ok, stopped_so}
use Rattle.procs_renames.proofs.RenameSteps.{both_found, no_source, no_target}
use Rattle.procs_renames.specs.Moves.{dentry_of}
use Rattle.procs_renames.proofs.renames.rename.Goals as goal

pub returns-in-Err-clause-step : goal.returns-in-Err-clause-step
returns-in-Err-clause-step g c = λ world tree stands good now bytes.
    no_source tree c.args.ctx.now c.args.source.now.directory.bytes c.args.source.now.name
    c.args.target.now.directory.bytes c.args.target.now.name (g.F.Files.stands c.args.files.now world)
    c.not_renamed.result.outcome c.not_renamed.result.source c.not_renamed.result.target c.in-Err.status
    ((rw c.in-Err.is at c.in_ok-status.ensures.ok) world tree stands)
    c.not_renamed.ensures.outcome (c.not_renamed.ensures.file_attributes ∙ c.untold.ensures) c.not_renamed.ensures.target stands

pub returns-in-Err-2-clause-step : goal.returns-in-Err-2-clause-step
returns-in-Err-2-clause-step g c = λ world tree stands good now bytes.
    let named = (rw c.in-Ok.is at c.in_ok-status.ensures.ok) world tree stands in
    no_target tree c.args.ctx.now c.args.source.now.directory.bytes c.args.source.now.name
    c.args.target.now.directory.bytes c.args.target.now.name (g.F.Files.stands c.args.files.now world)
    c.not_renamed-in-Err-2.result.outcome c.not_renamed-in-Err-2.result.source c.not_renamed-in-Err-2.result.target c.in-Ok.from named
    c.in-Err-2.status ((rw c.in-Err-2.is at c.in_ok-status-2.ensures.ok) world tree stands)
    c.not_renamed-in-Err-2.ensures.outcome
    (c.not_renamed-in-Err-2.ensures.file_attributes ∙ c.in_ok-directory_change-in-Err-2.ensures.ok world tree named.0 stands named.2.fits)
    c.not_renamed-in-Err-2.ensures.target stands

pub returns-in_err-outcome-clause-resumable : goal.returns-in_err-outcome-clause-resumable
returns-in_err-outcome-clause-resumable g c =
    stopped_so c.from_residual-in_err-outcome.result c.in_err-outcome.field-0.0 _ (search rules)
    (λ world tree stands good now bytes.
    let named = (rw c.in-Ok.is at c.in_ok-status.ensures.ok) world tree stands in
    let other = (rw c.in-Ok-2.is at c.in_ok-status-2.ensures.ok) world tree stands in
    c.in_err-outcome.ensures.resumable world tree named.0 other.0 stands named.2 other.2 good now
    (subst AreBytes (sym c.as_slice-new_name.ensures) bytes))

pub returns-clause-resumable : goal.returns-clause-resumable
returns-clause-resumable g c =
    MatchResult-weaker c.renamed.result c.renamed.ensures.resumable (λ x t. t)
    (λ suspend then world tree stands good now bytes.
    let named = (rw c.in-Ok.is at c.in_ok-status.ensures.ok) world tree stands in
    let other = (rw c.in-Ok-2.is at c.in_ok-status-2.ensures.ok) world tree stands in
    let done = c.in_ok-outcome.ensures.ok world tree named.0 other.0 stands named.2 other.2 good now
    (subst AreBytes (sym c.as_slice-new_name.ensures) bytes) in
    then world _ done.leads)

pub returns-clause-step : goal.returns-clause-step
returns-clause-step g c =
    IfOk-weaker c.renamed.result _ _ (λ r all world tree stands good now bytes.
    let named = (rw c.in-Ok.is at c.in_ok-status.ensures.ok) world tree stands in
    let other = (rw c.in-Ok-2.is at c.in_ok-status-2.ensures.ok) world tree stands in
    let from = c.in-Ok.from in
    let to = c.in-Ok-2.to in
    let ctx = c.args.ctx.now in
    let last = g.F.Files.stands c.rename_in.new.files world in
    let done = c.in_ok-outcome.ensures.ok world tree named.0 other.0 stands named.2 other.2 good now
    (subst AreBytes (sym c.as_slice-new_name.ensures) bytes) in
    let done_so : IsDone last tree (rename tree ctx (dentry_of from named.0 c.args.source.now.name)
    (dentry_of to other.0 c.args.target.now.name)) r.outcome =
    subst (λ o. IsDone last tree (rename tree ctx (dentry_of from named.0 c.args.source.now.name)
    (dentry_of to other.0 c.args.target.now.name)) o) (sym all.0)
    (subst (λ n. IsDone last tree (rename tree ctx (dentry_of from named.0 c.args.source.now.name)
    (dentry_of to other.0 n)) c.in_ok-outcome.outcome) c.as_slice-new_name.ensures
    (subst (λ n. IsDone last tree (rename tree ctx (dentry_of from named.0 n)
    (dentry_of to other.0 c.as_slice-new_name.result.now)) c.in_ok-outcome.outcome) c.as_slice-name.ensures done)) in
    both_found tree ctx c.args.source.now.directory.bytes c.args.source.now.name
    c.args.target.now.directory.bytes c.args.target.now.name last r.outcome r.source r.target from named to other
    done_so (λ next is. all.1.0 world next named.0 is named.2.fits)
    (λ next is. all.1.1 world next other.0 is other.2.fits))
    (both_ok c.renamed.result _ _ c.renamed.ensures.answer
    (both_ok c.renamed.result _ _ c.renamed.ensures.source c.renamed.ensures.target))
