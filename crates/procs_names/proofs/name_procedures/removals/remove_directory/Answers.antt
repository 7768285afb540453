use Rattle.std.proofs.Common.{rules, sym, subst, ◌≡◌, Err, IfErr}
use Rattle.std.proofs.lemmas.Result.{IfOk-weaker, MatchResult-weaker}
use Rattle.nfs_spec.specs.Model.Sound.{Sound, SoundCtx}
use Rattle.nfs_spec.specs.Model.Tree.{Tree}
use Rattle.nfs_spec.specs.Procedures.RmDir.{remove_directory}
use Rattle.procs_files.specs.Heads.{IsDone, node_of}
use Rattle.procs_names.proofs.LinksLemmas.Doing.{acted, not_acted}
use Rattle.procs_names.proofs.NamesLemmas.Removed.{both_ok}
use Rattle.procs_names.proofs.name_procedures.removals.remove_directory.Goals as goal

pub returns-in-Err-clause-step : goal.returns-in-Err-clause-step
returns-in-Err-clause-step g c = λ world tree stands good now.
    not_acted tree c.args.name.now.directory.bytes (remove_directory tree c.args.ctx.now c.args.name.now.name)
    (g.F.Files.stands c.args.files.now world) c.refused.result.outcome c.refused.result.file c.in-Err.status
    ((rw c.in-Err.is at c.in_ok-status.ensures.ok) world tree stands) c.refused.ensures.outcome
    c.refused.ensures.file_attributes stands

pub returns-in_err-outcome-clause-resumable : goal.returns-in_err-outcome-clause-resumable
returns-in_err-outcome-clause-resumable g c =
    let same : c.from_residual-in_err-outcome.result ≡ Err c.in_err-outcome.field-0.0 = search rules in
    let rest : (world : g.F.Files.World) (tree : Tree) → g.F.Files.stands c.args.files.now world tree → Sound tree
    → SoundCtx c.args.ctx.now → g.F.Files.is_resumable c.in_err-outcome.field-0.0 =
    λ world tree stands good now.
    let named = (rw c.in-Ok.is at c.in_ok-status.ensures.ok) world tree stands in
    c.in_err-outcome.ensures.resumable world tree named.0 stands named.2 good now in
    subst (λ r. IfErr r (λ suspend. (world : g.F.Files.World) (tree : Tree)
    → g.F.Files.stands c.args.files.now world tree → Sound tree → SoundCtx c.args.ctx.now
    → g.F.Files.is_resumable suspend)) (sym same) rest

pub returns-clause-resumable : goal.returns-clause-resumable
returns-clause-resumable g c =
    MatchResult-weaker c.changed_to.result c.changed_to.ensures.resumable (λ x t. t)
    (λ suspend then world tree stands good now.
    let named = (rw c.in-Ok.is at c.in_ok-status.ensures.ok) world tree stands in
    let done = c.in_ok-outcome.ensures.ok world tree named.0 stands named.2 good now in
    then world _ done.leads)

pub returns-clause-step : goal.returns-clause-step
returns-clause-step g c =
    IfOk-weaker c.changed_to.result _ _ (λ r both world tree stands good now.
    let named = (rw c.in-Ok.is at c.in_ok-status.ensures.ok) world tree stands in
    let inode_attributes = c.in-Ok.directory in
    let new = g.F.Files.stands c.remove_directory_from.new.files world in
    let done = c.in_ok-outcome.ensures.ok world tree named.0 stands named.2 good now in
    let done_so : IsDone new tree (remove_directory tree c.args.ctx.now c.args.name.now.name inode_attributes.number
    (node_of inode_attributes named.0)) r.outcome =
    subst (λ o. IsDone new tree (remove_directory tree c.args.ctx.now c.args.name.now.name inode_attributes.number
    (node_of inode_attributes named.0)) o) (sym both.0)
    (subst (λ n. IsDone new tree (remove_directory tree c.args.ctx.now n inode_attributes.number (node_of inode_attributes named.0))
    c.in_ok-outcome.outcome) c.as_slice.ensures done) in
    acted tree c.args.name.now.directory.bytes (remove_directory tree c.args.ctx.now c.args.name.now.name) new r.outcome
    r.file inode_attributes named done_so (λ next is. both.1 world next named.0 is named.2.fits))
    (both_ok c.changed_to.result _ _ c.changed_to.ensures.answer c.changed_to.ensures.file_attributes)
