use Rattle.std.proofs.Common.{rules, sym, subst, ap, ◌∙◌, ◌≡◌, Err, Some, IfErr}
use Rattle.std.proofs.lemmas.Result.{IfOk-weaker, MatchResult-weaker}
use Rattle.nfs_types.specs.Fits.{AreBytes}
use Rattle.nfs_spec.specs.Model.Sound.{Sound, SoundCtx}
use Rattle.nfs_spec.specs.Model.Tree.{Tree}
use Rattle.nfs_spec.specs.Procedures.Link.{link}
use Rattle.procs_files.specs.Heads.{IsDone, node_of}
use Rattle.procs_names.proofs.NamesLemmas.LinkSteps.{both_found, no_directory, no_file}
use Rattle.procs_names.proofs.NamesLemmas.Removed.{both_ok}
use Rattle.procs_names.proofs.name_procedures.hard_links.link.Goals as goal

pub returns-in-Err-clause-step : goal.returns-in-Err-clause-step
returns-in-Err-clause-step g c = λ world tree stands good now bytes.
    no_file tree c.args.ctx.now c.args.file.now.bytes c.args.name.now.directory.bytes c.args.name.now.name
    (g.F.Files.stands c.args.files.now world) c.not_linked.result.outcome c.not_linked.result.file
    c.not_linked.result.directory c.in-Err.status ((rw c.in-Err.is at c.in_ok-status.ensures.ok) world tree stands)
    c.not_linked.ensures.outcome c.not_linked.ensures.file_attributes c.not_linked.ensures.directory stands

pub returns-in-Err-2-clause-step : goal.returns-in-Err-2-clause-step
returns-in-Err-2-clause-step g c = λ world tree stands good now bytes.
    let named = (rw c.in-Ok.is at c.in_ok-status.ensures.ok) world tree stands in
    no_directory tree c.args.ctx.now c.args.file.now.bytes c.args.name.now.directory.bytes c.args.name.now.name
    (g.F.Files.stands c.args.files.now world) c.not_linked-in-Err-2.result.outcome
    c.not_linked-in-Err-2.result.file c.not_linked-in-Err-2.result.directory c.in-Ok.file named c.in-Err-2.status
    ((rw c.in-Err-2.is at c.in_ok-status-2.ensures.ok) world tree stands) c.not_linked-in-Err-2.ensures.outcome
    (c.not_linked-in-Err-2.ensures.file_attributes ∙ ap Some (c.attributes.ensures named.0 named.2.fits))
    c.not_linked-in-Err-2.ensures.directory stands

pub returns-in_err-outcome-clause-resumable : goal.returns-in_err-outcome-clause-resumable
returns-in_err-outcome-clause-resumable g c =
    let same : c.from_residual-in_err-outcome.result ≡ Err c.in_err-outcome.field-0.0 = search rules in
    let rest : (world : g.F.Files.World) (tree : Tree) → g.F.Files.stands c.args.files.now world tree → Sound tree
    → SoundCtx c.args.ctx.now → AreBytes c.args.name.now.name
    → g.F.Files.is_resumable c.in_err-outcome.field-0.0 =
    λ world tree stands good now bytes.
    let named = (rw c.in-Ok.is at c.in_ok-status.ensures.ok) world tree stands in
    let other = (rw c.in-Ok-2.is at c.in_ok-status-2.ensures.ok) world tree stands in
    c.in_err-outcome.ensures.resumable world tree named.0 other.0 stands named.2 other.2 good now
    (subst AreBytes (sym c.as_slice.ensures) bytes) in
    subst (λ r. IfErr r (λ suspend. (world : g.F.Files.World) (tree : Tree)
    → g.F.Files.stands c.args.files.now world tree → Sound tree → SoundCtx c.args.ctx.now
    → AreBytes c.args.name.now.name → g.F.Files.is_resumable suspend)) (sym same) rest

pub returns-clause-resumable : goal.returns-clause-resumable
returns-clause-resumable g c =
    MatchResult-weaker c.linked_to.result c.linked_to.ensures.resumable (λ x t. t)
    (λ suspend then world tree stands good now bytes.
    let named = (rw c.in-Ok.is at c.in_ok-status.ensures.ok) world tree stands in
    let other = (rw c.in-Ok-2.is at c.in_ok-status-2.ensures.ok) world tree stands in
    let done = c.in_ok-outcome.ensures.ok world tree named.0 other.0 stands named.2 other.2 good now
    (subst AreBytes (sym c.as_slice.ensures) bytes) in
    then world _ done.leads)

pub returns-clause-step : goal.returns-clause-step
returns-clause-step g c =
    IfOk-weaker c.linked_to.result _ _ (λ r all world tree stands good now bytes.
    let named = (rw c.in-Ok.is at c.in_ok-status.ensures.ok) world tree stands in
    let other = (rw c.in-Ok-2.is at c.in_ok-status-2.ensures.ok) world tree stands in
    let file = c.in-Ok.file in
    let inode_attributes = c.in-Ok-2.directory in
    let new = g.F.Files.stands c.link_in.new.files world in
    let done = c.in_ok-outcome.ensures.ok world tree named.0 other.0 stands named.2 other.2 good now
    (subst AreBytes (sym c.as_slice.ensures) bytes) in
    let done_so : IsDone new tree (link tree c.args.ctx.now c.args.name.now.name file.number
    (node_of file named.0) inode_attributes.number (node_of inode_attributes other.0)) r.outcome =
    subst (λ o. IsDone new tree (link tree c.args.ctx.now c.args.name.now.name file.number
    (node_of file named.0) inode_attributes.number (node_of inode_attributes other.0)) o) (sym all.0)
    (subst (λ n. IsDone new tree (link tree c.args.ctx.now n file.number (node_of file named.0) inode_attributes.number
    (node_of inode_attributes other.0)) c.in_ok-outcome.outcome) c.as_slice.ensures done) in
    both_found tree c.args.ctx.now c.args.file.now.bytes c.args.name.now.directory.bytes c.args.name.now.name new
    r.outcome r.file r.directory file named inode_attributes other done_so (λ next is. all.1.0 world next is)
    (λ next is. all.1.1 world next other.0 is other.2.fits))
    (both_ok c.linked_to.result _ _ c.linked_to.ensures.answer
    (both_ok c.linked_to.result _ _ c.linked_to.ensures.file c.linked_to.ensures.directory))
