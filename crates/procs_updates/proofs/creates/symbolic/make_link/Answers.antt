use Rattle.std.proofs.Common.{rules, sym, subst}
use Rattle.std.proofs.lemmas.Result.{IfOk-weaker, MatchResult-weaker}
use Rattle.nfs_types.specs.Fits.{AreBytes}
use Rattle.nfs_spec.proofs.ProceduresLemmas.Numbers.{new_number}
use Rattle.nfs_spec.specs.Procedures.SymLink.{make_link}
use Rattle.procs_files.specs.Heads.{IsDone, node_of}
use Rattle.procs_names.proofs.LinksLemmas.Doing.{acted, not_acted}
use Rattle.procs_updates.proofs.CreatesLemmas.Stops.{both_ok, stopped_so}
use Rattle.procs_updates.proofs.creates.symbolic.make_link.Goals as goal

pub returns-in-Err-clause-step : goal.returns-in-Err-clause-step
returns-in-Err-clause-step g c = λ world tree stands good now fits.
    let number = new_number tree in
    let left = not_acted tree c.args.name.now.directory.bytes
    (make_link tree c.args.ctx.now c.args.name.now.name c.args.wanted.now c.args.target.now number.new)
    (g.F.Files.stands c.args.files.now world) c.refused.result.outcome c.refused.result.file c.in-Err.status
    ((rw c.in-Err.is at c.in_ok-status.ensures.ok) world tree stands) c.refused.ensures.outcome
    c.refused.ensures.file_attributes stands in
    (number.new, number.is, left.0, left.1, left.2)

pub returns-in_err-outcome-clause-resumable : goal.returns-in_err-outcome-clause-resumable
returns-in_err-outcome-clause-resumable g c =
    stopped_so c.from_residual-in_err-outcome.result c.in_err-outcome.field-0.0 _ (search rules)
    (λ world tree stands good now fits.
    let named = (rw c.in-Ok.is at c.in_ok-status.ensures.ok) world tree stands in
    c.in_err-outcome.ensures.resumable world tree named.0 stands named.2 good now
    (subst AreBytes (sym c.as_slice.ensures) fits.0.name.each) fits.1
    (subst AreBytes (sym c.as_slice-2.ensures) fits.2.each))

pub returns-clause-resumable : goal.returns-clause-resumable
returns-clause-resumable g c =
    MatchResult-weaker c.changed_to.result c.changed_to.ensures.resumable (λ x t. t)
    (λ suspend then world tree stands good now fits.
    let named = (rw c.in-Ok.is at c.in_ok-status.ensures.ok) world tree stands in
    let made = c.in_ok-outcome.ensures.ok world tree named.0 stands named.2 good now
    (subst AreBytes (sym c.as_slice.ensures) fits.0.name.each) fits.1
    (subst AreBytes (sym c.as_slice-2.ensures) fits.2.each) in
    then world _ made.done.leads)

pub returns-clause-step : goal.returns-clause-step
returns-clause-step g c =
    IfOk-weaker c.changed_to.result _ _ (λ r both world tree stands good now fits.
    let named = (rw c.in-Ok.is at c.in_ok-status.ensures.ok) world tree stands in
    let inode_attributes = c.in-Ok.directory in
    let new = g.F.Files.stands c.make_link_in.new.files world in
    let made = c.in_ok-outcome.ensures.ok world tree named.0 stands named.2 good now
    (subst AreBytes (sym c.as_slice.ensures) fits.0.name.each) fits.1
    (subst AreBytes (sym c.as_slice-2.ensures) fits.2.each) in
    let done_so : IsDone new tree (make_link tree c.args.ctx.now c.args.name.now.name c.args.wanted.now
    c.args.target.now made.new inode_attributes.number (node_of inode_attributes named.0)) r.outcome =
    subst (λ o. IsDone new tree (make_link tree c.args.ctx.now c.args.name.now.name c.args.wanted.now
    c.args.target.now made.new inode_attributes.number (node_of inode_attributes named.0)) o) (sym both.0)
    (subst (λ t. IsDone new tree (make_link tree c.args.ctx.now c.args.name.now.name c.args.wanted.now t made.new
    inode_attributes.number (node_of inode_attributes named.0)) c.in_ok-outcome.outcome) c.as_slice-2.ensures
    (subst (λ n. IsDone new tree (make_link tree c.args.ctx.now n c.args.wanted.now c.as_slice-2.result.now made.new
    inode_attributes.number (node_of inode_attributes named.0)) c.in_ok-outcome.outcome) c.as_slice.ensures made.done)) in
    let transition = acted tree c.args.name.now.directory.bytes
    (make_link tree c.args.ctx.now c.args.name.now.name c.args.wanted.now c.args.target.now made.new) new r.outcome r.file
    inode_attributes named done_so (λ next is. both.1 world next named.0 is named.2.fits) in
    (made.new, made.is_new, transition.0, transition.1, transition.2))
    (both_ok c.changed_to.result _ _ c.changed_to.ensures.answer c.changed_to.ensures.file_attributes)
