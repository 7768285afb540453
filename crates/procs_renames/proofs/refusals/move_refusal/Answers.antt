use Rattle.std.proofs.Common.{◌∙◌, [], ◌∷◌}
use Rattle.nfs_types.specs.declared.status.Status.TheVariants as status
use Rattle.nfs_spec.specs.Model.SetAttr.{first_of_tests}
use Rattle.procs_renames.proofs.Agreeing.{link_agrees, sort_agrees}
use Rattle.procs_renames.proofs.refusals.move_refusal.Goals as goal

pub returns-clause-ok : goal.returns-clause-ok
returns-clause-ok g c = λ world tree body home found stands at target_at there.
    let below = c.in_ok-below.ensures.ok world tree body stands at in
    let other = c.is_other_sort-other.ensures
    ∙ sort_agrees tree c.args.file.now body found c.args.replaced.now at there in
    let filled = c.in_ok-filled.ensures.ok world tree found stands there in
    let full = c.has_no_link-full.ensures
    ∙ link_agrees tree c.args.source c.args.file.now c.args.target.now body home found c.args.replaced.now at there in
    c.first_refusal.ensures
    ∙ (λ i. first_of_tests (
    (below i, status.Inval) ∷ (other i, status.Exist) ∷ (filled i, status.Exist) ∷ (full i, status.MLink) ∷ []
    ))
