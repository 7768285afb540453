use Rattle.std.proofs.Common.{sym, ap, ◌∙◌, not, ◌||◌}
use Rattle.nfs_types.specs.declared.status.Status.TheVariants as status
use Rattle.nfs_spec.specs.Model.SetAttr.{first_of_tests}
use Rattle.nfs_spec.specs.Procedures.FirstTests.{may_change}
use Rattle.nfs_spec.specs.Procedures.Places.{is_own_name}
use Rattle.procs_files.specs.Heads.{bare, barely, first_of}
use Rattle.nfs_spec.specs.Procedures.Rename.{path_tests, right_tests}
use Rattle.procs_renames.proofs.RefusalTests.{places_agree, some_there}
use Rattle.procs_renames.proofs.places.source_file.Goals as goal

pub returns-in-Some-clause-ok : goal.returns-in-Some-clause-ok
returns-in-Some-clause-ok g c = λ world tree body other stands at target_at.
    sym (places_agree tree c.args.caller.now c.args.source.now c.args.target.now body other c.args.name.now
    c.args.new_name.now c.in_ok-found.found at target_at (c.in_ok-found.ensures.ok world tree body stands at))
    ∙ sym c.places_refusal.ensures ∙ c.in-Some.is

pub returns-in-Some-found-clause-ok : goal.returns-in-Some-found-clause-ok
returns-in-Some-found-clause-ok g c = λ world tree body other stands at target_at.
    let there = c.in_ok-found.ensures.ok world tree body stands at in (
      sym (places_agree tree c.args.caller.now c.args.source.now c.args.target.now body other c.args.name.now
          c.args.new_name.now c.in_ok-found.found at target_at there)
          ∙ sym c.places_refusal.ensures ∙ c.in-None.is,
      rw c.in-Some-found.is at there,
    )

pub returns-in-None-found-clause-ok : goal.returns-in-None-found-clause-ok
returns-in-None-found-clause-ok g c = λ world tree body other stands at target_at.
    absurd (some_there
    (first_of_tests (path_tests (bare c.args.source.now) c.args.name.now (bare c.args.target.now) c.args.new_name.now))
    (not (may_change c.args.caller.now (bare c.args.source.now)))
    (not (may_change c.args.caller.now (bare c.args.target.now)))
    (is_own_name c.args.name.now || is_own_name c.args.new_name.now) status.Acces status.Acces status.Inval status.NoEnt
    (ap (λ f. first_of (first_of_tests (path_tests (bare c.args.source.now) c.args.name.now (bare c.args.target.now)
    c.args.new_name.now)) (first_of_tests (right_tests c.args.caller.now (bare c.args.source.now) c.args.name.now
    (bare c.args.target.now) c.args.new_name.now (barely f)))) (sym c.in-None-found.is)
    ∙ sym c.places_refusal.ensures ∙ c.in-None.is))
