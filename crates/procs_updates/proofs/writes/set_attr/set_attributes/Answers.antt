use Rattle.std.proofs.Common.{sym, subst, ◌∙◌, refl}
use Rattle.nfs_spec.specs.Model.SetAttr.{SetFound}
use Rattle.procs_updates.proofs.WritesLemmas.SetSteps.{set_leads, set_step}
use Rattle.procs_updates.proofs.writes.set_attr.set_attributes.Goals as goal

pub returns-in-Err-clause-ok : goal.returns-in-Err-clause-ok
returns-in-Err-clause-ok g c = λ world tree stands good now fits.
    let is = (rw c.in-Err.is at c.in_ok-status.ensures.ok) world tree stands in (
      tree,
      subst (λ f. SetFound tree c.args.ctx.now c.args.wanted.now c.args.guard.now f c.unfound.result.outcome
          c.unfound.result.file tree) (sym is) (record {
            refused = c.unfound.ensures.outcome;
            parts = c.unfound.ensures.file;
            unchanged = refl;
          }),
      stands,
    )

pub returns-in_ok-done-in-Ok-clause-ok : goal.returns-in_ok-done-in-Ok-clause-ok
returns-in_ok-done-in-Ok-clause-ok g c = λ world tree stands good now fits.
    let named = (rw c.in-Ok.is at c.in_ok-status.ensures.ok) world tree stands in
    let file = c.in-Ok.file in
    let body = named.0 in
    let at = named.2 in
    let done = c.in_ok-done-in-Ok.ensures.ok world tree body stands at
    (set_leads tree c.args.ctx.now c.args.wanted.now c.args.guard.now file body at good now fits.1) in
    set_step tree c.args.ctx.now c.args.wanted.now c.args.guard.now file body at
    (g.F.Files.stands c.set_in.new.files world) c.args.object.now.bytes c.changed.result.outcome
    c.in_ok-done-in-Ok.done.inode_attributes c.changed.result.file named.1
    (record {
      answered = c.changed.ensures.outcome ∙ done.answered;
      leads = done.leads;
      number_is = done.number_is;
      body = done.body;
      there = done.there;
    })
    c.changed.ensures.file
