use Rattle.std.proofs.Common.{◌∙◌, sym, subst}
use Rattle.nfs_types.specs.Fits.{CallFits}
use Rattle.nfs_types.specs.declared.call.Call.{Call}
use Rattle.nfs_types.specs.declared.call.Call.TheVariants as call
use Rattle.nfs_types.specs.declared.reply.Reply.{Reply}
use Rattle.nfs_types.specs.declared.reply.Reply.TheVariants as reply
use Rattle.procs_dispatch.specs.Leads.{IsStepTo}
use Rattle.procs_dispatch.proofs.Leads.{leads_on, makes}
use Rattle.procs_dispatch.proofs.update_dispatch.change.Goals as goal

pub returns-in_ok-done-in-SetAttr-clause-step : goal.returns-in_ok-done-in-SetAttr-clause-step
returns-in_ok-done-in-SetAttr-clause-step g c = λ world tree stands sound ctx fits.
    let done = c.in_ok-done-in-SetAttr.done in
    let reply : Reply = reply.SetAttr done.outcome done.file in
    subst (λ (one : Call). IsStepTo (g.F.Files.stands c.set_attributes.new.files world) tree c.args.ctx.now one reply)
    (sym c.in-SetAttr.is)
    (leads_on (g.F.Files.stands c.set_attributes.new.files world) tree c.args.ctx.now
    (call.SetAttr c.in-SetAttr.object c.in-SetAttr.attributes c.in-SetAttr.guard) reply
    (λ new. c.in_ok-done-in-SetAttr.ensures.ok world tree stands sound ctx
    (subst CallFits c.in-SetAttr.is fits)))

pub returns-in_ok-done-in-Write-clause-step : goal.returns-in_ok-done-in-Write-clause-step
returns-in_ok-done-in-Write-clause-step g c = λ world tree stands sound ctx fits.
    let done = c.in_ok-done-in-Write.done in
    let reply : Reply = reply.Write done.outcome done.file in
    subst (λ (one : Call). IsStepTo (g.F.Files.stands c.write.new.files world) tree c.args.ctx.now one reply)
    ((λ i. call.Write c.in-Write.file c.in-Write.offset c.in-Write.count c.in-Write.stability
    (c.as_slice-text.ensures i)) ∙ sym c.in-Write.is)
    (leads_on (g.F.Files.stands c.write.new.files world) tree c.args.ctx.now
    (call.Write c.in-Write.file c.in-Write.offset c.in-Write.count c.in-Write.stability c.as_slice-text.result.now)
    reply
    (λ new. c.in_ok-done-in-Write.ensures.ok world tree stands sound ctx))

pub returns-in_ok-done-in-Create-clause-step : goal.returns-in_ok-done-in-Create-clause-step
returns-in_ok-done-in-Create-clause-step g c = λ world tree stands sound ctx fits.
    let done = c.in_ok-done-in-Create.done in
    let reply : Reply = reply.Create done.outcome done.file in
    subst (λ (one : Call). IsStepTo (g.F.Files.stands c.create.new.files world) tree c.args.ctx.now one reply)
    (sym c.in-Create.is)
    (makes (g.F.Files.stands c.create.new.files world) tree c.args.ctx.now
    (call.Create c.in-Create.name c.in-Create.how) reply
    (c.in_ok-done-in-Create.ensures.step world tree stands sound ctx
    (subst CallFits c.in-Create.is fits)))

pub returns-in_ok-done-in-MkDir-clause-step : goal.returns-in_ok-done-in-MkDir-clause-step
returns-in_ok-done-in-MkDir-clause-step g c = λ world tree stands sound ctx fits.
    let done = c.in_ok-done-in-MkDir.done in
    let reply : Reply = reply.MkDir done.outcome done.file in
    subst (λ (one : Call). IsStepTo (g.F.Files.stands c.make_directory.new.files world) tree c.args.ctx.now one reply)
    (sym c.in-MkDir.is)
    (makes (g.F.Files.stands c.make_directory.new.files world) tree c.args.ctx.now
    (call.MkDir c.in-MkDir.name c.in-MkDir.attributes) reply
    (c.in_ok-done-in-MkDir.ensures.step world tree stands sound ctx
    (subst CallFits c.in-MkDir.is fits)))

pub returns-in_ok-done-in-SymLink-clause-step : goal.returns-in_ok-done-in-SymLink-clause-step
returns-in_ok-done-in-SymLink-clause-step g c = λ world tree stands sound ctx fits.
    let done = c.in_ok-done-in-SymLink.done in
    let reply : Reply = reply.SymLink done.outcome done.file in
    subst (λ (one : Call). IsStepTo (g.F.Files.stands c.make_link.new.files world) tree c.args.ctx.now one reply)
    (sym c.in-SymLink.is)
    (makes (g.F.Files.stands c.make_link.new.files world) tree c.args.ctx.now
    (call.SymLink c.in-SymLink.name c.in-SymLink.attributes c.in-SymLink.target) reply
    (c.in_ok-done-in-SymLink.ensures.step world tree stands sound ctx
    (subst CallFits c.in-SymLink.is fits)))

pub returns-in_ok-done-in-Remove-clause-step : goal.returns-in_ok-done-in-Remove-clause-step
returns-in_ok-done-in-Remove-clause-step g c = λ world tree stands sound ctx fits.
    let done = c.in_ok-done-in-Remove.done in
    let reply : Reply = reply.Remove done.outcome done.file in
    subst (λ (one : Call). IsStepTo (g.F.Files.stands c.remove.new.files world) tree c.args.ctx.now one reply)
    (sym c.in-Remove.is)
    (leads_on (g.F.Files.stands c.remove.new.files world) tree c.args.ctx.now
    (call.Remove c.in-Remove.name) reply
    (λ new. c.in_ok-done-in-Remove.ensures.step world tree stands sound ctx))

pub returns-in_ok-done-in-RmDir-clause-step : goal.returns-in_ok-done-in-RmDir-clause-step
returns-in_ok-done-in-RmDir-clause-step g c = λ world tree stands sound ctx fits.
    let done = c.in_ok-done-in-RmDir.done in
    let reply : Reply = reply.RmDir done.outcome done.file in
    subst (λ (one : Call). IsStepTo (g.F.Files.stands c.remove_directory.new.files world) tree c.args.ctx.now one reply)
    (sym c.in-RmDir.is)
    (leads_on (g.F.Files.stands c.remove_directory.new.files world) tree c.args.ctx.now
    (call.RmDir c.in-RmDir.name) reply
    (λ new. c.in_ok-done-in-RmDir.ensures.step world tree stands sound ctx))

pub returns-in_ok-done-in-Rename-clause-step : goal.returns-in_ok-done-in-Rename-clause-step
returns-in_ok-done-in-Rename-clause-step g c = λ world tree stands sound ctx fits.
    let done = c.in_ok-done-in-Rename.done in
    let reply : Reply = reply.Rename done.outcome done.source done.target in
    subst (λ (one : Call). IsStepTo (g.F.Files.stands c.rename.new.files world) tree c.args.ctx.now one reply)
    (sym c.in-Rename.is)
    (leads_on (g.F.Files.stands c.rename.new.files world) tree c.args.ctx.now
    (call.Rename c.in-Rename.source c.in-Rename.target) reply
    (λ new. c.in_ok-done-in-Rename.ensures.step world tree stands sound ctx
    (subst CallFits c.in-Rename.is fits).1.name.each))

pub returns-in_ok-done-in-Link-clause-step : goal.returns-in_ok-done-in-Link-clause-step
returns-in_ok-done-in-Link-clause-step g c = λ world tree stands sound ctx fits.
    let done = c.in_ok-done-in-Link.done in
    let reply : Reply = reply.Link done.outcome done.file done.directory in
    subst (λ (one : Call). IsStepTo (g.F.Files.stands c.link.new.files world) tree c.args.ctx.now one reply)
    (sym c.in-Link.is)
    (leads_on (g.F.Files.stands c.link.new.files world) tree c.args.ctx.now
    (call.Link c.in-Link.file c.in-Link.name) reply
    (λ new. c.in_ok-done-in-Link.ensures.step world tree stands sound ctx
    (subst CallFits c.in-Link.is fits).1.name.each))
