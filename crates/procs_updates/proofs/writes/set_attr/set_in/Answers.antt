use Rattle.std.proofs.Common.{sym, ◌∙◌}
use Rattle.procs_files.specs.Heads.{bare}
use Rattle.procs_updates.proofs.WritesLemmas.SetSteps.{inode_attributes_sound, refusal_agrees, set_acted, small_size}
use Rattle.procs_updates.proofs.writes.set_attr.set_in.Goals as goal

pub set_file-requires : goal.set_file-requires
set_file-requires g c =
    small_size c.args.ctx.now c.args.wanted.now c.args.guard.now (bare c.args.file.now)
    (sym c.set_refusal.ensures ∙ c.in-None.is)

pub returns-in_ok-inode_attributes-in-None-clause-ok : goal.returns-in_ok-inode_attributes-in-None-clause-ok
returns-in_ok-inode_attributes-in-None-clause-ok g c = λ world tree body stands at good.
    let passes = sym (refusal_agrees c.args.ctx.now c.args.wanted.now c.args.guard.now tree c.args.file.now body at)
    ∙ sym c.set_refusal.ensures ∙ c.in-None.is in
    let set = c.in_ok-inode_attributes-in-None.ensures.ok world tree body stands at
    (inode_attributes_sound tree c.args.ctx.now c.args.wanted.now c.args.guard.now c.args.file.now body at passes good) in
    set_acted tree c.args.ctx.now c.args.wanted.now c.args.guard.now c.args.file.now body at
    (g.F.Files.stands c.set_file.new.files world) c.in_ok-inode_attributes-in-None.inode_attributes passes set.0 set.1
