use Rattle.std.proofs.Common.{sym, ◌∙◌}
use Rattle.procs_names.proofs.LinksLemmas.Roomy.{cramped, no_slot, roomy}
use Rattle.procs_names.proofs.links.insertion.slot_with_blocks.Goals as goal

pub returns-in_default-clause-ok : goal.returns-in_default-clause-ok
returns-in_default-clause-ok g c = λ world tree body stands at.
    no_slot tree c.args.directory.now.size body c.args.more
    (sym c.in_default.is ∙ c.in_ok-slot.ensures.ok world tree body stands at)

pub returns-then-branch-clause-ok : goal.returns-then-branch-clause-ok
returns-then-branch-clause-ok g c = λ world tree body stands at.
    roomy tree c.args.directory.now.size body c.args.more c.in-Some.slot c.in_ok-has_dirent_blocks.field-0
    (sym c.in-Some.is ∙ c.in_ok-slot.ensures.ok world tree body stands at)
    (c.in_ok-has_dirent_blocks.ensures.ok world tree stands) c.if-branch.true

pub returns-else-branch-clause-ok : goal.returns-else-branch-clause-ok
returns-else-branch-clause-ok g c = λ world tree body stands at.
    cramped tree c.args.directory.now.size body c.args.more c.in-Some.slot c.in_ok-has_dirent_blocks.field-0
    (sym c.in-Some.is ∙ c.in_ok-slot.ensures.ok world tree body stands at)
    (c.in_ok-has_dirent_blocks.ensures.ok world tree stands) c.if-branch.false
