use Rattle.std.proofs.Common.{◌∙◌}
use Rattle.std.proofs.lemmas.Result.{IfOk-weaker}
use Rattle.nfs_spec.specs.Procedures.Places.{dirent_at}
use Rattle.procs_renames.proofs.Doings.{slot_elsewhere, slot_within}
use Rattle.procs_renames.proofs.slots.new_slot.Goals as goal

pub returns-then-source-target-clause-ok : goal.returns-then-source-target-clause-ok
returns-then-source-target-clause-ok g c =
    IfOk-weaker c.slot_of.result _ _ (λ slot then world tree body goal stands from_at to_at.
    then world tree body stands from_at
    ∙ slot_within c.args.source.now.number c.args.target.now.number c.if-source-target.true
    (dirent_at body c.args.name.now) (dirent_at goal c.args.new_name.now) goal
    ((rw c.in-None.is at c.in_ok-dirent.ensures.ok) world tree goal stands to_at))
    c.slot_of.ensures.ok

pub returns-else-source-target-clause-ok : goal.returns-else-source-target-clause-ok
returns-else-source-target-clause-ok g c =
    IfOk-weaker c.free_slot.result _ _ (λ slot then world tree body goal stands from_at to_at.
    then world tree goal stands to_at
    ∙ slot_elsewhere c.args.source.now.number c.args.target.now.number c.if-source-target.false
    (dirent_at body c.args.name.now) (dirent_at goal c.args.new_name.now) goal
    ((rw c.in-None.is at c.in_ok-dirent.ensures.ok) world tree goal stands to_at))
    c.free_slot.ensures.ok
