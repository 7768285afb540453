use Rattle.std.proofs.lemmas.Result.{IfErr-weaker, IfOk-weaker}
use Rattle.procs_blocks.proofs.InFiles.{directory_vacant, link_vacant, regular_vacant}
use Rattle.procs_blocks.proofs.contents.first_free_slot.Goals as goal

pub returns-in-Directory-clause-ok : goal.returns-in-Directory-clause-ok
returns-in-Directory-clause-ok c =
    IfOk-weaker c.free_slot.result _ _ (λ free is blocks tree file has.
    directory_vacant c.args.snap.now.geometry blocks c.args.inode.now free c.in-Directory.is
    (is blocks tree file (record { has = has; kind = c.in-Directory.is }))) c.free_slot.ensures.ok

pub returns-in-Directory-clause-resumable : goal.returns-in-Directory-clause-resumable
returns-in-Directory-clause-resumable c =
    IfErr-weaker c.free_slot.result _ _ (λ why p blocks tree file has.
    p blocks tree file (record { has = has; kind = c.in-Directory.is })) c.free_slot.ensures.resumable

pub returns-in-Regular-clause-ok : goal.returns-in-Regular-clause-ok
returns-in-Regular-clause-ok c = λ blocks tree file has.
    regular_vacant c.args.snap.now.geometry blocks c.args.inode.now c.in-Regular.is

pub returns-in-Link-clause-ok : goal.returns-in-Link-clause-ok
returns-in-Link-clause-ok c = λ blocks tree file has.
    link_vacant c.args.snap.now.geometry blocks c.args.inode.now c.in-Link.is
