use Rattle.std.proofs.lemmas.Result.{IfErr-weaker, IfOk-weaker}
use Rattle.procs_blocks.proofs.InFiles.{directory_filled, link_filled, regular_filled}
use Rattle.procs_blocks.proofs.contents.has_no_names.Goals as goal

pub returns-in-Directory-clause-ok : goal.returns-in-Directory-clause-ok
returns-in-Directory-clause-ok c =
    IfOk-weaker c.is_empty.result _ _ (λ empty is blocks tree file has.
    directory_filled c.args.snap.now.geometry blocks c.args.inode.now empty c.in-Directory.is
    (is blocks tree file (record { has = has; kind = c.in-Directory.is }))) c.is_empty.ensures.ok

pub returns-in-Directory-clause-resumable : goal.returns-in-Directory-clause-resumable
returns-in-Directory-clause-resumable c =
    IfErr-weaker c.is_empty.result _ _ (λ why p blocks tree file has.
    p blocks tree file (record { has = has; kind = c.in-Directory.is })) c.is_empty.ensures.resumable

pub returns-in-Regular-clause-ok : goal.returns-in-Regular-clause-ok
returns-in-Regular-clause-ok c = λ blocks tree file has.
    regular_filled c.args.snap.now.geometry blocks c.args.inode.now c.in-Regular.is

pub returns-in-Link-clause-ok : goal.returns-in-Link-clause-ok
returns-in-Link-clause-ok c = λ blocks tree file has.
    link_filled c.args.snap.now.geometry blocks c.args.inode.now c.in-Link.is
