use Rattle.std.proofs.lemmas.Result.{IfErr-weaker, IfOk-weaker}
use Rattle.procs_blocks.proofs.InFiles.{directory_names, link_names, regular_names}
use Rattle.procs_blocks.proofs.contents.name_from.Goals as goal

pub returns-in-Directory-clause-ok : goal.returns-in-Directory-clause-ok
returns-in-Directory-clause-ok c =
    IfOk-weaker c.next_name.result _ _ (λ found next blocks tree file has.
    directory_names c.args.snap.now blocks tree file c.args.inode.now
    (record { has = has; kind = c.in-Directory.is }) c.args.from found
    (next blocks tree file (record { has = has; kind = c.in-Directory.is }))) c.next_name.ensures.ok

pub returns-in-Directory-clause-resumable : goal.returns-in-Directory-clause-resumable
returns-in-Directory-clause-resumable c =
    IfErr-weaker c.next_name.result _ _ (λ why p blocks tree file has.
    p blocks tree file (record { has = has; kind = c.in-Directory.is })) c.next_name.ensures.resumable

pub returns-in-Regular-clause-ok : goal.returns-in-Regular-clause-ok
returns-in-Regular-clause-ok c = λ blocks tree file has.
    regular_names c.args.snap.now.geometry blocks c.args.inode.now c.args.from c.in-Regular.is

pub returns-in-Link-clause-ok : goal.returns-in-Link-clause-ok
returns-in-Link-clause-ok c = λ blocks tree file has.
    link_names c.args.snap.now.geometry blocks c.args.inode.now c.args.from c.in-Link.is
