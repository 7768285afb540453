use Rattle.std.proofs.lemmas.Result.{IfErr-weaker, IfOk-weaker}
use Rattle.procs_blocks.proofs.InFiles.{directory_dirent, link_dirent, regular_dirent}
use Rattle.procs_blocks.proofs.contents.dirent_under.Goals as goal

pub returns-in-Directory-clause-ok : goal.returns-in-Directory-clause-ok
returns-in-Directory-clause-ok c =
    IfOk-weaker c.found_in.result _ _ (λ found is blocks tree has.
    directory_dirent c.args.snap.now.geometry blocks c.args.inode.now c.args.name.now found c.in-Directory.is
    (is blocks tree (record { has = has; kind = c.in-Directory.is }))) c.found_in.ensures.ok

pub returns-in-Directory-clause-resumable : goal.returns-in-Directory-clause-resumable
returns-in-Directory-clause-resumable c =
    IfErr-weaker c.found_in.result _ _ (λ why p blocks tree file has.
    p blocks tree file (record { has = has; kind = c.in-Directory.is })) c.found_in.ensures.resumable

pub returns-in-Regular-clause-ok : goal.returns-in-Regular-clause-ok
returns-in-Regular-clause-ok c = λ blocks tree has.
    regular_dirent c.args.snap.now.geometry blocks c.args.inode.now c.args.name.now c.in-Regular.is

pub returns-in-Link-clause-ok : goal.returns-in-Link-clause-ok
returns-in-Link-clause-ok c = λ blocks tree has.
    link_dirent c.args.snap.now.geometry blocks c.args.inode.now c.args.name.now c.in-Link.is
