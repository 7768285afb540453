use Rattle.std.proofs.lemmas.Result.{IfErr-weaker, IfOk-weaker}
use Rattle.procs_blocks.proofs.InFiles.{directory_no_link, link_target, regular_no_link}
use Rattle.procs_blocks.proofs.contents.target_in.Goals as goal

pub returns-in-Link-clause-ok : goal.returns-in-Link-clause-ok
returns-in-Link-clause-ok c =
    IfOk-weaker c.target.result _ _ (λ bytes is blocks tree file has link.
    link_target c.args.snap.now.geometry blocks c.args.inode.now bytes.items link (is blocks tree file has))
    c.target.ensures.ok

pub returns-in-Link-clause-resumable : goal.returns-in-Link-clause-resumable
returns-in-Link-clause-resumable c =
    IfErr-weaker c.target.result _ _ (λ why p blocks tree file has. p blocks tree file has c.in-Link.is)
    c.target.ensures.resumable

pub returns-in-Regular-clause-ok : goal.returns-in-Regular-clause-ok
returns-in-Regular-clause-ok c = λ blocks tree file has link.
    absurd (regular_no_link c.args.inode.now.kind c.in-Regular.is link)

pub returns-in-Directory-clause-ok : goal.returns-in-Directory-clause-ok
returns-in-Directory-clause-ok c = λ blocks tree file has link.
    absurd (directory_no_link c.args.inode.now.kind c.in-Directory.is link)
