use Rattle.std.proofs.Common.{◌∙◌}
use Rattle.std.proofs.lemmas.Result.{IfErr-weaker, IfOk-weaker}
use Rattle.procs_blocks.proofs.InFiles.{directory_bytes, link_bytes, regular_bytes}
use Rattle.procs_blocks.proofs.contents.bytes_from.Goals as goal

pub returns-in-Regular-clause-ok : goal.returns-in-Regular-clause-ok
returns-in-Regular-clause-ok c =
    IfOk-weaker c.piece.result _ _ (λ bytes is blocks tree file has.
    regular_bytes c.args.snap.now.geometry blocks c.args.inode.now c.args.offset c.args.count c.at_most.result
    bytes c.in-Regular.is c.at_most.ensures (is blocks tree file has)) c.piece.ensures.ok

pub returns-in-Regular-clause-resumable : goal.returns-in-Regular-clause-resumable
returns-in-Regular-clause-resumable c =
    IfErr-weaker c.piece.result _ _ (λ why p blocks tree file has. p blocks tree file has c.in-Regular.is)
    c.piece.ensures.resumable

pub returns-in-Directory-clause-ok : goal.returns-in-Directory-clause-ok
returns-in-Directory-clause-ok c = λ blocks tree file has.
    c.new.ensures
    ∙ directory_bytes c.args.snap.now.geometry blocks c.args.inode.now c.args.offset c.args.count c.in-Directory.is

pub returns-in-Link-clause-ok : goal.returns-in-Link-clause-ok
returns-in-Link-clause-ok c = λ blocks tree file has.
    c.new-in-Link.ensures
    ∙ link_bytes c.args.snap.now.geometry blocks c.args.inode.now c.args.offset c.args.count c.in-Link.is
