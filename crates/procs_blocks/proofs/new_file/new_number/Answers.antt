use Rattle.std.proofs.lemmas.Result.{IfErr-weaker, IfOk-weaker}
use Rattle.inode.specs.WriteSets.WriteSetContents.{image_of}
use Rattle.procs_blocks.proofs.WriteSets.{reads}
use Rattle.procs_blocks.proofs.new_file.new_number.Goals as goal

pub returns-clause-ok : goal.returns-clause-ok
returns-clause-ok c =
    IfOk-weaker c.unused_number.result _ _ (λ number is blocks tree write_set.
    is (image_of blocks c.args.write_set.now) tree
    (reads c.args.write_set.now c.there.result.now blocks tree c.there.ensures.there write_set)) c.unused_number.ensures.ok

pub returns-clause-err : goal.returns-clause-err
returns-clause-err c =
    IfErr-weaker c.unused_number.result _ _ (λ why stops. c.there.ensures.stops why stops) c.unused_number.ensures.err

pub returns-clause-resumable : goal.returns-clause-resumable
returns-clause-resumable c =
    IfErr-weaker c.unused_number.result _ _ (λ why resumes blocks tree write_set.
    resumes (image_of blocks c.args.write_set.now) tree
    (reads c.args.write_set.now c.there.result.now blocks tree c.there.ensures.there write_set)) c.unused_number.ensures.resumable
