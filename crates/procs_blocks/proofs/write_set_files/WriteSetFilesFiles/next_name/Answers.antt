use Rattle.std.proofs.lemmas.Result.{IfErr-weaker, IfOk-weaker}
use Rattle.inode.specs.WriteSets.WriteSetContents.{image_of}
use Rattle.procs_blocks.proofs.WriteSets.{reads}
use Rattle.procs_blocks.proofs.write_set_files.WriteSetFilesFiles.next_name.Goals as goal

pub returns-clause-err : goal.returns-clause-err
returns-clause-err c = IfErr-weaker c.next_name.result _ _ (λ why may. c.now.ensures.stops why may) c.next_name.ensures.err

pub returns-clause-resumable : goal.returns-clause-resumable
returns-clause-resumable c =
    IfErr-weaker c.next_name.result _ _ (λ why resumes blocks tree write_set.
    resumes (image_of blocks c.args.self.now.write_set) tree
    (reads c.args.self.now.write_set c.now.result.snap.now blocks tree c.now.ensures.there write_set))
    c.next_name.ensures.resumable

pub returns-clause-ok : goal.returns-clause-ok
returns-clause-ok c =
    IfOk-weaker c.next_name.result _ _ (λ found is blocks tree body write_set file.
    is (image_of blocks c.args.self.now.write_set) tree body
    (reads c.args.self.now.write_set c.now.result.snap.now blocks tree c.now.ensures.there write_set) file)
    c.next_name.ensures.ok
