use Rattle.inode.specs.WriteSets.WriteSetContents.{image_of}
use Rattle.procs_blocks.proofs.WriteSets.{reads}
use Rattle.procs_blocks.proofs.write_set_files.WriteSetFilesFiles.data_blocks.Goals as goal

pub returns : goal.returns
returns c = λ blocks tree write_set.
    c.data_blocks.ensures (image_of blocks c.args.self.now.write_set) tree
    (reads c.args.self.now.write_set c.now.result.snap.now blocks tree c.now.ensures.there write_set)
