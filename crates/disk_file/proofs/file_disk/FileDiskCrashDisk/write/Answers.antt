use Rattle.disk_file.specs.File.{first_in}
use Rattle.disk_file.proofs.FileLemmas.{written}
use Rattle.disk_file.proofs.file_disk.FileDiskCrashDisk.write.Goals as goal

pub returns-clause-call : goal.returns-clause-call
returns-clause-call g c =
    let old = c.args.self.now in
    let (bytes, same, traced) = c.write.ensures.call in
    written (first_in old.first.blocks.items) old.blocks old.file.calls.items c.write.new.self.calls.items
    c.args.block.0 c.offset.result c.args.content.now bytes c.write.result same c.offset.ensures traced
