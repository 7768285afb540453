use Rattle.std.proofs.Common.{sym, subst}
use Rattle.disk.specs.Device.{HasRead}
use Rattle.disk_file.specs.File.{Calls, first_in, file_device}
use Rattle.disk_file.proofs.FileLemmas.{has_read}
use Rattle.disk_file.proofs.threaded_disk.ThreadedDiskCrashDisk.read.Goals as goal

pub returns-clause-call : goal.returns-clause-call
returns-clause-call g c =
    let old = c.args.self.now in
    let first = first_in old.first.blocks.items in
    let (bytes, same, traced) = c.read.ensures.call in
    subst (λ (calls : Calls). HasRead (file_device first old.blocks old.file.calls.items)
    (file_device first old.blocks calls)) (sym traced)
    (has_read first old.blocks old.file.calls.items c.offset.result bytes c.read.result)
