use Rattle.std.proofs.Common.{sym, subst}
use Rattle.disk.specs.Device.{HasSettled}
use Rattle.disk_file.specs.File.{Calls, first_in, file_device}
use Rattle.disk_file.proofs.FileLemmas.{has_settled}
use Rattle.disk_file.proofs.threaded_disk.ThreadedDiskCrashDisk.barrier.Goals as goal

pub returns-clause-call : goal.returns-clause-call
returns-clause-call g c =
    let old = c.args.self.now in
    let first = first_in old.first.blocks.items in
    subst (λ (calls : Calls). HasSettled (file_device first old.blocks old.file.calls.items) c.args.side
    c.sync.result (file_device first old.blocks calls)) (sym c.sync.ensures.call)
    (has_settled first old.blocks old.file.calls.items c.args.side c.sync.result)
