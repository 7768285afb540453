-- Whatever the calls answered, a stop leaves the old super block or the raised one.
use Rattle.store_images.specs.BringingHome.{HasIncremented, PreservesBlocks}
use Rattle.store_images.proofs.Incrementing.{incremented_stops, said_of_err, settled_or_not}
use Rattle.store_images.proofs.opening.put_super.Goals as goal

pub returns-in_err-write-clause-incremented : goal.returns-in_err-write-clause-incremented
returns-in_err-write-clause-incremented g c = λ before log lawful none brings.
    let next = g.D.CrashDisk.device c.write.new.self in
    said_of_err c.from_residual.result (HasIncremented before c.args.block.now
    (g.D.CrashDisk.device c.args.disk.now) next log)
    (PreservesBlocks before next c.args.block.now) c.from_residual.ensures.0
    (incremented_stops before (g.D.CrashDisk.device c.args.disk.now) log c.args.block.now lawful none brings next
    c.write.result c.write.ensures.call)

pub returns-clause-incremented : goal.returns-clause-incremented
returns-clause-incremented g c = λ before log lawful none brings.
    settled_or_not before (g.D.CrashDisk.device c.args.disk.now) (g.D.CrashDisk.device c.write.new.self)
    (g.D.CrashDisk.device c.barrier.new.self) log c.args.block.now c.barrier.result lawful none brings
    c.in_ok-write.ensures.call c.barrier.ensures.call
