use Rattle.std.proofs.Common.{◌≡◌, [], ◌∷◌, ◌++◌}
use Rattle.disk.specs.declared.call_record.Call.TheVariants.{Read}
use Rattle.disk.specs.Memory.{blocks_of, past_of, memory_device}
use Rattle.disk.specs.Device.{Device, HasRead}
use Rattle.disk.proofs.MemoryLemmas.{moved, has_read}
use Rattle.disk.proofs.mem_disk.MemDiskCrashDisk.read.Goals as goal

pub returns-clause-call : goal.returns-clause-call
returns-clause-call c =
    let past : past_of c.trace.new.self ≡ past_of c.args.self.now
    ++ (blocks_of c.args.self.now, record { call = Read c.args.block; result = c.outcome-result.result })
    ∷ [] =
    rw c.of-before.ensures at c.trace.ensures.past in
    moved (λ (d : Device). HasRead (memory_device c.args.self.now) d)
    (blocks_of c.args.self.now) (blocks_of c.trace.new.self) (past_of c.args.self.now
    ++ (blocks_of c.args.self.now, record { call = Read c.args.block; result = c.outcome-result.result })
    ∷ []) (past_of c.trace.new.self)
    c.trace.ensures.blocks past
    (has_read (blocks_of c.args.self.now) (past_of c.args.self.now) c.args.block c.outcome-result.result)
