use Rattle.std.proofs.Common.{subst}
use Rattle.disk.specs.Device.{Content}
use Rattle.circ.specs.Log.Io.{Io, HasMade, HasMadeCall}
use Rattle.wal.proofs.Sides.{is_made}
use Rattle.wal.proofs.io.RoleIo.perform.Goals as goal

pub returns-clause-law : goal.returns-clause-law
returns-clause-law g c = λ role.
    let old = g.D.CrashDisk.device c.args.disk.now in
    let new = g.D.CrashDisk.device c.make.new.disk in
    let made : HasMadeCall old c.self.inside.call c.self.inside.content c.make.result new =
    subst (λ (content : Content). HasMadeCall old c.self.inside.call content c.make.result new) c.block.ensures
    c.make.ensures.call in
    is_made role old new c.args.self.now c.make.result
    (subst (λ (io : Io). HasMade old io c.make.result new) c.self.view_is made)
