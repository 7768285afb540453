use Rattle.std.proofs.Common.{refl}
use Rattle.nfsd.proofs.OfImage.{checked}
use Rattle.nfsd.proofs.image_scans.check_image.Goals as goal

pub returns : goal.returns
returns g c =
    let first = c.beginning_with-disk.ensures.first in
    let fresh = c.beginning_with-disk.ensures.fresh in
    let does = rw (first, fresh) at c.check_device-outcome.ensures in
    let disk = c.check_device-outcome.new.disk in
    rw c.of.ensures (checked c.args.first c.args.image.now (g.O.Write.contents c.args.writer.now)
    (g.O.Write.contents c.check_device-outcome.new.writer) c.check_device-outcome.result _
    (c.beginning_with-disk.result.blocks, disk.first, disk.blocks, disk.file.calls.items, refl, does))
