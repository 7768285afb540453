use Rattle.std.proofs.Common.{refl}
use Rattle.nfsd.proofs.OfImage.{shown}
use Rattle.nfsd.proofs.image_scans.show_image.Goals as goal

pub returns : goal.returns
returns g c =
    let first = c.beginning_with-disk.ensures.first in
    let fresh = c.beginning_with-disk.ensures.fresh in
    let does = rw (first, fresh) at c.show_device-outcome.ensures in
    let disk = c.show_device-outcome.new.disk in
    rw c.of.ensures (shown c.args.first c.args.image.now (g.O.Write.contents c.args.writer.now)
    (g.O.Write.contents c.show_device-outcome.new.writer) c.show_device-outcome.result _
    (c.beginning_with-disk.result.blocks, disk.first, disk.blocks, disk.file.calls.items, refl, does))
