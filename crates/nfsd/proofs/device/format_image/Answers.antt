use Rattle.std.proofs.Common.{rules}
use Rattle.nfsd.specs.Done.{AreAsked}
use Rattle.nfsd.proofs.OfImage.{formatted}
use Rattle.nfsd.proofs.device.format_image.Goals as goal

pub returns : goal.returns
returns g c =
    let first = c.beginning_with-disk.ensures.first in
    let fresh = c.beginning_with-disk.ensures.fresh in
    let asked : AreAsked c.args.blocks c.beginning_with-disk.result.blocks = search rules in
    let formats = rw (first, fresh) at c.format_device-outcome.ensures in
    rw c.of.ensures (formatted c.args.first c.args.image.now (g.O.Write.contents c.args.writer.now)
    (g.O.Write.contents c.format_device-outcome.new.writer) c.args.blocks c.args.inodes c.args.time
    c.beginning_with-disk.result.blocks _ c.format_device-outcome.result asked formats)
