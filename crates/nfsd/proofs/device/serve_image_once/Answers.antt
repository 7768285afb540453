use Rattle.nfsd.proofs.OfImage.{served_once}
use Rattle.nfsd.proofs.device.serve_image_once.Goals as goal

pub returns : goal.returns
returns g c =
    let first = c.beginning_with-disk.ensures.first in
    let fresh = c.beginning_with-disk.ensures.fresh in
    let serves = rw (first, fresh) at c.serve_device-disk.ensures in
    rw c.of.ensures (served_once c.args.first c.args.image.now c.args.time c.beginning_with-disk.result.blocks _ _ _ _
    serves)
