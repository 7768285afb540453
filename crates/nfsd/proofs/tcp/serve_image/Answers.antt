use Rattle.nfsd.proofs.OfImage.{served}
use Rattle.nfsd.proofs.tcp.serve_image.Goals as goal

pub returns : goal.returns
returns g c =
    let first = c.beginning_with-disk.ensures.first in
    let fresh = c.beginning_with-disk.ensures.fresh in
    let serves = rw (first, fresh) at c.serve_clients.ensures in
    served c.args.first c.args.image.now (g.O.Write.contents c.args.writer.now)
    (g.O.Write.contents c.serve_clients.new.writer) c.args.listen.now c.beginning_with-disk.result.blocks
    c.serve_clients.result.1 _ serves
