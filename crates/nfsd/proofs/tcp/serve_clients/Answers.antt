-- A device that was opened, and whose clients were served once where it listens was printed.
use Rattle.std.proofs.Common.{◌≡◌, rules}
use Rattle.nfsd.proofs.Obeyed.{listens}
use Rattle.nfsd.proofs.tcp.serve_clients.Goals as goal

pub returns : goal.returns
returns g c =
    let back : c.serve_announced.result.now ≡ c.writer-1.given.0 = search rules in
    listens _ _ _ _ _ c.serve_announced.new.ended c.concluded.result.1 _ c.in-Ok.ensures.opened
    (rw back at c.serve_announced.ensures.reports) c.serve_announced.ensures.boot c.concluded.ensures.outcome
    c.concluded.ensures.left
