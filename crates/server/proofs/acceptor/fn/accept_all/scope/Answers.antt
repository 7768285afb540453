-- The closure that writes to a connection has its own hold of it, and the one that reads it shares the server.
use denote.Param.{param}
use denote.Param.Send.{sendable}
use Rattle.std.proofs.Crossing.{crosses}
use Rattle.server.proofs.Crossing.{listed_send, server_sync}
use Rattle.server.proofs.acceptor.fn.accept_all.scope.Goals as goal

pub spawn-reader-requires-send-F : goal.spawn-reader-requires-send-F
spawn-reader-requires-send-F g c κs within =
    let server = server_sync (param 0 g.row.L) (param 1 g.row.G) (param 2 g.row.I) g.G.Whole g.I.Whole g.L.Ledger g.G.Ledger
    g.I.Ledger (param 3 g.row.P) (param 4 g.row.S) g.P.Port c.requires.6 c.requires.7 in
    search (server, c.requires.8, crosses, sendable) depth 60 fits 20000

pub spawn-requires-send-F : goal.spawn-requires-send-F
spawn-requires-send-F g c κs within =
    search (listed_send, c.requires.8, crosses, sendable) depth 60 fits 20000
