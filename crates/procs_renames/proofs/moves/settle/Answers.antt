use Rattle.std.proofs.lemmas.Result.{on_ok_weaker}
use Rattle.procs_renames.proofs.Placed.{settled_some}
use Rattle.procs_renames.proofs.moves.settle.Goals as goal

pub returns-clause-ok : goal.returns-clause-ok
returns-clause-ok g c =
    on_ok_weaker c.set.result (λ then world tree stands can.
    settled_some tree c.args.number c.args.moment c.args.parent (g.F.Files.stands c.set.new.self world)
    c.in-Some.file c.above.result ((rw c.in-Some.is at c.in_ok-file.ensures.ok) world tree stands) c.above.ensures can
    (λ node there fits sound. then world tree node stands there fits sound))
    c.set.ensures.ok
