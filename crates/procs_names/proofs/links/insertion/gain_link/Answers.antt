use Rattle.std.proofs.lemmas.Result.{on_ok_weaker}
use Rattle.procs_names.proofs.LinksLemmas.Shaped.{gained_link}
use Rattle.procs_names.proofs.links.insertion.gain_link.Goals as goal

pub returns-clause-ok : goal.returns-clause-ok
returns-clause-ok g c =
    on_ok_weaker c.set.result (λ then world tree stands can.
    gained_link tree c.args.number c.args.moment (g.F.Files.stands c.set.new.self world) c.in-Some.file
    c.more_links.result ((rw c.in-Some.is at c.in_ok-file.ensures.ok) world tree stands) c.more_links.ensures can
    (λ node there fits sound. then world tree node stands there fits sound))
    c.set.ensures.ok
