use Rattle.std.proofs.lemmas.Result.{on_ok_weaker}
use Rattle.procs_names.proofs.LinksLemmas.Shaped.{departed_some}
use Rattle.procs_names.proofs.links.removal.depart.Goals as goal

pub returns-clause-ok : goal.returns-clause-ok
returns-clause-ok g c =
    on_ok_weaker c.depart.result (λ then world tree body stands is can.
    departed_some tree c.args.number c.args.moment c.args.name.now c.args.file.now body is
    (g.F.Files.stands c.depart.new.self world) c.in-Some.directory c.saturating_sub.result c.parent_links.result
    ((rw c.in-Some.is at c.in_ok-directory.ensures.ok) world tree stands)
    c.saturating_sub.ensures c.parent_links.ensures.is can (λ node there fits sound. then world tree node stands there fits sound))
    c.depart.ensures.ok
