use Rattle.std.proofs.lemmas.Result.{on_ok_weaker}
use Rattle.procs_names.proofs.LinksLemmas.Shaped.{lost_link}
use Rattle.procs_names.proofs.links.removal.lose_link.Goals as goal

pub returns-clause-ok : goal.returns-clause-ok
returns-clause-ok g c =
    on_ok_weaker c.set.result (λ then world tree body stands at shaped.
    lost_link tree c.args.file.now body c.saturating_sub.result c.args.moment
    (g.F.Files.stands c.set.new.self world) c.saturating_sub.ensures at shaped (λ node there fits sound. then world tree node stands there fits sound))
    c.set.ensures.ok
