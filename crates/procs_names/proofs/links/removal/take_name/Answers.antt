use Rattle.std.proofs.lemmas.Result.{MatchResult-weaker, on_ok_weaker}
use Rattle.procs_files.specs.Heads.{node_of}
use Rattle.nfs_spec.specs.Procedures.Changes.{departed}
use Rattle.procs_names.proofs.LinksLemmas.Shaped.{still_in, still_loses}
use Rattle.procs_names.proofs.links.removal.take_name.Goals as goal

pub returns-clause-resumable : goal.returns-clause-resumable
returns-clause-resumable g c =
    MatchResult-weaker c.lose_name.result c.lose_name.ensures.resumable (λ x t. t) (λ suspend then world tree body stands at can.
    then world _ (c.in_ok-depart.ensures.ok world tree body stands at.fits can.departs))

pub returns-clause-ok : goal.returns-clause-ok
returns-clause-ok g c =
    on_ok_weaker c.lose_name.result (λ then world tree body stands at can.
    then world _ body (c.in_ok-depart.ensures.ok world tree body stands at.fits can.departs)
    (still_in tree c.args.directory (departed c.args.moment c.args.name.now body) c.args.file.now body can.apart at)
    (still_loses tree c.args.directory (departed c.args.moment c.args.name.now body) c.args.moment
    (node_of c.args.file.now body) can.loses))
    c.lose_name.ensures.ok
