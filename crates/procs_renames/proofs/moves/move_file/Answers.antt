use Rattle.std.proofs.lemmas.Result.{MatchResult-weaker, on_ok_weaker}
use Rattle.nfs_spec.specs.Procedures.Changes.{departed}
use Rattle.procs_renames.proofs.Placed.{still_found}
use Rattle.procs_renames.proofs.moves.move_file.Goals as goal

pub returns-clause-resumable : goal.returns-clause-resumable
returns-clause-resumable g c =
    MatchResult-weaker c.replace.result c.replace.ensures.resumable (λ x t. t)
    (λ suspend then world tree body found stands at there can.
    then world _ body found (c.in_ok-depart.ensures.ok world tree body stands at.fits can.departs) at.fits
    (still_found tree c.args.source (departed c.args.moment c.args.name.now body) found c.args.replaced.now can.apart
    there) can.replaces)

pub returns-clause-ok : goal.returns-clause-ok
returns-clause-ok g c =
    on_ok_weaker c.replace.result (λ then world tree body found stands at there can.
    then world _ body found (c.in_ok-depart.ensures.ok world tree body stands at.fits can.departs) at.fits
    (still_found tree c.args.source (departed c.args.moment c.args.name.now body) found c.args.replaced.now can.apart
    there) can.replaces)
    c.replace.ensures.ok
