use Rattle.std.proofs.Common.{sym, subst, Some}
use Rattle.std.proofs.lemmas.Result.{MatchResult-weaker, on_ok_weaker}
use Rattle.nfs_spec.specs.Procedures.Changes.{without_name}
use Rattle.procs_files.specs.Heads.{IsFound, node_of}
use Rattle.procs_renames.proofs.moves.unlink_replaced.Goals as goal

pub returns-in-Some-clause-resumable : goal.returns-in-Some-clause-resumable
returns-in-Some-clause-resumable g c =
    let file = c.in-Some.file in
    MatchResult-weaker c.take_name.result c.take_name.ensures.resumable (λ x t. t)
    (λ suspend then world tree found stands there can.
    let here : IsFound tree found (Some file) = subst (IsFound tree found) c.in-Some.is there in
    then world tree here.0 stands here.2 (can (file.number, node_of file here.0) here.1))

pub returns-in-Some-clause-ok : goal.returns-in-Some-clause-ok
returns-in-Some-clause-ok g c =
    let file = c.in-Some.file in
    on_ok_weaker c.take_name.result (λ then world tree found stands there can.
    let here : IsFound tree found (Some file) = subst (IsFound tree found) c.in-Some.is there in
    subst (λ f. g.F.Files.stands c.take_name.new.files world
    (without_name tree c.args.moment c.args.directory c.args.name.now f)) (sym here.1)
    (then world tree here.0 stands here.2 (can (file.number, node_of file here.0) here.1)))
    c.take_name.ensures.ok
