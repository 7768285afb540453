use Rattle.std.proofs.Common.{rules, ◌≡◌, ℕ, sym, subst, Err, IfErr, Option}
use Rattle.std.proofs.lemmas.Result.{MatchResult-weaker, on_ok_weaker}
use Rattle.nfs_spec.specs.Model.Node.{Body, Node}
use Rattle.nfs_spec.specs.Model.Tree.{Tree}
use Rattle.procs_files.specs.Heads.{IsBodyOf, IsFound}
use Rattle.procs_renames.specs.Placing.{CanReplace}
use Rattle.procs_renames.proofs.moves.replace.Goals as goal

pub returns-in_err-unlink_replaced-clause-resumable : goal.returns-in_err-unlink_replaced-clause-resumable
returns-in_err-unlink_replaced-clause-resumable g c =
    let same : c.from_residual.result ≡ Err c.in_err-unlink_replaced.field-0.0 = search rules in
    let rest : (world : g.F.Files.World) (tree : Tree) (body : Body) (found : Option (ℕ × Node))
    → g.F.Files.stands c.args.files.now world tree → IsBodyOf c.args.file.now body
    → IsFound tree found c.args.replaced.now
    → CanReplace tree c.args.moment c.args.target c.args.new_name.now c.args.file.now.number body found
    c.args.slot → g.F.Files.is_resumable c.in_err-unlink_replaced.field-0.0 =
    λ world tree body found stands is there can.
    c.in_err-unlink_replaced.ensures.resumable world tree found stands there can.takes in
    subst (λ r. IfErr r (λ suspend. (world : g.F.Files.World) (tree : Tree) (body : Body) (found : Option (ℕ × Node))
    → g.F.Files.stands c.args.files.now world tree → IsBodyOf c.args.file.now body
    → IsFound tree found c.args.replaced.now
    → CanReplace tree c.args.moment c.args.target c.args.new_name.now c.args.file.now.number body found
    c.args.slot → g.F.Files.is_resumable suspend)) (sym same) rest

pub returns-clause-resumable : goal.returns-clause-resumable
returns-clause-resumable g c =
    MatchResult-weaker c.link_renamed.result c.link_renamed.ensures.resumable (λ x t. t)
    (λ suspend then world tree body found stands is there can.
    then world _ body (c.in_ok-unlink_replaced.ensures.ok world tree found stands there can.takes) is can.places)

pub returns-clause-ok : goal.returns-clause-ok
returns-clause-ok g c =
    on_ok_weaker c.link_renamed.result (λ then world tree body found stands is there can.
    then world _ body (c.in_ok-unlink_replaced.ensures.ok world tree found stands there can.takes) is can.places)
    c.link_renamed.ensures.ok
