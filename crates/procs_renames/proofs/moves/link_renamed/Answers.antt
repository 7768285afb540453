use Rattle.std.proofs.lemmas.Result.{MatchResult-weaker, on_ok_weaker}
use Rattle.procs_renames.proofs.moves.link_renamed.Goals as goal

pub returns-clause-resumable : goal.returns-clause-resumable
returns-clause-resumable g c =
    MatchResult-weaker c.settle.result c.settle.ensures.resumable (λ x t. t) (λ suspend then world tree body stands is can.
    then world _ (c.in_ok-enter_name.ensures.ok world tree body stands is can.enters))

pub returns-clause-ok : goal.returns-clause-ok
returns-clause-ok g c =
    on_ok_weaker c.settle.result (λ then world tree body stands is can.
    then world _ (c.in_ok-enter_name.ensures.ok world tree body stands is can.enters) can.settles)
    c.settle.ensures.ok
