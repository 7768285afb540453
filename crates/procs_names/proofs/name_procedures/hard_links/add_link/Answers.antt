use Rattle.std.proofs.lemmas.Result.{MatchResult-weaker}
use Rattle.procs_names.proofs.name_procedures.hard_links.add_link.Goals as goal

pub returns-clause-resumable : goal.returns-clause-resumable
returns-clause-resumable g c =
    MatchResult-weaker c.gain_link.result c.gain_link.ensures.resumable (λ x t. t)
    (λ suspend then world tree body stands is can.
    then world _ (c.in_ok-enter_name.ensures.ok world tree body stands is can))
