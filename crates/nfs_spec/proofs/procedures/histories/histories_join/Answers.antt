use Rattle.nfs_spec.proofs.ProceduresLemmas.Joined.{join, split}
use Rattle.nfs_spec.proofs.procedures.histories.histories_join.Goals as goal

pub returns : goal.returns
returns c tree next first second =
    (split tree next first second, λ a. join tree a.0 next first second a.1 a.2)
