use Rattle.std.proofs.Common.{Bool, Ok, subst, ◌∙◌}
use Rattle.rpc.specs.Cutting.{HasScanned}
use Rattle.rpc.proofs.records.Records.held.Goals as goal

pub returns-clause-waits : goal.returns-clause-waits
returns-clause-waits c =
    let tells_stage = subst (λ (b : Bool). HasScanned (Ok b) c.scan.new.self) c.if-branch.false c.in_ok-scan.ensures.tells_stage in
    (tells_stage.0, c.held.ensures ∙ tells_stage.1)
