use Rattle.std.proofs.Common.{◌++◌, Bool, ℕ, List, Ok, subst, ◌∙◌, sym, ap}
use Rattle.rpc.specs.Records.{IsPart}
use Rattle.rpc.specs.Cutting.{HasScanned, taken_text, text_of}
use Rattle.rpc.proofs.EachCut.{empty_or_begun, takes_some}
use Rattle.rpc.proofs.records.Records.next.Goals as goal

pub returns-clause-begun : goal.returns-clause-begun
returns-clause-begun c =
    let tells_stage = subst (λ (b : Bool). HasScanned (Ok b) c.scan.new.self) c.if-branch.false c.in_ok-scan.ensures.tells_stage in
    empty_or_begun c.args.self.now (subst IsPart (c.scan.ensures.text ∙ c.self.view_is) tells_stage.0)

pub returns-then-branch-clause-shorter : goal.returns-then-branch-clause-shorter
returns-then-branch-clause-shorter c =
    let found = c.in_ok-hand_out.ensures.found in
    takes_some (taken_text c.scan.new.self.taken.items) _ c.args.self.now (text_of c.hand_out.new.self) found.0
    (sym (c.scan.ensures.text ∙ c.self.view_is)
    ∙ ap (λ (t : List ℕ). taken_text c.scan.new.self.taken.items ++ t) (sym found.1))
