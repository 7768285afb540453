use Rattle.std.proofs.Common.{◌≡◌, ◌∙◌, List, Some, ap, sym}
use Rattle.disk.specs.declared.block.BlockNo.{BlockNo}
use Rattle.circ.specs.Log.Log.{is_among}
use Rattle.store_promise.specs.declared.events.Committing.{Committing}
use Rattle.store_promise.specs.declared.events.Step.TheVariants as step
use Rattle.store_promise.proofs.steps_made.a_procedure_changes_only_what_it_names.Goals as goal

same_named : (named others : List BlockNo) (a b : Committing)
    → Some (step.Commit named a) ≡ Some (step.Commit others b) → named ≡ others
same_named named others a b same = cc

pub returns : goal.returns
returns c =
    λ before later tree first workers index events t entry named answer block there made within lacks is_preserved.
    let own = is_preserved.replies.changes index entry there in
    let same = same_named named own.named answer _ (sym made ∙ own.step) in
    own.unnamed block within (sym (ap (λ (blocks : List BlockNo). is_among block blocks) same) ∙ lacks)
