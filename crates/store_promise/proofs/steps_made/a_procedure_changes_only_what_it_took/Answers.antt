use Rattle.std.proofs.Common.{◌≡◌, ◌∙◌, ap, sym}
use Rattle.objects.specs.declared.mode.Mode.TheVariants as modes
use Rattle.store_promise.specs.Progress.{At, Begun, Job, Planning, takes}
use Rattle.store_promise.specs.Schedule.{range_request_at}
use Rattle.store_promise.proofs.steps_made.a_procedure_changes_only_what_it_took.Goals as goal

same_begun : (one other : Job) (a b : Begun) → At one (Planning a) ≡ At other (Planning b) → a ≡ b
same_begun one other a b same = let stage : Planning a ≡ Planning b = cc in cc

pub returns : goal.returns
returns c =
    λ before later tree first workers index events t entry job begun addr there planned within free is_preserved.
    let own = is_preserved.replies.changes index entry there in
    let same = same_begun job own.job begun own.begun (sym planned ∙ own.planned) in
    own.others addr within (sym (ap (λ (b : Begun). takes (range_request_at addr modes.Shared) b) same) ∙ free)
