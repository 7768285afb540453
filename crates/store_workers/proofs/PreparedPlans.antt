-- Lemmas: what was planned for a worker comes next of its state behind that.
use Rattle.std.proofs.Common.{◌≡◌, ◌∙◌, refl, sym, ap, subst, true, true≢false, Option, List, [], ◌∷◌, IfSome}
use Rattle.procs.specs.Planned.{IsPlanOf}
use Rattle.procs.specs.declared.next.Plan.{Plan}
use Rattle.store_promise.specs.declared.lock_requests.LockRequest.{LockRequest}
use Rattle.store_workers.specs.Prepared.{HasReservedFor, IsPrepared, is_planning}
use Rattle.store_workers.specs.Seen.{seen_in}
use Rattle.store_workers.specs.WorkerSteps.{IsNext, with_snap}
use Rattle.store_workers.specs.declared.workers.parts.Job.{Job}
use Rattle.store_workers.specs.declared.workers.parts.Phase.{Phase}
use Rattle.store_workers.specs.declared.workers.parts.Phase.TheVariants.{Idle, Called, Planning}
use Rattle.store_workers.specs.declared.workers.parts.Phase.TheVariants.{Reading, Read}
use Rattle.store_workers.specs.declared.workers.parts.Phase.TheVariants.{Refused, Again, Waiting}
use Rattle.store_workers.specs.declared.workers.parts.State.{State}

planning : (phase : Phase) (left : List LockRequest) → is_planning phase left ≡ true → (phase ≡ Planning) × (left ≡ [])
planning Planning [] is = (refl, refl)
planning Planning (next ∷ later) is = absurd (true≢false (sym is))
planning Idle left is = absurd (true≢false (sym is))
planning Called left is = absurd (true≢false (sym is))
planning Reading left is = absurd (true≢false (sym is))
planning (Read ok) left is = absurd (true≢false (sym is))
planning (Refused why) left is = absurd (true≢false (sym is))
planning Again left is = absurd (true≢false (sym is))
planning (Waiting place) left is = absurd (true≢false (sym is))

pub prepared : (old new : State) (plan : Plan) → is_planning old.phase old.known.left ≡ true → new ≡ with_snap new old
    → seen_in new.work.planner ≡ seen_in old.work.planner → IsNext old plan
    → IfSome old.work.job (λ job. IsPlanOf job.ctx job.call plan) → HasReservedFor plan new → IsPrepared new plan
prepared old new plan plans rest seen next made has_space =
    let at = planning old.phase old.known.left plans in
    let same : new.work.job ≡ old.work.job = ap (λ (s : State). s.work.job) rest in record {
      planning = ap (λ (s : State). s.phase) rest ∙ at.0;
      none = ap (λ (s : State). s.known.left) rest ∙ at.1;
      is_next = record {
        job = next.job;
        job_is = same ∙ next.job_is;
        snap = next.snap;
        snap_is = seen ∙ next.snap_is;
        plan = next.plan;
        is_step = next.is_step;
      };
      made = subst (λ (job : Option Job). IfSome job (λ job. IsPlanOf job.ctx job.call plan)) (sym same) made;
      has_space = has_space;
    }
