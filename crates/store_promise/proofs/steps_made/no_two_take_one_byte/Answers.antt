use Rattle.std.proofs.Common.{◌≡◌, ◌∙◌, ◌⊎◌, inl, inr, ℕ, subst, sym, true≢false, alloc_error}
use Rattle.store_promise.specs.declared.events.LockAnswer.{LockAnswer}
use Rattle.store_promise.specs.declared.events.LockAnswer.TheVariants as lock_answer
use Rattle.store_promise.specs.Progress.{Begun, RangeRequest}
use Rattle.store_promise.specs.Schedule.{IsLeftFree, IsLockAnswer, RunState, state_before, whole_block_request, range_request_at}
use Rattle.store_promise.proofs.RunStates.{claim_answer_is, planned_step, lock_answer_is}
use Rattle.store_promise.proofs.steps_made.no_two_take_one_byte.Goals as goal

-- what is answered so is left free by the others
free_of : (run_state : RunState) (worker : ℕ) (begun : Begun) (request : RangeRequest) (answer : LockAnswer)
    → (answer ≡ lock_answer.Held) ⊎ (answer ≡ lock_answer.Fetch) ⊎ (answer ≡ lock_answer.NoMemory alloc_error) → IsLockAnswer run_state worker begun request answer
    → IsLeftFree run_state worker request
free_of run_state worker begun request answer (inl held) is = subst (IsLockAnswer run_state worker begun request) held is
free_of run_state worker begun request answer (inr (inr refused)) is = subst (IsLockAnswer run_state worker begun request) refused is
free_of run_state worker begun request answer (inr (inl fetch)) is =
    let absent : IsLockAnswer run_state worker begun request lock_answer.Fetch = subst (IsLockAnswer run_state worker begun request) fetch is in absent.0

pub returns-clause-wanted : goal.returns-clause-wanted
returns-clause-wanted c =
    λ before later tree first workers index worker other events t job begun addr mode answer is_event less differs
    is_step met planning taken is_preserved.
    let step = planned_step is_preserved.setting workers events t.steps is_preserved.replies.taken index worker job begun _ is_event less
    is_step planning in
    let run_state = state_before events t.steps index in
    let left = free_of run_state worker begun (range_request_at addr mode) answer met
    (lock_answer_is is_preserved.setting run_state worker begun begun.left addr mode answer step) in
    true≢false (sym taken ∙ left.free other differs)

pub returns-clause-fetched : goal.returns-clause-fetched
returns-clause-fetched c =
    λ before later tree first workers index worker other events t job begun addr mode answer is_event less differs
    is_step met planning fetching is_preserved.
    let step = planned_step is_preserved.setting workers events t.steps is_preserved.replies.taken index worker job begun _ is_event less
    is_step planning in
    let run_state = state_before events t.steps index in
    let left = free_of run_state worker begun (range_request_at addr mode) answer met
    (lock_answer_is is_preserved.setting run_state worker begun begun.left addr mode answer step) in
    true≢false (sym fetching ∙ left.settled other differs)

pub returns-clause-claimed : goal.returns-clause-claimed
returns-clause-claimed c =
    λ before later tree first workers index worker other events t job begun block is_event less differs is_step
    planning taken is_preserved.
    let step = planned_step is_preserved.setting workers events t.steps is_preserved.replies.taken index worker job begun _ is_event less
    is_step planning in
    let run_state = state_before events t.steps index in
    let left : IsLeftFree run_state worker (whole_block_request block) =
    claim_answer_is is_preserved.setting run_state worker begun begun.left block lock_answer.Held step in
    true≢false (sym taken ∙ left.free other differs)
