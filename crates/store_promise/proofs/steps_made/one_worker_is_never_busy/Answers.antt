-- The others have no call, and so have taken nothing.
use Rattle.std.proofs.Common.{◌≡◌, ℕ, ◌<◌, ◌≤◌, inl, inr, arith, true, false, ap}
use Rattle.std.proofs.lemmas.Bool.{cases_lt}
use Rattle.disk.specs.declared.block.BlockNo.{BlockNo}
use Rattle.store_promise.specs.Progress.{Progress, Idle, RangeRequest, has_taken, is_fetching}
use Rattle.store_promise.specs.declared.events.LockAnswer.TheVariants as lock_answer
use Rattle.store_promise.specs.Schedule.{state_before, range_request_at}
use Rattle.store_promise.proofs.RunStates.{planned_step, idle_beyond, only_of_some, lock_answer_is}
use Rattle.store_promise.proofs.steps_made.one_worker_is_never_busy.Goals as goal

takes_nothing : (request : RangeRequest) (progress : Progress) → progress ≡ Idle → has_taken request progress ≡ true → ⊥
takes_nothing request progress idle takes =
    let none : has_taken request progress ≡ false = ap (has_taken request) idle in cc

fetches_nothing : (block : BlockNo) (progress : Progress) → progress ≡ Idle
    → is_fetching block progress ≡ true → ⊥
fetches_nothing block progress idle fetches =
    let none : is_fetching block progress ≡ false = ap (is_fetching block) idle in cc

beyond : (worker other : ℕ) → worker < 1 → (other ≡ worker → ⊥) → 1 ≤ other
beyond worker other less differs = elim (cases_lt other 1) [
  | inl below ↦ absurd (differs (omega (arith, less, below)))
  | inr past ↦ past
]

pub returns-clause-busy : goal.returns-clause-busy
returns-clause-busy c = λ before later tree first index worker events t job begun addr mode is_event is_step
    planning is_preserved.
    let less : worker < 1 = only_of_some is_preserved.setting 1 events t.steps is_preserved.replies.taken index worker _ is_event
    is_step in
    let step = planned_step is_preserved.setting 1 events t.steps is_preserved.replies.taken index worker job begun _ is_event less
    is_step planning in
    let cause = lock_answer_is is_preserved.setting (state_before events t.steps index) worker begun begun.left addr mode lock_answer.Busy
    step in
    takes_nothing (range_request_at addr mode) _
    (idle_beyond is_preserved.setting 1 events t.steps is_preserved.replies.taken cause.other
    (beyond worker cause.other less cause.differs) index) cause.so

pub returns-clause-loading : goal.returns-clause-loading
returns-clause-loading c = λ before later tree first index worker events t job begun addr mode is_event is_step
    planning is_preserved.
    let less : worker < 1 = only_of_some is_preserved.setting 1 events t.steps is_preserved.replies.taken index worker _ is_event
    is_step in
    let step = planned_step is_preserved.setting 1 events t.steps is_preserved.replies.taken index worker job begun _ is_event less
    is_step planning in
    let cause = lock_answer_is is_preserved.setting (state_before events t.steps index) worker begun begun.left addr mode
    lock_answer.Loading step in
    fetches_nothing addr.block _
    (idle_beyond is_preserved.setting 1 events t.steps is_preserved.replies.taken cause.other
    (beyond worker cause.other less cause.differs) index) cause.so
