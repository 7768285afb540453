-- What is told along the events, one after another.
use Rattle.std.proofs.Common.{◌≡◌, ℕ, zero, suc, ap, sym, ◌∙◌, refl, subst, Bool, true, false, if◌then◌else◌}
use Rattle.std.proofs.Common.{◌<◌, ◌≤◌}
use Rattle.std.proofs.lemmas.Bool.{cases_lt}
use Rattle.std.proofs.Common.{List, [], ◌∷◌, ◌++◌, Option, Some, None, length, take, slice_get, nat_eq, arith}
use Rattle.std.proofs.Common.{◌⊎◌, inl, inr}
use Rattle.std.specs.List.{zip}
use Rattle.std.specs.Option.{option_map}
use Rattle.std.proofs.lemmas.Bool.Decides.{nat_tests}
use Rattle.disk.specs.declared.block.BlockNo.{BlockNo}
use Rattle.objects.specs.declared.addr.Addr.{Addr}
use Rattle.objects.specs.declared.mode.Mode.{Mode}
use Rattle.store_promise.specs.declared.lock_requests.LockRequest.{LockRequest}
use Rattle.store_promise.specs.declared.events.Committing.{Committing}
use Rattle.store_promise.specs.declared.events.LockAnswer.{LockAnswer}
use Rattle.store_promise.specs.declared.events.Event.{Event}
use Rattle.store_promise.specs.declared.events.Event.TheVariants as event
use Rattle.store_promise.specs.declared.events.Step.{Step}
use Rattle.store_promise.specs.declared.events.Step.TheVariants as step
use Rattle.store_promise.specs.Progress.{Begun, Job, Progress, Idle, At, Stage, Called, Planning}
use Rattle.store_promise.specs.Progress.{going_on, progressed}
use Rattle.store_promise.specs.Schedule.{Schedule, Setting, RunState, at_first, state_after, state_along, state_before}
use Rattle.store_promise.specs.Schedule.{AreChanged, IsClaimAnswer, IsCommitting, IsOfOne, IsStepRetakingFirst, IsStepOf}
use Rattle.store_promise.specs.EventSteps.{AreTaken}
use Rattle.store_promise.specs.Schedule.{IsStepOfWork, IsStepWithin, IsLockAnswer, range_request_at}
use Rattle.store_promise.specs.EventSteps.{IsTaken}
use Rattle.store_promise.specs.Schedule.{progress_before, worker_of}
use Rattle.store_promise.specs.Transcript.{Transcript, made, step_at}
use Rattle.store_promise.proofs.RulesAre.{own_step}

abbrev pub Pairs : Type 0
Pairs = List (Event × Option Step)

-- ---- one event more

along_one_more : (run_state : RunState) (pairs : Pairs) (pair : Event × Option Step)
    → state_along run_state (pairs ++ pair ∷ []) ≡ state_after (state_along run_state pairs) pair.0 pair.1
along_one_more run_state [] pair = refl
along_one_more run_state (first ∷ others) pair = along_one_more (state_after run_state first.0 first.1) others pair

pairs_one_more : (events : Schedule) (steps : List (Option Step)) (index : ℕ) (e : Event) (m : Option Step)
    → slice_get events index ≡ Some e → slice_get steps index ≡ Some m
    → take (suc index) (zip events steps) ≡ take index (zip events steps) ++ (e, m) ∷ []
pairs_one_more [] steps index e m is_event is_step = cc
pairs_one_more (one ∷ events) [] index e m is_event is_step = cc
pairs_one_more (one ∷ events) (step ∷ steps) zero e m is_event is_step =
    let same : one ≡ e = cc in
    let so : step ≡ m = cc in
    λ i. (same i, so i) ∷ []
pairs_one_more (one ∷ events) (step ∷ steps) (suc index) e m is_event is_step =
    ap (λ (pairs : Pairs). (one, step) ∷ pairs) (pairs_one_more events steps index e m is_event is_step)

-- after an event is told what it leads to
pub state_next_is : (events : Schedule) (steps : List (Option Step)) (index : ℕ) (e : Event)
    (m : Option Step)
    → slice_get events index ≡ Some e → slice_get steps index ≡ Some m
    → state_before events steps (suc index)
    ≡ state_after (state_before events steps index) e m
state_next_is events steps index e m is_event is_step =
    ap (λ pairs. state_along at_first pairs) (pairs_one_more events steps index e m is_event is_step)
    ∙ along_one_more at_first (take index (zip events steps)) (e, m)

pub step_is : (t : Transcript) (index : ℕ) (one : Step) → step_at t index ≡ Some one
    → slice_get t.steps index ≡ Some (Some one)
step_is t index one is = by_cases (slice_get t.steps index) is
  where
    by_cases : (found : Option (Option Step)) → made found ≡ Some one → found ≡ Some (Some one)
    by_cases None e = cc
    by_cases (Some m) e = ap (λ (o : Option Step). Some o) e

itself : (worker : ℕ) → nat_eq worker worker ≡ true
itself worker = grind (arith, nat_tests)

-- a worker that makes a step goes on by it
pub own_next : (events : Schedule) (steps : List (Option Step)) (index worker : ℕ) (one : Step)
    → slice_get events index ≡ Some (event.Work worker) → slice_get steps index ≡ Some (Some one)
    → progress_before events steps worker (suc index)
    ≡ progressed (state_before events steps index).log.broken one (progress_before events steps worker index)
own_next events steps index worker one is_event is_step =
    ap (λ (run_state : RunState). run_state.workers worker) (state_next_is events steps index _ _ is_event is_step)
    ∙ ap (λ b. if b then progressed (state_before events steps index).log.broken one
    (progress_before events steps worker index) else progress_before events steps worker index)
    (itself worker)

-- ---- each job was handed over

abbrev pub handed : ℕ → Job → Event
handed worker job = event.Call worker job.credential job.moment job.call

abbrev HasJob : Progress → Job → Type 0
HasJob progress job = (stage : Stage) × (progress ≡ At job stage)

goes_on_with : (one job : Job) (next : Option Stage) (stage : Stage) → going_on one next ≡ At job stage
    → one ≡ job
goes_on_with one job None stage e = cc
goes_on_with one job (Some next) stage e = cc

had_before : (broken : Bool) (one : Step) (progress : Progress) (job : Job) (stage : Stage)
    → progressed broken one progress ≡ At job stage → HasJob progress job
had_before broken one Idle job stage e = cc
had_before broken one (At other at) job stage e = (
  at,
  ap (λ (j : Job). At j at) (goes_on_with other job _ stage e),
)

module _ (run_state : RunState) (worker : ℕ) (job : Job) where
  abbrev Comes : Event → Type 0
  Comes e = HasJob (run_state.workers worker) job ⊎ (e ≡ handed worker job)

  by_call : (number : ℕ) (one : Job) (same : Bool) → nat_eq worker number ≡ same → (stage : Stage)
      → (if same then At one (Called []) else run_state.workers worker) ≡ At job stage
      → Comes (handed number one)
  by_call number one true same stage e =
      let numbers : worker ≡ number = grind (arith, nat_tests) in
      let jobs : one ≡ job = cc in
      inr (λ i. handed (sym numbers i) (jobs i))
  by_call number one false same stage e = inl (stage, e)

  by_own : (number : ℕ) (one : Step) (e : Event) (same : Bool) → nat_eq worker number ≡ same
      → (stage : Stage)
      → (if same then progressed run_state.log.broken one (run_state.workers number) else run_state.workers worker)
      ≡ At job stage
      → Comes e
  by_own number one e true same stage is =
      let numbers : worker ≡ number = grind (arith, nat_tests) in
      inl (had_before run_state.log.broken one (run_state.workers worker) job stage
      (subst (λ n. progressed run_state.log.broken one (run_state.workers n) ≡ At job stage) (sym numbers) is))
  by_own number one e false same stage is = inl (stage, is)

  comes : (e : Event) (m : Option Step) (stage : Stage) → (state_after run_state e m).workers worker ≡ At job stage
      → Comes e
  comes e None stage is = inl (stage, is)
  comes (event.Call number credential moment call) (Some one) stage is =
      by_call number (record { credential = credential; moment = moment; call = call })
      (nat_eq worker number) refl stage is
  comes (event.Work number) (Some one) stage is =
      by_own number one (event.Work number) (nat_eq worker number) refl stage is
  comes (event.Read number) (Some one) stage is =
      by_own number one (event.Read number) (nat_eq worker number) refl stage is
  comes event.Log (Some one) stage is = inl (stage, is)
  comes event.LogIo (Some one) stage is = inl (stage, is)
  comes event.Install (Some one) stage is = inl (stage, is)
  comes event.InstIo (Some one) stage is = inl (stage, is)

abbrev WasAmong : Pairs → Event → Type 0
WasAmong pairs e = (at : ℕ) × (m : Option Step) × (slice_get pairs at ≡ Some (e, m))

along_comes : (pairs : Pairs) (run_state : RunState) (worker : ℕ) (job : Job) (stage : Stage)
    → (state_along run_state pairs).workers worker ≡ At job stage
    → HasJob (run_state.workers worker) job ⊎ WasAmong pairs (handed worker job)
along_comes [] run_state worker job stage is = inl (stage, is)
along_comes (first ∷ others) run_state worker job stage is =
    later (along_comes others (state_after run_state first.0 first.1) worker job stage is)
  where
    now : HasJob (run_state.workers worker) job ⊎ (first.0 ≡ handed worker job)
        → HasJob (run_state.workers worker) job ⊎ WasAmong (first ∷ others) (handed worker job)
    now (inl had) = inl had
    now (inr same) = inr (0, first.1, λ i. Some (same i, first.1))

    later : HasJob ((state_after run_state first.0 first.1).workers worker) job ⊎ WasAmong others (handed worker job)
        → HasJob (run_state.workers worker) job ⊎ WasAmong (first ∷ others) (handed worker job)
    later (inl had) = now (comes run_state worker job first.0 first.1 had.0 had.1)
    later (inr found) = inr (suc found.0, found.1, found.2)

first_is : (one other : Event × Option Step) → Some one ≡ Some other → Some one.0 ≡ Some other.0
first_is one other same = ap (λ (o : Option (Event × Option Step)). option_map
    (λ (p : Event × Option Step). p.0) o) same

event_at : (events : Schedule) (steps : List (Option Step)) (index at : ℕ) (e : Event) (m : Option Step)
    → slice_get (take index (zip events steps)) at ≡ Some (e, m) → slice_get events at ≡ Some e
event_at [] steps zero at e m is = cc
event_at [] steps (suc index) at e m is = cc
event_at (one ∷ events) [] zero at e m is = cc
event_at (one ∷ events) [] (suc index) at e m is = cc
event_at (one ∷ events) (step ∷ steps) zero at e m is = cc
event_at (one ∷ events) (step ∷ steps) (suc index) zero e m is =
    first_is (one, step) (e, m) is
event_at (one ∷ events) (step ∷ steps) (suc index) (suc at) e m is = event_at events steps index at e m is

-- a worker has a call only where an event handed it that call
pub was_handed : (events : Schedule) (steps : List (Option Step)) (index worker : ℕ) (job : Job)
    (stage : Stage)
    → progress_before events steps worker index ≡ At job stage
    → (at : ℕ) × (slice_get events at ≡ Some (handed worker job))
was_handed events steps index worker job stage is =
    found (along_comes (take index (zip events steps)) at_first worker job stage is)
  where
    found : HasJob Idle job ⊎ WasAmong (take index (zip events steps)) (handed worker job)
        → (at : ℕ) × (slice_get events at ≡ Some (handed worker job))
    found (inl had) = let never = had.1 in cc
    found (inr among) = (among.0, event_at events steps index among.0 (handed worker job) among.1 among.2)

-- ---- past the last event, or the last step, nothing more is told

pub no_event : (events : Schedule) (steps : List (Option Step)) (index : ℕ) → slice_get events index ≡ None
    → take (suc index) (zip events steps) ≡ take index (zip events steps)
no_event [] steps zero is = refl
no_event [] steps (suc index) is = refl
no_event (one ∷ events) [] zero is = refl
no_event (one ∷ events) [] (suc index) is = refl
no_event (one ∷ events) (step ∷ steps) zero is = cc
no_event (one ∷ events) (step ∷ steps) (suc index) is =
    ap (λ (pairs : Pairs). (one, step) ∷ pairs) (no_event events steps index is)

pub no_step : (events : Schedule) (steps : List (Option Step)) (index : ℕ) → slice_get steps index ≡ None
    → take (suc index) (zip events steps) ≡ take index (zip events steps)
no_step [] steps zero is = refl
no_step [] steps (suc index) is = refl
no_step (one ∷ events) [] zero is = refl
no_step (one ∷ events) [] (suc index) is = refl
no_step (one ∷ events) (step ∷ steps) zero is = cc
no_step (one ∷ events) (step ∷ steps) (suc index) is =
    ap (λ (pairs : Pairs). (one, step) ∷ pairs) (no_step events steps index is)

-- ---- with something left to be taken again, or nothing, each answer has its cause

module _ (o : Setting) (run_state : RunState) (worker : ℕ) (begun : Begun) where
  pub lock_answer_is : (left : List LockRequest) (addr : Addr) (mode : Mode) (answer : LockAnswer)
      → IsStepRetakingFirst left o run_state worker begun (step.Wanted addr mode answer)
      → IsLockAnswer run_state worker begun (range_request_at addr mode) answer
  lock_answer_is [] addr mode answer is = is.1
  lock_answer_is (next ∷ later) addr mode answer is = is.1

  pub claim_answer_is : (left : List LockRequest) (block : BlockNo) (answer : LockAnswer)
      → IsStepRetakingFirst left o run_state worker begun (step.Claimed block answer)
      → IsClaimAnswer run_state worker begun block answer
  claim_answer_is [] block answer is = is.1
  claim_answer_is (next ∷ later) block answer is = is.1

  pub commit_is : (left : List LockRequest) (blocks : List BlockNo) (answer : Committing)
      → IsStepRetakingFirst left o run_state worker begun (step.Commit blocks answer)
      → AreChanged begun blocks × IsCommitting o run_state.log blocks answer
  commit_is [] blocks answer is = is
  commit_is (next ∷ later) blocks answer is = absurd is

-- ---- what is taken is what may be

module _ (o : Setting) (workers : ℕ) (events : Schedule) (steps : List (Option Step))
    (taken : AreTaken o workers events steps) where
  -- a step of a worker with a transaction is one that it may make
  pub planned_step : (index worker : ℕ) (job : Job) (begun : Begun) (one : Step)
      → slice_get events index ≡ Some (event.Work worker) → worker < workers
      → slice_get steps index ≡ Some (Some one)
      → progress_before events steps worker index ≡ At job (Planning begun)
      → IsStepWithin o (state_before events steps index) worker begun one
  planned_step index worker job begun one is_event less is_step planning =
      subst (λ p. IsStepOfWork o (state_before events steps index) worker p (Some one)) planning
      (own_step o workers _ _ _ (taken.each index (event.Work worker) (Some one) is_event is_step) less)

  -- a step is made only of a worker that is there
  pub only_of_some : (index worker : ℕ) (one : Step) → slice_get events index ≡ Some (event.Work worker)
      → slice_get steps index ≡ Some (Some one) → worker < workers
  only_of_some index worker one is_event is_step = elim (cases_lt worker workers) [
    | inl less ↦ less
    | inr past ↦
        let none = (taken.each index (event.Work worker) (Some one) is_event is_step).others
        (λ less. omega (arith, less, past)) in cc
  ]

  module _ (other : ℕ) (past : workers ≤ other) where
    abbrev stays : RunState → Type 0
    stays run_state = run_state.workers other ≡ Idle

    by_worker : (run_state : RunState) (number : ℕ) (progress : Progress) (same : Bool)
        → nat_eq other number ≡ same → number < workers → stays run_state
        → (if same then progress else run_state.workers other) ≡ Idle
    by_worker run_state number progress true is less idle =
        absurd (above number (grind (arith, nat_tests)) less)
      where
        above : (number : ℕ) → other ≡ number → number < workers → ⊥
        above number same less = omega (arith, same, less, past)
    by_worker run_state number progress false is less idle = idle

    one_of : (run_state : RunState) (number : ℕ) (e : Event) (one : Step) → worker_of e ≡ Some number
        → IsTaken o workers run_state e (Some one) → number < workers
    one_of run_state number e one is own = elim (cases_lt number workers) [
      | inl less ↦ less
      | inr far ↦
          let none = own.others (λ its.
          let less : number < workers = subst (IsOfOne workers) is its in omega (arith, less, far)) in cc
    ]

    stays_after : (run_state : RunState) (e : Event) (m : Option Step) → IsTaken o workers run_state e m → stays run_state
        → stays (state_after run_state e m)
    stays_after run_state e None own idle = idle
    stays_after run_state (event.Call number credential moment call) (Some one) own idle =
        by_worker run_state number _ (nat_eq other number) refl (one_of run_state number _ one refl own) idle
    stays_after run_state (event.Work number) (Some one) own idle =
        by_worker run_state number _ (nat_eq other number) refl (one_of run_state number _ one refl own) idle
    stays_after run_state (event.Read number) (Some one) own idle =
        by_worker run_state number _ (nat_eq other number) refl (one_of run_state number _ one refl own) idle
    stays_after run_state event.Log (Some one) own idle = idle
    stays_after run_state event.LogIo (Some one) own idle = idle
    stays_after run_state event.Install (Some one) own idle = idle
    stays_after run_state event.InstIo (Some one) own idle = idle

    same_state_between : (index : ℕ) → take (suc index) (zip events steps) ≡ take index (zip events steps)
        → stays (state_before events steps index) → stays (state_before events steps (suc index))
    same_state_between index is idle = ap (λ pairs. (state_along at_first pairs).workers other) is ∙ idle

    by_step : (index : ℕ) (e : Event) → slice_get events index ≡ Some e → (m : Option (Option Step))
        → slice_get steps index ≡ m → stays (state_before events steps index)
        → stays (state_before events steps (suc index))
    by_step index e is_event None is_step idle = same_state_between index (no_step events steps index is_step) idle
    by_step index e is_event (Some m) is_step idle =
        ap (λ (run_state : RunState). run_state.workers other) (state_next_is events steps index e m is_event is_step)
        ∙ stays_after (state_before events steps index) e m (taken.each index e m is_event is_step) idle

    by_event : (index : ℕ) (e : Option Event) → slice_get events index ≡ e
        → stays (state_before events steps index) → stays (state_before events steps (suc index))
    by_event index None is_event idle = same_state_between index (no_event events steps index is_event) idle
    by_event index (Some e) is_event idle = by_step index e is_event (slice_get steps index) refl idle

    -- a worker that isn't there has no call
    pub idle_beyond : (index : ℕ) → stays (state_before events steps index)
    idle_beyond zero = refl
    idle_beyond (suc index) = by_event index (slice_get events index) refl (idle_beyond index)

-- ---- a step is one that its event may make

module _ (o : Setting) (workers : ℕ) (run_state : RunState) (e : Event) (one : Step)
    (taken : IsTaken o workers run_state e (Some one)) where
  by_number : (of : Option ℕ) → worker_of e ≡ of → IsStepOf o run_state e (Some one)
  by_number None is = own_step o workers run_state e (Some one) taken (subst (IsOfOne workers) (sym is) tt)
  by_number (Some number) is = elim (cases_lt number workers) [
    | inl less ↦ own_step o workers run_state e (Some one) taken (subst (IsOfOne workers) (sym is) less)
    | inr past ↦
        let none : Some one ≡ None = taken.others (λ its.
        let less : number < workers = subst (IsOfOne workers) is its in omega (arith, less, past)) in
        cc
  ]

  pub may_be : IsStepOf o run_state e (Some one)
  may_be = by_number (worker_of e) refl

-- there is one of each index within a list
pub get_within : {X : Type 0} (xs : List X) (index : ℕ) → index < length xs → (x : X)
    × (slice_get xs index ≡ Some x)
get_within [] index less = absurd (omega (arith, less))
get_within (x ∷ xs) zero less = (x, refl)
get_within (x ∷ xs) (suc index) less = get_within xs index (omega (arith, less))
