-- A worker that waits for a place waits for the procedure of its own call.
use Rattle.std.proofs.Common.{◌≡◌, inl, inr, ℕ, zero, suc, ◌+◌, ◌≤◌, ap, sym, ◌∙◌, refl, subst, arith}
use Rattle.std.proofs.Common.{Bool, true, false, if◌then◌else◌, ◌||◌, nat_eq, Option, Some, None, Ok, Err}
use Rattle.std.proofs.Common.{List, [], length, slice_get}
use Rattle.std.proofs.lemmas.Bool.{cases_lt}
use Rattle.std.proofs.lemmas.Bool.Decides.{nat_tests}
use Rattle.disk.specs.declared.block.BlockNo.{BlockNo}
use Rattle.nfs_spec.specs.Model.Calls.{is_answered_stable}
use Rattle.store_promise.proofs.RulesAre.{own_step}
use Rattle.store_promise.specs.declared.events.Committing.{Committing}
use Rattle.store_promise.specs.declared.events.Committing.TheVariants as committing
use Rattle.store_promise.specs.declared.events.Event.{Event}
use Rattle.store_promise.specs.declared.events.Event.TheVariants as event
use Rattle.store_promise.specs.declared.events.Step.{Step}
use Rattle.store_promise.specs.declared.events.Step.TheVariants as step
use Rattle.store_promise.specs.declared.events.LockAnswer.{LockAnswer}
use Rattle.store_promise.specs.declared.events.LockAnswer.TheVariants as lock_answer
use Rattle.store_promise.specs.declared.transcript.Committed.{Committed}
use Rattle.store_promise.specs.History.{IsHistory, WasCommitted}
use Rattle.store_promise.specs.Progress.{Again, At, Begun, Called, Idle, Job, Planning, Progress, Read, Reading}
use Rattle.store_promise.specs.Progress.{Refused, Stage, Taken, Waiting, after_claimed, after_commit}
use Rattle.store_promise.specs.LockRequests.{is_barred}
use Rattle.store_promise.specs.Progress.{after_planning, lock_request_of, deferred}
use Rattle.store_promise.specs.declared.lock_requests.LockRequest.{LockRequest}
use Rattle.store_promise.specs.declared.lock_requests.LockRequest.TheVariants as lock_request
use Rattle.store_promise.specs.Progress.{after_waiting, after_wanted, going_on, progressed, stage_after}
use Rattle.store_promise.specs.Schedule.{IsStepOfRead, Schedule, Setting, RunState}
use Rattle.store_promise.specs.EventSteps.{AreTaken, IsTaken}
use Rattle.store_promise.specs.Schedule.{progress_before}
use Rattle.store_promise.specs.Schedule.{state_after, state_before}
use Rattle.store_promise.specs.Transcript.{Transcript, committed_at, made, step_at}
use Rattle.store_promise.proofs.RunStates.{get_within, state_next_is}

-- ---- the step that brings a worker to wait

-- it waited for the place before, or its step has committed there
data Waits (stage : Stage) (made : Step) (place : ℕ) : Type 0 where
  still : stage ≡ Waiting place → Waits stage made place
  since : (begun : Begun) (blocks : List BlockNo) → stage ≡ Planning begun
      → made ≡ step.Commit blocks (committing.Committed (record { 0 = place })) → Waits stage made place

module _ (place : ℕ) where
  abbrev there : Option Stage
  there = Some (Waiting place)

  off : (begun : Begun) (request : LockRequest) → Some (deferred begun request) ≡ there → ⊥
  off begun request is = by (is_barred request begun.taken) is
    where
      by : (above : Bool) → Some (if above then Again begun (Some request) else Planning begun) ≡ there → ⊥
      by true is = cc
      by false is = cc

  by_wanted : (begun : Begun) (taken : Taken) (answer : LockAnswer)
      → Some (after_wanted begun taken answer) ≡ there → ⊥
  by_wanted begun taken lock_answer.Held is = cc
  by_wanted begun taken lock_answer.Fetch is = cc
  by_wanted begun taken lock_answer.Busy is = off begun (lock_request_of taken) is
  by_wanted begun taken lock_answer.Loading is = off begun (lock_request_of taken) is
  by_wanted begun taken lock_answer.Outside is = cc
  by_wanted begun taken (lock_answer.NoMemory error) is = cc

  by_claimed : (begun : Begun) (block : BlockNo) (answer : LockAnswer)
      → Some (after_claimed begun block answer) ≡ there → ⊥
  by_claimed begun block lock_answer.Held is = cc
  by_claimed begun block lock_answer.Fetch is = cc
  by_claimed begun block lock_answer.Busy is = off begun (lock_request.Claim block) is
  by_claimed begun block lock_answer.Loading is = off begun (lock_request.Claim block) is
  by_claimed begun block lock_answer.Outside is = cc
  by_claimed begun block (lock_answer.NoMemory error) is = cc

  by_commit : (stable : Bool) (begun : Begun) (blocks : List BlockNo) (answer : Committing)
      → after_commit stable begun answer ≡ there → Waits (Planning begun) (step.Commit blocks answer) place
  by_commit true begun blocks (committing.Committed seq) is =
      let same : seq.0 ≡ place = cc in
      since begun blocks refl (ap (λ (n : ℕ). step.Commit blocks
      (committing.Committed (record { 0 = n }))) same)
  by_commit false begun blocks (committing.Committed seq) is = cc
  by_commit stable begun blocks committing.Full is = cc
  by_commit stable begun blocks committing.Foreign is = cc
  by_commit stable begun blocks (committing.NoMemory error) is = cc
  by_commit stable begun blocks committing.Broken is = cc
  by_commit stable begun blocks committing.Spent is = cc

  by_planning : (stable : Bool) (begun : Begun) (made : Step) → after_planning stable begun made ≡ there
      → Waits (Planning begun) made place
  by_planning stable begun (step.Wanted addr mode answer) is =
      absurd (by_wanted begun (record { addr = addr; mode = mode }) answer is)
  by_planning stable begun (step.Claimed block answer) is = absurd (by_claimed begun block answer is)
  by_planning stable begun (step.Commit blocks answer) is = by_commit stable begun blocks answer is
  by_planning stable begun (step.Ended why) is = cc
  by_planning stable begun _ is = cc

  waiting_still : (done : Bool) (at : ℕ) → (if done then None else Some (Waiting at)) ≡ there
      → Waiting at ≡ Waiting place
  waiting_still true at is = cc
  waiting_still false at is = cc

  by_waiting : (broken : Bool) (at : ℕ) (made : Step) → after_waiting broken at made ≡ there
      → Waiting at ≡ Waiting place
  by_waiting broken at (step.Stable seq settled) is = waiting_still (settled || broken) at is
  by_waiting broken at _ is = cc

  by_called : (broken stable : Bool) (known : List LockRequest) (made : Step)
      → stage_after broken stable made (Called known) ≡ there → ⊥
  by_called broken stable known (step.Begun (Ok number)) is = cc
  by_called broken stable known (step.Begun (Err why)) is = cc
  by_called broken stable known _ is = cc

  by_reading : (broken stable : Bool) (begun : Begun) (taken : Taken) (made : Step)
      → stage_after broken stable made (Reading begun taken) ≡ there → ⊥
  by_reading broken stable begun taken (step.Read block ok) is = cc
  by_reading broken stable begun taken _ is = cc

  by_stage : (broken stable : Bool) (made : Step) (stage : Stage) → stage_after broken stable made stage ≡ there
      → Waits stage made place
  by_stage broken stable made (Called known) is = absurd (by_called broken stable known made is)
  by_stage broken stable made (Planning begun) is = by_planning stable begun made is
  by_stage broken stable made (Reading begun taken) is = absurd (by_reading broken stable begun taken made is)
  by_stage broken stable made (Read begun taken true) is = cc
  by_stage broken stable made (Read begun taken false) is = cc
  by_stage broken stable made (Refused begun why) is = cc
  by_stage broken stable made (Again begun request) is = cc
  by_stage broken stable made (Waiting at) is = still (by_waiting broken at made is)

  going : (one job : Job) (next : Option Stage) → going_on one next ≡ At job (Waiting place)
      → (one ≡ job) × (next ≡ there)
  going one job None is = cc
  going one job (Some stage) is =
      let jobs : one ≡ job = cc in
      let stages : stage ≡ Waiting place = cc in
      (jobs, ap (λ (s : Stage). Some s) stages)

  -- so it is with a job
  pub data WaitsWith (so_far : Progress) (made : Step) (job : Job) : Type 0 where
    waited : so_far ≡ At job (Waiting place) → WaitsWith so_far made job
    commits : (begun : Begun) (blocks : List BlockNo) → so_far ≡ At job (Planning begun)
        → made ≡ step.Commit blocks (committing.Committed (record { 0 = place })) → WaitsWith so_far made job

  by_progress : (broken : Bool) (made : Step) (so_far : Progress) (job : Job)
      → progressed broken made so_far ≡ At job (Waiting place) → WaitsWith so_far made job
  by_progress broken made Idle job is = cc
  by_progress broken made (At one stage) job is =
      let both = going one job (stage_after broken (is_answered_stable one.call) made stage) is in
      by_case both.0 (by_stage broken (is_answered_stable one.call) made stage both.1)
    where
      by_case : one ≡ job → Waits stage made place → WaitsWith (At one stage) made job
      by_case same (still at) = waited (λ i. At (same i) (at i))
      by_case same (since begun blocks at made_is) = commits begun blocks (λ i. At (same i) (at i)) made_is

  -- ---- an event

  pub data Came (run_state : RunState) (now : Event) (m : Option Step) (worker : ℕ) (job : Job) : Type 0 where
    before : run_state.workers worker ≡ At job (Waiting place) → Came run_state now m worker job
    with_it : (begun : Begun) (blocks : List BlockNo) → now ≡ event.Work worker
        → run_state.workers worker ≡ At job (Planning begun)
        → m ≡ Some (step.Commit blocks (committing.Committed (record { 0 = place })))
        → Came run_state now m worker job

  module _ (run_state : RunState) (worker : ℕ) (job : Job) where
    same_number : (number : ℕ) → nat_eq worker number ≡ true → number ≡ worker
    same_number number is = grind (arith, nat_tests)

    by_call : (one : Job) (now : Event) (m : Option Step) (same : Bool)
        → (if same then At one (Called []) else run_state.workers worker) ≡ At job (Waiting place)
        → Came run_state now m worker job
    by_call one now m true is = cc
    by_call one now m false is = before is

    by_work : (number : ℕ) (one : Step) (same : Bool) → nat_eq worker number ≡ same
        → (if same then progressed run_state.log.broken one (run_state.workers number) else run_state.workers worker)
        ≡ At job (Waiting place) → Came run_state (event.Work number) (Some one) worker job
    by_work number one false same is = before is
    by_work number one true same is =
        let numbers = same_number number same in
        by_case numbers (by_progress run_state.log.broken one (run_state.workers worker) job
        (ap (λ (n : ℕ). progressed run_state.log.broken one (run_state.workers n)) (sym numbers) ∙ is))
      where
        by_case : number ≡ worker → WaitsWith (run_state.workers worker) one job
            → Came run_state (event.Work number) (Some one) worker job
        by_case numbers (waited so) = before so
        by_case numbers (commits begun blocks so made_is) =
            with_it begun blocks (ap event.Work numbers) so (ap (λ (s : Step). Some s) made_is)

    no_read : (number : ℕ) (one : Step) (begun : Begun) (o : Setting) (workers : ℕ)
        → IsTaken o workers run_state (event.Read number) (Some one) → number ≡ worker
        → run_state.workers worker ≡ At job (Planning begun) → ⊥
    no_read number one begun o workers taken numbers planning = elim (cases_lt number workers) [
      | inl less ↦
          let none = subst (λ p. IsStepOfRead p (Some one)) (ap run_state.workers numbers ∙ planning)
          (own_step o workers run_state (event.Read number) (Some one) taken less) in cc
      | inr beyond_all ↦ let none = taken.others (λ less. omega (arith, less, beyond_all)) in cc
    ]

    by_own_read : (number : ℕ) (one : Step) (o : Setting) (workers : ℕ)
        → IsTaken o workers run_state (event.Read number) (Some one) → (same : Bool) → nat_eq worker number ≡ same
        → (if same then progressed run_state.log.broken one (run_state.workers number) else run_state.workers worker)
        ≡ At job (Waiting place) → Came run_state (event.Read number) (Some one) worker job
    by_own_read number one o workers taken false same is = before is
    by_own_read number one o workers taken true same is =
        let numbers = same_number number same in
        by_case numbers (by_progress run_state.log.broken one (run_state.workers worker) job
        (ap (λ (n : ℕ). progressed run_state.log.broken one (run_state.workers n)) (sym numbers) ∙ is))
      where
        by_case : number ≡ worker → WaitsWith (run_state.workers worker) one job
            → Came run_state (event.Read number) (Some one) worker job
        by_case numbers (waited so) = before so
        by_case numbers (commits begun blocks so made_is) =
            absurd (no_read number one begun o workers taken numbers so)

  came : (o : Setting) (workers : ℕ) (run_state : RunState) (now : Event) (m : Option Step) (worker : ℕ) (job : Job)
      → IsTaken o workers run_state now m → (state_after run_state now m).workers worker ≡ At job (Waiting place)
      → Came run_state now m worker job
  came o workers run_state now None worker job taken is = before is
  came o workers run_state (event.Call number credential moment call) (Some one) worker job taken is =
      by_call run_state worker job (record { credential = credential; moment = moment; call = call })
      (event.Call number credential moment call) (Some one) (nat_eq worker number) is
  came o workers run_state (event.Work number) (Some one) worker job taken is =
      by_work run_state worker job number one (nat_eq worker number) refl is
  came o workers run_state (event.Read number) (Some one) worker job taken is =
      by_own_read run_state worker job number one o workers taken (nat_eq worker number) refl is
  came o workers run_state event.Log (Some one) worker job taken is = before is
  came o workers run_state event.LogIo (Some one) worker job taken is = before is
  came o workers run_state event.Install (Some one) worker job taken is = before is
  came o workers run_state event.InstIo (Some one) worker job taken is = before is

-- ---- along a run

same_job : (one other : Job) (stage at : Stage) (progress : Progress) → progress ≡ At one stage
    → progress ≡ At other at → one ≡ other
same_job one other stage at progress is so =
    let same : At one stage ≡ At other at = sym is ∙ so in
    cc

same_worker : (one other : ℕ) (found : Option Event) → found ≡ Some (event.Work one)
    → found ≡ Some (event.Work other) → one ≡ other
same_worker one other found is so =
    let same : event.Work one ≡ event.Work other = cc in
    cc

entry_index : (t : Transcript) (place : ℕ) (c : Committed) → committed_at t place ≡ Some c
    → (index : ℕ) × (slice_get t.history index ≡ Some c)
entry_index t zero c is = cc
entry_index t (suc index) c is = (index, is)

module _ (o : Setting) (workers : ℕ) (events : Schedule) (t : Transcript)
    (taken : AreTaken o workers events t.steps) (history : IsHistory events t) (worker : ℕ) (job : Job)
    (place : ℕ) where
  abbrev pub IsItsOwn : Type 0
  IsItsOwn = (c : Committed) × (committed_at t place ≡ Some c) × (c.call ≡ job.call)

  by_entry : (index : ℕ) (blocks : List BlockNo) (begun : Begun) → slice_get events index ≡ Some (event.Work worker)
      → step_at t index ≡ Some (step.Commit blocks (committing.Committed (record { 0 = place })))
      → progress_before events t.steps worker index ≡ At job (Planning begun) → IsItsOwn
  by_entry index blocks begun is_event is_step planning =
      let found = history.whole index place blocks is_step in
      let at = entry_index t place found.0 found.1 in
      let was = history.each at.0 found.0 at.1 in
      (found.0, found.1, call_is found.0 (at.0 + 1) was found.2)
    where
      call_is : (c : Committed) (entry : ℕ) → WasCommitted events t entry c → c.event ≡ index
          → c.call ≡ job.call
      call_is c entry was same =
          let workers_are : c.worker ≡ worker =
          same_worker c.worker worker (slice_get events c.event) was.event
          (ap (slice_get events) same ∙ is_event) in
          let so_far : progress_before events t.steps c.worker c.event ≡ At job (Planning begun) =
          (λ i. progress_before events t.steps (workers_are i) (same i)) ∙ planning in
          was.call ∙ ap (λ (j : Job). j.call)
          (same_job was.job job (Planning was.begun) (Planning begun) _ was.planned so_far)

  pub waits_for_its_own : (index : ℕ) → index ≤ length t.steps
      → progress_before events t.steps worker index ≡ At job (Waiting place) → IsItsOwn
  waits_for_its_own zero within is = cc
  waits_for_its_own (suc index) within is =
      let some_step = get_within t.steps index (omega (arith, within)) in
      let some_event = get_within events index (let few = taken.fewer in omega (arith, within, few)) in
      by_case some_event.0 some_step.0 some_event.1 some_step.1
      (λ so. waits_for_its_own index (omega (arith, within)) so)
      (came place o workers (state_before events t.steps index) some_event.0 some_step.0 worker job
      (taken.each index some_event.0 some_step.0 some_event.1 some_step.1)
      (sym (ap (λ (run_state : RunState). run_state.workers worker)
      (state_next_is events t.steps index some_event.0 some_step.0 some_event.1 some_step.1)) ∙ is))
    where
      by_case : (now : Event) (m : Option Step) → slice_get events index ≡ Some now
          → slice_get t.steps index ≡ Some m
          → (progress_before events t.steps worker index ≡ At job (Waiting place) → IsItsOwn)
          → Came place (state_before events t.steps index) now m worker job → IsItsOwn
      by_case now m is_event is_step earlier (before so) = earlier so
      by_case now m is_event is_step earlier (with_it begun blocks work so made_is) =
          by_entry index blocks begun (is_event ∙ ap (λ (e : Event). Some e) work)
          (ap made is_step ∙ made_is) so
