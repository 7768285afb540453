-- The rules of the steps of a run, and the steps that its events may make.
use Rattle.std.proofs.Common.{◌≡◌, refl, sym, ap, subst, true≢false, ℕ, Bool, true, false, List, [], ◌∷◌}
use Rattle.std.proofs.Common.{◌∙◌, Option, Some, None}
use Rattle.disk.specs.declared.block.BlockNo.{BlockNo}
use Rattle.nfs_types.specs.declared.call.Call.{Call}
use Rattle.nfs_types.specs.declared.ctx.Credential.{Credential}
use Rattle.nfs_types.specs.declared.ctx.Moment.{Moment}
use Rattle.nfs_spec.specs.Model.Calls.{begins_transaction}
use Rattle.store_promise.specs.declared.lock_requests.LockRequest.{LockRequest}
use Rattle.store_promise.specs.declared.lock_requests.LockRequest.TheVariants as lock_request
use Rattle.store_promise.specs.declared.events.Ending.TheVariants as ending
use Rattle.store_promise.specs.declared.events.Event.{Event}
use Rattle.store_promise.specs.declared.events.Event.TheVariants as event
use Rattle.store_promise.specs.declared.events.Step.{Step}
use Rattle.store_promise.specs.declared.events.Step.TheVariants as step
use Rattle.store_promise.specs.Progress.{Again, At, Begun, Called, Idle, Job, Planning, Progress, Read, Reading}
use Rattle.store_promise.specs.Progress.{Refused, Stage, Waiting, is_idle}
use Rattle.store_promise.specs.Schedule.{IsReadOf, IsRetaking, IsStepRetakingFirst, IsStepByPlan, IsStepOf, IsStepOfCall}
use Rattle.store_promise.specs.Schedule.{IsStepOfCalled, IsStepOfRead, IsStepOfWaiting, IsStepOfWork, Setting, RunState}
use Rattle.store_promise.specs.EventSteps.{IsTaken}
use Rattle.store_promise.specs.Schedule.{IsOfOne, worker_of}
use Rattle.store_promise.specs.Rules.{IsStepOfSides, RunStep, WorkerStep, applies, may_read, may_work}
use Rattle.store_promise.specs.Rules.RunStep.{Receive, Rest, Sides, Work, Read as ReadDue}
use Rattle.store_promise.specs.Rules.WorkerStep.{Answer, Await, Begin, Claim, Commit, Fail, Fetch, Lack, Leave}
use Rattle.store_promise.specs.Rules.WorkerStep.{Reclaim, Refuse, Retake, Take}

module _ (o : Setting) (run_state : RunState) (worker : ℕ) where
  -- ---- from a rule

  work : (so_far : Progress) (job : Job) (stage : Stage) (made : Step) → so_far ≡ At job stage
      → IsStepOfWork o run_state worker (At job stage) (Some made) → IsStepOfWork o run_state worker so_far (Some made)
  work so_far job stage made at is = subst (λ (p : Progress). IsStepOfWork o run_state worker p (Some made)) (sym at) is

  retaking_first : (begun : Begun) (left : List LockRequest) (made : Step) → begun.left ≡ left
      → IsStepRetakingFirst left o run_state worker begun made → IsStepRetakingFirst begun.left o run_state worker begun made
  retaking_first begun left made is made_is =
      subst (λ (xs : List LockRequest). IsStepRetakingFirst xs o run_state worker begun made) (sym is) made_is

  pub of_rule : (so_far : Progress) (made : Step) → WorkerStep o run_state worker so_far made
      → IsStepOfWork o run_state worker so_far (Some made)
  of_rule so_far made (Answer job known at none is) = work so_far job (Called known) made at
      (subst (λ (b : Bool). IsStepOfCalled run_state b made) (sym none) is)
  of_rule so_far made (Begin job known at some is) = work so_far job (Called known) made at
      (subst (λ (b : Bool). IsStepOfCalled run_state b made) (sym some) is)
  of_rule so_far made (Retake job begun addr mode later answer at left may is) =
      work so_far job (Planning begun) made at (retaking_first begun (lock_request.Object addr mode ∷ later) made left
      (subst (λ (m : Step). IsRetaking run_state worker begun (lock_request.Object addr mode) m) (sym is) (refl, may)))
  of_rule so_far made (Reclaim job begun block later answer at left may is) =
      work so_far job (Planning begun) made at (retaking_first begun (lock_request.Claim block ∷ later) made left
      (subst (λ (m : Step). IsRetaking run_state worker begun (lock_request.Claim block) m) (sym is) (refl, may)))
  of_rule so_far made (Take job begun addr mode answer at left asked may is) =
      work so_far job (Planning begun) made at (retaking_first begun [] made left
      (subst (λ (m : Step). IsStepByPlan o run_state worker begun m) (sym is) (asked, may)))
  of_rule so_far made (Claim job begun block answer at left asked may is) =
      work so_far job (Planning begun) made at (retaking_first begun [] made left
      (subst (λ (m : Step). IsStepByPlan o run_state worker begun m) (sym is) (asked, may)))
  of_rule so_far made (Commit job begun blocks answer at left few may is) =
      work so_far job (Planning begun) made at (retaking_first begun [] made left
      (subst (λ (m : Step). IsStepByPlan o run_state worker begun m) (sym is) (few, may)))
  of_rule so_far made (Lack job begun at left is) =
      work so_far job (Planning begun) made at (retaking_first begun [] made left
      (subst (λ (m : Step). IsStepByPlan o run_state worker begun m) (sym is) tt))
  of_rule so_far made (Fetch job begun taken at is) = work so_far job (Read begun taken true) made at is
  of_rule so_far made (Fail job begun taken at is) = work so_far job (Read begun taken false) made at is
  of_rule so_far made (Refuse job begun why at is) = work so_far job (Refused begun why) made at is
  of_rule so_far made (Leave job begun request at is) = work so_far job (Again begun request) made at is
  of_rule so_far made (Await job place seq at same is) = work so_far job (Waiting place) made at
      (subst (λ (m : Step). IsStepOfWaiting run_state.log place m) (sym is) (same, refl))

  -- ---- to a rule

  module _ (so_far : Progress) (job : Job) where
    called : (known : List LockRequest) → so_far ≡ At job (Called known) → (begins : Bool)
        → begins_transaction job.call ≡ begins → (made : Step) → IsStepOfCalled run_state begins made
        → WorkerStep o run_state worker so_far made
    called known at true some made is = Begin job known at some is
    called known at false none made is = Answer job known at none is

    by_plan : (begun : Begun) → so_far ≡ At job (Planning begun) → begun.left ≡ [] → (made : Step)
        → IsStepByPlan o run_state worker begun made → WorkerStep o run_state worker so_far made
    by_plan begun at left (step.Wanted addr mode answer) is = Take job begun addr mode answer at left is.0 is.1 refl
    by_plan begun at left (step.Claimed block answer) is = Claim job begun block answer at left is.0 is.1 refl
    by_plan begun at left (step.Commit blocks answer) is = Commit job begun blocks answer at left is.0 is.1 refl
    by_plan begun at left (step.Ended (ending.NoMemory error)) is = Lack job begun at left refl
    by_plan begun at left _ is = absurd is

    again : (begun : Begun) → so_far ≡ At job (Planning begun) → (next : LockRequest) (later : List LockRequest)
        → begun.left ≡ next ∷ later → (made : Step) → IsRetaking run_state worker begun next made
        → WorkerStep o run_state worker so_far made
    again begun at next later left (step.Wanted addr mode answer) is = Retake job begun addr mode later answer at
        (subst (λ (n : LockRequest). begun.left ≡ n ∷ later) is.0 left) is.1 refl
    again begun at next later left (step.Claimed block answer) is = Reclaim job begun block later answer at
        (subst (λ (n : LockRequest). begun.left ≡ n ∷ later) is.0 left) is.1 refl
    again begun at next later left _ is = absurd is

    within : (begun : Begun) → so_far ≡ At job (Planning begun) → (left : List LockRequest) → begun.left ≡ left
        → (made : Step) → IsStepRetakingFirst left o run_state worker begun made → WorkerStep o run_state worker so_far made
    within begun at [] left made is = by_plan begun at left made is
    within begun at (next ∷ later) left made is = again begun at next later left made is

    waits : (place : ℕ) → so_far ≡ At job (Waiting place) → (made : Step) → IsStepOfWaiting run_state.log place made
        → WorkerStep o run_state worker so_far made
    waits place at (step.Stable seq settled) is = Await job place seq at is.0
        (ap (λ (b : Bool). step.Stable seq b) is.1)
    waits place at _ is = absurd is

  pub to_rule : (so_far : Progress) (made : Step) → IsStepOfWork o run_state worker so_far (Some made)
      → WorkerStep o run_state worker so_far made
  to_rule Idle made is = cc
  to_rule (At job (Called known)) made is =
      called (At job (Called known)) job known refl (begins_transaction job.call) refl made is
  to_rule (At job (Planning begun)) made is =
      within (At job (Planning begun)) job begun refl begun.left refl made is
  to_rule (At job (Reading begun taken)) made is = cc
  to_rule (At job (Read begun taken true)) made is = Fetch job begun taken refl is
  to_rule (At job (Read begun taken false)) made is = Fail job begun taken refl is
  to_rule (At job (Refused begun why)) made is = Refuse job begun why refl is
  to_rule (At job (Again begun request)) made is = Leave job begun request refl is
  to_rule (At job (Waiting place)) made is = waits (At job (Waiting place)) job place refl made is

  -- ---- from a rule of a run

  -- who works makes a step, and by a rule
  record Makes (so_far : Progress) (made : Option Step) : Type 0 where
    one : Step
    is : made ≡ Some one
    rule : WorkerStep o run_state worker so_far one

  makes : (so_far : Progress) (made : Option Step) → may_work so_far ≡ true
      → IsStepOfWork o run_state worker so_far made → Makes so_far made
  makes Idle made works is = absurd (true≢false (sym works))
  makes (At job (Reading begun taken)) made works is = absurd (true≢false (sym works))
  makes (At job (Called known)) None works is = absurd is
  makes (At job (Called known)) (Some one) works is =
      record { one = one; is = refl; rule = to_rule (At job (Called known)) one is }
  makes (At job (Planning begun)) None works is = absurd is
  makes (At job (Planning begun)) (Some one) works is =
      record { one = one; is = refl; rule = to_rule (At job (Planning begun)) one is }
  makes (At job (Read begun taken ok)) None works is = absurd is
  makes (At job (Read begun taken ok)) (Some one) works is =
      record { one = one; is = refl; rule = to_rule (At job (Read begun taken ok)) one is }
  makes (At job (Refused begun why)) None works is = absurd is
  makes (At job (Refused begun why)) (Some one) works is =
      record { one = one; is = refl; rule = to_rule (At job (Refused begun why)) one is }
  makes (At job (Again begun request)) None works is = absurd is
  makes (At job (Again begun request)) (Some one) works is =
      record { one = one; is = refl; rule = to_rule (At job (Again begun request)) one is }
  makes (At job (Waiting place)) None works is = absurd is
  makes (At job (Waiting place)) (Some one) works is =
      record { one = one; is = refl; rule = to_rule (At job (Waiting place)) one is }

  -- who doesn't makes none
  rests_work : (so_far : Progress) (made : Option Step) → may_work so_far ≡ false → made ≡ None
      → IsStepOfWork o run_state worker so_far made
  rests_work Idle made off none = none
  rests_work (At job (Reading begun taken)) made off none = none
  rests_work (At job (Called known)) made off none = absurd (true≢false off)
  rests_work (At job (Planning begun)) made off none = absurd (true≢false off)
  rests_work (At job (Read begun taken ok)) made off none = absurd (true≢false off)
  rests_work (At job (Refused begun why)) made off none = absurd (true≢false off)
  rests_work (At job (Again begun request)) made off none = absurd (true≢false off)
  rests_work (At job (Waiting place)) made off none = absurd (true≢false off)

  made_none : (so_far : Progress) (made : Option Step) → may_work so_far ≡ false
      → IsStepOfWork o run_state worker so_far made → made ≡ None
  made_none Idle made off is = is
  made_none (At job (Reading begun taken)) made off is = is
  made_none (At job (Called known)) made off is = absurd (true≢false off)
  made_none (At job (Planning begun)) made off is = absurd (true≢false off)
  made_none (At job (Read begun taken ok)) made off is = absurd (true≢false off)
  made_none (At job (Refused begun why)) made off is = absurd (true≢false off)
  made_none (At job (Again begun request)) made off is = absurd (true≢false off)
  made_none (At job (Waiting place)) made off is = absurd (true≢false off)

rests_call : (so_far : Progress) (made : Option Step) → is_idle so_far ≡ false → made ≡ None
    → IsStepOfCall so_far made
rests_call Idle made off none = absurd (true≢false off)
rests_call (At job stage) made off none = none

rests_read : (so_far : Progress) (made : Option Step) → may_read so_far ≡ false → made ≡ None
    → IsStepOfRead so_far made
rests_read Idle made off none = none
rests_read (At job (Reading begun taken)) made off none = absurd (true≢false off)
rests_read (At job (Called known)) made off none = none
rests_read (At job (Planning begun)) made off none = none
rests_read (At job (Read begun taken ok)) made off none = none
rests_read (At job (Refused begun why)) made off none = none
rests_read (At job (Again begun request)) made off none = none
rests_read (At job (Waiting place)) made off none = none

module _ (o : Setting) (run_state : RunState) where
  rests : (worker : ℕ) (now : Event) (made : Option Step) → worker_of now ≡ Some worker
      → applies now (run_state.workers worker) ≡ false
      → made ≡ None → IsStepOf o run_state now made
  rests worker (event.Call other credential moment call) made of off none =
      let same : other ≡ worker = cc in
      rests_call (run_state.workers other) made (ap (λ (n : ℕ). is_idle (run_state.workers n)) same ∙ off) none
  rests worker (event.Work other) made of off none =
      let same : other ≡ worker = cc in
      rests_work o run_state other (run_state.workers other) made (ap (λ (n : ℕ). may_work (run_state.workers n)) same ∙ off) none
  rests worker (event.Read other) made of off none =
      let same : other ≡ worker = cc in
      rests_read (run_state.workers other) made (ap (λ (n : ℕ). may_read (run_state.workers n)) same ∙ off) none
  rests worker event.Log made of off none = cc
  rests worker event.LogIo made of off none = cc
  rests worker event.Install made of off none = cc
  rests worker event.InstIo made of off none = cc

  sides : (now : Event) (made : Option Step) → IsStepOfSides o run_state.log now made → IsStepOf o run_state now made
  sides (event.Call worker credential moment call) made is = absurd is
  sides (event.Work worker) made is = absurd is
  sides (event.Read worker) made is = absurd is
  sides event.Log made is = is
  sides event.LogIo made is = is
  sides event.Install made is = is
  sides event.InstIo made is = is

  pub of_run_rule : (now : Event) (made : Option Step) → RunStep o run_state now made → IsStepOf o run_state now made
  of_run_rule now made (Receive worker credential moment call at idle is) =
      subst (λ (e : Event). IsStepOf o run_state e made) (sym at)
      (subst (λ (p : Progress). IsStepOfCall p made) (sym idle) is)
  of_run_rule now made (Work worker one at rule is) =
      subst (λ (e : Event). IsStepOf o run_state e made) (sym at)
      (subst (λ (m : Option Step). IsStepOfWork o run_state worker (run_state.workers worker) m) (sym is)
      (of_rule o run_state worker (run_state.workers worker) one rule))
  of_run_rule now made (ReadDue worker job begun taken ok at due is) =
      subst (λ (e : Event). IsStepOf o run_state e made) (sym at)
      (subst (λ (p : Progress). IsStepOfRead p made) (sym due)
      (subst (λ (m : Option Step). IsReadOf taken.addr.block m) (sym is) refl))
  of_run_rule now made (Rest worker of off none) = rests worker now made of off none
  of_run_rule now made (Sides is) = sides now made is

  -- ---- to a rule of a run

  received : (worker : ℕ) (so_far : Progress) (made : Option Step) (now : Event) → run_state.workers worker ≡ so_far
      → IsStepOfCall so_far made → (credential : Credential) (moment : Moment) (call : Call)
      → now ≡ event.Call worker credential moment call → RunStep o run_state now made
  received worker Idle made now at is credential moment call now_is =
      Receive worker credential moment call now_is at is
  received worker (At job stage) made now at is credential moment call now_is =
      Rest worker (ap worker_of now_is)
      (ap (λ (e : Event). applies e (run_state.workers worker)) now_is ∙ ap is_idle at) is

  worked : (worker : ℕ) (works : Bool) (made : Option Step) → may_work (run_state.workers worker) ≡ works
      → IsStepOfWork o run_state worker (run_state.workers worker) made → RunStep o run_state (event.Work worker) made
  worked worker true made works is =
      let m = makes o run_state worker (run_state.workers worker) made works is in
      Work worker m.one refl m.rule m.is
  worked worker false made off is =
      Rest worker refl off (made_none o run_state worker (run_state.workers worker) made off is)

  read : (worker : ℕ) (so_far : Progress) (made : Option Step) → run_state.workers worker ≡ so_far
      → IsStepOfRead so_far made → RunStep o run_state (event.Read worker) made
  read worker (At job (Reading begun taken)) None at is = absurd is
  read worker (At job (Reading begun taken)) (Some (step.Read block ok)) at is =
      ReadDue worker job begun taken ok refl at (ap (λ (b : BlockNo). Some (step.Read b ok)) is)
  read worker (At job (Reading begun taken)) (Some _) at is = absurd is
  read worker Idle made at is = Rest worker refl (ap may_read at) is
  read worker (At job (Called known)) made at is = Rest worker refl (ap may_read at) is
  read worker (At job (Planning begun)) made at is = Rest worker refl (ap may_read at) is
  read worker (At job (Read begun taken ok)) made at is = Rest worker refl (ap may_read at) is
  read worker (At job (Refused begun why)) made at is = Rest worker refl (ap may_read at) is
  read worker (At job (Again begun request)) made at is = Rest worker refl (ap may_read at) is
  read worker (At job (Waiting place)) made at is = Rest worker refl (ap may_read at) is

  pub to_run_rule : (now : Event) (made : Option Step) → IsStepOf o run_state now made → RunStep o run_state now made
  to_run_rule (event.Call worker credential moment call) made is =
      received worker (run_state.workers worker) made _ refl is credential moment call refl
  to_run_rule (event.Work worker) made is =
      worked worker (may_work (run_state.workers worker)) made refl is
  to_run_rule (event.Read worker) made is = read worker (run_state.workers worker) made refl is
  to_run_rule event.Log made is = Sides is
  to_run_rule event.LogIo made is = Sides is
  to_run_rule event.Install made is = Sides is
  to_run_rule event.InstIo made is = Sides is

-- an event that was taken made a step that it may make
pub own_step : (o : Setting) (workers : ℕ) (run_state : RunState) (now : Event) (made : Option Step)
    → IsTaken o workers run_state now made
    → IsOfOne workers (worker_of now) → IsStepOf o run_state now made
own_step o workers run_state now made taken one = of_run_rule o run_state now made (taken.own one)
