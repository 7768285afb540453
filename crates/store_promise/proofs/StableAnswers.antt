-- The step that commits a call which is answered once it is stable doesn't end the call.
use Rattle.std.proofs.Common.{◌≡◌, ℕ, zero, suc, ◌+◌, true, false, Option, Some, None, ap, sym, ◌∙◌, refl}
use Rattle.std.proofs.Common.{Bool, List, arith}
use Rattle.disk.specs.declared.block.BlockNo.{BlockNo}
use Rattle.std.proofs.Common.{subst, slice_get, if◌then◌else◌}
use Rattle.nfs_types.specs.declared.call.Call.{Call}
use Rattle.nfs_spec.specs.Model.Calls.{is_answered_stable}
use Rattle.store_promise.specs.declared.events.Committing.TheVariants as committing
use Rattle.store_promise.specs.declared.events.Event.{Event}
use Rattle.store_promise.specs.declared.events.Event.TheVariants as event
use Rattle.store_promise.specs.declared.events.Step.{Step}
use Rattle.store_promise.specs.declared.events.Step.TheVariants as step
use Rattle.store_promise.specs.declared.transcript.Answer.{Answer}
use Rattle.store_promise.specs.declared.transcript.Committed.{Committed}
use Rattle.store_promise.specs.History.{IsHistory, WasCommitted}
use Rattle.store_promise.specs.Progress.{Begun, Job, Progress, At, Stage, Called, Planning, Reading, Read}
use Rattle.store_promise.specs.Progress.{Refused}
use Rattle.store_promise.specs.Progress.{Again, Waiting, going_on, is_idle, progressed}
use Rattle.store_promise.specs.Schedule.{Schedule, progress_before, state_before}
use Rattle.store_promise.specs.Transcript.{Transcript, step_at, committed_at}
use Rattle.store_promise.specs.Verdicts.{HasVerdict, IsAnswer, IsStableAnswer}
use Rattle.store_promise.proofs.RunStates.{own_next, step_is}

pub one_more : (n : ℕ) → n + 1 ≡ suc n
one_more n = omega arith

abbrev committing_at : List BlockNo → ℕ → Step
committing_at blocks place = step.Commit blocks (committing.Committed (record { 0 = place }))

-- an answer that comes with a commit is given while planning
is_planning : (t : Transcript) (asked : Call) (stage : Stage) (a : Answer) (blocks : List BlockNo) (place : ℕ)
    → HasVerdict t asked stage (committing_at blocks place) a → (begun : Begun) × (stage ≡ Planning begun)
is_planning t asked (Called known) a blocks place has = absurd has
is_planning t asked (Planning begun) a blocks place has = (begun, refl)
is_planning t asked (Reading begun addr) a blocks place has = absurd has
is_planning t asked (Read begun addr ok) a blocks place has = absurd has
is_planning t asked (Refused begun why) a blocks place has = absurd has
is_planning t asked (Again begun request) a blocks place has = absurd has
is_planning t asked (Waiting at) a blocks place has = absurd has

-- and ends a call that isn't answered stable
unstable : (stable : Bool) (job : Job) (place : ℕ)
    → is_idle (going_on job (if stable then Some (Waiting place) else None)) ≡ true → stable ≡ false
unstable true job place ends = cc
unstable false job place ends = refl

same_worker : (one other : ℕ) (found : Option Event) → found ≡ Some (event.Work one)
    → found ≡ Some (event.Work other) → one ≡ other
same_worker one other found is so =
    let same : event.Work one ≡ event.Work other = cc in
    cc

same_job : (one other : Job) (stage at : Stage) (progress : Progress) → progress ≡ At one stage
    → progress ≡ At other at → one ≡ other
same_job one other stage at progress is so =
    let same : At one stage ≡ At other at = sym is ∙ so in
    cc

module _ (events : Schedule) (t : Transcript) (a : Answer) (place : ℕ) (blocks : List BlockNo) (answer : IsAnswer events t a)
    (made : step_at t a.event ≡ Some (committing_at blocks place)) where
  commits : answer.step ≡ committing_at blocks place
  commits =
      let same : Some answer.step ≡ Some (committing_at blocks place) = sym answer.made ∙ made in
      cc

  planning : (begun : Begun) × (answer.stage ≡ Planning begun)
  planning = is_planning t answer.job.call answer.stage a blocks place
      (subst (λ one. HasVerdict t answer.job.call answer.stage one a) commits answer.verdict)

  not_stable : is_answered_stable answer.job.call ≡ false
  not_stable =
      let before : progress_before events t.steps a.worker a.event ≡ At answer.job (Planning planning.0) =
      answer.so_far ∙ ap (At answer.job) planning.1 in
      let next = own_next events t.steps a.event a.worker (committing_at blocks place) answer.event
      (step_is t a.event (committing_at blocks place) made) in
      let broken = (state_before events t.steps a.event).log.broken in
      unstable (is_answered_stable answer.job.call) answer.job place
      (ap is_idle (sym (ap (λ n. progress_before events t.steps a.worker n) (one_more a.event) ∙ next
      ∙ ap (progressed broken (committing_at blocks place)) before)) ∙ answer.ends)

  -- the entry of that place is its job's
  differs : (c : Committed) (index : ℕ) → WasCommitted events t index c → c.event ≡ a.event
      → is_answered_stable c.call ≡ true → ⊥
  differs c index was same stable =
      let workers : c.worker ≡ a.worker =
      same_worker c.worker a.worker (slice_get events c.event) was.event
      (ap (slice_get events) same ∙ answer.event) in
      let there : progress_before events t.steps c.worker c.event ≡ At answer.job answer.stage =
      (λ i. progress_before events t.steps (workers i) (same i)) ∙ answer.so_far in
      let jobs : was.job ≡ answer.job =
      same_job was.job answer.job (Planning was.begun) answer.stage _ was.planned there in
      let calls : c.call ≡ answer.job.call = was.call ∙ ap (λ (j : Job). j.call) jobs in
      let stable_is : is_answered_stable c.call ≡ is_answered_stable answer.job.call =
      ap is_answered_stable calls in
      let not = not_stable in
      cc

pub entry_index : (t : Transcript) (place : ℕ) (c : Committed) → committed_at t place ≡ Some c
    → (index : ℕ) × (slice_get t.history index ≡ Some c)
entry_index t zero c is = cc
entry_index t (suc index) c is = (index, is)

pub same_entry : (t : Transcript) (place : ℕ) (one other : Committed) → committed_at t place ≡ Some one
    → committed_at t place ≡ Some other → one ≡ other
same_entry t place one other is so =
    let same : Some one ≡ Some other = sym is ∙ so in
    cc

-- so no stable answer comes with the commit of its own procedure
pub comes_later : (events : Schedule) (t : Transcript) (a : Answer) (place : ℕ) (blocks : List BlockNo) → IsHistory events t
    → IsAnswer events t a → IsStableAnswer t a place
    → step_at t a.event ≡ Some (step.Commit blocks (committing.Committed (record { 0 = place }))) → ⊥
comes_later events t a place blocks history answer stable made =
    let found = history.whole a.event place blocks made in
    let same = same_entry t place found.0 stable.entry found.1 stable.is_entry in
    let at = entry_index t place found.0 found.1 in
    differs events t a place blocks answer made found.0 (at.0 + 1) (history.each at.0 found.0 at.1)
    found.2 (ap (λ (one : Committed). is_answered_stable one.call) same ∙ stable.waits)
