-- The numbers of the transactions that are out stay those that were begun, each of one worker, and of no
-- procedure.
use Rattle.std.proofs.Common.{◌≡◌, ◌⊎◌, inl, inr, ℕ, ◌+◌, ◌≤◌, ap, sym, ◌∙◌, refl, subst, arith, Bool, true}
use Rattle.std.proofs.Common.{false}
use Rattle.std.proofs.Common.{if◌then◌else◌, slice_get, List, Option, Some, None, Ok, Err}
use Rattle.nfs_spec.specs.Model.Calls.{begins_transaction, is_answered_stable}
use Rattle.store_promise.specs.declared.lock_requests.LockRequest.{LockRequest}
use Rattle.store_promise.specs.declared.events.Event.{Event}
use Rattle.store_promise.specs.declared.events.Event.TheVariants as event
use Rattle.store_promise.specs.declared.events.Step.{Step}
use Rattle.store_promise.specs.declared.events.Step.TheVariants as step
use Rattle.store_promise.specs.declared.transcript.Committed.{Committed}
use Rattle.store_promise.specs.Progress.{At, Called, Job, Progress, Waiting, going_on, progressed}
use Rattle.store_promise.specs.Schedule.{IsStepOf, IsStepOfCalled, IsStepOfRead, IsStepOfWork}
use Rattle.store_promise.specs.EventSteps.{IsTaken}
use Rattle.store_promise.specs.Schedule.{Schedule}
use Rattle.store_promise.specs.Schedule.{Setting, RunState, state_after}
use Rattle.store_promise.specs.Transcript.{Transcript}
use Rattle.store_promise.proofs.RunStates.{may_be}
use Rattle.store_law.specs.Runs.Ledger.{AreNumbered, number_out}
use Rattle.store_law.specs.Runs.Tracing.{IsCommitOf, IsEntryOf, Traced, state_now, with_traced}
use Rattle.store_law.proofs.RunsLemmas.EntriesCommits.{commit_of}
use Rattle.store_law.proofs.RunsLemmas.EntriesGrow.{EntryComes, entry_comes, number_of}
use Rattle.store_law.proofs.RunsLemmas.StateMoves.{IsOwn, Moves, called, goes, moves, own_move, stays}
use Rattle.store_law.proofs.RunsLemmas.StateStages.{NumberComes, begins, number_comes, was_out}

-- ---- the count of transactions

begun_rises : (run_state : RunState) (e : Event) (made : Option Step) → run_state.begun ≤ (state_after run_state e made).begun
begun_rises run_state e None = omega arith
begun_rises run_state e (Some (step.Begun (Ok number))) = omega arith
begun_rises run_state e (Some (step.Begun (Err why))) = omega arith
begun_rises run_state e (Some _) = omega arith

-- the worker begins a transaction with the event, which takes the next number
pub record Begins (run_state : RunState) (now : Event) (made : Option Step) (worker number : ℕ) : Type 0 where
  pub own : now ≡ event.Work worker
  pub is : made ≡ Some (step.Begun (Ok number))
  pub fresh : number ≡ run_state.begun + 1

begun_with : (run_state : RunState) (now : Event) (made : Option Step) (worker number : ℕ)
    → Begins run_state now made worker number → (state_after run_state now made).begun ≡ run_state.begun + 1
begun_with run_state now made worker number new = ap (λ (m : Option Step). (state_after run_state now m).begun) new.is

-- ---- which number comes out

module _ (o : Setting) (workers : ℕ) (run_state : RunState) (now : Event) (made : Option Step)
    (is_taken : IsTaken o workers run_state now made) where
  next_number : (rules : Bool) (number : ℕ) → IsStepOfCalled run_state rules (step.Begun (Ok number))
      → number ≡ run_state.begun + 1
  next_number true number may = may.1
  next_number false number may = cc

  begins_now : (worker number : ℕ) (one : Step) (job : Job) (known : List LockRequest) → made ≡ Some one → IsOwn worker now
      → run_state.workers worker ≡ At job (Called known) → one ≡ step.Begun (Ok number)
      → Begins run_state now made worker number
  begins_now worker number one job known is own at is_begun = by_event own
    where
      is_step : made ≡ Some (step.Begun (Ok number))
      is_step = is ∙ ap (λ (s : Step). Some s) is_begun

      may : IsStepOf o run_state now (Some (step.Begun (Ok number)))
      may = may_be o workers run_state now (step.Begun (Ok number))
          (subst (λ (m : Option Step). IsTaken o workers run_state now m) is_step is_taken)

      by_event : IsOwn worker now → Begins run_state now made worker number
      by_event (inl work) =
          let of_work : IsStepOfWork o run_state worker (run_state.workers worker) (Some (step.Begun (Ok number))) =
          subst (λ (e : Event). IsStepOf o run_state e (Some (step.Begun (Ok number)))) work may in
          record {
            own = work;
            is = is_step;
            fresh = next_number (begins_transaction job.call) number
                (subst (λ (p : Progress). IsStepOfWork o run_state worker p
                (Some (step.Begun (Ok number)))) at of_work);
          }
      by_event (inr read) =
          let of_read : IsStepOfRead (run_state.workers worker) (Some (step.Begun (Ok number))) =
          subst (λ (e : Event). IsStepOf o run_state e (Some (step.Begun (Ok number)))) read may in
          let none : Some (step.Begun (Ok number)) ≡ None =
          subst (λ (p : Progress). IsStepOfRead p (Some (step.Begun (Ok number)))) at of_read in
          cc

  pub out_next : (worker number : ℕ) → number_out ((state_after run_state now made).workers worker) ≡ Some number
      → (number_out (run_state.workers worker) ≡ Some number) ⊎ Begins run_state now made worker number
  out_next worker number out = by_move (moves run_state now made worker)
    where
      by_step : (one : Step) → made ≡ Some one → IsOwn worker now → NumberComes (run_state.workers worker) one number
          → (number_out (run_state.workers worker) ≡ Some number) ⊎ Begins run_state now made worker number
      by_step one is own (was_out before) = inl before
      by_step one is own (begins job known at is_begun) =
          inr (begins_now worker number one job known is own at is_begun)

      by_move : Moves run_state now made worker ((state_after run_state now made).workers worker)
          → (number_out (run_state.workers worker) ≡ Some number) ⊎ Begins run_state now made worker number
      by_move (stays same) = inl (sym (ap number_out same) ∙ out)
      by_move (called job same) = let none = ap number_out same in cc
      by_move (goes one is own same) =
          by_step one is own (number_comes run_state.log.broken one (run_state.workers worker) number
          (sym (ap number_out same) ∙ out))

-- ---- a commit leaves its worker without a number

no_number : (stable : Bool) (job : Job) (place : ℕ)
    → number_out (going_on job (if stable then Some (Waiting place) else None)) ≡ None
no_number true job place = refl
no_number false job place = refl

left_none : (events : Schedule) (t : Transcript) (now : Event) (made : Option Step) (c : Committed)
    → IsCommitOf events t now made c
    → number_out ((state_after (state_now events t) now made).workers c.worker) ≡ None
left_none events t now made c is =
    let run_state = state_now events t in
    let one = commit_of is.blocks _ in
    (λ i. number_out ((state_after run_state (is.event_is i) (is.made_is i)).workers c.worker))
    ∙ ap number_out (own_move run_state c.worker one)
    ∙ ap (λ (p : Progress). number_out (progressed run_state.log.broken one p)) is.planned
    ∙ no_number (is_answered_stable is.job.call) is.job _

-- ---- all numbers

module _ (o : Setting) (workers : ℕ) (events : Schedule) (t : Transcript) (now : Event) (traced : Traced)
    (is_taken : IsTaken o workers (state_now events t) now traced.made)
    (numbered : AreNumbered (state_now events t) t.history)
    (tells : IsEntryOf events t now traced.made traced.entry) where
  abbrev run_state : RunState
  run_state = state_now events t

  abbrev next : RunState
  next = state_after run_state now traced.made

  abbrev IsOut : ℕ → ℕ → Type 0
  IsOut worker number = (number_out (run_state.workers worker) ≡ Some number)
      ⊎ Begins run_state now traced.made worker number

  is_out : (worker number : ℕ) → number_out (next.workers worker) ≡ Some number → IsOut worker number
  is_out worker number out = out_next o workers run_state now traced.made is_taken worker number out

  abbrev Comes : ℕ → Committed → Type 0
  Comes index c = EntryComes events t now traced.made index c

  comes : (index : ℕ) (c : Committed) → slice_get (with_traced t traced).history index ≡ Some c → Comes index c
  comes index c is = entry_comes events t now traced tells index c is

  has_begun : (worker number : ℕ) → IsOut worker number → number ≤ next.begun
  has_begun worker number (inl out) =
      let few = numbered.begun worker number out in
      let risen = begun_rises run_state now traced.made in
      omega (arith, few, risen)
  has_begun worker number (inr new) =
      let fresh = new.fresh in
      let now_begun = begun_with run_state now traced.made worker number new in
      omega (arith, fresh, now_begun)

  -- nobody had the number that is begun now
  not_both : (worker other number : ℕ) → number_out (run_state.workers worker) ≡ Some number
      → Begins run_state now traced.made other number → ⊥
  not_both worker other number out new =
      let few = numbered.begun worker number out in
      let fresh = new.fresh in
      omega (arith, few, fresh)

  of_one : (worker other number : ℕ) → IsOut worker number → IsOut other number → worker ≡ other
  of_one worker other number (inl out) (inl so) = numbered.unique worker other number out so
  of_one worker other number (inl out) (inr new) = absurd (not_both worker other number out new)
  of_one worker other number (inr new) (inl so) = absurd (not_both other worker number so new)
  of_one worker other number (inr new) (inr so) =
      let same : event.Work worker ≡ event.Work other = sym new.own ∙ so.own in
      cc

  of_none : (worker number index : ℕ) (c : Committed) → number_out (next.workers worker) ≡ Some number
      → IsOut worker number → Comes index c → c.ctx.transaction ≡ number → ⊥
  of_none worker number index c is (inl out) (inl old) same = numbered.unused worker number index c out old same
  of_none worker number index c is (inl out) (inr new) same =
      let had = number_of events t now traced.made c new.1 in
      let its = numbered.unique worker c.worker number out (had ∙ ap (λ (n : ℕ). Some n) same) in
      let left = left_none events t now traced.made c new.1 in
      let out_still : None ≡ Some number = sym left
      ∙ ap (λ (n : ℕ). number_out (next.workers n)) (sym its) ∙ is in
      cc
  of_none worker number index c is (inr new) (inl old) same =
      let few = numbered.used index c old in
      let fresh = new.fresh in
      omega (arith, few, fresh, same)
  of_none worker number index c is (inr new) (inr commit) same =
      let both : Some (step.Begun (Ok number)) ≡ Some (commit_of commit.1.blocks _) =
      sym new.is ∙ commit.1.made_is in
      cc

  was_begun : (index : ℕ) (c : Committed) → Comes index c → c.ctx.transaction ≤ next.begun
  was_begun index c (inl old) =
      let few = numbered.used index c old in
      let risen = begun_rises run_state now traced.made in
      omega (arith, few, risen)
  was_begun index c (inr new) =
      let few = numbered.begun c.worker c.ctx.transaction (number_of events t now traced.made c new.1) in
      let risen = begun_rises run_state now traced.made in
      omega (arith, few, risen)

  pub numbers_on : AreNumbered next (with_traced t traced).history
  numbers_on = record {
    begun = λ worker number is. has_begun worker number (is_out worker number is);
    unique = λ worker other number is so. of_one worker other number (is_out worker number is)
        (is_out other number so);
    unused = λ worker number index c is entry same.
        of_none worker number index c is (is_out worker number is) (comes index c entry) same;
    used = λ index c entry. was_begun index c (comes index c entry);
  }
