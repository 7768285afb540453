-- A place that is waited for was taken, nobody else waits for it, and no answer has it.
use Rattle.std.proofs.Common.{◌≡◌, ◌⊎◌, inl, inr, ℕ, ◌+◌, ◌≤◌, ap, sym, ◌∙◌, refl, subst, arith, true, false}
use Rattle.std.proofs.Common.{List, length, length-append, slice_get, Option, Some, None, Err}
use Rattle.nfs_types.specs.declared.call.Call.{Call}
use Rattle.circ.specs.declared.log.outcomes.Seq.{Seq}
use Rattle.disk.specs.declared.block.BlockNo.{BlockNo}
use Rattle.store_promise.specs.declared.answers.Verdict.{Verdict}
use Rattle.store_promise.specs.declared.events.Committing.TheVariants as committing
use Rattle.store_promise.specs.declared.events.Ending.TheVariants as ending
use Rattle.store_promise.specs.declared.events.Event.{Event}
use Rattle.store_promise.specs.declared.events.Event.TheVariants as event
use Rattle.store_promise.specs.declared.events.Step.{Step}
use Rattle.store_promise.specs.declared.events.Step.TheVariants as step
use Rattle.store_promise.specs.declared.transcript.Answer.{Answer}
use Rattle.store_promise.specs.Progress.{At, Begun, Called, Idle, Job, Planning, Progress}
use Rattle.store_promise.specs.Progress.{Refused, Stage, Waiting, is_idle}
use Rattle.store_promise.specs.Schedule.{IsStepOf, IsStepOfRead, IsStepOfWork, Schedule, Setting, RunState}
use Rattle.store_promise.specs.EventSteps.{IsTaken}
use Rattle.store_promise.specs.Schedule.{state_after}
use Rattle.store_promise.specs.Transcript.{Transcript}
use Rattle.store_promise.specs.Verdicts.{HasVerdict, IsOfNone}
use Rattle.store_promise.proofs.RunStates.{commit_is, may_be}
use Rattle.store_law.specs.Runs.Ledger.{ArePlaced, place_waited}
use Rattle.store_law.specs.Runs.Tracing.{IsAnswerOf, IsAnswerWith, Traced, listed, state_now, with_traced}
use Rattle.store_law.proofs.RunsLemmas.EntriesCommits.{commit_of, seq}
use Rattle.store_law.proofs.RunsLemmas.StateGrows.{either}
use Rattle.store_law.proofs.RunsLemmas.StateMoves.{IsOwn, Moves, called, goes, moves, stays}
use Rattle.store_law.proofs.RunsLemmas.StatePlaces.{one_place}
use Rattle.store_law.proofs.RunsLemmas.StateStages.{PlaceComes, commits, place_comes, was_waited}

-- ---- the place of an answer

-- it is that of the procedure that is committed with it, or the one that was waited for
pub data AnswersAt (stage : Stage) (made : Step) (place : ℕ) : Type 0 where
  waited : stage ≡ Waiting place → AnswersAt stage made place
  commits_now : (begun : Begun) (blocks : List BlockNo) → stage ≡ Planning begun → made ≡ commit_of blocks place
      → AnswersAt stage made place

no_place : (given_verdict : Verdict) (a : Answer) (place : ℕ) → IsOfNone given_verdict a → a.place ≡ Some (seq place) → ⊥
no_place given_verdict a place none is =
    let both : None ≡ Some (seq place) = sym none.0 ∙ is in
    cc

same_seq : (one other : Seq) (given : Option Seq) → given ≡ Some one → given ≡ Some other → one.0 ≡ other.0
same_seq one other given is so =
    let both : Some one ≡ Some other = sym is ∙ so in
    let same : one ≡ other = cc in
    ap (λ (s : Seq). s.0) same

pub answers_at : (t : Transcript) (asked : Call) (stage : Stage) (made : Step) (a : Answer) (place : ℕ)
    → HasVerdict t asked stage made a → a.place ≡ Some (seq place) → AnswersAt stage made place
answers_at t asked (Called known) step.Replied a place has is = absurd (no_place _ a place has is)
answers_at t asked (Called known) (step.Begun (Err why)) a place has is = absurd (no_place _ a place has is)
answers_at t asked (Planning begun) (step.Commit blocks (committing.Committed at)) a place has is =
    commits_now begun blocks refl (ap (commit_of blocks) (same_seq at (seq place) a.place has.placed is))
answers_at t asked (Planning begun) (step.Ended (ending.NoMemory error)) a place has is =
    absurd (no_place _ a place has is)
answers_at t asked (Refused begun why) (step.Ended ending.Refused) a place has is =
    absurd (no_place _ a place has is)
answers_at t asked (Waiting at) (step.Stable found true) a place has is =
    waited (ap Waiting (same_seq (seq at) (seq place) a.place has.placed is))
answers_at t asked (Waiting at) (step.Stable found false) a place has is =
    waited (ap Waiting (same_seq (seq at) (seq place) a.place has.0 is))
answers_at t asked stage made a place has is = absurd has

-- an answer is one that there was, or the one that the event gives
abbrev pub AnswerComes : Schedule → Transcript → Transcript → Event → Option Step → ℕ → Answer → Type 0
AnswerComes events t run_state now made index a = (slice_get t.answers index ≡ Some a)
    ⊎ ((index ≡ length t.answers) × IsAnswerWith events t run_state now made a)

pub answer_comes : (events : Schedule) (t : Transcript) (now : Event) (traced : Traced)
    → IsAnswerOf events t (with_traced t traced) now traced.made traced.answer → (index : ℕ) (a : Answer)
    → slice_get (with_traced t traced).answers index ≡ Some a
    → AnswerComes events t (with_traced t traced) now traced.made index a
answer_comes events t now traced tells index a is = by_either (either t.answers traced.answer index a is)
  where
    by_either : (slice_get t.answers index ≡ Some a) ⊎ ((index ≡ length t.answers) × (traced.answer ≡ Some a))
        → AnswerComes events t (with_traced t traced) now traced.made index a
    by_either (inl old) = inl old
    by_either (inr new) = inr (
      new.0,
      subst (λ (answer : Option Answer). IsAnswerOf events t (with_traced t traced) now traced.made
          answer) new.1 tells,
    )

-- ---- which place is waited for

-- the worker takes the next place with the event
pub record Takes (run_state : RunState) (now : Event) (made : Option Step) (worker place : ℕ) : Type 0 where
  pub own : now ≡ event.Work worker
  pub blocks : List BlockNo
  pub is : made ≡ Some (commit_of blocks place)
  pub place_is : place ≡ run_state.log.places + 1

module _ (o : Setting) (workers : ℕ) (run_state : RunState) (now : Event) (made : Option Step)
    (is_taken : IsTaken o workers run_state now made) where
  pub takes_now : (worker place : ℕ) (blocks : List BlockNo) (job : Job) (begun : Begun) → made ≡ Some (commit_of blocks place)
      → IsOwn worker now → run_state.workers worker ≡ At job (Planning begun) → Takes run_state now made worker place
  takes_now worker place blocks job begun is own at = by_event own
    where
      may : IsStepOf o run_state now (Some (commit_of blocks place))
      may = may_be o workers run_state now (commit_of blocks place)
          (subst (λ (m : Option Step). IsTaken o workers run_state now m) is is_taken)

      by_event : IsOwn worker now → Takes run_state now made worker place
      by_event (inl work) =
          let of_work : IsStepOfWork o run_state worker (run_state.workers worker) (Some (commit_of blocks place)) =
          subst (λ (e : Event). IsStepOf o run_state e (Some (commit_of blocks place))) work may in
          let planned : IsStepOfWork o run_state worker (At job (Planning begun)) (Some (commit_of blocks place)) =
          subst (λ (p : Progress). IsStepOfWork o run_state worker p (Some (commit_of blocks place))) at of_work in
          let committing = commit_is o run_state worker begun begun.left blocks (committing.Committed (seq place)) planned in
          record { own = work; blocks = blocks; is = is; place_is = committing.1.1 }
      by_event (inr read) =
          let of_read : IsStepOfRead (run_state.workers worker) (Some (commit_of blocks place)) =
          subst (λ (e : Event). IsStepOf o run_state e (Some (commit_of blocks place))) read may in
          let none : Some (commit_of blocks place) ≡ None =
          subst (λ (p : Progress). IsStepOfRead p (Some (commit_of blocks place))) at of_read in
          cc

  pub waited_next : (worker place : ℕ) → place_waited ((state_after run_state now made).workers worker) ≡ Some place
      → (place_waited (run_state.workers worker) ≡ Some place) ⊎ Takes run_state now made worker place
  waited_next worker place waits = by_move (moves run_state now made worker)
    where
      by_step : (one : Step) → made ≡ Some one → IsOwn worker now → PlaceComes (run_state.workers worker) one place
          → (place_waited (run_state.workers worker) ≡ Some place) ⊎ Takes run_state now made worker place
      by_step one is own (was_waited before) = inl before
      by_step one is own (commits job begun blocks at is_commit) =
          inr (takes_now worker place blocks job begun (is ∙ ap (λ (s : Step). Some s) is_commit) own at)

      by_move : Moves run_state now made worker ((state_after run_state now made).workers worker)
          → (place_waited (run_state.workers worker) ≡ Some place) ⊎ Takes run_state now made worker place
      by_move (stays same) = inl (sym (ap place_waited same) ∙ waits)
      by_move (called job same) = let none = ap place_waited same in cc
      by_move (goes one is own same) =
          by_step one is own (place_comes run_state.log.broken one (run_state.workers worker) place
          (sym (ap place_waited same) ∙ waits))

idle_waits_not : (p : Progress) → is_idle p ≡ true → place_waited p ≡ None
idle_waits_not Idle is = refl
idle_waits_not (At job stage) is = cc

-- ---- all places

module _ (o : Setting) (workers : ℕ) (events : Schedule) (t : Transcript) (now : Event) (traced : Traced)
    (is_taken : IsTaken o workers (state_now events t) now traced.made)
    (places : (state_now events t).log.places ≡ length t.history)
    (waits : ArePlaced (state_now events t) t.history t.answers)
    (tells : IsAnswerOf events t (with_traced t traced) now traced.made traced.answer) where
  abbrev run_state : RunState
  run_state = state_now events t

  abbrev next : RunState
  next = state_after run_state now traced.made

  abbrev Comes : ℕ → Answer → Type 0
  Comes index a = AnswerComes events t (with_traced t traced) now traced.made index a

  comes : (index : ℕ) (a : Answer) → slice_get (with_traced t traced).answers index ≡ Some a → Comes index a
  comes index a is = answer_comes events t now traced tells index a is

  -- a new answer has the place that its worker waited for, or the next
  abbrev pub IsPlaced : Answer → ℕ → Type 0
  IsPlaced a place = (place_waited (run_state.workers a.worker) ≡ Some place)
      ⊎ Takes run_state now traced.made a.worker place

  pub is_placed : (a : Answer) (place : ℕ) → IsAnswerWith events t (with_traced t traced) now traced.made a
      → a.place ≡ Some (seq place) → IsPlaced a place
  is_placed a place new is =
      by_case (answers_at (with_traced t traced) new.job.call new.stage new.step a place new.verdict is)
    where
      by_case : AnswersAt new.stage new.step place → IsPlaced a place
      by_case (waited stage) = inl (ap place_waited new.so_far
          ∙ ap (λ (s : Stage). place_waited (At new.job s)) stage)
      by_case (commits_now begun blocks stage is_commit) =
          inr (takes_now o workers run_state now traced.made is_taken a.worker place blocks new.job begun
          (new.made_is ∙ ap (λ (s : Step). Some s) is_commit) (inl new.event_is)
          (new.so_far ∙ ap (At new.job) stage))

  -- an answer that there was has an earlier place than the next, and not one that is waited for
  pub not_again : (index place : ℕ) (a b : Answer) → slice_get t.answers index ≡ Some a
      → a.place ≡ Some (seq place) → IsPlaced b place → ⊥
  not_again index place a b old is (inl waited_for) = waits.unanswered b.worker place index a waited_for old is
  not_again index place a b old is (inr takes) =
      let few = waits.answered index place a old is in
      let last = takes.place_is in
      omega (arith, few, last, places)

  module _ (later : next.log.places ≡ length (with_traced t traced).history) where
    longer : length t.history ≤ length (with_traced t traced).history
    longer = let long = length-append t.history (listed traced.entry) in omega (arith, long)

    abbrev IsWaited : ℕ → ℕ → Type 0
    IsWaited worker place = (place_waited (run_state.workers worker) ≡ Some place)
        ⊎ Takes run_state now traced.made worker place

    is_waited : (worker place : ℕ) → place_waited (next.workers worker) ≡ Some place → IsWaited worker place
    is_waited worker place is = waited_next o workers run_state now traced.made is_taken worker place is

    within : (worker place : ℕ) → IsWaited worker place → place ≤ length (with_traced t traced).history
    within worker place (inl before) =
        let few = waits.taken worker place before in
        let more = longer in
        omega (arith, few, more)
    within worker place (inr takes) =
        let last = takes.place_is in
        let one = one_place run_state now traced.made takes.blocks place takes.is in
        omega (arith, last, one, later)

    not_both : (worker other place : ℕ) → place_waited (run_state.workers worker) ≡ Some place
        → Takes run_state now traced.made other place → ⊥
    not_both worker other place before takes =
        let few = waits.taken worker place before in
        let last = takes.place_is in
        omega (arith, few, last, places)

    of_one : (worker other place : ℕ) → IsWaited worker place → IsWaited other place → worker ≡ other
    of_one worker other place (inl before) (inl so) = waits.unique worker other place before so
    of_one worker other place (inl before) (inr takes) = absurd (not_both worker other place before takes)
    of_one worker other place (inr takes) (inl so) = absurd (not_both other worker place so takes)
    of_one worker other place (inr takes) (inr so) =
        let same : event.Work worker ≡ event.Work other = sym takes.own ∙ so.own in
        cc

    -- who was answered waits no more
    answered_waits_not : (worker place : ℕ) (a : Answer) → place_waited (next.workers worker) ≡ Some place
        → worker ≡ a.worker → is_idle (next.workers a.worker) ≡ true → ⊥
    answered_waits_not worker place a is same idle =
        let none = idle_waits_not (next.workers a.worker) idle in
        let both : None ≡ Some place = sym none
        ∙ ap (λ (n : ℕ). place_waited (next.workers n)) (sym same) ∙ is in
        cc

    of_none : (worker place index : ℕ) (a : Answer) → place_waited (next.workers worker) ≡ Some place
        → IsWaited worker place → Comes index a → a.place ≡ Some (seq place) → ⊥
    of_none worker place index a is (inl before) (inl old) same =
        waits.unanswered worker place index a before old same
    of_none worker place index a is (inr takes) (inl old) same =
        let few = waits.answered index place a old same in
        let last = takes.place_is in
        omega (arith, few, last, places)
    of_none worker place index a is waited_for (inr new) same =
        answered_waits_not worker place a is
        (of_one worker a.worker place waited_for (is_placed a place new.1 same)) new.1.ends

    of_answer : (index place : ℕ) (a : Answer) → Comes index a → a.place ≡ Some (seq place)
        → place ≤ length (with_traced t traced).history
    of_answer index place a (inl old) same =
        let few = waits.answered index place a old same in
        let more = longer in
        omega (arith, few, more)
    of_answer index place a (inr new) same = within a.worker place (is_placed a place new.1 same)

    pub waits_on : ArePlaced next (with_traced t traced).history (with_traced t traced).answers
    waits_on = record {
      taken = λ worker place is. within worker place (is_waited worker place is);
      unique = λ worker other place is so. of_one worker other place (is_waited worker place is)
          (is_waited other place so);
      unanswered = λ worker place index a is answer same.
          of_none worker place index a is (is_waited worker place is) (comes index a answer) same;
      answered = λ index place a answer same. of_answer index place a (comes index a answer) same;
    }
