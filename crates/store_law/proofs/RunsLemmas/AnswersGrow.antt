-- The answers are those of the events, with an answer more or without.
use Rattle.std.proofs.Common.{◌≡◌, inl, inr, ℕ, suc, ◌+◌, ◌<◌, ◌≤◌, ap, sym, ◌∙◌, refl, subst, arith, true}
use Rattle.std.proofs.Common.{false, not, ◌&&◌, ◌++◌, length, slice_get, Contains, Option, Some, None, Err}
use Rattle.std.proofs.lemmas.Bool.{cases_lt}
use Rattle.std.proofs.lemmas.List.Elements.{Contains-append_left, Contains-push}
use Rattle.std.proofs.lemmas.Option.{slice_get_within}
use Rattle.nfs_types.specs.declared.call.Call.{Call}
use Rattle.circ.specs.declared.log.outcomes.Seq.{Seq}
use Rattle.store_promise.specs.declared.events.Committing.TheVariants as committing
use Rattle.store_promise.specs.declared.events.Ending.TheVariants as ending
use Rattle.store_promise.specs.declared.events.Event.{Event}
use Rattle.store_promise.specs.declared.events.Step.{Step}
use Rattle.store_promise.specs.declared.events.Step.TheVariants as step
use Rattle.store_promise.specs.declared.transcript.Answer.{Answer}
use Rattle.store_promise.specs.Progress.{Called, Planning, Refused, Stage, Waiting, is_idle}
use Rattle.store_promise.specs.Schedule.{Schedule, Setting, RunState, progress_before, state_after}
use Rattle.store_promise.specs.EventSteps.{IsTaken}
use Rattle.store_promise.specs.Schedule.{worker_of}
use Rattle.store_promise.specs.Transcript.{Transcript, device_calls, step_at}
use Rattle.store_promise.specs.Verdicts.{AreAnswers, HasVerdict, IsAnswer, IsReplyAt}
use Rattle.store_law.specs.Runs.Ledger.{ArePlaced}
use Rattle.store_law.specs.Runs.Tracing.{IsAnswerOf, IsAnswerWith, Traced, ends_of, listed, state_now, with_traced}
use Rattle.store_law.proofs.RunsLemmas.AnswersPlaces.{AnswerComes, answer_comes, is_placed, not_again}
use Rattle.store_law.proofs.RunsLemmas.EntriesCommits.{seq}
use Rattle.store_law.proofs.RunsLemmas.StateGrows.{calls_earlier, committed_preserved, one_longer, progress_earlier, step_preserved}
use Rattle.store_law.proofs.RunsLemmas.StateGrows.{step_now}
use Rattle.store_law.proofs.RunsLemmas.StateGrows.{step_within, state_moves}

-- ---- a verdict stays

module _ (t : Transcript) (traced : Traced) where
  reply_preserved : (place : Seq) (a : Answer) → IsReplyAt t place a → IsReplyAt (with_traced t traced) place a
  reply_preserved place a is = record {
    entry = is.entry;
    is_entry = committed_preserved t traced place.0 is.entry is.is_entry;
    placed = is.placed;
    is_replied = is.is_replied;
  }

  verdict_preserved : (asked : Call) (stage : Stage) (made : Step) (a : Answer) → HasVerdict t asked stage made a
      → HasVerdict (with_traced t traced) asked stage made a
  verdict_preserved asked (Called known) step.Replied a has = has
  verdict_preserved asked (Called known) (step.Begun (Err why)) a has = has
  verdict_preserved asked (Planning begun) (step.Commit blocks (committing.Committed place)) a has =
      reply_preserved place a has
  verdict_preserved asked (Planning begun) (step.Ended (ending.NoMemory error)) a has = has
  verdict_preserved asked (Refused begun why) (step.Ended ending.Refused) a has = has
  verdict_preserved asked (Waiting place) (step.Stable found true) a has = reply_preserved (seq place) a has
  verdict_preserved asked (Waiting place) (step.Stable found false) a has = has
  verdict_preserved asked stage made a has = absurd has

module _ (o : Setting) (workers : ℕ) (events : Schedule) (t : Transcript) (now : Event) (traced : Traced)
    (is_event : slice_get events (length t.steps) ≡ Some now)
    (is_taken : IsTaken o workers (state_now events t) now traced.made)
    (places : (state_now events t).log.places ≡ length t.history)
    (waits : ArePlaced (state_now events t) t.history t.answers) (answers : AreAnswers events t)
    (tells : IsAnswerOf events t (with_traced t traced) now traced.made traced.answer) where
  abbrev run_state : RunState
  run_state = state_now events t

  abbrev next : RunState
  next = state_after run_state now traced.made

  abbrev grown : Transcript
  grown = with_traced t traced

  abbrev Comes : ℕ → Answer → Type 0
  Comes index a = AnswerComes events t grown now traced.made index a

  comes : (index : ℕ) (a : Answer) → slice_get grown.answers index ≡ Some a → Comes index a
  comes index a is = answer_comes events t now traced tells index a is

  -- ---- each is an answer

  earlier : (worker index : ℕ) → index ≤ length t.steps
      → progress_before events grown.steps worker index ≡ progress_before events t.steps worker index
  earlier worker index few = progress_earlier events t.steps traced.made worker index few

  after_it : (worker index : ℕ) → index ≡ length t.steps
      → progress_before events grown.steps worker (index + 1) ≡ next.workers worker
  after_it worker index at =
      let one : index + 1 ≡ suc (length t.steps) = omega (arith, at) in
      ap (λ (n : ℕ). progress_before events grown.steps worker n) one
      ∙ ap (λ (so_far : RunState). so_far.workers worker) (state_moves events t.steps traced.made now is_event)

  before_it : (worker index : ℕ) → index ≡ length t.steps
      → progress_before events grown.steps worker index ≡ run_state.workers worker
  before_it worker index at =
      ap (λ (n : ℕ). progress_before events grown.steps worker n) at
      ∙ earlier worker (length t.steps) (omega arith)

  still : (a : Answer) → IsAnswer events t a → IsAnswer events grown a
  still a is =
      let less = step_within t a.event is.step is.made in
      let few : a.event ≤ length t.steps = omega (arith, less) in
      let so : a.event + 1 ≤ length t.steps = omega (arith, less) in
      record {
        event = is.event;
        job = is.job;
        stage = is.stage;
        so_far = earlier a.worker a.event few ∙ is.so_far;
        step = is.step;
        made = step_preserved t traced a.event is.step is.made;
        ends = ap is_idle (earlier a.worker (a.event + 1) so) ∙ is.ends;
        verdict = verdict_preserved t traced is.job.call is.stage is.step a is.verdict;
        clock = is.clock ∙ sym (calls_earlier t traced a.event few);
      }

  newly : (a : Answer) → IsAnswerWith events t grown now traced.made a → IsAnswer events grown a
  newly a is = record {
    event = ap (slice_get events) is.event ∙ is_event ∙ ap (λ (e : Event). Some e) is.event_is;
    job = is.job;
    stage = is.stage;
    so_far = before_it a.worker a.event is.event ∙ is.so_far;
    step = is.step;
    made = ap (step_at grown) is.event ∙ step_now t traced ∙ is.made_is;
    ends = ap is_idle (after_it a.worker a.event is.event) ∙ is.ends;
    verdict = is.verdict;
    clock = is.clock ∙ sym (calls_earlier t traced (length t.steps) (omega arith))
        ∙ ap (device_calls grown) (sym is.event);
  }

  is_answer : (index : ℕ) (a : Answer) → Comes index a → IsAnswer events grown a
  is_answer index a (inl old) = still a (answers.each index a old)
  is_answer index a (inr new) = newly a new.1

  -- ---- no place is answered twice

  placed : (a : Answer) (place : ℕ) → IsAnswerWith events t grown now traced.made a → a.place ≡ Some (seq place)
      → (index : ℕ) (b : Answer) → slice_get t.answers index ≡ Some b → b.place ≡ Some (seq place) → ⊥
  placed a place new is index b old so =
      not_again o workers events t now traced is_taken places waits tells index place b a old so
      (is_placed o workers events t now traced is_taken places waits tells a place new is)

  once : (one other place : ℕ) (a b : Answer) → Comes one a → Comes other b → a.place ≡ Some (seq place)
      → b.place ≡ Some (seq place) → one ≡ other
  once one other place a b (inl first) (inl second) is so =
      answers.placed_once one other place a b first second is so
  once one other place a b (inl first) (inr second) is so = absurd (placed b place second.1 so one a first is)
  once one other place a b (inr first) (inl second) is so = absurd (placed a place first.1 is other b second so)
  once one other place a b (inr first) (inr second) is so = first.0 ∙ sym second.0

  -- ---- their order

  event_before : (index : ℕ) (a : Answer) → slice_get t.answers index ≡ Some a → a.event < length t.steps
  event_before index a old =
      let is = answers.each index a old in
      step_within t a.event is.step is.made

  in_order : (one other : ℕ) (a b : Answer) → Comes one a → Comes other b → one < other → a.event < b.event
  in_order one other a b (inl first) (inl second) less = answers.ordered one other a b first second less
  in_order one other a b (inl first) (inr second) less =
      let early = event_before one a first in
      let last = second.1.event in
      omega (arith, early, last)
  in_order one other a b (inr first) (inl second) less =
      let few = slice_get_within t.answers other b second in
      let at = first.0 in
      absurd (omega (arith, few, at, less))
  in_order one other a b (inr first) (inr second) less =
      let at = first.0 in
      let so = second.0 in
      absurd (omega (arith, at, so, less))

  -- ---- each call that ends has its answer

  abbrev HasAnswer : ℕ → Type 0
  HasAnswer index = (a : Answer) × Contains grown.answers a × (a.event ≡ index)

  answer_now : (given : Option Answer) → traced.answer ≡ given → IsAnswerOf events t grown now traced.made given
      → (worker : ℕ) → worker_of now ≡ Some worker → is_idle (run_state.workers worker) ≡ false
      → is_idle (next.workers worker) ≡ true → HasAnswer (length t.steps)
  answer_now None is never worker own busy idle =
      let ended : ends_of run_state next (worker_of now) ≡ true =
      ap (ends_of run_state next) own ∙ (λ i. not (busy i) && idle i) in
      let both : false ≡ true = sym never ∙ ended in
      cc
  answer_now (Some a) is of worker own busy idle = (
    a,
    subst (λ (given : Option Answer). Contains (t.answers ++ listed given) a) (sym is)
        (Contains-push t.answers a),
    of.event,
  )

  whole_before : (index worker : ℕ) (e : Event) → slice_get events index ≡ Some e → index < length t.steps
      → worker_of e ≡ Some worker → is_idle (progress_before events grown.steps worker index) ≡ false
      → is_idle (progress_before events grown.steps worker (index + 1)) ≡ true → HasAnswer index
  whole_before index worker e is_e less own busy idle =
      let few : index ≤ length t.steps = omega (arith, less) in
      let so : index + 1 ≤ length t.steps = omega (arith, less) in
      let found = answers.whole index worker e is_e less own
      (ap is_idle (sym (earlier worker index few)) ∙ busy)
      (ap is_idle (sym (earlier worker (index + 1) so)) ∙ idle) in
      (found.0, Contains-append_left t.answers (listed traced.answer) found.0 found.1, found.2)

  whole_now : (index worker : ℕ) (e : Event) → slice_get events index ≡ Some e → index ≡ length t.steps
      → worker_of e ≡ Some worker → is_idle (progress_before events grown.steps worker index) ≡ false
      → is_idle (progress_before events grown.steps worker (index + 1)) ≡ true → HasAnswer index
  whole_now index worker e is_e at own busy idle =
      let found : Some now ≡ Some e = sym is_event ∙ ap (slice_get events) (sym at) ∙ is_e in
      let same : now ≡ e = cc in
      subst HasAnswer (sym at)
      (answer_now traced.answer refl tells worker (ap worker_of same ∙ own)
      (ap is_idle (sym (before_it worker index at)) ∙ busy)
      (ap is_idle (sym (after_it worker index at)) ∙ idle))

  whole : (index worker : ℕ) (e : Event) → slice_get events index ≡ Some e → index < length grown.steps
      → worker_of e ≡ Some worker → is_idle (progress_before events grown.steps worker index) ≡ false
      → is_idle (progress_before events grown.steps worker (index + 1)) ≡ true → HasAnswer index
  whole index worker e is_e less own busy idle = elim (cases_lt index (length t.steps)) [
    | inl before ↦ whole_before index worker e is_e before own busy idle
    | inr past ↦
        let long = one_longer t.steps traced.made in
        whole_now index worker e is_e (omega (arith, past, less, long)) own busy idle
  ]

  pub answers_on : AreAnswers events grown
  answers_on = record {
    each = λ index a is. is_answer index a (comes index a is);
    placed_once = λ one other place a b first second is so.
        once one other place a b (comes one a first) (comes other b second) is so;
    ordered = λ one other a b is so less. in_order one other a b (comes one a is) (comes other b so) less;
    whole = whole;
  }
