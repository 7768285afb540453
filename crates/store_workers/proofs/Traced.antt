-- What a run notes with a step of its worker is what the worker tells.
use Rattle.std.proofs.Common.{◌≡◌, ◌∙◌, refl, sym, ap, subst, ℕ, ◌+◌, Bool, true, false, not, ◌&&◌, true≢false}
use Rattle.std.proofs.Common.{Option, Some, None, IfSome, is_some, ◌++◌, length, append-nil}
use Rattle.std.specs.Prelude.{IsSomeAnd, map}
use Rattle.std.proofs.lemmas.List.{length-map, map-append}
use Rattle.store_promise.specs.Progress.{is_idle}
use Rattle.store_promise.specs.Transcript.{entries_of, entry_of, transcript_of}
use Rattle.store_promise.specs.declared.answers.CallAnswer.{CallAnswer}
use Rattle.store_promise.specs.declared.answers.Entry as ready
use Rattle.store_promise.specs.declared.events.Committing.TheVariants as committing
use Rattle.store_promise.specs.declared.events.Step.{Step}
use Rattle.store_promise.specs.declared.events.Step.TheVariants as step
use Rattle.store_promise.specs.declared.transcript.Run.{Run}
use Rattle.store_workers.proofs.StepTells.{step_tells}
use Rattle.store_workers.specs.Traces.{committed_by}
use Rattle.store_workers.specs.Tracing.{TracesAnswers, TracesHistory, TracesProcedure, TracesWork}
use Rattle.store_workers.specs.Stages.{IsWorkerAt, progress_of}
use Rattle.store_workers.specs.RunReports.{HasWorked, answers_traced, entries_traced, reported}
use Rattle.store_workers.specs.WorkTells.{IsAnswerOf, IsEntryOf, TellsEntry, TellsStep}
use Rattle.store_workers.specs.WorkTells.{entries_ready, with_ready}
use Rattle.store_workers.specs.WorkerSteps.{WorkerAndCore, worker_and_core}

-- the entry that is noted is the entry of the step
as_traced : (worker event clock : ℕ) (entry : Option ready.Entry)
    → map entry_of (entries_traced worker event clock entry) ≡ entries_ready worker entry
as_traced worker event clock None = refl
as_traced worker event clock (Some entry) = refl

module _ (boot number clock : ℕ) (old : WorkerAndCore) (made : Option Step) (new : WorkerAndCore) (before after : Run)
    (at : IsWorkerAt boot (entries_of (transcript_of before)) old.worker) (booted : old.core.boot ≡ boot)
    (places : old.core.log.places ≡ length before.history.items)
    (has : HasWorked number clock old made new before after) where
  tells : TellsStep boot number (entries_of (transcript_of before)) old made (worker_and_core has.state new.core)
  tells = step_tells boot number (entries_of (transcript_of before)) old (worker_and_core has.state new.core) at booted
      (places ∙ sym (length-map before.history.items entry_of)) made has.goes

  -- what the step committed is what lies ready
  as_ready : (made : Option Step) → TellsEntry boot (length (entries_of (transcript_of before)))
      (progress_of old.worker) made has.state.work.entry → committed_by made has.state ≡ has.state.work.entry
  as_ready None is = sym is
  as_ready (Some (step.Commit added (committing.Committed place))) is = refl
  as_ready (Some (step.Commit added committing.Full)) is = sym is
  as_ready (Some (step.Commit added committing.Foreign)) is = sym is
  as_ready (Some (step.Commit added (committing.NoMemory error))) is = sym is
  as_ready (Some (step.Commit added committing.Broken)) is = sym is
  as_ready (Some (step.Commit added committing.Spent)) is = sym is
  as_ready (Some step.Called) is = sym is
  as_ready (Some step.Replied) is = sym is
  as_ready (Some (step.Begun a)) is = sym is
  as_ready (Some (step.Wanted a b c)) is = sym is
  as_ready (Some (step.Claimed a b)) is = sym is
  as_ready (Some (step.Fetched a)) is = sym is
  as_ready (Some (step.FetchFailed a)) is = sym is
  as_ready (Some (step.Ended a)) is = sym is
  as_ready (Some (step.Stable a b)) is = sym is
  as_ready (Some (step.Read a b)) is = sym is
  as_ready (Some (step.LogNext a)) is = sym is
  as_ready (Some (step.LogIo a)) is = sym is
  as_ready (Some (step.LogDone a)) is = sym is
  as_ready (Some (step.InstNext a)) is = sym is
  as_ready (Some (step.InstIo a)) is = sym is
  as_ready (Some (step.InstDone a)) is = sym is

  committed : after.history.items
      ≡ before.history.items ++ entries_traced number (length before.steps.items) clock has.state.work.entry
  committed = has.tells.history
      ∙ ap (λ e. before.history.items ++ entries_traced number (length before.steps.items) clock e)
      (as_ready made tells.entry)

  traced_entries : entries_of (transcript_of after)
      ≡ with_ready number (entries_of (transcript_of before)) has.state
  traced_entries = ap (map entry_of) committed
      ∙ map-append entry_of before.history.items
      (entries_traced number (length before.steps.items) clock has.state.work.entry)
      ∙ ap (λ more. map entry_of before.history.items ++ more)
      (as_traced number (length before.steps.items) clock has.state.work.entry)

  -- the history
  procedure : (place : ℕ) (entry : Option ready.Entry)
      → after.history.items ≡ before.history.items ++ entries_traced number (length before.steps.items) clock entry
      → place ≡ length (entries_of (transcript_of before)) + 1
      → IsSomeAnd entry (IsEntryOf boot (progress_of old.worker))
      → TracesProcedure boot number clock (progress_of old.worker) place before after
  procedure place None history next of = absurd of
  procedure place (Some entry) history next of = record {
    committed = record {
      worker = number;
      ctx = entry.ctx;
      call = entry.call;
      reply = entry.reply;
      event = length before.steps.items;
      clock = clock;
    };
    history = history;
    next = next ∙ ap (λ n. n + 1) (length-map before.history.items entry_of);
    worker = refl;
    event = refl;
    clock_is = refl;
    job = of.job;
    begun = of.begun;
    planned = of.planned;
    ctx = of.ctx;
    call = of.call;
  }

  unchanged : (entry : Option ready.Entry) → entry ≡ None
      → after.history.items ≡ before.history.items ++ entries_traced number (length before.steps.items) clock entry
      → after.history.items ≡ before.history.items
  unchanged entry none history =
      history ∙ ap (λ e. before.history.items ++ entries_traced number (length before.steps.items) clock e) none
      ∙ append-nil before.history.items

  history_traced : (made : Option Step) (entry : Option ready.Entry)
      → after.history.items ≡ before.history.items ++ entries_traced number (length before.steps.items) clock entry
      → TellsEntry boot (length (entries_of (transcript_of before))) (progress_of old.worker) made entry
      → TracesHistory boot number clock (progress_of old.worker) made before after
  history_traced None entry history is = unchanged entry is history
  history_traced (Some (step.Commit added (committing.Committed place))) entry history is =
      procedure place.0 entry history is.0 is.1
  history_traced (Some (step.Commit added committing.Full)) entry history is = unchanged entry is history
  history_traced (Some (step.Commit added committing.Foreign)) entry history is = unchanged entry is history
  history_traced (Some (step.Commit added (committing.NoMemory error))) entry history is = unchanged entry is history
  history_traced (Some (step.Commit added committing.Broken)) entry history is = unchanged entry is history
  history_traced (Some (step.Commit added committing.Spent)) entry history is = unchanged entry is history
  history_traced (Some step.Called) entry history is = unchanged entry is history
  history_traced (Some step.Replied) entry history is = unchanged entry is history
  history_traced (Some (step.Begun a)) entry history is = unchanged entry is history
  history_traced (Some (step.Wanted a b c)) entry history is = unchanged entry is history
  history_traced (Some (step.Claimed a b)) entry history is = unchanged entry is history
  history_traced (Some (step.Fetched a)) entry history is = unchanged entry is history
  history_traced (Some (step.FetchFailed a)) entry history is = unchanged entry is history
  history_traced (Some (step.Ended a)) entry history is = unchanged entry is history
  history_traced (Some (step.Stable a b)) entry history is = unchanged entry is history
  history_traced (Some (step.Read a b)) entry history is = unchanged entry is history
  history_traced (Some (step.LogNext a)) entry history is = unchanged entry is history
  history_traced (Some (step.LogIo a)) entry history is = unchanged entry is history
  history_traced (Some (step.LogDone a)) entry history is = unchanged entry is history
  history_traced (Some (step.InstNext a)) entry history is = unchanged entry is history
  history_traced (Some (step.InstIo a)) entry history is = unchanged entry is history
  history_traced (Some (step.InstDone a)) entry history is = unchanged entry is history

  -- the answers
  answered : (given : Option CallAnswer) (ends : Bool) → is_some given ≡ ends
      → after.answers.items ≡ before.answers.items ++ answers_traced number (length before.steps.items) clock given
      → IfSome given (IsAnswerOf (entries_of (transcript_of after)) (progress_of old.worker) made)
      → TracesAnswers ends number clock (progress_of old.worker) made before after
  answered None true is answers of = absurd (true≢false (sym is))
  answered (Some given) false is answers of = absurd (true≢false is)
  answered None false is answers of = answers ∙ append-nil before.answers.items
  answered (Some given) true is answers of = record {
    answer = record {
      worker = number;
      verdict = given.verdict;
      place = given.place;
      event = length before.steps.items;
      clock = clock;
    };
    answers = answers;
    worker = refl;
    event = refl;
    clock_is = refl;
    job = of.job;
    stage = of.stage;
    so_far = of.so_far;
    step = of.step;
    made_is = of.made_is;
    verdict = λ t replies. of.verdict t _ replies refl refl;
  }

  progress_same : progress_of new.worker ≡ progress_of has.state
  progress_same = ap progress_of has.taken

  pub work_traced : TracesWork boot number clock old made new before after
  work_traced = record {
    progress = progress_same ∙ tells.progress;
    history = history_traced made has.state.work.entry committed tells.entry;
    answers = answered has.state.work.answer _
        (tells.answer.ends ∙ ap (λ p. not (is_idle (progress_of old.worker)) && is_idle p) (sym progress_same))
        has.tells.answers
        (subst (λ e. IfSome has.state.work.answer (IsAnswerOf e (progress_of old.worker) made))
        (sym traced_entries) tells.answer.is_of);
    steps = has.tells.steps;
    boot_is = has.tells.boot;
    stands = subst (λ s. IsWorkerAt boot (entries_of (transcript_of after)) s) (sym has.taken)
        (subst (λ e. IsWorkerAt boot e (reported has.state)) (sym traced_entries) tells.stands);
  }
