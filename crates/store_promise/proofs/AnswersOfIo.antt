-- An answer of IO has a device call before it that failed, which the steps tell.
use Rattle.std.proofs.Common.{◌≡◌, ◌⊎◌, inl, inr, ℕ, zero, suc, ◌<◌, ◌≤◌, ap, sym, ◌∙◌, refl, subst, arith, alloc_error}
use Rattle.std.proofs.Common.{Bool, true, false, ◌||◌, if◌then◌else◌, List, [], ◌∷◌, map, length, slice_get}
use Rattle.std.proofs.Common.{Option, Some, None, Result, Ok, Err}
use Rattle.std.proofs.lemmas.Bool.{cases_lt}
use Rattle.std.proofs.lemmas.Option.{slice_get_within}
use Rattle.nfs_types.specs.declared.call.Call.{Call}
use Rattle.nfs_types.specs.declared.call.Call.TheVariants as call
use Rattle.nfs_types.specs.declared.ctx.Ctx.{Ctx}
use Rattle.nfs_types.specs.declared.reply.Reply.{Reply}
use Rattle.nfs_types.specs.declared.reply.Reply.TheVariants.{Null}
use Rattle.nfs_types.specs.declared.reply.Reply.TheVariants as reply
use Rattle.nfs_types.specs.declared.status.Status.{Status}
use Rattle.nfs_types.specs.declared.status.Status.TheVariants as status
use Rattle.nfs_spec.specs.Model.Calls.{begins_transaction}
use Rattle.nfs_spec.specs.Model.Refused.{refused}
use Rattle.nfs_spec.specs.Model.Tree.{Tree}
use Rattle.nfs_spec.specs.Procedures.After.{after}
use Rattle.nfs_spec.specs.Procedures.Kinds.{fails_with, is_failure, tells_failure}
use Rattle.nfs_spec.specs.Procedures.Step.{step as steps_by}
use Rattle.txn.specs.declared.outcomes.BeginFault.{BeginFault}
use Rattle.txn.specs.declared.outcomes.BeginFault.TheVariants as fault
use Rattle.store_promise.specs.declared.answers.Verdict.TheVariants as verdict
use Rattle.store_promise.specs.declared.events.Cause.{Cause}
use Rattle.store_promise.specs.declared.events.Cause.TheVariants as cause
use Rattle.store_promise.specs.declared.events.Committing.TheVariants as committing
use Rattle.store_promise.specs.declared.events.Ending.TheVariants as ending
use Rattle.store_promise.specs.declared.events.Event.{Event}
use Rattle.store_promise.specs.declared.events.Event.TheVariants as event
use Rattle.store_promise.specs.declared.events.Step.{Step}
use Rattle.store_promise.specs.declared.events.Step.TheVariants as step
use Rattle.store_promise.specs.declared.transcript.Answer.{Answer}
use Rattle.store_promise.specs.declared.transcript.Committed.{Committed}
use Rattle.store_promise.specs.CauseOfIo.{IsOfLog, IsReadFor, is_io, tells_io}
use Rattle.store_promise.specs.Progress.{At, Begun, Called, Idle, Job, Planning, Progress, Refused, Stage}
use Rattle.store_promise.specs.Progress.{Waiting, going_on}
use Rattle.store_promise.specs.Progress.{is_idle, progressed}
use Rattle.store_promise.specs.Schedule.{IsStepOfCalled, IsStepOfWork, Schedule, Setting, RunState}
use Rattle.store_promise.specs.EventSteps.{AreTaken}
use Rattle.store_promise.specs.Schedule.{progress_before}
use Rattle.store_promise.specs.Schedule.{state_after, state_before}
use Rattle.store_promise.specs.Transcript.{Transcript, calls_device, committed_at, entry_of, fails, made}
use Rattle.store_promise.specs.Transcript.{step_at}
use Rattle.store_promise.specs.Verdicts.{HasVerdict, IsAnswer, cause_of, refusal}
use Rattle.store_promise.proofs.LogFailures.{LogShows, inst_failed, is_broken, log_failed}
use Rattle.store_promise.proofs.StableAnswers.{entry_index, one_more}
use Rattle.store_promise.proofs.RunStates.{get_within, may_be, own_next, step_is, state_next_is}
use Rattle.store_promise.proofs.WorkersFailed.{Showed, before, log_came, of_log, reads, shows, worker_came}

-- ---- along the steps

-- before the event of an index a call of the log or of the installer has failed
record LogFailed (events : Schedule) (t : Transcript) (n : ℕ) : Type 0 where
  index : ℕ
  earlier : index < n
  step_failed : fails (step_at t index) ≡ true
  whose : IsOfLog (slice_get events index)

-- or a read for the call that a worker still has
pub record Failed (events : Schedule) (t : Transcript) (n worker : ℕ) : Type 0 where
  pub index : ℕ
  pub earlier : index < n
  pub step_failed : fails (step_at t index) ≡ true
  pub whose : IsOfLog (slice_get events index) ⊎ IsReadFor events t worker index n

record Known (events : Schedule) (t : Transcript) (n : ℕ) : Type 0 where
  log : LogShows (state_before events t.steps n).log → LogFailed events t n
  own : (worker : ℕ) → shows (progress_before events t.steps worker n) ≡ true → Failed events t n worker

has_call : (so_far : Progress) → shows so_far ≡ true → is_idle so_far ≡ false
has_call Idle so = cc
has_call (At job stage) so = refl

of_the_log : (events : Schedule) (t : Transcript) (n worker : ℕ) → LogFailed events t n
    → Failed events t n worker
of_the_log events t n worker failed = record {
  index = failed.index;
  earlier = failed.earlier;
  step_failed = failed.step_failed;
  whose = inl failed.whose;
}

module _ (events : Schedule) (t : Transcript) (n : ℕ) where
  log_later : LogFailed events t n → LogFailed events t (suc n)
  log_later failed = record {
    index = failed.index;
    earlier = let early = failed.earlier in omega (arith, early);
    step_failed = failed.step_failed;
    whose = failed.whose;
  }

  module _ (worker : ℕ) (still : is_idle (progress_before events t.steps worker (suc n)) ≡ false) where
    up_to : (index : ℕ)
        → ((at : ℕ) → index ≤ at → at ≤ n → is_idle (progress_before events t.steps worker at) ≡ false)
        → (at : ℕ) → index ≤ at → at ≤ suc n → is_idle (progress_before events t.steps worker at) ≡ false
    up_to index so_far at from to = elim (cases_lt at (suc n)) [
      | inl less ↦ so_far at from (omega (arith, less))
      | inr past ↦
          let last : suc n ≡ at = omega (arith, past, to) in
          subst (λ (k : ℕ). is_idle (progress_before events t.steps worker k) ≡ false) last still
    ]

    own_later : Failed events t n worker → Failed events t (suc n) worker
    own_later failed = record {
      index = failed.index;
      earlier = let early = failed.earlier in omega (arith, early);
      step_failed = failed.step_failed;
      whose = elim failed.whose [
        | inl log ↦ inl log
        | inr read ↦ inr (record { reads = read.reads; going = up_to failed.index read.going })
      ];
    }

module _ (o : Setting) (workers : ℕ) (events : Schedule) (t : Transcript)
    (taken : AreTaken o workers events t.steps) where
  module _ (n : ℕ) (known : Known events t n) (e : Event) (m : Option Step)
      (is_event : slice_get events n ≡ Some e) (is_step : slice_get t.steps n ≡ Some m) where
    abbrev run_state : RunState
    run_state = state_before events t.steps n

    after_it : state_before events t.steps (suc n) ≡ state_after run_state e m
    after_it = state_next_is events t.steps n e m is_event is_step

    fails_now : fails m ≡ true → fails (step_at t n) ≡ true
    fails_now so = ap (λ (found : Option (Option Step)). fails (made found)) is_step ∙ so

    log_next : LogShows (state_before events t.steps (suc n)).log → LogFailed events t (suc n)
    log_next so =
        elim (log_came o workers run_state e m (taken.each n e m is_event is_step)
        (subst (λ (x : RunState). LogShows x.log) after_it so)) [
          | inl earlier ↦ log_later events t n (known.log earlier)
          | inr now ↦ record {
            index = n;
            earlier = omega arith;
            step_failed = fails_now now.0;
            whose = subst IsOfLog (sym is_event) now.1;
          }
        ]

    by_case : (worker : ℕ) → is_idle (progress_before events t.steps worker (suc n)) ≡ false
        → Showed run_state e m worker → Failed events t (suc n) worker
    by_case worker still (before so) = own_later events t n worker still (known.own worker so)
    by_case worker still (of_log so) = of_the_log events t (suc n) worker
        (log_later events t n (known.log so))
    by_case worker still (reads is so busy) = record {
      index = n;
      earlier = omega arith;
      step_failed = fails_now so;
      whose = inr (record {
        reads = is_event ∙ ap (λ (x : Event). Some x) is;
        going = up_to events t n worker still n (λ at from to.
            let same : n ≡ at = omega (arith, from, to) in
            subst (λ (k : ℕ). is_idle (progress_before events t.steps worker k) ≡ false) same busy);
      });
    }

    known_next : Known events t (suc n)
    known_next = record {
      log = log_next;
      own = λ worker so. by_case worker
          (has_call (progress_before events t.steps worker (suc n)) so)
          (worker_came o workers run_state worker e m (taken.each n e m is_event is_step)
          (subst (λ (x : RunState). shows (x.workers worker) ≡ true) after_it so));
    }

  none_yet : LogShows (state_before events t.steps 0).log → LogFailed events t 0
  none_yet (is_broken so) = cc
  none_yet (log_failed so) = cc
  none_yet (inst_failed so) = cc

  known_at : (n : ℕ) → n ≤ length t.steps → Known events t n
  known_at zero few = record { log = none_yet; own = λ worker so. cc }
  known_at (suc n) few =
      let some_step = get_within t.steps n (omega (arith, few)) in
      let some_event = get_within events n (let fewer = taken.fewer in omega (arith, few, fewer)) in
      known_next n (known_at n (omega (arith, few))) some_event.0 some_step.0 some_event.1 some_step.1

-- ---- which replies tell IO

outcome_fails : {A : Type 0} (outcome : Result A Status) → fails_with is_io outcome ≡ true
    → fails_with is_failure outcome ≡ true
outcome_fails (Ok answer) so = cc
outcome_fails (Err status.Io) so = refl
outcome_fails (Err _) so = cc

io_fails : (response : Reply) → tells_io response ≡ true → tells_failure response ≡ true
io_fails reply.Null so = cc
io_fails (reply.GetAttr outcome) so = outcome_fails outcome so
io_fails (reply.SetAttr outcome _) so = outcome_fails outcome so
io_fails (reply.Lookup outcome _) so = outcome_fails outcome so
io_fails (reply.Access outcome _) so = outcome_fails outcome so
io_fails (reply.ReadLink outcome _) so = outcome_fails outcome so
io_fails (reply.Read outcome _) so = outcome_fails outcome so
io_fails (reply.Write outcome _) so = outcome_fails outcome so
io_fails (reply.Create outcome _) so = outcome_fails outcome so
io_fails (reply.MkDir outcome _) so = outcome_fails outcome so
io_fails (reply.SymLink outcome _) so = outcome_fails outcome so
io_fails (reply.MkNod outcome _) so = outcome_fails outcome so
io_fails (reply.Remove outcome _) so = outcome_fails outcome so
io_fails (reply.RmDir outcome _) so = outcome_fails outcome so
io_fails (reply.Rename outcome _ _) so = outcome_fails outcome so
io_fails (reply.Link outcome _ _) so = outcome_fails outcome so
io_fails (reply.ReadDir outcome _) so = outcome_fails outcome so
io_fails (reply.ReadDirPlus outcome _) so = outcome_fails outcome so
io_fails (reply.FsStat outcome _) so = outcome_fails outcome so
io_fails (reply.FsInfo outcome _) so = outcome_fails outcome so
io_fails (reply.PathConf outcome _) so = outcome_fails outcome so
io_fails (reply.Commit outcome _) so = outcome_fails outcome so

-- a refusal with another status doesn't
not_io : (other : Status) (asked : Call) → is_io other ≡ false → tells_io (refused other asked) ≡ true → ⊥
not_io other call.Null never so = cc
not_io other _ never so = cc

-- no procedure of the history does
abbrev pub NoStepTellsFailure : Type 0
NoStepTellsFailure = (tree next : Tree) (ctx : Ctx) (asked : Call) (response : Reply)
    → steps_by tree ctx asked response next
    → tells_failure response ≡ false

no_entry : NoStepTellsFailure → (tree last : Tree) (history : List Committed)
    → after tree (map entry_of history) last
    → (index : ℕ) (c : Committed) → slice_get history index ≡ Some c → tells_failure c.reply ≡ false
no_entry none tree last [] leads index c is = cc
no_entry none tree last (one ∷ others) leads zero c is =
    let same : one ≡ c = cc in
    subst (λ (x : Committed). tells_failure x.reply ≡ false) same
    (none tree leads.0 (entry_of one).ctx one.call one.reply leads.1)
no_entry none tree last (one ∷ others) leads (suc index) c is =
    no_entry none leads.0 last others leads.2 index c is

pub of_history : NoStepTellsFailure → (tree last : Tree) (t : Transcript)
    → after tree (map entry_of t.history) last
    → (place : ℕ) (c : Committed) → committed_at t place ≡ Some c → tells_io c.reply ≡ true → ⊥
of_history none tree last t leads place c is so =
    let at = entry_index t place c is in
    let no = no_entry none tree last t.history leads at.0 c at.1 in
    let yes = io_fails c.reply so in
    cc

-- ---- the answer

module _ (t : Transcript) (a : Answer) (response : Reply) (is : a.verdict ≡ verdict.Reply response)
    (io : tells_io response ≡ true) where
  tells : (other : Reply) → a.verdict ≡ verdict.Reply other → tells_io other ≡ true
  tells other so =
      let same : verdict.Reply response ≡ verdict.Reply other = sym is ∙ so in
      let replies : response ≡ other = cc in
      subst (λ (r : Reply). tells_io r ≡ true) replies io

  not_refused : (other : Status) (asked : Call) → is_io other ≡ false
      → a.verdict ≡ verdict.Reply (refused other asked) → ⊥
  not_refused other asked never so = not_io other asked never (tells (refused other asked) so)

  no_memory : a.verdict ≡ verdict.NoMemory alloc_error → ⊥
  no_memory so =
      let same : verdict.Reply response ≡ verdict.NoMemory alloc_error = sym is ∙ so in cc

  by_begun : (now : RunState) (ruled : Bool) (asked : Call) (why : BeginFault)
      → IsStepOfCalled now ruled (step.Begun (Err why)) → a.verdict ≡ refusal asked (cause_of why)
      → now.log.broken ≡ true
  by_begun now true asked fault.Broken may so = may
  by_begun now true asked fault.Spent may so = absurd (not_refused status.ServerFault asked refl so)
  by_begun now true asked (fault.NoMemory error) may so = absurd (no_memory so)
  by_begun now false asked why may so = cc

  by_refused : (job : Job) (begun : Begun) (why : Cause) → a.verdict ≡ refusal job.call why
      → shows (At job (Refused begun why)) ≡ true
  by_refused job begun cause.Io so = refl
  by_refused job begun cause.Spent so = absurd (not_refused status.ServerFault job.call refl so)
  by_refused job begun (cause.NoMemory error) so = absurd (no_memory so)

  by_waiting : (job : Job) (broken : Bool) (place : ℕ)
      → is_idle (going_on job (if false || broken then None else Some (Waiting place))) ≡ true → broken ≡ true
  by_waiting job true place ends = refl
  by_waiting job false place ends = cc

  module _ (none : (place : ℕ) (c : Committed) → committed_at t place ≡ Some c → tells_io c.reply ≡ true → ⊥)
      (o : Setting) (now : RunState) (worker : ℕ) (job : Job) where
    by_verdict : (stage : Stage) (one : Step) → HasVerdict t job.call stage one a
        → IsStepOfWork o now worker (At job stage) (Some one)
        → is_idle (progressed now.log.broken one (At job stage)) ≡ true
        → (shows (At job stage) ≡ true) ⊎ (now.log.broken ≡ true)
    by_verdict (Called known) step.Replied has may ends = let no : false ≡ true = tells Null has.1 in cc
    by_verdict (Called known) (step.Begun (Err why)) has may ends =
        inr (by_begun now (begins_transaction job.call) job.call why may has.1)
    by_verdict (Planning begun) (step.Commit blocks (committing.Committed place)) has may ends =
        absurd (none place.0 has.entry has.is_entry (tells has.entry.reply has.is_replied))
    by_verdict (Planning begun) (step.Ended (ending.NoMemory error)) has may ends = absurd (no_memory has.1)
    by_verdict (Refused begun why) (step.Ended ending.Refused) has may ends =
        inl (by_refused job begun why has.1)
    by_verdict (Waiting place) (step.Stable seq true) has may ends =
        absurd (none place has.entry has.is_entry (tells has.entry.reply has.is_replied))
    by_verdict (Waiting place) (step.Stable seq false) has may ends =
        inr (by_waiting job now.log.broken place ends)
    by_verdict _ _ has may ends = absurd has

pub failed_before : (o : Setting) (workers : ℕ) (events : Schedule) (t : Transcript) (a : Answer) (response : Reply)
    → AreTaken o workers events t.steps → IsAnswer events t a
    → ((place : ℕ) (c : Committed) → committed_at t place ≡ Some c → tells_io c.reply ≡ true → ⊥)
    → a.verdict ≡ verdict.Reply response → tells_io response ≡ true → Failed events t a.event a.worker
failed_before o workers events t a response taken answer none is io =
    let now = state_before events t.steps a.event in
    let is_step = step_is t a.event answer.step answer.made in
    let may : IsStepOfWork o now a.worker (At answer.job answer.stage) (Some answer.step) =
    subst (λ p. IsStepOfWork o now a.worker p (Some answer.step)) answer.so_far
    (may_be o workers now (event.Work a.worker) answer.step
    (taken.each a.event (event.Work a.worker) (Some answer.step) answer.event is_step)) in
    let next = own_next events t.steps a.event a.worker answer.step answer.event is_step in
    let ends : is_idle (progressed now.log.broken answer.step (At answer.job answer.stage)) ≡ true =
    ap is_idle (sym (ap (λ n. progress_before events t.steps a.worker n) (one_more a.event) ∙ next
    ∙ ap (progressed now.log.broken answer.step) answer.so_far)) ∙ answer.ends in
    let few = slice_get_within t.steps a.event (Some answer.step) is_step in
    let known = known_at o workers events t taken a.event (omega (arith, few)) in
    elim (by_verdict t a response is io none o now a.worker answer.job answer.stage answer.step
    answer.verdict may ends) [
      | inl shown ↦ known.own a.worker (ap shows answer.so_far ∙ shown)
      | inr broken ↦ of_the_log events t a.event a.worker (known.log (is_broken broken))
    ]

-- ---- a step that fails makes a device call

pub calls_one : (m : Option Step) → fails m ≡ true → calls_device m ≡ true
calls_one (Some (step.Read block ok)) so = refl
calls_one (Some (step.LogIo ok)) so = refl
calls_one (Some (step.InstIo ok)) so = refl
calls_one (Some _) so = cc
calls_one None so = cc
