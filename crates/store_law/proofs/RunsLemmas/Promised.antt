-- What was promised to last was told as settled.
use Rattle.std.proofs.Common.{◌≡◌, ℕ, zero, suc, ◌+◌, ◌<◌, ◌≤◌, ap, sym, ◌∙◌, refl, subst, arith}
use Rattle.std.proofs.Common.{true, false, List, [], ◌∷◌, Some, None, Ok, Err, length, map, slice_get}
use Rattle.std.proofs.lemmas.Bool.{leb-true}
use Rattle.std.specs.Prelude.{Contains}
use Rattle.nfs_types.specs.declared.call.Call.{Call}
use Rattle.nfs_types.specs.declared.ctx.Ctx.{Ctx}
use Rattle.nfs_types.specs.declared.reply.Reply.{Reply}
use Rattle.nfs_types.specs.declared.status.Status.TheVariants as status
use Rattle.nfs_spec.specs.Model.Entry.{Entry}
use Rattle.nfs_spec.specs.Procedures.After.{after}
use Rattle.nfs_spec.specs.Model.Calls.{is_answered_stable}
use Rattle.nfs_spec.specs.Model.Refused.{refused}
use Rattle.nfs_spec.specs.Procedures.Step as procedures
use Rattle.nfs_spec.specs.Model.Tree.{Tree}
use Rattle.circ.specs.declared.log.outcomes.Seq.{Seq}
use Rattle.disk.specs.declared.block.BlockNo.{BlockNo}
use Rattle.store_promise.proofs.RulesAre.{own_step}
use Rattle.store_promise.specs.declared.answers.Verdict.TheVariants as verdict
use Rattle.store_promise.specs.declared.events.Committing.TheVariants as committing
use Rattle.store_promise.specs.declared.events.Ending.TheVariants as ending
use Rattle.store_promise.specs.declared.events.Event.TheVariants as event
use Rattle.store_promise.specs.declared.events.Step.{Step}
use Rattle.store_promise.specs.declared.events.Step.TheVariants as step
use Rattle.store_promise.specs.declared.transcript.Answer.{Answer}
use Rattle.store_promise.specs.declared.transcript.Committed.{Committed}
use Rattle.store_promise.specs.Headline.{WasPromised, by_answer, by_commit, by_steps}
use Rattle.store_promise.specs.History.{IsHistory}
use Rattle.store_promise.specs.LogState.{state_settled}
use Rattle.store_promise.specs.Progress.{Again, At, Called, Planning, Read, Reading, Refused, Stage, Waiting}
use Rattle.store_promise.specs.Schedule.{IsStepOfWork, Schedule, Setting, state_before}
use Rattle.store_promise.specs.EventSteps.{AreTaken}
use Rattle.store_promise.specs.Transcript.{Transcript, committed_at, entries_of, entry_of}
use Rattle.store_promise.specs.Verdicts.{AreAnswers, HasVerdict, IsAnswer, IsReplyAt, IsStableAnswer}
use Rattle.store_promise.specs.Verdicts.{IsUnsettledAt}
use Rattle.store_promise.proofs.StableAnswers.{comes_later, entry_index, same_entry}
use Rattle.store_promise.proofs.RunStates.{only_of_some, step_is}
use Rattle.store_law.specs.Runs.Past.{WasSettledBy}
use Rattle.store_law.proofs.RunsLemmas.Waited.{waits_for_its_own}

-- ---- what a step of an answer has told

data AnswerCase (t : Transcript) (asked : Call) (a : Answer) (stage : Stage) (made : Step) : Type 0 where
  of_none : a.place ≡ None → AnswerCase t asked a stage made
  at_commit : (blocks : List BlockNo) (place : Seq) → made ≡ step.Commit blocks (committing.Committed place)
      → IsReplyAt t place a → AnswerCase t asked a stage made
  settled : (place : ℕ) (seq : Seq) → stage ≡ Waiting place → made ≡ step.Stable seq true
      → IsReplyAt t (record { 0 = place }) a → AnswerCase t asked a stage made
  unsettled : (place : ℕ) → stage ≡ Waiting place → IsUnsettledAt asked (record { 0 = place }) a
      → AnswerCase t asked a stage made

answer_case_of : (t : Transcript) (asked : Call) (a : Answer) (stage : Stage) (made : Step)
    → HasVerdict t asked stage made a
    → AnswerCase t asked a stage made
answer_case_of t asked a (Called known) step.Replied has = of_none has.0
answer_case_of t asked a (Called known) (step.Begun (Err why)) has = of_none has.0
answer_case_of t asked a (Called known) (step.Begun (Ok number)) has = absurd has
answer_case_of t asked a (Called known) _ has = absurd has
answer_case_of t asked a (Planning begun) (step.Commit blocks (committing.Committed place)) has =
    at_commit blocks place refl has
answer_case_of t asked a (Planning begun) (step.Commit blocks committing.Full) has = absurd has
answer_case_of t asked a (Planning begun) (step.Commit blocks committing.Foreign) has = absurd has
answer_case_of t asked a (Planning begun) (step.Commit blocks (committing.NoMemory error)) has = absurd has
answer_case_of t asked a (Planning begun) (step.Commit blocks committing.Broken) has = absurd has
answer_case_of t asked a (Planning begun) (step.Commit blocks committing.Spent) has = absurd has
answer_case_of t asked a (Planning begun) (step.Ended (ending.NoMemory error)) has = of_none has.0
answer_case_of t asked a (Planning begun) (step.Ended ending.Refused) has = absurd has
answer_case_of t asked a (Planning begun) (step.Ended ending.Again) has = absurd has
answer_case_of t asked a (Planning begun) _ has = absurd has
answer_case_of t asked a (Reading begun taken) _ has = absurd has
answer_case_of t asked a (Read begun taken ok) _ has = absurd has
answer_case_of t asked a (Refused begun why) (step.Ended ending.Refused) has = of_none has.0
answer_case_of t asked a (Refused begun why) (step.Ended (ending.NoMemory error)) has = absurd has
answer_case_of t asked a (Refused begun why) (step.Ended ending.Again) has = absurd has
answer_case_of t asked a (Refused begun why) _ has = absurd has
answer_case_of t asked a (Again begun request) _ has = absurd has
answer_case_of t asked a (Waiting place) (step.Stable seq true) has = settled place seq refl refl has
answer_case_of t asked a (Waiting place) (step.Stable seq false) has = unsettled place refl has
answer_case_of t asked a (Waiting place) _ has = absurd has

-- ---- each procedure was a step

step_of : (tree last : Tree) (entries : List Entry) (index : ℕ) (e : Entry) → after tree entries last
    → slice_get entries index ≡ Some e → (one next : Tree) × procedures.step one e.ctx e.call e.reply next
step_of tree last [] index e leads is = cc
step_of tree last (first ∷ others) zero e leads is =
    let same : first ≡ e = cc in
    (tree, leads.0, subst (λ (e : Entry). procedures.step tree e.ctx e.call e.reply leads.0) same leads.1)
step_of tree last (first ∷ others) (suc index) e leads is = step_of leads.0 last others index e leads.2 is

entry_there : (cs : List Committed) (index : ℕ) (c : Committed) → slice_get cs index ≡ Some c
    → slice_get (map entry_of cs) index ≡ Some (entry_of c)
entry_there [] index c is = cc
entry_there (first ∷ others) zero c is = let same : first ≡ c = cc in ap (λ c. Some (entry_of c)) same
entry_there (first ∷ others) (suc index) c is = entry_there others index c is

-- ---- a stable answer

contains_at : {X : Type 0} (xs : List X) (x : X) → Contains xs x → (index : ℕ) × (slice_get xs index ≡ Some x)
contains_at [] x has = absurd (let less = has.1 in omega (arith, less))
contains_at (first ∷ others) x (zero, less, is) = (0, ap (λ y. Some y) is)
contains_at (first ∷ others) x (suc index, less, is) =
    let rest = contains_at others x (index, omega (arith, less), is) in (suc rest.0, rest.1)

same_place : (one other : Seq) (a : Answer) → a.place ≡ Some one → a.place ≡ Some other → one ≡ other
same_place one other a is so =
    let same : Some one ≡ Some other = sym is ∙ so in
    cc

no_place : (one : Seq) (a : Answer) → a.place ≡ None → a.place ≡ Some one → ⊥
no_place one a none is = cc

module _ (o : Setting) (workers : ℕ) (events : Schedule) (t : Transcript) (tree last : Tree)
    (taken : AreTaken o workers events t.steps) (history : IsHistory events t) (answers : AreAnswers events t)
    (leads : after tree (entries_of t) last)
    (never : (tree next : Tree) (ctx : Ctx) (asked : Call) → is_answered_stable asked ≡ true
    → procedures.step tree ctx asked (refused status.Io asked) next → ⊥) where
  module _ (a : Answer) (place : ℕ) (answer : IsAnswer events t a) (stable : IsStableAnswer t a place) where
    step_there : slice_get t.steps a.event ≡ Some (Some answer.step)
    step_there = step_is t a.event answer.step answer.made

    abbrev IsSettled : Type 0
    IsSettled = place ≤ state_settled (state_before events t.steps a.event).log

    within : a.event ≤ length t.steps
    within = let less = get_less t.steps a.event (Some answer.step) step_there in omega (arith, less)
      where
        get_less : {X : Type 0} (xs : List X) (index : ℕ) (x : X) → slice_get xs index ≡ Some x
            → index < length xs
        get_less [] index x is = cc
        get_less (first ∷ others) zero x is = omega arith
        get_less (first ∷ others) (suc index) x is = let less = get_less others index x is in
            omega (arith, less)

    by_step : (waited : ℕ) (seq : Seq) → answer.stage ≡ Waiting waited → answer.step ≡ step.Stable seq true
        → waited ≡ place → IsSettled
    by_step waited seq stage_is step_is_stable same =
        let there = only_of_some o workers events t.steps taken a.event a.worker answer.step
        answer.event step_there in
        let own = own_step o workers _ _ _ (taken.each a.event (event.Work a.worker) (Some answer.step) answer.event
        step_there) there in
        let so_far = answer.so_far ∙ ap (At answer.job) stage_is in
        let may = subst (λ p. IsStepOfWork o (state_before events t.steps a.event) a.worker p
        (Some answer.step)) so_far own in
        let stepped = subst (λ one. IsStepOfWork o (state_before events t.steps a.event) a.worker
        (At answer.job (Waiting waited)) (Some one)) step_is_stable may in
        let less = leb-true waited (state_settled (state_before events t.steps a.event).log) (sym stepped.1) in
        omega (arith, less, same)

    -- IO in its stead isn't the reply of what was committed
    not_broken : (waited : ℕ) → answer.stage ≡ Waiting waited → waited ≡ place
        → a.verdict ≡ verdict.Reply (refused status.Io answer.job.call) → ⊥
    not_broken waited stage_is same proven =
        let so_far = answer.so_far ∙ ap (At answer.job) stage_is in
        let own = waits_for_its_own o workers events t taken history a.worker answer.job waited a.event
        within so_far in
        let entry_is : own.0 ≡ stable.entry = same_entry t place own.0 stable.entry
        (ap (λ (n : ℕ). committed_at t n) (sym same) ∙ own.1) stable.is_entry in
        let call_is : stable.entry.call ≡ answer.job.call =
        ap (λ (c : Committed). c.call) (sym entry_is) ∙ own.2 in
        let replies : verdict.Reply stable.entry.reply ≡ verdict.Reply (refused status.Io answer.job.call) =
        sym stable.is_replied ∙ proven in
        let reply_is : stable.entry.reply ≡ refused status.Io answer.job.call = cc in
        let index = entry_index t place stable.entry stable.is_entry in
        let transition = step_of tree last (entries_of t) index.0 (entry_of stable.entry) leads
        (entry_there t.history index.0 stable.entry index.1) in
        never transition.0 transition.1 stable.entry.ctx stable.entry.call stable.waits
        (subst (λ (r : Reply). procedures.step transition.0 stable.entry.ctx stable.entry.call r transition.1)
        (reply_is ∙ ap (refused status.Io) (sym call_is)) transition.2)

    by_answer_case : AnswerCase t answer.job.call a answer.stage answer.step → IsSettled
    by_answer_case (of_none none) = absurd (no_place _ a none stable.placed)
    by_answer_case (at_commit blocks at made_is reply) =
        let same = same_place at (record { 0 = place }) a reply.placed stable.placed in
        absurd (comes_later events t a place blocks history answer stable
        (answer.made ∙ ap (λ (s : Step). Some s) made_is
        ∙ ap (λ (p : Seq). Some (step.Commit blocks (committing.Committed p))) same))
    by_answer_case (settled waited seq stage_is made_is reply) =
        let same = same_place (record { 0 = waited }) (record { 0 = place }) a reply.placed stable.placed in
        by_step waited seq stage_is made_is (ap (λ (p : Seq). p.0) same)
    by_answer_case (unsettled waited stage_is broken) =
        let same = same_place (record { 0 = waited }) (record { 0 = place }) a broken.0 stable.placed in
        absurd (not_broken waited stage_is (ap (λ (p : Seq). p.0) same) broken.1)

    pub settled_if_stable : IsSettled
    settled_if_stable = by_answer_case (answer_case_of t answer.job.call a answer.stage answer.step answer.verdict)

    pub settled_by_clock : (start clock least : ℕ) → start + a.clock ≤ clock → least ≤ place
        → WasSettledBy events start t clock least
    settled_by_clock start clock least by low =
        let proven = settled_if_stable in
        let clocks = answer.clock in
        record {
          index = a.event;
          within = within;
          by = omega (arith, by, clocks);
          settled = omega (arith, proven, low);
        }

  -- whatever was promised to last was told as settled by then
  pub was_settled : (start clock place : ℕ) → WasPromised events start t clock place
      → WasSettledBy events start t clock place
  was_settled start clock place (by_answer a given by stable) =
      let at = contains_at t.answers a given in
      settled_by_clock a place (answers.each at.0 a at.1) stable start clock place by (omega arith)
  was_settled start clock place (by_commit a given by covered) =
      let at = contains_at t.answers a given in
      let later = covered.later in
      settled_by_clock a covered.by (answers.each at.0 a at.1) covered.stable start clock place by (omega (arith, later))
  was_settled start clock place (by_steps index few by proven) =
      record { index = index; within = few; by = by; settled = proven }
