-- A step keeps what a worker has its job's, and what it gives answers the job.
use Rattle.std.proofs.Common.{◌≡◌, ◌∙◌, refl, sym, ap, subst, ℕ, List, Bool, true, false, true≢false, Option, Some, None, inl, inr, alloc_error}
use Rattle.std.specs.Prelude.{IsSomeAnd, IsTrue, MatchOption, if◌then◌else◌, is_some, option_map, ◌↔◌, ◌≤◌, unwrap_or}
use Rattle.disk.specs.Ports.{AnsweredCalls}
use Rattle.disk.specs.declared.block.BlockNo.{BlockNo}
use Rattle.nfs_spec.specs.Model.Calls.{begins_transaction, is_answered_stable}
use Rattle.nfs_spec.specs.Model.Refused.{refused}
use Rattle.nfs_types.specs.declared.call.Call.{Call}
use Rattle.nfs_types.specs.declared.reply.Reply.{Reply}
use Rattle.nfs_types.specs.declared.reply.Reply.TheVariants.{Null}
use Rattle.nfs_types.specs.declared.status.Status.TheVariants as status
use Rattle.objects.specs.declared.addr.Addr.{Addr}
use Rattle.objects.specs.declared.mode.Mode.{Mode}
use Rattle.procs.specs.Outcome.{Outcome}
use Rattle.store_promise.specs.LockRequests.{is_barred}
use Rattle.store_promise.specs.Verdicts.{cause_of, refusal}
use Rattle.store_promise.specs.declared.lock_requests.LockRequest.TheVariants as lock_request
use Rattle.store_promise.specs.declared.answers.CallAnswer.{CallAnswer}
use Rattle.store_promise.specs.declared.answers.Entry.{Entry}
use Rattle.store_promise.specs.declared.answers.Verdict.{Verdict}
use Rattle.store_promise.specs.declared.answers.Verdict.TheVariants as verdict
use Rattle.store_promise.specs.declared.events.Cause.{Cause}
use Rattle.store_promise.specs.declared.events.Cause.TheVariants as cause
use Rattle.store_promise.specs.declared.events.Committing.TheVariants as committing
use Rattle.store_promise.specs.declared.events.Step.{Step}
use Rattle.store_promise.specs.declared.events.Step.TheVariants as step
use Rattle.store_workers.proofs.WorkCases.{Cases, by_cases}
use Rattle.store_workers.specs.SourceReads.{HasReadFrom}
use Rattle.store_workers.specs.RunReports.{reported}
use Rattle.store_workers.specs.Witnessed.{WitnessesCommit, witnessed_entry}
use Rattle.store_workers.specs.WorkerAnswers.{after_commit, asked_wanted, begun_claimed, begun_wanted}
use Rattle.store_workers.specs.WorkerAnswers.{committing_of, known_claimed, known_wanted, phase_claimed, phase_wanted}
use Rattle.store_workers.specs.WorkerAnswers.{answered_or_waiting, with_answer, with_entry}
use Rattle.store_workers.specs.WorkerSteps.{GoesOn, HasClaimed, HasGivenBack}
use Rattle.store_workers.specs.WorkerSteps.{HasWanted, IsReplySent, WorkerAndCore, Waits, none_begun, with_snap}
use Rattle.store_workers.specs.declared.workers.Worker.{Worker}
use Rattle.store_workers.specs.declared.workers.parts.Job as own
use Rattle.store_workers.specs.declared.workers.parts.Phase.{Phase}
use Rattle.store_workers.specs.declared.workers.parts.Phase.TheVariants.{Idle, Called, Planning}
use Rattle.store_workers.specs.declared.workers.parts.Phase.TheVariants.{Reading, Read}
use Rattle.store_workers.specs.declared.workers.parts.Phase.TheVariants.{Refused, Again, Waiting}
use Rattle.store_workers.specs.declared.workers.parts.State.{State}
use Rattle.txn.specs.Core.{CoreState}
use Rattle.txn.specs.Fetch.{Fetch}
use Rattle.txn.specs.Receipts.{Given}
use Rattle.txn.specs.declared.outcomes.Claim.{Claim}
use Rattle.txn.specs.declared.outcomes.Claim.TheVariants as claim
use Rattle.txn.specs.declared.outcomes.Commit.{Commit}
use Rattle.txn.specs.declared.outcomes.Commit.TheVariants as commit
use Rattle.txn.specs.declared.outcomes.Want.{Want}
use Rattle.txn.specs.declared.outcomes.Want.TheVariants as want
use Rattle.circ.specs.Log.Log.{settled_place}
use Rattle.circ.specs.declared.log.outcomes.Seq.{Seq}
use Rattle.pool_requests.specs.Answers.Evident.{Answered, IsOwn}
use Rattle.pool_requests.specs.Jobs.Sent.{Sent}
use Rattle.pool.specs.Answers.{GivesBy, GivesFor, IsInPlace, in_flight_after, in_flight_with, given_to, kept, way_by}
use Rattle.pool.specs.Seated.{HasCall, IsOf, IsSeated, StandsWith, WaitsWith}
use Rattle.pool.specs.Stepping.{ReadsFrom}
use Rattle.pool.specs.Working.{Working}
use Rattle.pool.specs.CallInFlight.{CallInFlight}

-- what holds of what there is
at_some : {X : Type 0} (P : X → Type 0) (found : Option X) (x : X) → found ≡ Some x → IsSomeAnd found P → P x
at_some {X = X} P found x is all = subst (λ (o : Option X). IsSomeAnd o P) is all

some_inj : {X : Type 0} {a b : X} → Some a ≡ Some b → a ≡ b
some_inj {X = X} {a = a} is = ap (λ (o : Option X). unwrap_or o a) is

-- nothing was shown
none_shown : (shown : Option (Given Outcome)) → option_map witnessed_entry shown ≡ None → shown ≡ None
none_shown None is = refl
none_shown (Some given) is = absurd (true≢false (ap (λ (o : Option Entry). is_some o) is))

-- this was shown
some_shown : (shown : Option (Given Outcome)) (entry : Entry) → option_map witnessed_entry shown ≡ Some entry
    → (given : Given Outcome) × (shown ≡ Some given) × (witnessed_entry given ≡ entry)
some_shown None entry is = absurd (true≢false (sym (ap (λ (o : Option Entry). is_some o) is)))
some_shown (Some given) entry is = (given, refl, some_inj is)

-- Once its call is answered it is idle; else it stands as before.
abbrev StandsAfter : Option Sent → Option (Given Outcome) → Option CallAnswer → State → Type 0
StandsAfter reply_address witness None state = StandsWith reply_address witness state.phase (reported state)
StandsAfter reply_address witness (Some given) state = state.phase ≡ Idle

-- what a step leaves of a worker with this job, and of what shows its commit
record Leaves (sent : Sent) (witness : Option (Given Outcome)) (core : CoreState) (made : Option Step) (state : State)
    : Type 0 where
  pub stands : StandsAfter (Some sent) witness state.work.answer state
  pub gives : given_to core made (Some sent) witness state.work.answer

in_place : (call : Call) (why : Cause) → IsInPlace call (refusal call why)
in_place call (cause.NoMemory error) = tt
in_place call cause.Io = inl refl
in_place call cause.Spent = inr refl

module _ (sent : Sent) (before shown : Option (Given Outcome)) (old new : WorkerAndCore) (none : old.worker.work.answer ≡ None) where
  abbrev keeping : Option (Given Outcome)
  keeping = kept before shown

  abbrev LeavesIt : Phase → Option Step → Type 0
  LeavesIt phase made = old.worker.phase ≡ phase → StandsWith (Some sent) before phase old.worker
      → WitnessesCommit made new.worker shown → Leaves sent keeping new.core made new.worker

  so : (made : Option Step) (state : State) → new.worker ≡ state → Leaves sent keeping new.core made state
      → Leaves sent keeping new.core made new.worker
  so made state is leaves = subst (λ (s : State). Leaves sent keeping new.core made s) (sym is) leaves

  -- it goes on with its call
  stays : (made : Option Step) (state : State) → state.work.answer ≡ None
      → StandsWith (Some sent) keeping state.phase (reported state) → Leaves sent keeping new.core made state
  stays made state is stands = record {
    stands = subst (λ (a : Option CallAnswer). StandsAfter (Some sent) keeping a state) (sym is) stands;
    gives = subst (λ (a : Option CallAnswer). given_to new.core made (Some sent) keeping a) (sym is) tt;
  }

  unchanged : (made : Option Step) (phase : Phase) → old.worker.phase ≡ phase
      → StandsWith (Some sent) keeping phase (reported old.worker) → new.worker ≡ old.worker
      → Leaves sent keeping new.core made new.worker
  unchanged made phase phase_is going is = so made old.worker is (stays made old.worker none
      (subst (λ (p : Phase). StandsWith (Some sent) keeping p (reported old.worker)) (sym phase_is) going))

  -- it gives an answer, and is idle
  answers : (made : Option Step) (base : State) (heard : Verdict) (place : Option Seq)
      → GivesBy new.core (way_by made) sent keeping heard → new.worker ≡ with_answer heard place base
      → Leaves sent keeping new.core made new.worker
  answers made base heard place is worker =
      so made (with_answer heard place base) worker (record { stands = refl; gives = is })

  -- one that is kept off waits, or begins again: its call stays
  deferred : (above : Bool) (state : State) → HasCall state sent
      → StandsWith (Some sent) keeping (if above then Again else Planning) state
  deferred true state call = call
  deferred false state call = call

  wants : (tx : ℕ) (addr : Addr) (mode : Mode) (made : Step) (tells : Option Step) (has : HasWanted tx addr mode old made new)
      → HasCall old.worker sent → Leaves sent keeping new.core tells new.worker
  wants tx addr mode made tells has call = so tells _ has.worker (by has.answer)
    where
      by : (answer : Want) → Leaves sent keeping new.core tells (record (with_snap new.worker old.worker) {
        phase = phase_wanted addr mode answer old.worker.known;
        begun = begun_wanted answer;
        asked = asked_wanted addr mode answer old.worker.asked;
        known = known_wanted addr mode answer (with_snap new.worker old.worker).known;
      })
      by (want.Held back bytes) = stays tells _ none call
      by (want.Fetch back io) = stays tells _ none call
      by (want.Busy back) = stays tells _ none (deferred (is_barred (lock_request.Object addr mode) old.worker.known.taken) _ call)
      by (want.Loading back) = stays tells _ none (deferred (is_barred (lock_request.Object addr mode) old.worker.known.taken) _ call)
      by (want.Outside back) = stays tells _ none call
      by (want.NoMemory back error) = stays tells _ none call

  claims : (tx : ℕ) (block : BlockNo) (made : Step) (tells : Option Step) (has : HasClaimed tx block old made new)
      → HasCall old.worker sent → Leaves sent keeping new.core tells new.worker
  claims tx block made tells has call = so tells _ has.worker (by has.answer)
    where
      by : (answer : Claim) → Leaves sent keeping new.core tells (record (with_snap new.worker old.worker) {
        phase = phase_claimed block answer old.worker.known;
        begun = begun_claimed answer;
        known = known_claimed block answer (with_snap new.worker old.worker).known;
      })
      by (claim.Held back) = stays tells _ none call
      by (claim.Busy back) = stays tells _ none (deferred (is_barred (lock_request.Claim block) old.worker.known.taken) _ call)
      by (claim.Loading back) = stays tells _ none (deferred (is_barred (lock_request.Claim block) old.worker.known.taken) _ call)
      by (claim.Outside back) = stays tells _ none call
      by (claim.NoMemory back error) = stays tells _ none call

  module _ (mine : own.Job) (of : IsOf sent mine) (done : Outcome) (call : HasCall old.worker sent) where
    abbrev planned : State
    planned = record (with_snap new.worker old.worker) { begun = none_begun }

    module _ (blocks : List BlockNo) (place : Seq) (given : Given Outcome) (shown_is : shown ≡ Some given)
        (entry : witnessed_entry given ≡ record { ctx = mine.ctx; call = mine.call; reply = done.reply })
        (place_is : given.place ≡ place) where
      abbrev commit_made : Option Step
      commit_made = Some (step.Commit blocks (committing.Committed place))

      after_is : keeping ≡ Some given
      after_is = ap (λ (s : Option (Given Outcome)). kept before s) shown_is

      mine_own : IsOwn sent given.change
      mine_own = record {
        call = ap (λ (e : Entry). e.call) entry ∙ of.call;
        credential = ap (λ (e : Entry). e.ctx.credential) entry ∙ of.credential;
        moment = ap (λ (e : Entry). e.ctx.moment) entry ∙ of.moment;
      }

      reply_is : given.change.reply ≡ done.reply
      reply_is = ap (λ (e : Entry). e.reply) entry

      placed : (stable : Bool) → is_answered_stable mine.call ≡ stable
          → Leaves sent (Some given) new.core commit_made (with_entry mine done.reply (answered_or_waiting stable mine done.reply place planned))
      placed true stable = record {
        stands = subst (λ (a : Option CallAnswer). StandsAfter (Some sent) (Some given) a
            (with_entry mine done.reply (answered_or_waiting true mine done.reply place planned))) (sym none) (record {
              place_is = place_is;
              own = mine_own;
              reply_is = ap (λ (r : Reply). Some r) (sym reply_is);
              broken_is = ap (λ (c : Call). Some (refused status.Io c)) of.call;
            });
        gives = subst (λ (a : Option CallAnswer). given_to new.core commit_made (Some sent) (Some given) a) (sym none) tt;
      }
      placed false stable = record {
        stands = refl;
        gives = (
          record { own = mine_own; verdict_is_reply = ap (λ (r : Reply). verdict.Reply r) (sym reply_is) },
          sym (ap is_answered_stable of.call) ∙ stable,
        );
      }

    commits_by : (blocks : List BlockNo) (answer : Commit Outcome) → new.worker ≡ after_commit mine done.reply answer planned
        → WitnessesCommit (Some (step.Commit blocks (committing_of answer))) new.worker shown
        → Leaves sent keeping new.core (Some (step.Commit blocks (committing_of answer))) (after_commit mine done.reply answer planned)
    commits_by blocks (commit.Committed receipt) worker witnesses_commit =
        let entry_is = witnesses_commit.entry ∙ ap (λ (s : State). s.work.entry) worker in
        let is = some_shown shown _ entry_is in
        let place_is : is.0.place ≡ receipt.place =
        some_inj (sym (ap (λ (s : Option (Given Outcome)). option_map (λ (g : Given Outcome). g.place) s) is.1) ∙ witnesses_commit.place) in
        subst (λ (v : Option (Given Outcome)). Leaves sent v new.core (Some (step.Commit blocks (committing_of {C = Outcome} (commit.Committed receipt))))
        (after_commit mine done.reply (commit.Committed receipt) planned))
        (sym (after_is blocks receipt.place is.0 is.1 is.2 place_is))
        (placed_at blocks receipt is.0 is.1 is.2 place_is)
      where
        placed_at : (blocks : List BlockNo) (receipt given : Given Outcome) (shown_is : shown ≡ Some given)
            (entry : witnessed_entry given ≡ record { ctx = mine.ctx; call = mine.call; reply = done.reply })
            (place_is : given.place ≡ receipt.place)
            → Leaves sent (Some given) new.core (Some (step.Commit blocks (committing_of {C = Outcome} (commit.Committed receipt))))
            (after_commit mine done.reply (commit.Committed receipt) planned)
        placed_at blocks receipt given shown_is entry place_is =
            let it = placed blocks receipt.place given shown_is entry place_is (is_answered_stable mine.call) refl in
            record { stands = it.stands; gives = it.gives }
    commits_by blocks (commit.Full back same) worker witnesses_commit = stays _ _ none call
    commits_by blocks (commit.Foreign back same) worker witnesses_commit = stays _ _ none call
    commits_by blocks (commit.NoMemory back same error) worker witnesses_commit = stays _ _ none call
    commits_by blocks (commit.Broken back same) worker witnesses_commit = stays _ _ none call
    commits_by blocks (commit.Spent back same) worker witnesses_commit = stays _ _ none call

  gives_back : (ok : Bool) (io : Fetch) (made : Step) (tells : Option Step) → HasGivenBack ok io old made new
      → HasCall old.worker sent → Leaves sent keeping new.core tells new.worker
  gives_back true io made tells has call = so tells _ has.worker (stays tells _ none call)
  gives_back false io made tells has call = so tells _ has.worker (stays tells _ none call)

  abbrev without_reply : State
  without_reply = record old.worker { work = record old.worker.work { reply = None } }

  abbrev without_broken : State
  without_broken = record old.worker { work = record old.worker.work { broken_reply = None } }

  module _ (given : Given Outcome) (place : Seq) (after_is : keeping ≡ Some given)
      (stands : WaitsWith place old.worker sent given) (core_is : new.core ≡ old.core)
      (phase_is : old.worker.phase ≡ Waiting place) where
    waits_by : (settled broken : Bool) → IsReplySent settled broken place old.worker new.worker
        → IsTrue settled ↔ (place.0 ≤ settled_place old.core.log)
        → Leaves sent keeping new.core (Some (step.Stable place settled)) new.worker
    waits_by true broken reply_now_given settled_is =
        answers (Some (step.Stable place true)) without_reply (verdict.Reply given.change.reply) (Some place)
        (subst (λ (v : Option (Given Outcome)). GivesBy new.core (way_by (Some (step.Stable place true))) sent v (verdict.Reply given.change.reply))
        (sym after_is) (
          record { own = stands.own; verdict_is_reply = refl },
          stands.place_is,
          subst (λ (c : CoreState). place.0 ≤ settled_place c.log) (sym core_is) (settled_is.0 refl),
        )) (at_some (λ (reply : Reply). new.worker ≡ with_answer (verdict.Reply reply) (Some place) without_reply)
        old.worker.work.reply given.change.reply stands.reply_is reply_now_given)
    waits_by false true reply_now_given settled_is =
        answers (Some (step.Stable place false)) without_broken (verdict.Reply (refused status.Io sent.job.call)) (Some place)
        (inl refl) (at_some (λ (reply : Reply). new.worker
        ≡ with_answer (verdict.Reply reply) (Some place) without_broken)
        old.worker.work.broken_reply (refused status.Io sent.job.call) stands.broken_is reply_now_given)
    waits_by false false reply_now_given settled_is = unchanged (Some (step.Stable place false)) (Waiting place) phase_is
        (subst (λ (v : Option (Given Outcome)). StandsWith (Some sent) v (Waiting place) (reported old.worker)) (sym after_is) (record {
          place_is = stands.place_is;
          own = stands.own;
          reply_is = stands.reply_is;
          broken_is = stands.broken_is;
        })) reply_now_given

  waits_with : (witness : Option (Given Outcome)) → before ≡ witness → (place : Seq) (made : Step) (has : Waits place old made new)
      → old.worker.phase ≡ Waiting place → IsSomeAnd witness (WaitsWith place old.worker sent)
      → WitnessesCommit (Some (step.Stable place has.settled)) new.worker shown
      → Leaves sent keeping new.core (Some (step.Stable place has.settled)) new.worker
  waits_with None before_is place made has phase_is stands witnesses_commit = absurd stands
  waits_with (Some given) before_is place made has phase_is stands witnesses_commit =
      let shown_is = none_shown shown witnesses_commit.entry in
      let after_is : keeping ≡ Some given = ap (λ (s : Option (Given Outcome)). kept before s) shown_is ∙ before_is in
      waits_by given place after_is stands has.core phase_is has.settled old.core.log.broken has.is_reply_sent has.settled_is

  own_job : (state : State) (mine : own.Job) → state.work.job ≡ Some mine → HasCall state sent → IsOf sent mine
  own_job state mine is call = at_some (IsOf sent) state.work.job mine is call

  cases : Cases old new LeavesIt
  cases = record {
    idle = λ is phase_is stands witnesses_commit. unchanged None Idle phase_is tt (ap (λ (s : WorkerAndCore). s.worker) is);
    reading = λ is phase_is stands witnesses_commit. unchanged None Reading phase_is stands (ap (λ (s : WorkerAndCore). s.worker) is);
    begun = λ mine number mine_is served has phase_is stands witnesses_commit.
        let of = own_job old.worker mine mine_is stands in
        so _ _ has.worker (stays _ _ none (record { call = of.call; credential = of.credential; moment = of.moment }));
    not_begun = λ mine why mine_is served no core worker phase_is stands witnesses_commit.
        let of = own_job old.worker mine mine_is stands in
        answers _ old.worker (refusal mine.call (cause_of why)) None
        (subst (λ (c : Call). IsInPlace sent.job.call (refusal c (cause_of why))) (sym of.call)
        (in_place sent.job.call (cause_of why))) worker;
    replied = λ mine mine_is served core worker phase_is stands witnesses_commit.
        let of = own_job old.worker mine mine_is stands in
        answers _ old.worker (verdict.Reply Null) None
        (sym (ap begins_transaction of.call) ∙ served, refl) worker;
    wanted = λ tx addr mode made tx_is next has phase_is stands witnesses_commit. wants tx addr mode made _ has stands;
    claimed = λ tx block made tx_is next has phase_is stands witnesses_commit. claims tx block made _ has stands;
    committed = λ mine tx done made tx_is next left mine_is has phase_is stands witnesses_commit.
        let of = own_job old.worker mine mine_is stands in
        so _ _ has.worker (commits_by mine of done stands _ has.answer has.worker witnesses_commit);
    lacked = λ tx made tx_is left has phase_is stands witnesses_commit.
        answers _ (record (with_snap new.worker old.worker) { begun = none_begun }) (verdict.NoMemory alloc_error) None tt has.worker;
    given = λ ok io made io_is has phase_is stands witnesses_commit. gives_back ok io made _ has stands;
    refused = λ why mine tx made mine_is tx_is has phase_is stands witnesses_commit.
        let of = own_job old.worker mine mine_is stands in
        answers _ (record old.worker { begun = none_begun }) (refusal mine.call why) None
        (subst (λ (c : Call). IsInPlace sent.job.call (refusal c why)) (sym of.call)
        (in_place sent.job.call why)) has.worker;
    left = λ tx made tx_is has phase_is stands witnesses_commit. so _ _ has.worker (stays _ _ none stands);
    waited = λ place made has phase_is stands witnesses_commit. waits_with before refl place made has phase_is stands witnesses_commit;
  }

-- the same of a seat that may have no job
pub record LeavesWith (reply_address : Option Sent) (witness : Option (Given Outcome)) (core : CoreState) (made : Option Step)
    (state : State) : Type 0 where
  pub stands : StandsAfter reply_address witness state.work.answer state
  pub gives : given_to core made reply_address witness state.work.answer

without : (before later : Option (Given Outcome)) (old new : WorkerAndCore) (phase : Phase) (made : Option Step)
    → old.worker.phase ≡ phase → old.worker.work.answer ≡ None → StandsWith None before phase old.worker
    → GoesOn phase old made new → LeavesWith None later new.core made new.worker
without before later old new Idle made phase_is none stands goes =
    let is = ap (λ (s : WorkerAndCore). s.worker) goes.1 in
    subst (λ (s : State). LeavesWith None later new.core made s) (sym is) (record {
      stands = subst (λ (a : Option CallAnswer). StandsAfter None later a old.worker) (sym none)
          (subst (λ (p : Phase). StandsWith None later p (reported old.worker)) (sym phase_is) tt);
      gives = subst (λ (a : Option CallAnswer). given_to new.core made None later a) (sym none) tt;
    })
without before later old new Called made phase_is none stands goes = absurd stands
without before later old new Planning made phase_is none stands goes = absurd stands
without before later old new Reading made phase_is none stands goes = absurd stands
without before later old new (Read ok) made phase_is none stands goes = absurd stands
without before later old new (Refused why) made phase_is none stands goes = absurd stands
without before later old new Again made phase_is none stands goes = absurd stands
without before later old new (Waiting place) made phase_is none stands goes = absurd stands

pub stays_seated : (reply_address : Option Sent) (before shown : Option (Given Outcome)) (old new : WorkerAndCore) (made : Option Step)
    → old.worker.work.answer ≡ None → StandsWith reply_address before old.worker.phase old.worker
    → GoesOn old.worker.phase old made new → WitnessesCommit made new.worker shown
    → LeavesWith reply_address (kept before shown) new.core made new.worker
stays_seated None before shown old new made none stands goes witnesses_commit =
    without before (kept before shown) old new old.worker.phase made refl none stands goes
stays_seated (Some sent) before shown old new made none stands goes witnesses_commit =
    let left = by_cases old new (LeavesIt sent before shown old new none) (cases sent before shown old new none)
    old.worker.phase made goes refl stands witnesses_commit in
    record { stands = left.stands; gives = left.gives }

-- an idle worker needs nothing of its job
still_stands : (made : Option Step) (reply_address : Option Sent) (witness : Option (Given Outcome)) (ready : Option Answered)
    (given : Option CallAnswer) (state : State) → StandsAfter reply_address witness given state
    → StandsWith (in_flight_with made reply_address witness ready given).reply_address (in_flight_with made reply_address witness ready given).witness
    state.phase (reported state)
still_stands made reply_address witness ready None state is = is
still_stands made None witness ready (Some given) state is =
    subst (λ (p : Phase). StandsWith None witness p (reported state)) (sym is) tt
still_stands made (Some sent) witness ready (Some given) state is =
    subst (λ (p : Phase). StandsWith None None p (reported state)) (sym is) tt

-- what a step leaves of a seat
pub next_seated : (in_flight : CallInFlight) (shown : Option (Given Outcome)) (old new : WorkerAndCore) (made : Option Step)
    → IsSeated old.worker in_flight → GoesOn old.worker.phase old made new → WitnessesCommit made new.worker shown
    → IsSeated (reported new.worker) (in_flight_after made in_flight shown new.worker.work.answer)
next_seated in_flight shown old new made seated goes witnesses_commit =
    let left = stays_seated in_flight.reply_address in_flight.witness shown old new made seated.given seated.stands goes witnesses_commit in
    record {
      entry = refl;
      given = refl;
      stands = still_stands made in_flight.reply_address (kept in_flight.witness shown) in_flight.answer new.worker.work.answer new.worker left.stands;
    }

pub next_gives : (in_flight : CallInFlight) (shown : Option (Given Outcome)) (old new : WorkerAndCore) (made : Option Step)
    → IsSeated old.worker in_flight → GoesOn old.worker.phase old made new → WitnessesCommit made new.worker shown
    → GivesFor new.core made in_flight shown new.worker.work.answer
next_gives in_flight shown old new made seated goes witnesses_commit =
    (stays_seated in_flight.reply_address in_flight.witness shown old new made seated.given seated.stands goes witnesses_commit).gives

-- ---- a read

pub reads : (made : Option Step) (before after : AnsweredCalls) (old : Working) (worker : Worker) (new : Worker)
    → worker.state ≡ old.worker
    → MatchOption made ((new ≡ worker) × (after ≡ before))
    (λ step. HasReadFrom before worker.state step after new.state)
    → ReadsFrom (is_some made) before old after (record old { worker = new.state })
reads None before after old worker new is same =
    (same.1, ap (λ (s : State). record old { worker = s }) (ap (λ (w : Worker). w.state) same.0 ∙ is))
reads (Some step) before after old worker new is read =
    (step, subst (λ (s : State). HasReadFrom before s step after new.state) is read, refl)
