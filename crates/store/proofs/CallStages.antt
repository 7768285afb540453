-- How far a call is after a step of its worker, and what the step answers, by the stage that it was at.
use Rattle.std.proofs.Common.{arith, ◌≡◌, ◌∙◌, refl, sym, ap, subst, true≢false, ℕ, ◌+◌, ◌^◌, ◌≤◌, ◌⊎◌, inl, alloc_error}
use Rattle.std.proofs.Common.{inr}
use Rattle.std.proofs.Common.{Bool, true, false, ◌||◌, if◌then◌else◌, nat_le, is_some, Option, Some, None}
use Rattle.std.proofs.Common.{Result, Ok, Err}
use Rattle.std.proofs.Common.{List, [], ◌∷◌, ◌++◌, length, map, option_to_list, zero, suc, slice_get}
use Rattle.std.proofs.lemmas.Bool.Decides.{nat_tests}
use Rattle.base.specs.declared.TheConstants.{MOST_UNINSTALLED_COMMITS}
use Rattle.disk.specs.declared.block.BlockNo.{BlockNo}
use Rattle.nfs_spec.specs.Model.Entry.{Entry}
use Rattle.nfs_spec.specs.Model.Calls.{begins_transaction, is_answered_stable}
use Rattle.nfs_spec.specs.Model.Tree.{Tree}
use Rattle.txn.specs.declared.outcomes.BeginFault.{BeginFault}
use Rattle.txn.specs.declared.outcomes.BeginFault.TheVariants as begin_fault
use Rattle.circ.specs.Log.Log.{settled_place}
use Rattle.circ.specs.declared.log.outcomes.Seq.{Seq}
use Rattle.store_promise.specs.LogState.{state_settled}
use Rattle.store_promise.specs.Progress.{Begun, Job, Progress, Stage, At, Idle, Called, Planning, Reading, Read}
use Rattle.store_promise.specs.Progress.{Refused, Again, Waiting, Taken, RangeRequest, after_called, after_claimed}
use Rattle.store_promise.specs.Progress.{after_commit, after_planning, after_waiting, after_wanted, going_on}
use Rattle.store_promise.specs.Progress.{lock_request_of, is_idle, deferred, with_taken}
use Rattle.store_promise.specs.Progress as how
use Rattle.store_promise.specs.LockRequests.{is_barred}
use Rattle.store_promise.specs.declared.lock_requests.LockRequest.{LockRequest}
use Rattle.store_promise.specs.declared.lock_requests.LockRequest.TheVariants as lock_request
use Rattle.store_promise.specs.Progress.{stage_after}
use Rattle.store_promise.specs.Schedule.{begun_after, refused_after, IsClaimAnswer, IsCommitting, IsStepRetakingFirst}
use Rattle.store_promise.specs.Schedule.{IsStepOfCalled}
use Rattle.store_promise.specs.Schedule.{IsStepOfWork, IsLockAnswer, Setting, RunState, range_request_at}
use Rattle.store_promise.specs.Transcript.{Transcript, committed_at, entry_of}
use Rattle.store_promise.specs.Verdicts.{HasVerdict, IsReplyAt, cause_of}
use Rattle.store_promise.specs.declared.answers.Verdict.{Verdict}
use Rattle.store_promise.specs.declared.answers.Verdict.TheVariants as verdict
use Rattle.store_promise.specs.declared.events.Cause.{Cause}
use Rattle.store_promise.specs.declared.events.Cause.TheVariants as cause
use Rattle.store_promise.specs.declared.events.Committing.{Committing}
use Rattle.store_promise.specs.declared.events.Committing.TheVariants as committing
use Rattle.store_promise.specs.declared.events.Ending.TheVariants as ending
use Rattle.store_promise.specs.declared.events.Step.{Step}
use Rattle.store_promise.specs.declared.events.Step.TheVariants as step
use Rattle.store_promise.specs.declared.events.LockAnswer.{LockAnswer}
use Rattle.store_promise.specs.declared.events.LockAnswer.TheVariants as lock_answer
use Rattle.store_promise.specs.declared.transcript.Answer.{Answer}
use Rattle.store_promise.specs.declared.transcript.Committed.{Committed}
use Rattle.store.specs.Runs.AtWork.{has_committed}
use Rattle.store.specs.Calling.{ComesTo, FindsNoNumber, FindsNoLogSpace, HasCause, IsAfter, IsBegunFor, IsMadeFor}
use Rattle.store.specs.Calling.{IsOfNull, IsRefusal, IsAtStage}
use Rattle.store.specs.Calling.{Outset, StandsWith, Tells}
use Rattle.store.specs.Driving.{waits_for_log}
use Rattle.store_images.specs.Opening.{Opened}
use Rattle.store_images.specs.Settling.{HasBroken, HasFailed}
use Rattle.store_images.proofs.Lost.{broken_failed, broken_then}
use Rattle.store_images.proofs.StillOpen.{further_then}
use Rattle.store_promise.specs.Openings.{IsLater}
use Rattle.store_promise.proofs.Later.{past_more}

-- ---- an entry in a transcript

abbrev pub traced : Entry → Committed
traced e = record { worker = e.worker; ctx = e.ctx; call = e.call; reply = e.reply; event = 0; clock = 0 }

-- what a history of these entries tells
abbrev pub transcript_of_entries : List Entry → Transcript
transcript_of_entries entries = record { boot = 0; history = map traced entries; answers = []; steps = [] }

pub same_entries : (entries : List Entry) → map entry_of (map traced entries) ≡ entries
same_entries [] = refl
same_entries (e ∷ entries) = λ i. e ∷ same_entries entries i

last_of : (entries : List Entry) (e : Entry)
    → slice_get (map traced (entries ++ e ∷ [])) (length entries) ≡ Some (traced e)
last_of [] e = refl
last_of (first ∷ entries) e = last_of entries e

last_entry_is : (entries : List Entry) (e : Entry) (place : ℕ) → place ≡ length entries + 1
    → committed_at (transcript_of_entries (entries ++ e ∷ [])) place ≡ Some (traced e)
last_entry_is entries e zero is = absurd (omega (arith, is))
last_entry_is entries e (suc index) is =
    ap (slice_get (map traced (entries ++ e ∷ []))) (less index (length entries) is) ∙ last_of entries e
  where
    less : (a b : ℕ) → suc a ≡ b + 1 → a ≡ b
    less a b same = omega (arith, same)

one_of : (a b : Committed) → Some a ≡ Some b → a ≡ b
one_of a b is = cc

-- the reply at its place is the entry's
pub reply_is : (entries : List Entry) (e : Entry) (place : Seq) (a : Answer) → place.0 ≡ length entries + 1
    → IsReplyAt (transcript_of_entries (entries ++ e ∷ [])) place a → a.verdict ≡ verdict.Reply e.reply
reply_is entries e place a at is = is.is_replied ∙ ap (λ (c : Committed). verdict.Reply c.reply)
    (one_of is.entry (traced e) (sym is.is_entry ∙ last_entry_is entries e place.0 at))

-- ---- what a later store still has

-- a store that is later than a later one
later_on : (a b c : Opened) → IsAfter a b → IsAfter b c → IsAfter a c
later_on a b c one two = record {
  past = past_more a.device b.device c.device one.past two.past;
  failures = let x = one.failures in let y = two.failures in omega (arith, x, y);
  further = further_then a.core b.core c.core one.further two.further;
}

module _ (o : Outset) (now new : Opened) (after : IsAfter now new) where
  pub failed_then : HasFailed o.store.core.log o.store.device now.device
      → HasFailed o.store.core.log o.store.device new.device
  failed_then (inl broken) = inl broken
  failed_then (inr failed) = inr (let more = after.failures in omega (arith, failed, more))

  pub broken_after : HasBroken o.store.core.log o.store.device now.device
      → HasBroken o.store.core.log o.store.device new.device
  broken_after = broken_then o.store.core.log o.store.device now.device new.device after.past

  no_log_space_then : (added : ℕ) → FindsNoLogSpace o now added → FindsNoLogSpace o new added
  no_log_space_then added finds = record {
    at = finds.at;
    since = finds.since;
    until = later_on finds.at now new finds.until after;
    sound = finds.sound;
    done = finds.done;
    planned = finds.planned;
    none = finds.none;
    lacked = finds.lacked;
  }

  spent_then : (added : ℕ) → FindsNoNumber o now ⊎ FindsNoLogSpace o now added
      → FindsNoNumber o new ⊎ FindsNoLogSpace o new added
  spent_then added (inl finds) = inl (record {
    sound = finds.sound;
    none = let begun = finds.none in let more = after.further.begun in omega (arith, begun, more);
  })
  spent_then added (inr finds) = inr (no_log_space_then added finds)

  pub cause_then : (added : ℕ) (why : Cause) → HasCause o now added why → HasCause o new added why
  cause_then added cause.Io has = failed_then has
  cause_then added cause.Spent has = spent_then added has
  cause_then added (cause.NoMemory error) has = let more = after.further.refused in omega (arith, has, more)

  -- the transaction of the call is still its own
  pub begun_then : (number : ℕ) → IsBegunFor o now number → IsBegunFor o new number
  begun_then number has = record {
    begins = has.begins;
    fresh = has.fresh;
    taken = let by_now = has.taken in let more = after.further.begun in omega (arith, by_now, more);
  }

  pub made_then : (entry : Entry) (last : Tree) → IsMadeFor o now entry last → IsMadeFor o new entry last
  made_then entry last has = record {
    begun = has.begun;
    begun_for = begun_then has.begun.number has.begun_for;
    ctx = has.ctx;
    call = has.call;
    step = has.step;
  }

  pub comes_then : (entry : Option Entry) (last : Tree) → ComesTo o now entry last → ComesTo o new entry last
  comes_then None last comes = comes
  comes_then (Some entry) last comes = made_then entry last comes

  -- so it is how far it is, where a call that isn't served has left the store as it was
  pub stands_then : (begins_transaction o.asked.call ≡ false → new ≡ now) → (entry : Option Entry)
      (stage : Stage)
      → StandsWith o entry now stage → StandsWith o entry new stage
  stands_then same entry (Called known) has = (has.0, λ unserved. same unserved ∙ has.1 unserved)
  stands_then same entry (Planning begun) has = (has.0, begun_then begun.number has.1)
  stands_then same entry (Reading begun taken) has = (has.0, begun_then begun.number has.1)
  stands_then same entry (Read begun taken true) has = (has.0, begun_then begun.number has.1)
  stands_then same entry (Read begun taken false) has = (
    has.0,
    begun_then begun.number has.1,
    let failed = has.2 in let more = after.failures in
        omega (arith, failed, more),
  )
  stands_then same entry (Refused begun why) has =
      (has.0, begun_then begun.number has.1, has.2, cause_then has.2 why has.3)
  stands_then same entry (Again begun request) has = (has.0, begun_then begun.number has.1)
  stands_then same entry (Waiting place) has = has

  pub stage_still : (begins_transaction o.asked.call ≡ false → new ≡ now) → (entry : Option Entry)
      (progress : Progress)
      → IsAtStage o entry now progress → IsAtStage o entry new progress
  stage_still same entry Idle has = tt
  stage_still same entry (At job stage) has = (has.0, stands_then same entry stage has.1)

  pub tells_still : new.core.begun ≡ now.core.begun
      → (begins_transaction o.asked.call ≡ false → length now.core.records ≤ MOST_UNINSTALLED_COMMITS → new ≡ now)
      → (entry : Option Entry) (given_verdict : Verdict) → Tells o entry given_verdict now → Tells o entry given_verdict new
  tells_still none_begun same None given_verdict (inl unserved) = inl (record {
    begins = unserved.begins;
    begun = none_begun ∙ unserved.begun;
    left = λ few.
        let was = unserved.left few in
        same unserved.begins (subst (λ (x : Opened). length x.core.records ≤ MOST_UNINSTALLED_COMMITS)
        (sym was) few) ∙ was;
    verdict_is_reply = unserved.verdict_is_reply;
  })
  tells_still none_begun same None given_verdict (inr refused) = inr (record {
    begins = refused.begins;
    why = refused.why;
    verdict_is_reply = refused.verdict_is_reply;
    added = refused.added;
    because = cause_then refused.added refused.why refused.because;
  })
  tells_still none_begun same (Some entry) given_verdict (inl reply) = inl (record {
    verdict_is_reply = reply.verdict_is_reply;
    settled = λ waits.
        let there = reply.settled waits in
        let more = after.further.settled in
        omega (arith, there, more);
  })
  tells_still none_begun same (Some entry) given_verdict (inr unsettled) = inr (record {
    stable = unsettled.stable;
    verdict_is_reply = unsettled.verdict_is_reply;
    broken = after.further.broken unsettled.broken;
    failed = broken_after unsettled.failed;
  })

-- ---- a step

or_true : (a b : Bool) → a ≡ false → (a || b) ≡ true → b ≡ true
or_true false b is some = some
or_true true b is some = cc

not_true : (b : Bool) → (b ≡ true → ⊥) → b ≡ false
not_true true isnt = absurd (isnt refl)
not_true false isnt = refl

le_of : (a b : ℕ) → nat_le a b ≡ true → a ≤ b
le_of a b is = grind (arith, nat_tests)

-- what is told of the store before a step of the worker is what it has
pub record IsStepFrom (o : Outset) (now : Opened) (s : Setting) (t : RunState) : Type 0 where
  pub broken_is : t.log.broken ≡ now.core.log.broken
  pub begun_is : t.begun ≡ now.core.begun
  pub more_begun : o.store.core.begun ≤ now.core.begun
  pub more_refused : o.store.core.refused ≤ now.core.refused
  pub settled_is : state_settled t.log ≡ settled_place now.core.log
  pub still_broken : o.store.core.log.broken ≡ true → now.core.log.broken ≡ true
  pub past : IsLater o.store.device now.device
  pub broke : now.core.log.broken ≡ true → HasBroken o.store.core.log o.store.device now.device

module _ (o : Outset) (now new : Opened) (s : Setting) (t : RunState) (from : IsStepFrom o now s t)
    (after : IsAfter now new) where
  abbrev stable : Bool
  stable = is_answered_stable o.asked.call

  abbrev broken : Bool
  broken = now.core.log.broken

  breaks : now.core.log.broken ≡ true → HasBroken o.store.core.log o.store.device new.device
  breaks is = broken_after o now new after (from.broke is)

  broke : now.core.log.broken ≡ true → HasFailed o.store.core.log o.store.device new.device
  broke is = broken_failed o.store.core.log o.store.device new.device
      (past_more o.store.device now.device new.device from.past after.past) (breaks is)

  -- memory was refused in the step
  lacks : new.core.refused ≡ now.core.refused + 1 → HasCause o new 0 (cause.NoMemory alloc_error)
  lacks one = let more = from.more_refused in omega (arith, one, more)

  -- why no transaction was begun
  begin_cause : (served : Bool) (why : BeginFault) → IsStepOfCalled t served (step.Begun (Err why))
      → new.core.refused ≡ refused_after now.core.refused (step.Begun (Err why)) → HasCause o new 0 (cause_of why)
  begin_cause true begin_fault.Broken may refusals = broke (sym from.broken_is ∙ may)
  begin_cause true begin_fault.Spent may refusals = cause_then o now new after 0 cause.Spent (inl (record {
    sound = not_true o.store.core.log.broken (λ is.
        true≢false (sym (from.still_broken is) ∙ sym from.broken_is ∙ may.0));
    none = subst (λ (n : ℕ). 2 ^ 64 ≤ n + 1) from.begun_is may.1;
  }))
  begin_cause true (begin_fault.NoMemory error) may refusals = lacks refusals
  begin_cause false why may refusals = absurd (none may)
    where
      none : step.Begun (Err why) ≡ step.Replied → ⊥
      none same = cc

  -- a call for which a transaction was begun, or was to be, is served
  is_served : (served : Bool) (answer : Result ℕ BeginFault) → begins_transaction o.asked.call ≡ served
      → IsStepOfCalled t served (step.Begun answer) → begins_transaction o.asked.call ≡ true
  is_served true answer is may = is
  is_served false answer is may = absurd (none may)
    where
      none : step.Begun answer ≡ step.Replied → ⊥
      none same = cc

  -- its transaction takes the next number
  next_number : (served : Bool) (number : ℕ) → IsStepOfCalled t served (step.Begun (Ok number))
      → number ≡ t.begun + 1
  next_number true number may = may.1
  next_number false number may = absurd (none may)
    where
      none : step.Begun (Ok number) ≡ step.Replied → ⊥
      none same = cc

  number_taken : (number : ℕ) → IsStepOfCalled t (begins_transaction o.asked.call) (step.Begun (Ok number))
      → new.core.begun ≡ begun_after now.core.begun (step.Begun (Ok number)) → IsBegunFor o new number
  number_taken number may then_ = record {
    begins = is_served (begins_transaction o.asked.call) (Ok number) refl may;
    fresh = (let is = next_number (begins_transaction o.asked.call) number may in
        let now_is = from.begun_is in
        let more = from.more_begun in
        omega (arith, is, now_is, more));
    taken = let is = next_number (begins_transaction o.asked.call) number may in
        let now_is = from.begun_is in
        omega (arith, is, now_is, then_);
  }

  unserved : (served : Bool) → begins_transaction o.asked.call ≡ served → IsStepOfCalled t served step.Replied
      → begins_transaction o.asked.call ≡ false
  unserved true is may = absurd may
  unserved false is may = is

  -- a store in which nothing was committed for the call
  module _ (entry : Option Entry) where
    abbrev pub StageOk : Option Stage → Type 0
    StageOk None = Unit {0}
    StageOk (Some stage) = StandsWith o entry new stage

    -- nothing was committed, in a transaction of the call
    abbrev NoneIn : Begun → Type 0
    NoneIn begun = (entry ≡ None) × IsBegunFor o new begun.number

    -- who is kept off waits, or begins again
    off_ok : (begun : Begun) (request : LockRequest) → NoneIn begun → StandsWith o entry new (deferred begun request)
    off_ok begun request none = by (is_barred request begun.taken)
      where
        by : (above : Bool) → StandsWith o entry new (if above then Again begun (Some request) else Planning begun)
        by true = none
        by false = none

    held_ok : (begun : Begun) (taken : Taken) (left : List LockRequest) → NoneIn begun
        → StandsWith o entry new (Planning (how.object_read_by left (with_taken begun (lock_request_of taken)) taken))
    held_ok begun taken [] none = none
    held_ok begun taken (next ∷ later) none = none

    taken_ok : (begun : Begun) (block : BlockNo) (left : List LockRequest) → NoneIn begun
        → StandsWith o entry new (Planning (how.claimed_by left (with_taken begun (lock_request.Claim block)) block))
    taken_ok begun block [] none = none
    taken_ok begun block (next ∷ later) none = none

    wanted_ok : (begun : Begun) (taken : Taken) (answer : LockAnswer) → NoneIn begun
        → (answer ≡ lock_answer.Outside → ⊥) → (answer ≡ lock_answer.NoMemory alloc_error → HasCause o new 0 (cause.NoMemory alloc_error))
        → StandsWith o entry new (after_wanted begun taken answer)
    wanted_ok begun taken lock_answer.Held none inside lacked = held_ok begun taken begun.left none
    wanted_ok begun taken lock_answer.Fetch none inside lacked = none
    wanted_ok begun taken lock_answer.Busy none inside lacked = off_ok begun (lock_request_of taken) none
    wanted_ok begun taken lock_answer.Loading none inside lacked = off_ok begun (lock_request_of taken) none
    wanted_ok begun taken lock_answer.Outside none inside lacked = absurd (inside refl)
    wanted_ok begun taken (lock_answer.NoMemory error) none inside lacked = (none.0, none.1, 0, lacked refl)

    claimed_ok : (begun : Begun) (block : BlockNo) (answer : LockAnswer) → NoneIn begun
        → (answer ≡ lock_answer.Outside → ⊥) → (answer ≡ lock_answer.NoMemory alloc_error → HasCause o new 0 (cause.NoMemory alloc_error))
        → StandsWith o entry new (after_claimed begun block answer)
    claimed_ok begun block lock_answer.Held none inside lacked = taken_ok begun block begun.left none
    claimed_ok begun block lock_answer.Fetch none inside lacked = none
    claimed_ok begun block lock_answer.Busy none inside lacked = off_ok begun (lock_request.Claim block) none
    claimed_ok begun block lock_answer.Loading none inside lacked = off_ok begun (lock_request.Claim block) none
    claimed_ok begun block lock_answer.Outside none inside lacked = absurd (inside refl)
    claimed_ok begun block (lock_answer.NoMemory error) none inside lacked = (none.0, none.1, 0, lacked refl)

    never_outside : (begun : Begun) (request : RangeRequest) (answer : LockAnswer) → IsLockAnswer t 0 begun request answer
        → answer ≡ lock_answer.Outside → ⊥
    never_outside begun request answer is same = subst (IsLockAnswer t 0 begun request) same is

    never_claimed_outside : (begun : Begun) (block : BlockNo) (answer : LockAnswer)
        → IsClaimAnswer t 0 begun block answer
        → answer ≡ lock_answer.Outside → ⊥
    never_claimed_outside begun block answer is same = subst (IsClaimAnswer t 0 begun block) same is

    -- where the numbers are spent, the call says for which change
    abbrev pub SaysSpent : Type 0
    SaysSpent = (added : ℕ) × HasCause o new added cause.Spent

    commit_ok : (begun : Begun) (blocks : List BlockNo) (answer : Committing) → NoneIn begun
        → has_committed (Some (step.Commit blocks answer)) ≡ false
        → IsCommitting s t.log blocks answer → (answer ≡ committing.Spent → SaysSpent)
        → new.core.refused ≡ refused_after now.core.refused (step.Commit blocks answer)
        → StageOk (after_commit stable begun answer)
    commit_ok begun blocks (committing.Committed place) none not may spent refusals = absurd (true≢false not)
    commit_ok begun blocks committing.Full none not may spent refusals = none
    commit_ok begun blocks committing.Foreign none not may spent refusals = none
    commit_ok begun blocks (committing.NoMemory error) none not may spent refusals = (none.0, none.1, 0, lacks refusals)
    commit_ok begun blocks committing.Broken none not may spent refusals =
        (none.0, none.1, 0, broke (sym from.broken_is ∙ may))
    commit_ok begun blocks committing.Spent none not may spent refusals =
        let says = spent refl in (none.0, none.1, says.0, says.1)

    waits_ok : (settled : Bool) (place : ℕ) → StandsWith o entry now (Waiting place)
        → StageOk (if settled then None else Some (Waiting place))
    waits_ok true place stands = tt
    waits_ok false place stands = stands

    called_ok : (known : List LockRequest) (made : Step) → entry ≡ None
        → IsStepOfCalled t (begins_transaction o.asked.call) made
        → new.core.begun ≡ begun_after now.core.begun made → StageOk (after_called known made)
    called_ok known (step.Begun (Ok number)) none may then_ = (none, number_taken number may then_)
    called_ok known (step.Begun (Err why)) none may then_ = tt
    called_ok known _ none may then_ = tt

    planning_ok : (left : List LockRequest) (begun : Begun) (made : Step) → has_committed (Some made) ≡ false
        → NoneIn begun → IsStepRetakingFirst left s t 0 begun made
        → new.core.refused ≡ refused_after now.core.refused made
        → ((blocks : List BlockNo) → made ≡ step.Commit blocks committing.Spent → SaysSpent)
        → StageOk (after_planning stable begun made)
    planning_ok [] begun (step.Wanted addr mode answer) not none may refusals spent =
        wanted_ok begun (record { addr = addr; mode = mode }) answer none
        (never_outside begun (range_request_at addr mode) answer may.1)
        (λ is. lacks (refusals ∙ ap (λ (a : LockAnswer). refused_after now.core.refused (step.Wanted addr mode a)) is))
    planning_ok [] begun (step.Claimed block answer) not none may refusals spent =
        claimed_ok begun block answer none (never_claimed_outside begun block answer may.1)
        (λ is. lacks (refusals ∙ ap (λ (a : LockAnswer). refused_after now.core.refused (step.Claimed block a)) is))
    planning_ok [] begun (step.Commit blocks answer) not none may refusals spent =
        commit_ok begun blocks answer none not may.1
        (λ is. spent blocks (ap (λ (a : Committing). step.Commit blocks a) is)) refusals
    planning_ok [] begun (step.Ended why) not none may refusals spent = tt
    planning_ok [] begun _ not none may refusals spent = none
    planning_ok (next ∷ later) begun (step.Wanted addr mode answer) not none may refusals spent =
        wanted_ok begun (record { addr = addr; mode = mode }) answer none
        (never_outside begun (range_request_at addr mode) answer may.1)
        (λ is. lacks (refusals ∙ ap (λ (a : LockAnswer). refused_after now.core.refused (step.Wanted addr mode a)) is))
    planning_ok (next ∷ later) begun (step.Claimed block answer) not none may refusals spent =
        claimed_ok begun block answer none (never_claimed_outside begun block answer may.1)
        (λ is. lacks (refusals ∙ ap (λ (a : LockAnswer). refused_after now.core.refused (step.Claimed block a)) is))
    planning_ok (next ∷ later) begun _ not none may refusals spent = absurd may

    waiting_ok : (place : ℕ) (made : Step) → StandsWith o entry now (Waiting place)
        → StageOk (after_waiting broken place made)
    waiting_ok place (step.Stable seq settled) stands = waits_ok (settled || broken) place stands
    waiting_ok place _ stands = stands

    pub next_ok : (stage : Stage) (made : Step) → has_committed (Some made) ≡ false
        → StandsWith o entry now stage
        → IsStepOfWork s t 0 (At o.asked stage) (Some made) → new.core.begun ≡ begun_after now.core.begun made
        → new.core.refused ≡ refused_after now.core.refused made
        → ((blocks : List BlockNo) → made ≡ step.Commit blocks committing.Spent → SaysSpent)
        → StageOk (stage_after broken stable made stage)
    next_ok (Called known) made not stands may then_ refusals spent = called_ok known made stands.0 may then_
    next_ok (Planning begun) made not stands may then_ refusals spent =
        planning_ok begun.left begun made not (stands.0, begun_then o now new after begun.number stands.1) may refusals spent
    next_ok (Reading begun taken) made not stands may then_ refusals spent = absurd (some_none made may)
      where
        some_none : (made : Step) → Some made ≡ None → ⊥
        some_none made same = cc
    next_ok (Read begun taken true) made not stands may then_ refusals spent =
        (stands.0, begun_then o now new after begun.number stands.1)
    next_ok (Read begun taken false) made not stands may then_ refusals spent = (
      stands.0,
      begun_then o now new after begun.number stands.1,
      0,
      cause_then o now new after 0 cause.Io (inr stands.2),
    )
    next_ok (Refused begun why) made not stands may then_ refusals spent = tt
    next_ok (Again begun request) made not stands may then_ refusals spent =
        (stands.0, λ unserved. absurd (true≢false (sym stands.1.begins ∙ unserved)))
    next_ok (Waiting place) made not stands may then_ refusals spent = waiting_ok place made stands

    pub stage_then : (next : Option Stage) → StageOk next → IsAtStage o entry new (going_on o.asked next)
    stage_then None ok = tt
    stage_then (Some stage) ok = (refl, ok)

    -- ---- what it answers
    none_tells : (a : Answer) → entry ≡ None → IsOfNull o a.verdict new ⊎ IsRefusal o a.verdict new
        → Tells o entry a.verdict new
    none_tells a none tells = subst (λ (e : Option Entry). Tells o e a.verdict new) (sym none) tells

    called_tells : (known : List LockRequest) (made : Step) (t2 : Transcript) (a : Answer)
        → (entry ≡ None) × (begins_transaction o.asked.call ≡ false → now ≡ o.store)
        → (made ≡ step.Replied → new ≡ now)
        → IsStepOfCalled t (begins_transaction o.asked.call) made
        → new.core.begun ≡ begun_after now.core.begun made
        → new.core.refused ≡ refused_after now.core.refused made
        → HasVerdict t2 o.asked.call (Called known) made a → Tells o entry a.verdict new
    called_tells known step.Replied t2 a stands same may then_ refusals proven =
        let none = unserved (begins_transaction o.asked.call) refl may in
        let was = stands.1 none in
        none_tells a stands.0 (inl (record {
          begins = none;
          begun = then_ ∙ ap (λ (x : Opened). x.core.begun) was;
          left = λ few. same refl ∙ was;
          verdict_is_reply = proven.1;
        }))
    called_tells known (step.Begun (Err why)) t2 a stands same may then_ refusals proven = none_tells a stands.0
        (inr (record {
          begins = is_served (begins_transaction o.asked.call) (Err why) refl may;
          why = cause_of why;
          verdict_is_reply = proven.1;
          added = 0;
          because = begin_cause (begins_transaction o.asked.call) why may refusals;
        }))
    called_tells known (step.Begun (Ok number)) t2 a stands same may then_ refusals proven = absurd proven
    called_tells known _ t2 a stands same may then_ refusals proven = absurd proven

    planning_tells : (begun : Begun) (made : Step) (t2 : Transcript) (a : Answer)
        → has_committed (Some made) ≡ false → StandsWith o entry now (Planning begun)
        → new.core.refused ≡ refused_after now.core.refused made
        → HasVerdict t2 o.asked.call (Planning begun) made a
        → Tells o entry a.verdict new
    planning_tells begun (step.Commit blocks (committing.Committed place)) t2 a not stands refusals proven =
        absurd (true≢false not)
    planning_tells begun (step.Ended (ending.NoMemory error)) t2 a not stands refusals proven = none_tells a stands.0
        (inr (record {
          begins = stands.1.begins;
          why = (cause.NoMemory alloc_error);
          verdict_is_reply = proven.1;
          added = 0;
          because = lacks refusals;
        }))
    planning_tells begun (step.Ended ending.Refused) t2 a not stands refusals proven = absurd proven
    planning_tells begun (step.Ended ending.Again) t2 a not stands refusals proven = absurd proven
    planning_tells begun (step.Commit blocks committing.Full) t2 a not stands refusals proven = absurd proven
    planning_tells begun (step.Commit blocks committing.Foreign) t2 a not stands refusals proven = absurd proven
    planning_tells begun (step.Commit blocks (committing.NoMemory error)) t2 a not stands refusals proven = absurd proven
    planning_tells begun (step.Commit blocks committing.Broken) t2 a not stands refusals proven = absurd proven
    planning_tells begun (step.Commit blocks committing.Spent) t2 a not stands refusals proven = absurd proven
    planning_tells begun _ t2 a not stands refusals proven = absurd proven

    refused_tells : (begun : Begun) (why : Cause) (made : Step) (t2 : Transcript) (a : Answer)
        → StandsWith o entry now (Refused begun why) → HasVerdict t2 o.asked.call (Refused begun why) made a
        → Tells o entry a.verdict new
    refused_tells begun why (step.Ended ending.Refused) t2 a stands proven = none_tells a stands.0
        (inr (record {
          begins = stands.1.begins;
          why = why;
          verdict_is_reply = proven.1;
          added = stands.2;
          because = cause_then o now new after stands.2 why stands.3;
        }))
    refused_tells begun why (step.Ended (ending.NoMemory error)) t2 a stands proven = absurd proven
    refused_tells begun why (step.Ended ending.Again) t2 a stands proven = absurd proven
    refused_tells begun why _ t2 a stands proven = absurd proven

  -- the procedure was committed, and its place is waited for
  waiting_tells : (entry : Option Entry) (place : ℕ) (made : Step) (a : Answer)
      → StandsWith o entry now (Waiting place) → IsStepOfWork s t 0 (At o.asked (Waiting place)) (Some made)
      → is_idle (going_on o.asked (after_waiting broken place made)) ≡ true
      → HasVerdict (transcript_of_entries (o.entries ++ option_to_list entry)) o.asked.call (Waiting place) made a
      → Tells o entry a.verdict new
  waiting_tells None place made a stands may ends proven = absurd (true≢false (sym stands.1))
  waiting_tells (Some e) place (step.Stable seq true) a stands may ends proven = inl (record {
    verdict_is_reply = reply_is o.entries e (record { 0 = place }) a stands.0 proven;
    settled = λ waits.
        let there = le_of place (state_settled t.log) (sym may.1) in
        let is = from.settled_is in
        let at = stands.0 in
        let still = after.further.settled in
        omega (arith, there, is, at, still);
  })
  waiting_tells (Some e) place (step.Stable seq false) a stands may ends proven =
      let is_broken = broken_by broken ends in
      inr (record {
        stable = stands.2;
        verdict_is_reply = proven.1;
        broken = after.further.broken is_broken;
        failed = breaks is_broken;
      })
    where
      broken_by : (b : Bool) → is_idle (going_on o.asked
          (if false || b then None else Some (Waiting place))) ≡ true
          → b ≡ true
      broken_by true is = refl
      broken_by false is = absurd (true≢false (sym is))
  waiting_tells (Some e) place _ a stands may ends proven = absurd proven

  pub tells_of : (entry : Option Entry) (stage : Stage) (made : Step) (a : Answer)
      → has_committed (Some made) ≡ false → StandsWith o entry now stage
      → IsStepOfWork s t 0 (At o.asked stage) (Some made)
      → new.core.begun ≡ begun_after now.core.begun made
      → new.core.refused ≡ refused_after now.core.refused made
      → ((known : List LockRequest) → stage ≡ Called known → made ≡ step.Replied → new ≡ now)
      → is_idle (going_on o.asked (stage_after broken stable made stage)) ≡ true
      → HasVerdict (transcript_of_entries (o.entries ++ option_to_list entry)) o.asked.call stage made a
      → Tells o entry a.verdict new
  tells_of entry (Called known) made a not stands may then_ refusals same ends proven =
      called_tells entry known made (transcript_of_entries (o.entries ++ option_to_list entry)) a stands (same known refl) may
      then_ refusals proven
  tells_of entry (Planning begun) made a not stands may then_ refusals same ends proven =
      planning_tells entry begun made (transcript_of_entries (o.entries ++ option_to_list entry)) a not stands refusals proven
  tells_of entry (Reading begun taken) made a not stands may then_ refusals same ends proven =
      absurd (true≢false (sym (still made ends))) where
        still : (made : Step)
            → is_idle (going_on o.asked (stage_after broken stable made (Reading begun taken))) ≡ true
            → false ≡ true
        still (step.Read block ok) is = is
        still _ is = is
  tells_of entry (Read begun taken true) made a not stands may then_ refusals same ends proven =
      absurd (true≢false (sym ends))
  tells_of entry (Read begun taken false) made a not stands may then_ refusals same ends proven =
      absurd (true≢false (sym ends))
  tells_of entry (Refused begun why) made a not stands may then_ refusals same ends proven =
      refused_tells entry begun why made (transcript_of_entries (o.entries ++ option_to_list entry)) a stands proven
  tells_of entry (Again begun request) made a not stands may then_ refusals same ends proven = absurd (true≢false (sym ends))
  tells_of entry (Waiting place) made a not stands may then_ refusals same ends proven =
      waiting_tells entry place made a stands may ends proven

-- ---- a call that waits for the log is served

module _ (o : Outset) (now : Opened) (s : Setting) (t : RunState) (entry : Option Entry) (last : Tree)
    (comes : ComesTo o now entry last) where
  made_served : (e : Option Entry) → ComesTo o now e last → is_some e ≡ true
      → begins_transaction o.asked.call ≡ true
  made_served None is some = absurd (true≢false (sym some))
  made_served (Some e) is some = is.begun_for.begins

  called_waits : (served : Bool) (made : Step) → begins_transaction o.asked.call ≡ served
      → IsStepOfCalled t served made
      → waits_for_log (Some made) ≡ true → begins_transaction o.asked.call ≡ true
  called_waits true made is may waits = is
  called_waits false made is may waits =
      absurd (true≢false (sym (subst (λ (m : Step). waits_for_log (Some m) ≡ true) may waits)))

  stage_waits : (stage : Stage) (made : Step) → StandsWith o entry now stage
      → IsStepOfWork s t 0 (At o.asked stage) (Some made) → waits_for_log (Some made) ≡ true
      → begins_transaction o.asked.call ≡ true
  stage_waits (Called known) made stands may waits =
      called_waits (begins_transaction o.asked.call) made refl may waits
  stage_waits (Planning begun) made stands may waits = stands.1.begins
  stage_waits (Reading begun taken) made stands may waits = stands.1.begins
  stage_waits (Read begun taken true) made stands may waits = stands.1.begins
  stage_waits (Read begun taken false) made stands may waits = stands.1.begins
  stage_waits (Refused begun why) made stands may waits = stands.1.begins
  stage_waits (Again begun request) made stands may waits = stands.1.begins
  stage_waits (Waiting place) made stands may waits = made_served entry comes stands.1

  pub waits_served : (p : Progress) (made : Option Step) → IsAtStage o entry now p → IsStepOfWork s t 0 p made
      → waits_for_log made ≡ true → begins_transaction o.asked.call ≡ true
  waits_served p None has may waits = absurd (true≢false (sym waits))
  waits_served Idle (Some made) has may waits = absurd (some_none made may)
    where
      some_none : (made : Step) → Some made ≡ None → ⊥
      some_none made same = cc
  waits_served (At job stage) (Some made) has may waits = stage_waits stage made has.1
      (subst (λ (j : Job). IsStepOfWork s t 0 (At j stage) (Some made)) has.0 may) waits

-- ---- a commit

module _ (o : Outset) (new : Opened) (e : Entry) (begun : Begun) (place : Seq)
    (at : place.0 ≡ length o.entries + 1) where
  abbrev next_stage : Option Stage
  next_stage = after_commit (is_answered_stable o.asked.call) begun (committing.Committed place)

  pub made_at_stage : IsAtStage o (Some e) new (going_on o.asked next_stage)
  made_at_stage = by (is_answered_stable o.asked.call) refl
    where
      by : (b : Bool) → is_answered_stable o.asked.call ≡ b
          → IsAtStage o (Some e) new (going_on o.asked (if b then Some (Waiting place.0) else None))
      by true is = (refl, (at, refl, is))
      by false is = tt

  pub made_tells : (a : Answer) → is_idle (going_on o.asked next_stage) ≡ true
      → IsReplyAt (transcript_of_entries (o.entries ++ e ∷ [])) place a → Tells o (Some e) a.verdict new
  made_tells a ends proven = inl (record {
    verdict_is_reply = reply_is o.entries e place a at proven;
    settled = λ waits. absurd (true≢false (sym (by (is_answered_stable o.asked.call) waits ends)));
  })
    where
      by : (b : Bool) → b ≡ true → is_idle (going_on o.asked
          (if b then Some (Waiting place.0) else None)) ≡ true
          → false ≡ true
      by true is ends = ends
      by false is ends = is
