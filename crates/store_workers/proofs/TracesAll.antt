-- A worker notes all that its transaction takes, and nothing else.
use Rattle.std.proofs.Common.{◌≡◌, ◌∙◌, refl, sym, ap, subst, true≢false, ℕ, inl, inr, Bool, true, false}
use Rattle.std.proofs.Common.{if◌then◌else◌, nat_eq, Option, Some, None, List, []}
use Rattle.std.specs.Prelude.{Contains, IfSome, IsSomeAnd, is_some}
use Rattle.std.proofs.lemmas.Bool.{eqb-true}
use Rattle.std.proofs.lemmas.List.Elements.{All-nil, All-weaker}
use Rattle.disk.specs.declared.block.BlockNo.{BlockNo}
use Rattle.objects.specs.Mode.{covers, upgraded}
use Rattle.objects.specs.declared.addr.Addr.{Addr}
use Rattle.objects.specs.declared.mode.Mode.{Mode}
use Rattle.objects.specs.declared.mode.Mode.TheVariants as modes
use Rattle.nfs_spec.specs.Model.Calls.{is_answered_stable}
use Rattle.nfs_types.specs.declared.reply.Reply.{Reply}
use Rattle.circ.specs.declared.log.outcomes.Seq.{Seq}
use Rattle.procs.specs.Outcome.{Outcome}
use Rattle.txn.specs.Core.{CoreState, with_refused}
use Rattle.txn.proofs.Answered.{unbegun_by}
use Rattle.txn.specs.Leaves.{taken_by, with_taken}
use Rattle.txn.specs.Outcomes.{IsClaimed, IsCommit, IsWanted}
use Rattle.txn.specs.LockAnswers.{IsWhole}
use Rattle.txn.specs.declared.outcomes.Claim.{Claim}
use Rattle.txn.specs.declared.outcomes.Claim.TheVariants as claim
use Rattle.txn.specs.declared.outcomes.Commit.{Commit}
use Rattle.txn.specs.declared.outcomes.Commit.TheVariants as commit
use Rattle.txn.specs.declared.outcomes.Want.{Want}
use Rattle.txn.specs.declared.outcomes.Want.TheVariants as want
use Rattle.txn_law.proofs.Again as again
use Rattle.txn_law.proofs.Claims.{all_four}
use Rattle.txn_law.proofs.TakenBy.{is_hold_by}
use Rattle.txn_law.specs.Holds.{for_fetching, for_reading, for_writing, is_hold_of, joined}
use Rattle.txn_law.specs.declared.hold.Hold.{Hold}
use Rattle.store_promise.proofs.RisingLockRequests.{all_more, claim_there, is_preserved, preserved_claim, there}
use Rattle.store_promise.specs.LockRequests.{AreOfOne, inserted, is_barred, upgraded_by}
use Rattle.store_promise.specs.declared.lock_requests.LockRequest.{LockRequest}
use Rattle.store_promise.specs.declared.lock_requests.LockRequest.TheVariants as lock_request
use Rattle.store_promise.specs.declared.answers.Verdict.TheVariants as verdict
use Rattle.store_promise.specs.declared.events.Step.{Step}
use Rattle.store_workers.proofs.HowFar.{without_broken_reply, without_reply}
use Rattle.store_workers.proofs.WorkCases.{Cases, by_cases}
use Rattle.store_workers.specs.Unaffected.{IsTraced, IsTakenAs, IsTakenIn, NoneTakenBeyond, TracesAll, TracesTaken}
use Rattle.store_workers.specs.Knowing.{Knowing, with_off}
use Rattle.store_workers.specs.Phases.{has_transaction}
use Rattle.store_workers.specs.WorkerAnswers.{after_commit, begun_claimed, begun_wanted, known_claimed, known_off}
use Rattle.store_workers.specs.WorkerAnswers.{known_wanted, answered_or_waiting, with_answer, with_entry}
use Rattle.store_workers.specs.WorkerSteps.{GoesOn, HasBegun, HasGivenBack, IsReplySent, WorkerAndCore, Waits}
use Rattle.store_workers.specs.WorkerSteps.{none_begun, planned_of, with_snap}
use Rattle.store_workers.specs.declared.workers.parts.Job.{Job}
use Rattle.store_workers.specs.declared.workers.parts.Phase.{Phase}
use Rattle.store_workers.specs.declared.workers.parts.State.{State}

some_same : {X : Type 0} (x y : X) → Some x ≡ Some y → x ≡ y
some_same x y same = cc

-- the address of a hold of it
hold_at : (tx : ℕ) (a : Addr) (hold : Hold) → is_hold_of tx a hold ≡ true → hold.addr ≡ a
hold_at tx a hold is =
    let four = all_four (nat_eq hold.transaction tx) (nat_eq hold.addr.block.0 a.block.0)
    (nat_eq hold.addr.offset a.offset) (nat_eq hold.addr.len a.len) is in
    again.same_addr hold.addr a (eqb-true hold.addr.block.0 a.block.0 four.1)
    (eqb-true hold.addr.offset a.offset four.2) (eqb-true hold.addr.len a.len four.3)

-- what was noted is so with one more
more_traced : (one : LockRequest) (lock_requests : List LockRequest) (a : Addr) (m : Mode) → IsTraced lock_requests a m → IsTraced (inserted one lock_requests) a m
more_traced one lock_requests a m (inl object) = inl (is_preserved one lock_requests (lock_request.Object a m) object)
more_traced one lock_requests a m (inr claim) = inr (preserved_claim one lock_requests a.block claim)

-- what is noted in each of two modes is so in the higher one
upgraded_traced : (lock_requests : List LockRequest) (a : Addr) (had request : Mode) → IsTraced lock_requests a had → IsTraced lock_requests a request
    → IsTraced lock_requests a (upgraded had request)
upgraded_traced lock_requests a had modes.Shared was new = was
upgraded_traced lock_requests a had modes.Exclusive was new = new

-- what is taken in the mode of one may be used as in the other's, and is so once it is raised
still_covers : (had more request : Mode) → covers had request ≡ true → covers (upgraded had more) request ≡ true
still_covers had modes.Shared request is = is
still_covers had modes.Exclusive request is = refl

now_covers : (had more : Mode) → covers (upgraded had more) more ≡ true
now_covers modes.Shared modes.Shared = refl
now_covers modes.Shared modes.Exclusive = refl
now_covers modes.Exclusive modes.Shared = refl
now_covers modes.Exclusive modes.Exclusive = refl

covers_itself : (mode : Mode) → covers mode mode ≡ true
covers_itself modes.Shared = refl
covers_itself modes.Exclusive = refl

-- who has taken the same notes the same
pub same_trace_list : (old new : CoreState) (tx : ℕ) (lock_requests : List LockRequest)
    → ((addr : Addr) → taken_by new tx addr ≡ taken_by old tx addr) → TracesTaken old tx lock_requests
    → TracesTaken new tx lock_requests
same_trace_list old new tx lock_requests same traces = record {
  traced = λ addr hold is. traces.traced addr hold (sym (same addr) ∙ is);
  taken = All-weaker (IsTakenIn old tx) (IsTakenIn new tx) one lock_requests traces.taken;
}
  where
    as_before : (addr : Addr) (mode : Mode) → IsTakenAs old tx addr mode → IsTakenAs new tx addr mode
    as_before addr mode is =
        subst (λ (o : Option Hold). IsSomeAnd o (λ (hold : Hold). covers hold.mode mode ≡ true)) (sym (same addr)) is

    one : (it : LockRequest) → IsTakenIn old tx it → IsTakenIn new tx it
    one (lock_request.Object addr mode) is = as_before addr mode is
    one (lock_request.Claim block) is = (is.0, is.1, as_before is.0 modes.Exclusive is.2)

-- what a hold is added of is taken then, in its mode
now_taken : (core mid : CoreState) (tx : ℕ) (addr : Addr) (hold : Hold)
    → taken_by mid tx addr ≡ with_taken hold (taken_by core) tx addr → is_hold_of tx addr hold ≡ true
    → IsTakenAs mid tx addr hold.mode
now_taken core mid tx addr hold now own =
    subst (λ (o : Option Hold). IsSomeAnd o (λ (h : Hold). covers h.mode hold.mode ≡ true))
    (sym (now ∙ ap (λ (b : Bool). if b then Some (joined (taken_by core tx addr) hold) else taken_by core tx addr) own))
    (by (taken_by core tx addr))
  where
    by : (had : Option Hold) → covers (joined had hold).mode hold.mode ≡ true
    by None = covers_itself hold.mode
    by (Some had) = now_covers had.mode hold.mode

-- what is taken then: what was, and a hold more, which is noted
module _ (core mid : CoreState) (tx : ℕ) (lock_requests : List LockRequest) (one : LockRequest) (hold : Hold)
    (now : (a : Addr) → taken_by mid tx a ≡ with_taken hold (taken_by core) tx a)
    (new_traced : IsTraced (inserted one lock_requests) hold.addr hold.mode) (new_taken : IsTakenIn mid tx one)
    (traces : TracesTaken core tx lock_requests) where
  traced_more : (a : Addr) (x : Hold) → taken_by mid tx a ≡ Some x → IsTraced (inserted one lock_requests) a x.mode
  traced_more a x taken = by (is_hold_of tx a hold) refl (sym (now a) ∙ taken)
    where
      new_at : is_hold_of tx a hold ≡ true → IsTraced (inserted one lock_requests) a hold.mode
      new_at is = subst (λ (b : Addr). IsTraced (inserted one lock_requests) b hold.mode) (hold_at tx a hold is) new_traced

      joins : (had : Option Hold) → taken_by core tx a ≡ had → is_hold_of tx a hold ≡ true
          → IsTraced (inserted one lock_requests) a (joined had hold).mode
      joins None had_is is = new_at is
      joins (Some had) had_is is = upgraded_traced (inserted one lock_requests) a had.mode hold.mode
          (more_traced one lock_requests a had.mode (traces.traced a had had_is)) (new_at is)

      by : (own : Bool) → is_hold_of tx a hold ≡ own
          → (if own then Some (joined (taken_by core tx a) hold) else taken_by core tx a) ≡ Some x
          → IsTraced (inserted one lock_requests) a x.mode
      by false is e = more_traced one lock_requests a x.mode (traces.traced a x e)
      by true is e =
          let same : joined (taken_by core tx a) hold ≡ x = some_same (joined (taken_by core tx a) hold) x e in
          subst (λ (h : Hold). IsTraced (inserted one lock_requests) a h.mode) same (joins (taken_by core tx a) refl is)

  still_there : (a : Addr) (mode : Mode) → IsTakenAs core tx a mode → IsTakenAs mid tx a mode
  still_there a mode had =
      subst (λ (o : Option Hold). IsSomeAnd o (λ (h : Hold). covers h.mode mode ≡ true)) (sym (now a))
      (by (taken_by core tx a) had (is_hold_of tx a hold))
    where
      by : (found : Option Hold) → IsSomeAnd found (λ (h : Hold). covers h.mode mode ≡ true) → (own : Bool)
          → IsSomeAnd (if own then Some (joined found hold) else found) (λ (h : Hold). covers h.mode mode ≡ true)
      by None none own = absurd none
      by (Some x) is false = is
      by (Some x) is true = still_covers x.mode hold.mode mode is

  still_taken : (it : LockRequest) → IsTakenIn core tx it → IsTakenIn mid tx it
  still_taken (lock_request.Object a mode) is = still_there a mode is
  still_taken (lock_request.Claim block) is = (is.0, is.1, still_there is.0 modes.Exclusive is.2)

  upgrade : (it first : LockRequest) → AreOfOne first it → IsTakenIn mid tx it → IsTakenIn mid tx first
      → IsTakenIn mid tx (upgraded_by it first)
  upgrade (lock_request.Object asked modes.Shared) (lock_request.Object addr mode) same new is = is
  upgrade (lock_request.Object asked modes.Exclusive) (lock_request.Object addr mode) same new is =
      subst (λ (a : Addr). IsTakenAs mid tx a modes.Exclusive) (sym same) new
  upgrade (lock_request.Object asked request) (lock_request.Claim block) same new is = is
  upgrade (lock_request.Claim block) first same new is = is

  pub traces_more : TracesTaken mid tx (inserted one lock_requests)
  traces_more = record {
    traced = traced_more;
    taken = all_more one (IsTakenIn mid tx) lock_requests new_taken (λ first same is. upgrade one first same new_taken is)
        (All-weaker (IsTakenIn core tx) (IsTakenIn mid tx) still_taken lock_requests traces.taken);
  }

module _ (old new : WorkerAndCore) (beyond : old.worker.begun.tx ≡ None → NoneTakenBeyond old.core)
    (traces : TracesAll old.worker old.core) where
  abbrev Traces : Phase → Option Step → Type 0
  Traces phase made = (has_transaction phase ≡ false → old.worker.begun.tx ≡ None) → TracesAll new.worker new.core

  abbrev taken : List LockRequest
  taken = old.worker.known.taken

  -- what holds of the worker that it became
  of_state : (state : State) → new.worker ≡ state → TracesAll state new.core → TracesAll new.worker new.core
  of_state state is traced = subst (λ (s : State). TracesAll s new.core) (sym is) traced

  own : (tx : ℕ) → old.worker.begun.tx ≡ Some tx → TracesTaken old.core tx taken
  own tx tx_is = subst (λ (found : Option ℕ). IfSome found (λ t. TracesTaken old.core t taken)) tx_is traces

  -- nothing has changed of it
  as_before : new.core ≡ old.core → new.worker.begun.tx ≡ old.worker.begun.tx
      → new.worker.known.taken ≡ taken → TracesAll new.worker new.core
  as_before core tx same_lock_requests = subst (λ (found : Option ℕ). IfSome found (λ t. TracesTaken new.core t new.worker.known.taken))
      (sym tx) (subst (λ (as_taken : List LockRequest). IfSome old.worker.begun.tx (λ t. TracesTaken new.core t as_taken)) (sym same_lock_requests)
      (subst (λ (c : CoreState). IfSome old.worker.begun.tx (λ t. TracesTaken c t taken)) (sym core) traces))

  -- nor where memory was refused
  refused_before : new.core ≡ with_refused old.core → new.worker.begun.tx ≡ old.worker.begun.tx
      → new.worker.known.taken ≡ taken → TracesAll new.worker new.core
  refused_before core tx same_lock_requests =
      subst (λ (found : Option ℕ). IfSome found (λ t. TracesTaken new.core t new.worker.known.taken)) (sym tx)
      (subst (λ (as_taken : List LockRequest). IfSome old.worker.begun.tx (λ t. TracesTaken new.core t as_taken))
      (sym same_lock_requests) (by old.worker.begun.tx traces))
    where
      by : (found : Option ℕ) → IfSome found (λ t. TracesTaken old.core t taken)
          → IfSome found (λ t. TracesTaken new.core t taken)
      by None traced = tt
      by (Some t) traced =
          same_trace_list old.core new.core t taken (λ addr. ap (λ (c : CoreState). taken_by c t addr) core) traced

  off_taken : (request : LockRequest) (has_space : Bool)
      → (known_off request (record old.worker.known { has_space = has_space })).taken ≡ taken
  off_taken request has_space = by (is_barred request taken)
    where
      by : (above : Bool) → (if above then with_off request (record old.worker.known { has_space = has_space })
          else record old.worker.known { has_space = has_space }).taken ≡ taken
      by true = refl
      by false = refl

  module _ (tx : ℕ) (tx_is : old.worker.begun.tx ≡ Some tx) where
    abbrev Then : ℕ → Knowing → Type 0
    Then back knowing = TracesTaken new.core back knowing.taken

    same : (back : ℕ) (lock_requests : List LockRequest) → back ≡ tx → new.core ≡ old.core → lock_requests ≡ taken
        → TracesTaken new.core back lock_requests
    same back lock_requests is core same_lock_requests = subst (λ (n : ℕ). TracesTaken new.core n lock_requests) (sym is)
        (subst (λ (as_taken : List LockRequest). TracesTaken new.core tx as_taken) (sym same_lock_requests)
        (subst (λ (c : CoreState). TracesTaken c tx taken) (sym core) (own tx tx_is)))

    -- memory was refused
    refused : (back : ℕ) (lock_requests : List LockRequest) → back ≡ tx → new.core ≡ with_refused old.core
        → lock_requests ≡ taken → TracesTaken new.core back lock_requests
    refused back lock_requests is core same_lock_requests =
        subst (λ (n : ℕ). TracesTaken new.core n lock_requests) (sym is)
        (subst (λ (as_taken : List LockRequest). TracesTaken new.core tx as_taken) (sym same_lock_requests)
        (same_trace_list old.core new.core tx taken (λ addr. ap (λ (c : CoreState). taken_by c tx addr) core)
        (own tx tx_is)))

    wants : (addr : Addr) (mode : Mode) (has_space : Bool) (answer : Want)
        → IsWanted old.core tx addr mode answer new.core
        → IfSome (begun_wanted answer).tx (λ back. Then back
        (known_wanted addr mode answer (record old.worker.known { has_space = has_space })))
    wants addr mode has_space (want.Held back bytes) is =
        subst (λ (n : ℕ). TracesTaken new.core n (inserted (lock_request.Object addr mode) taken)) (sym is.0)
        (traces_more old.core new.core tx taken (lock_request.Object addr mode) (for_reading tx addr mode)
        (λ a. is.2.leaves.holds tx a) (inl (there (lock_request.Object addr mode) taken))
        (now_taken old.core new.core tx addr (for_reading tx addr mode) (is.2.leaves.holds tx addr)
        (is_hold_by tx addr (for_reading tx addr mode) refl refl refl refl)) (own tx tx_is))
    wants addr mode has_space (want.Fetch back io) is =
        subst (λ (n : ℕ). TracesTaken new.core n (inserted (lock_request.Object addr mode) taken)) (sym is.0)
        (traces_more old.core new.core tx taken (lock_request.Object addr mode) (for_fetching tx addr mode)
        (λ a. is.2.leaves.holds tx a) (inl (there (lock_request.Object addr mode) taken))
        (now_taken old.core new.core tx addr (for_fetching tx addr mode) (is.2.leaves.holds tx addr)
        (is_hold_by tx addr (for_fetching tx addr mode) refl refl refl refl)) (own tx tx_is))
    wants addr mode has_space (want.Busy back) is = same back _ is.0 is.2 (off_taken (lock_request.Object addr mode) has_space)
    wants addr mode has_space (want.Loading back) is = same back _ is.0 is.2 (off_taken (lock_request.Object addr mode) has_space)
    wants addr mode has_space (want.Outside back) is = same back _ is.0 is.2 refl
    wants addr mode has_space (want.NoMemory back error) is = refused back _ is.0 is.2 refl

    takes : (block : BlockNo) (addr : Addr) (has_space : Bool) (answer : Claim) → IsWhole block addr
        → IsClaimed old.core tx addr answer new.core
        → IfSome (begun_claimed answer).tx (λ back. Then back
        (known_claimed block answer (record old.worker.known { has_space = has_space })))
    takes block addr has_space (claim.Held back) whole is =
        subst (λ (n : ℕ). TracesTaken new.core n (inserted (lock_request.Claim block) taken)) (sym is.0)
        (traces_more old.core new.core tx taken (lock_request.Claim block) (for_writing tx addr)
        (λ a. is.2.leaves.holds tx a)
        (inr (subst (λ (b : BlockNo). Contains (inserted (lock_request.Claim block) taken) (lock_request.Claim b)) (sym whole.0)
        (claim_there block taken))) (
          addr,
          whole,
          now_taken old.core new.core tx addr (for_writing tx addr) (is.2.leaves.holds tx addr)
              (is_hold_by tx addr (for_writing tx addr) refl refl refl refl),
        ) (own tx tx_is))
    takes block addr has_space (claim.Busy back) whole is = same back _ is.0 is.2 (off_taken (lock_request.Claim block) has_space)
    takes block addr has_space (claim.Loading back) whole is = same back _ is.0 is.2 (off_taken (lock_request.Claim block) has_space)
    takes block addr has_space (claim.Outside back) whole is = same back _ is.0 is.2 refl
    takes block addr has_space (claim.NoMemory back error) whole is = refused back _ is.0 is.2 refl

    placed : (job : Job) (reply : Reply) (place : Seq) (base : State) (stable : Bool) → base.begun ≡ none_begun
        → TracesAll (with_entry job reply (answered_or_waiting stable job reply place base)) new.core
    placed job reply place base true none = subst (λ b. IfSome (b.tx) (λ t. TracesTaken new.core t base.known.taken))
        (sym none) tt
    placed job reply place base false none = subst (λ b. IfSome (b.tx) (λ t. TracesTaken new.core t base.known.taken))
        (sym none) tt

    commits : (job : Job) (done : Outcome) (base : State) (answer : Commit Outcome) → base.begun ≡ none_begun
        → base.known.taken ≡ taken → IsCommit old.core tx (planned_of done) done answer new.core
        → TracesAll (after_commit job done.reply answer base) new.core
    commits job done base (commit.Committed receipt) none lock_requests is =
        placed job done.reply receipt.place base (is_answered_stable job.call) none
    commits job done base (commit.Full back change) none lock_requests is =
        same back base.known.taken is.0.transaction is.0.core lock_requests
    commits job done base (commit.Foreign back change) none lock_requests is =
        same back base.known.taken is.0.transaction is.0.core lock_requests
    commits job done base (commit.NoMemory back change error) none lock_requests is =
        refused back base.known.taken is.0.transaction is.0.core lock_requests
    commits job done base (commit.Broken back change) none lock_requests is =
        same back base.known.taken is.0.transaction is.0.core lock_requests
    commits job done base (commit.Spent back change) none lock_requests is =
        same back base.known.taken is.0.transaction is.0.core lock_requests

  begins : (job : Job) (number : ℕ) → HasBegun job old number new → old.worker.begun.tx ≡ None
      → TracesAll new.worker new.core
  begins job number has no_tx = of_state _ has.worker none
    where
      none : TracesTaken new.core number []
      none = record {
        traced = λ addr hold is. absurd (beyond no_tx addr hold (ap (λ (n : ℕ). taken_by old.core n addr) (sym has.next)
            ∙ sym (ap (λ (c : CoreState). taken_by c number addr) has.core) ∙ is));
        taken = All-nil (IsTakenIn new.core number);
      }

  gives : (ok : Bool) (io : _) (made : Step) → HasGivenBack ok io old made new → TracesAll new.worker new.core
  gives ok io made has = of_state _ has.worker (by old.worker.begun.tx traces)
    where
      by : (found : Option ℕ) → IfSome found (λ t. TracesTaken old.core t taken)
          → IfSome found (λ t. TracesTaken new.core t taken)
      by None traced = tt
      by (Some tx) traced = same_trace_list old.core new.core tx taken (λ addr. has.leaves.holds tx addr) traced

  waits : (place : Seq) (made : Step) → Waits place old made new → TracesAll new.worker new.core
  waits place made has = by has.settled old.core.log.broken has.is_reply_sent
    where
      of : (state : State) → state.begun ≡ old.worker.begun → state.known ≡ old.worker.known → new.worker ≡ state
          → TracesAll new.worker new.core
      of state begun known is = as_before has.core (ap (λ (s : State). s.begun.tx) is ∙ ap (λ b. b.tx) begun)
          (ap (λ (s : State). s.known.taken) is ∙ ap (λ (k : Knowing). k.taken) known)

      heard : (base : State) → base.begun ≡ old.worker.begun → base.known ≡ old.worker.known
          → (found : Option Reply)
          → IsSomeAnd found (λ reply. new.worker ≡ with_answer (verdict.Reply reply) (Some place) base)
          → TracesAll new.worker new.core
      heard base begun known None is = absurd is
      heard base begun known (Some reply) is = of _ begun known is

      by : (settled broken : Bool) → IsReplySent settled broken place old.worker new.worker
          → TracesAll new.worker new.core
      by true broken is = heard (without_reply old.worker) refl refl old.worker.work.reply is
      by false true is = heard (without_broken_reply old.worker) refl refl old.worker.work.broken_reply is
      by false false is = of old.worker refl refl is

  cases : Cases old new Traces
  cases = record {
    idle = λ is none. subst (λ (s : WorkerAndCore). TracesAll s.worker s.core) (sym is) traces;
    reading = λ is none. subst (λ (s : WorkerAndCore). TracesAll s.worker s.core) (sym is) traces;
    begun = λ job number job_is rules has none. begins job number has (none refl);
    not_begun = λ job why job_is rules no core worker none.
        unbegun_by (λ (c : CoreState). new.core ≡ c → TracesAll new.worker new.core) why old.core
        (λ same. as_before same (ap (λ (s : State). s.begun.tx) worker) (ap (λ (s : State). s.known.taken) worker))
        (λ one. refused_before one (ap (λ (s : State). s.begun.tx) worker) (ap (λ (s : State). s.known.taken) worker))
        core;
    replied = λ job job_is rules core worker none. as_before core (ap (λ (s : State). s.begun.tx) worker)
        (ap (λ (s : State). s.known.taken) worker);
    wanted = λ tx addr mode made tx_is next has none. of_state _ has.worker
        (wants tx tx_is addr mode new.worker.known.has_space has.answer has.core);
    claimed = λ tx block made tx_is next has none. of_state _ has.worker
        (takes tx tx_is block has.core.0 new.worker.known.has_space has.answer has.core.1 has.core.2);
    committed = λ job tx done made tx_is next left job_is has none. of_state _ has.worker
        (commits tx tx_is job done (record (with_snap new.worker old.worker) { begun = none_begun }) has.answer refl
        refl has.core);
    lacked = λ tx made tx_is left has none. of_state _ has.worker tt;
    given = λ ok io made io_is has none. gives ok io made has;
    refused = λ why job tx made job_is tx_is has none. of_state _ has.worker tt;
    left = λ tx made tx_is has none. of_state _ has.worker tt;
    waited = λ place made has none. waits place made has;
  }

  none_of : {A : Type 0} (found : Option A) (is : Bool) → is_some found ≡ is
      → is ≡ false → found ≡ None
  none_of None is same off = refl
  none_of (Some one) is same off = absurd (true≢false (same ∙ off))

  pub traces_still : (made : Option Step)
      → is_some old.worker.begun.tx ≡ has_transaction old.worker.phase
      → GoesOn old.worker.phase old made new → TracesAll new.worker new.core
  traces_still made tx goes = by_cases old new Traces cases old.worker.phase made goes
      (none_of old.worker.begun.tx (has_transaction old.worker.phase) tx)
