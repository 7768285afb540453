-- A core that fits a worker fits it still after a step, and a worker that is out alone is so still.
use Rattle.std.proofs.Common.{◌≡◌, ◌∙◌, refl, sym, ap, subst, ℕ, ◌<◌, Bool, true, false, ◌||◌, not, nat_eq}
use Rattle.std.proofs.Common.{Option, Some, None, is_some, IfSome, List, [], ◌∷◌, true≢false, cond}
use Rattle.std.specs.Prelude.{IsSomeAnd, option_to_list}
use Rattle.std.specs.List.{list_any}
use Rattle.std.proofs.lemmas.Bool.{eq-eqb}
use Rattle.disk.specs.declared.block.BlockNo.{BlockNo}
use Rattle.objects.specs.declared.addr.Addr.{Addr}
use Rattle.objects.specs.declared.mode.Mode.{Mode}
use Rattle.layout.specs.Geometry.{IsLawful}
use Rattle.nfs_spec.specs.Model.Calls.{is_answered_stable}
use Rattle.nfs_types.specs.declared.reply.Reply.{Reply}
use Rattle.procs.specs.Outcome.{Outcome}
use Rattle.txn.specs.Core.{CoreState, IsOut, with_refused, without}
use Rattle.txn.proofs.Answered.{unbegun_by}
use Rattle.txn.specs.Fetch.{Fetch}
use Rattle.txn.specs.Outcomes.{IsClaimed, IsCommit, IsWanted}
use Rattle.txn.specs.declared.outcomes.Claim.{Claim}
use Rattle.txn.specs.declared.outcomes.Claim.TheVariants as claim
use Rattle.txn.specs.declared.outcomes.Commit.{Commit}
use Rattle.txn.specs.declared.outcomes.Commit.TheVariants as commit
use Rattle.txn.specs.declared.outcomes.Want.{Want}
use Rattle.txn.specs.declared.outcomes.Want.TheVariants as want
use Rattle.circ.specs.declared.log.outcomes.Seq.{Seq}
use Rattle.store_promise.specs.declared.answers.Verdict.TheVariants as verdict
use Rattle.store_promise.specs.declared.events.Step.{Step}
use Rattle.store_images.specs.Counts.{SameFrame}
use Rattle.store_workers.specs.Single.{IsSingleOut}
use Rattle.store_workers.specs.Phases.{has_transaction}
use Rattle.store_workers.specs.Worker.{IsCoreOf}
use Rattle.store_workers.specs.WorkerAnswers.{after_commit, begun_claimed, begun_wanted, answered_or_waiting, with_answer}
use Rattle.store_workers.specs.WorkerAnswers.{with_entry}
use Rattle.store_workers.specs.WorkerSteps.{GoesOn, HasAborted, IsReplySent, WorkerAndCore, none_begun, planned_of, with_snap}
use Rattle.store_workers.specs.declared.workers.parts.Begun.{Begun}
use Rattle.store_workers.specs.declared.workers.parts.Job.{Job}
use Rattle.store_workers.specs.declared.workers.parts.Phase.{Phase}
use Rattle.store_workers.specs.declared.workers.parts.Phase.TheVariants.{Called, Planning, Refused, Again}
use Rattle.store_workers.specs.declared.workers.parts.State.{State}
use Rattle.store_workers.proofs.WorkCases.{Cases, by_cases}

-- ---- what a step makes of what was begun

-- it begins a transaction, goes on in one with a fetch or without, ends it, gives its fetch back, or leaves what
-- there was
data Turn (old new : WorkerAndCore) (phase : Phase) : Type 0 where
  rests : new.worker.begun ≡ old.worker.begun → new.core.out ≡ old.core.out → Turn old new phase
  begins : (number : ℕ) → phase ≡ Called → new.worker.begun ≡ record { tx = Some number; io = None }
      → new.core.out ≡ number ∷ old.core.out → Turn old new phase
  goes_on : (tx : ℕ) (io : Option Fetch) → old.worker.begun.tx ≡ Some tx
      → new.worker.begun ≡ record { tx = Some tx; io = io } → new.core.out ≡ old.core.out
      → IfSome io (λ io. io.block.0 < old.core.log.blocks) → Turn old new phase
  gives : new.worker.begun ≡ record old.worker.begun { io = None } → new.core.out ≡ old.core.out → Turn old new phase
  ends : (tx : ℕ) → old.worker.begun.tx ≡ Some tx → new.worker.begun ≡ none_begun
      → new.core.out ≡ without tx old.core.out → Turn old new phase

-- whoever waits has begun what it had
begun_stays : (place : Seq) (settled broken : Bool) (old new : State) → IsReplySent settled broken place old new
    → new.begun ≡ old.begun
begun_stays place true broken old new has = by old.work.reply has
  where
    by : (found : Option Reply) → IsSomeAnd found (λ reply. new
        ≡ with_answer (verdict.Reply reply) (Some place) (record old { work = record old.work { reply = None } }))
        → new.begun ≡ old.begun
    by None has = absurd has
    by (Some reply) has = ap (λ (s : State). s.begun) has
begun_stays place false true old new has = by old.work.broken_reply has
  where
    by : (found : Option Reply) → IsSomeAnd found (λ reply. new
        ≡ with_answer (verdict.Reply reply) (Some place)
        (record old { work = record old.work { broken_reply = None } }))
        → new.begun ≡ old.begun
    by None has = absurd has
    by (Some reply) has = ap (λ (s : State). s.begun) has
begun_stays place false false old new has = ap (λ (s : State). s.begun) has

-- and so has one whose procedure was committed
placed_begun : (stable : Bool) (job : Job) (reply : Reply) (place : Seq) (state : State)
    → (with_entry job reply (answered_or_waiting stable job reply place state)).begun ≡ state.begun
placed_begun true job reply place state = refl
placed_begun false job reply place state = refl

module _ (old new : WorkerAndCore) (phase : Phase) where
  out_of : (core : CoreState) → new.core ≡ core → new.core.out ≡ core.out
  out_of core is = ap (λ (c : CoreState). c.out) is

  begun_of : (worker : State) → new.worker ≡ worker → new.worker.begun ≡ worker.begun
  begun_of worker is = ap (λ (s : State). s.begun) is

  -- it goes on in its transaction
  still : (tx back : ℕ) → back ≡ tx → old.worker.begun.tx ≡ Some tx
      → new.worker.begun ≡ record { tx = Some back; io = None } → new.core.out ≡ old.core.out → Turn old new phase
  still tx back same tx_is begun out = goes_on tx None tx_is
      (begun ∙ ap (λ (n : ℕ). record { tx = Some n; io = None }) same) out tt

  wants : (tx : ℕ) (addr : Addr) (mode : Mode) (answer : Want) → old.worker.begun.tx ≡ Some tx
      → IsWanted old.core tx addr mode answer new.core → new.worker.begun ≡ begun_wanted answer
      → Turn old new phase
  wants tx addr mode (want.Held back bytes) tx_is is begun = still tx back is.0 tx_is begun (out_of _ is.2.only)
  wants tx addr mode (want.Busy back) tx_is is begun = still tx back is.0 tx_is begun (out_of _ is.2)
  wants tx addr mode (want.Fetch back io) tx_is is begun = goes_on tx (Some io) tx_is
      (begun ∙ ap (λ (n : ℕ). record { tx = Some n; io = Some io }) is.0) (out_of _ is.2.only)
      (subst (λ (b : BlockNo). b.0 < old.core.log.blocks) (sym is.2.block) is.1.inside.home.1)
  wants tx addr mode (want.Loading back) tx_is is begun = still tx back is.0 tx_is begun (out_of _ is.2)
  wants tx addr mode (want.Outside back) tx_is is begun = still tx back is.0 tx_is begun (out_of _ is.2)
  wants tx addr mode (want.NoMemory back error) tx_is is begun =
      still tx back is.0 tx_is begun (out_of (with_refused old.core) is.2)

  claims : (tx : ℕ) (addr : Addr) (answer : Claim) → old.worker.begun.tx ≡ Some tx
      → IsClaimed old.core tx addr answer new.core → new.worker.begun ≡ begun_claimed answer → Turn old new phase
  claims tx addr (claim.Held back) tx_is is begun = still tx back is.0 tx_is begun (out_of _ is.2.only)
  claims tx addr (claim.Busy back) tx_is is begun = still tx back is.0 tx_is begun (out_of _ is.2)
  claims tx addr (claim.Loading back) tx_is is begun = still tx back is.0 tx_is begun (out_of _ is.2)
  claims tx addr (claim.Outside back) tx_is is begun = still tx back is.0 tx_is begun (out_of _ is.2)
  claims tx addr (claim.NoMemory back error) tx_is is begun =
      still tx back is.0 tx_is begun (out_of (with_refused old.core) is.2)

  commits : (job : Job) (tx : ℕ) (done : Outcome) (base : State) (answer : Commit Outcome)
      → old.worker.begun.tx ≡ Some tx → base.begun ≡ none_begun
      → IsCommit old.core tx (planned_of done) done answer new.core
      → new.worker ≡ after_commit job done.reply answer base → Turn old new phase
  commits job tx done base (commit.Committed receipt) tx_is none is worker = ends tx tx_is
      (begun_of _ worker ∙ placed_begun (is_answered_stable job.call) job done.reply receipt.place base ∙ none)
      (out_of _ is.only)
  commits job tx done base (commit.Full back same) tx_is none is worker =
      still tx back is.0.transaction tx_is (begun_of _ worker) (out_of _ is.0.core)
  commits job tx done base (commit.Foreign back same) tx_is none is worker =
      still tx back is.0.transaction tx_is (begun_of _ worker) (out_of _ is.0.core)
  commits job tx done base (commit.NoMemory back same error) tx_is none is worker =
      still tx back is.0.transaction tx_is (begun_of _ worker) (out_of (with_refused old.core) is.0.core)
  commits job tx done base (commit.Broken back same) tx_is none is worker =
      still tx back is.0.transaction tx_is (begun_of _ worker) (out_of _ is.0.core)
  commits job tx done base (commit.Spent back same) tx_is none is worker =
      still tx back is.0.transaction tx_is (begun_of _ worker) (out_of _ is.0.core)

  aborts : (tx : ℕ) → old.worker.begun.tx ≡ Some tx → new.core.out ≡ without tx old.core.out
      → new.worker.begun ≡ none_begun → Turn old new phase
  aborts tx tx_is out begun = ends tx tx_is begun out

turns : (old new : WorkerAndCore) → Cases old new (λ phase made. Turn old new phase)
turns old new = record {
  idle = λ is. rests (ap (λ (s : WorkerAndCore). s.worker.begun) is) (ap (λ (s : WorkerAndCore). s.core.out) is);
  reading = λ is. rests (ap (λ (s : WorkerAndCore). s.worker.begun) is) (ap (λ (s : WorkerAndCore). s.core.out) is);
  begun = λ job number job_is rules has. begins number refl (ap (λ (s : State). s.begun) has.worker)
      (ap (λ (c : CoreState). c.out) has.core ∙ ap (λ (n : ℕ). n ∷ old.core.out) (sym has.next));
  not_begun = λ job why job_is rules none core worker. rests (ap (λ (s : State). s.begun) worker)
      (unbegun_by (λ (c : CoreState). new.core ≡ c → new.core.out ≡ old.core.out) why old.core
      (λ same. ap (λ (c : CoreState). c.out) same) (λ one. ap (λ (c : CoreState). c.out) one) core);
  replied = λ job job_is rules core worker. rests (ap (λ (s : State). s.begun) worker)
      (ap (λ (c : CoreState). c.out) core);
  wanted = λ tx addr mode made tx_is next has. wants old new Planning tx addr mode has.answer tx_is has.core
      (ap (λ (s : State). s.begun) has.worker);
  claimed = λ tx block made tx_is next has. claims old new Planning tx has.core.0 has.answer tx_is has.core.2
      (ap (λ (s : State). s.begun) has.worker);
  committed = λ job tx done made tx_is next none job_is has. commits old new Planning job tx done
      (record (with_snap new.worker old.worker) { begun = none_begun }) has.answer tx_is refl has.core
      has.worker;
  lacked = λ tx made tx_is none has. aborts old new Planning tx tx_is (ap (λ (c : CoreState). c.out) has.core.only)
      (ap (λ (s : State). s.begun) has.worker);
  given = λ ok io made io_is has. gives (ap (λ (s : State). s.begun) has.worker)
      (ap (λ (c : CoreState). c.out) has.only);
  refused = λ why job tx made job_is tx_is has. aborts old new (Refused why) tx tx_is
      (ap (λ (c : CoreState). c.out) has.core.only)
      (ap (λ (s : State). s.begun) has.worker);
  left = λ tx made tx_is has. aborts old new Again tx tx_is (ap (λ (c : CoreState). c.out) has.core.only)
      (ap (λ (s : State). s.begun) has.worker);
  waited = λ place made has. rests (begun_stays place has.settled old.core.log.broken old.worker new.worker
      has.is_reply_sent) (ap (λ (c : CoreState). c.out) has.core);
}

-- what any step makes
turn_of : (old new : WorkerAndCore) (phase : Phase) (made : Option Step) → GoesOn phase old made new → Turn old new phase
turn_of old new = by_cases old new (λ phase made. Turn old new phase) (turns old new)

-- ---- the core fits it still

module _ (old new : WorkerAndCore) (frame : SameFrame old.core new.core) (fits : IsCoreOf old.worker old.core) where
  by_parts : (begun : Begun) → new.worker.begun ≡ begun → IfSome begun.tx (IsOut new.core)
      → IfSome begun.io (λ io. io.block.0 < old.core.log.blocks) → IsCoreOf new.worker new.core
  by_parts begun is out reads = record {
    out = subst (λ (b : Begun). IfSome b.tx (IsOut new.core)) (sym is) out;
    reads = subst (λ (n : ℕ). IfSome new.worker.begun.io (λ io. io.block.0 < n)) (sym frame.blocks)
        (subst (λ (b : Begun). IfSome b.io (λ io. io.block.0 < old.core.log.blocks)) (sym is) reads);
    lawful = subst (λ (n : ℕ). IsLawful n new.core.inodes) (sym frame.blocks)
        (subst (λ (n : ℕ). IsLawful old.core.log.blocks n) (sym frame.inodes) fits.lawful);
  }

  -- what was out is
  same_out : (tx : Option ℕ) → new.core.out ≡ old.core.out → IfSome tx (IsOut old.core)
      → IfSome tx (IsOut new.core)
  same_out None out is = tt
  same_out (Some tx) out is = ap (λ (o : List ℕ). list_any (λ other. nat_eq other tx) o) out ∙ is

  by_turn : (phase : Phase) → Turn old new phase → IsCoreOf new.worker new.core
  by_turn phase (rests begun out) =
      by_parts old.worker.begun begun (same_out old.worker.begun.tx out fits.out) fits.reads
  by_turn phase (begins number at begun out) = by_parts _ begun
      (ap (λ (o : List ℕ). list_any (λ other. nat_eq other number) o) out
      ∙ ap (λ b. b || list_any (λ other. nat_eq other number) old.core.out) (eq-eqb number number refl)) tt
  by_turn phase (goes_on tx io tx_is begun out within) = by_parts _ begun (same_out (Some tx) out
      (subst (λ (o : Option ℕ). IfSome o (IsOut old.core)) tx_is fits.out)) within
  by_turn phase (gives begun out) = by_parts _ begun (same_out old.worker.begun.tx out fits.out) tt
  by_turn phase (ends tx tx_is begun out) = by_parts _ begun tt tt

  pub still_fits : (phase : Phase) (made : Option Step) → GoesOn phase old made new
      → IsCoreOf new.worker new.core
  still_fits phase made goes = by_turn phase (turn_of old new phase made goes)

-- ---- it is out alone still

-- a transaction that ends alone leaves none
none_out : (tx : ℕ) (out : List ℕ) → out ≡ tx ∷ [] → without tx out ≡ []
none_out tx out is = ap (without tx) is ∙ ap (λ b. cond (not b) (tx ∷ []) []) (eq-eqb tx tx refl)

no_tx : (tx : Option ℕ) → is_some tx ≡ false → tx ≡ None
no_tx None none = refl
no_tx (Some tx) some = absurd (true≢false some)

module _ (old new : WorkerAndCore) (phase : Phase) (out : is_some old.worker.begun.tx ≡ has_transaction phase)
    (single_out : IsSingleOut old.worker old.core) where
  single_with : (begun : Begun) → new.worker.begun ≡ begun → new.core.out ≡ option_to_list begun.tx
      → IsSingleOut new.worker new.core
  single_with begun is out = out ∙ sym (ap (λ (b : Begun). option_to_list b.tx) is)

  single_turn : Turn old new phase → IsSingleOut new.worker new.core
  single_turn (rests begun now) = single_with _ begun (now ∙ single_out)
  single_turn (begins number at begun now) = single_with _ begun
      (now ∙ ap (λ (o : List ℕ). number ∷ o) (single_out ∙ ap (λ (o : Option ℕ). option_to_list o)
      (no_tx old.worker.begun.tx (out ∙ ap has_transaction at))))
  single_turn (goes_on tx io tx_is begun now within) =
      single_with _ begun (now ∙ single_out ∙ ap (λ (o : Option ℕ). option_to_list o) tx_is)
  single_turn (gives begun now) = single_with _ begun (now ∙ single_out)
  single_turn (ends tx tx_is begun now) = single_with _ begun
      (now ∙ none_out tx old.core.out (single_out ∙ ap (λ (o : Option ℕ). option_to_list o) tx_is))

  pub still_single : (made : Option Step) → GoesOn phase old made new → IsSingleOut new.worker new.core
  still_single made goes = single_turn (turn_of old new phase made goes)
