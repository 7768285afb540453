-- Each step of a worker leaves what others have.
use Rattle.std.proofs.Common.{◌≡◌, ◌∙◌, ◌+◌, ◌≤◌, ◌<◌, refl, sym, ap, subst, true≢false, ℕ, ◌⊎◌, inl, inr, Bool}
use Rattle.std.proofs.Common.{true, false, not, ◌&&◌, ◌||◌, if◌then◌else◌, nat_eq, Option, Some, None, List, []}
use Rattle.std.proofs.Common.{◌∷◌, arith}
use Rattle.std.specs.Prelude.{IfSome, IsSomeAnd, is_some}
use Rattle.std.specs.List.{list_any}
use Rattle.std.proofs.lemmas.Bool.{eq-eqb, eqb-true, or_left, or_right}
use Rattle.disk.specs.declared.block.BlockNo.{BlockNo}
use Rattle.objects.specs.declared.addr.Addr.{Addr}
use Rattle.objects.specs.declared.mode.Mode.{Mode}
use Rattle.nfs_spec.specs.Model.Calls.{is_answered_stable}
use Rattle.nfs_types.specs.declared.reply.Reply.{Reply}
use Rattle.circ.specs.declared.log.outcomes.Seq.{Seq}
use Rattle.procs.specs.Outcome.{Outcome}
use Rattle.txn.specs.Core.{CoreState, IsOut, with_begun, with_refused, without}
use Rattle.txn.specs.CoreWindow.{PreservesReads}
use Rattle.txn.specs.Fetch.{Fetch}
use Rattle.txn.specs.Leaves.{Leaves, but_by, in_memory, is_fetching, taken_by, without_fetch}
use Rattle.txn.specs.Outcomes.{IsClaimed, IsCommit, IsWanted}
use Rattle.txn.specs.declared.outcomes.Claim.{Claim}
use Rattle.txn.specs.declared.outcomes.Claim.TheVariants as claim
use Rattle.txn.specs.declared.outcomes.Commit.{Commit}
use Rattle.txn.specs.declared.outcomes.Commit.TheVariants as commit
use Rattle.txn.specs.declared.outcomes.Want.{Want}
use Rattle.txn.specs.declared.outcomes.Want.TheVariants as want
use Rattle.txn.proofs.OtherSteps.{by_begin, by_claimed, by_commit, by_end, by_failed, by_fetched, by_want}
use Rattle.txn.proofs.OtherSteps.{preserves_refused, preserves_same}
use Rattle.txn.proofs.Answered.{unbegun_by}
use Rattle.objects.proofs.Residents.{same_block}
use Rattle.txn_law.specs.Others.{PreservesTaken}
use Rattle.store_promise.specs.declared.answers.Verdict.TheVariants as verdict
use Rattle.store_promise.specs.declared.events.Step.{Step}
use Rattle.store_images.specs.Fetches.{PreservesFetches}
use Rattle.store_workers.proofs.HowFar.{without_broken_reply, without_reply}
use Rattle.store_workers.proofs.WorkCases.{Cases, by_cases}
use Rattle.store_workers.specs.Unaffected.{IsFetchAt, IsFetchedBy, LeavesOthers}
use Rattle.store_workers.specs.Phases.{has_fetch, has_transaction}
use Rattle.store_workers.specs.RunReports.{reported}
use Rattle.store_workers.specs.WorkerAnswers.{after_commit, begun_claimed, begun_wanted, answered_or_waiting, with_answer}
use Rattle.store_workers.specs.WorkerAnswers.{with_entry}
use Rattle.store_workers.specs.WorkerSteps.{GoesOn, HasAborted, HasBegun, HasGivenBack}
use Rattle.store_workers.specs.WorkerSteps.{IsReplySent, PreservesReadsOf, WorkerAndCore, Waits, none_begun, planned_of}
use Rattle.store_workers.specs.WorkerSteps.{worker_and_core, there_given, with_snap}
use Rattle.store_workers.specs.declared.workers.parts.Begun.{Begun}
use Rattle.store_workers.specs.declared.workers.parts.Job.{Job}
use Rattle.store_workers.specs.declared.workers.parts.Phase.{Phase}
use Rattle.store_workers.specs.declared.workers.parts.State.{State}

-- ---- lists of transactions

-- a transaction that is out once this one has ended is another, and was out
pub gone : (out : List ℕ) (tx t : ℕ) → list_any (λ other. nat_eq other t) (without tx out) ≡ true
    → (t ≡ tx → ⊥) × (list_any (λ other. nat_eq other t) out ≡ true)
gone [] tx t is = absurd (true≢false (sym is))
gone (x ∷ xs) tx t is = by (nat_eq x tx) refl (gone xs tx t) is
  where
    by : (b : Bool) → nat_eq x tx ≡ b
        → (list_any (λ other. nat_eq other t) (without tx xs) ≡ true
        → (t ≡ tx → ⊥) × (list_any (λ other. nat_eq other t) xs ≡ true))
        → list_any (λ other. nat_eq other t) (if not b then x ∷ without tx xs else without tx xs) ≡ true
        → (t ≡ tx → ⊥) × (list_any (λ other. nat_eq other t) (x ∷ xs) ≡ true)
    by true same rest is = ((rest is).0, or_right (nat_eq x t) _ (rest is).1)
    by false differs rest is = first (nat_eq x t) refl is
      where
        first : (c : Bool) → nat_eq x t ≡ c → (c || list_any (λ other. nat_eq other t) (without tx xs)) ≡ true
            → (t ≡ tx → ⊥) × ((nat_eq x t || list_any (λ other. nat_eq other t) xs) ≡ true)
        first true here is = (
          λ same. true≢false (sym (eq-eqb x tx (eqb-true x t here ∙ same)) ∙ differs),
          or_left (nat_eq x t) _ here,
        )
        first false far is = ((rest is).0, or_right (nat_eq x t) _ (rest is).1)

some_same : {X : Type 0} (x y : X) → Some x ≡ Some y → x ≡ y
some_same x y same = cc

-- nothing is fetched
none_at : (block : BlockNo) (io : Option Fetch) → io ≡ None → IsFetchAt block io → ⊥
none_at block None is at = at
none_at block (Some io) is at = cc

-- ---- by what is out, and what is fetched

-- what becomes of the transactions
pub data TxGoes (old new : WorkerAndCore) : Type 0 where
  -- it is the one that was, or none was
  stays_out : new.worker.begun.tx ≡ old.worker.begun.tx → new.core.out ≡ old.core.out
      → new.core.begun ≡ old.core.begun → TxGoes old new
  -- it has ended
  ends : (tx : ℕ) → old.worker.begun.tx ≡ Some tx → new.worker.begun.tx ≡ None
      → new.core.out ≡ without tx old.core.out → new.core.begun ≡ old.core.begun → TxGoes old new
  -- the next was begun
  comes : old.worker.begun.tx ≡ None → new.worker.begun.tx ≡ Some (old.core.begun + 1)
      → new.core ≡ with_begun old.core → TxGoes old new

-- and of the fetches
pub data IoGoes (old new : WorkerAndCore) : Type 0 where
  preserves_io : new.worker.begun.io ≡ old.worker.begun.io → PreservesFetches old.core new.core → IoGoes old new
  asks_io : (io : Fetch) → old.worker.begun.io ≡ None → new.worker.begun.io ≡ Some io
      → is_fetching old.core io.block ≡ false
      → ((block : BlockNo) → is_fetching new.core block
      ≡ (nat_eq block.0 io.block.0 || is_fetching old.core block)) → IoGoes old new
  gives_io : (io : Fetch) → old.worker.begun.io ≡ Some io → new.worker.begun.io ≡ None
      → ((block : BlockNo) → is_fetching new.core block
      ≡ (not (nat_eq block.0 io.block.0) && is_fetching old.core block)) → IoGoes old new

module _ (old new : WorkerAndCore) (others : (tx : ℕ) → (old.worker.begun.tx ≡ Some tx → ⊥)
    → PreservesTaken old.core new.core tx) (own_out : IfSome old.worker.begun.tx (IsOut old.core))
    (own_io : IsFetchedBy old.core old.worker.begun.io) where
  record TxLeft : Type 0 where
    out : (tx : ℕ) → IsOut new.core tx
        → (new.worker.begun.tx ≡ Some tx) ⊎ (IsOut old.core tx × (old.worker.begun.tx ≡ Some tx → ⊥))
    begun : old.core.begun ≤ new.core.begun
    number : (tx : ℕ) → new.worker.begun.tx ≡ Some tx
        → (old.worker.begun.tx ≡ Some tx) ⊎ ((old.core.begun < tx) × (tx ≤ new.core.begun))

  tx_left : TxGoes old new → TxLeft
  tx_left (stays_out tx_is out_is begun_is) = record {
    out = λ tx is. by old.worker.begun.tx refl tx (ap (λ (ts : List ℕ). list_any (λ other. nat_eq other tx) ts)
        (sym out_is) ∙ is);
    begun = omega (arith, begun_is);
    number = λ tx is. inl (sym tx_is ∙ is);
  }
    where
      by : (found : Option ℕ) → old.worker.begun.tx ≡ found → (tx : ℕ) → IsOut old.core tx
          → (new.worker.begun.tx ≡ Some tx) ⊎ (IsOut old.core tx × (old.worker.begun.tx ≡ Some tx → ⊥))
      by None is tx was = inr (was, λ some. cc)
      by (Some own) is tx was = of (nat_eq own tx) refl
        where
          of : (same : Bool) → nat_eq own tx ≡ same
              → (new.worker.begun.tx ≡ Some tx) ⊎ (IsOut old.core tx × (old.worker.begun.tx ≡ Some tx → ⊥))
          of true same = inl (tx_is ∙ is ∙ ap (λ (n : ℕ). Some n) (eqb-true own tx same))
          of false differs = inr (
            was,
            λ some. true≢false (sym (eq-eqb own tx
                (some_same own tx (sym is ∙ some))) ∙ differs),
          )
  tx_left (ends own was none out_is begun_is) = record {
    out = λ tx is. let left = gone old.core.out own tx
        (ap (λ (ts : List ℕ). list_any (λ other. nat_eq other tx) ts) (sym out_is) ∙ is) in
        inr (left.1, λ some. left.0 (sym (some_same own tx (sym was ∙ some))));
    begun = omega (arith, begun_is);
    number = λ tx is. absurd (let never : None ≡ Some tx = sym none ∙ is in cc);
  }
  tx_left (comes none now core_is) = record {
    out = λ tx is. by tx (nat_eq (old.core.begun + 1) tx) refl
        (ap (λ (c : CoreState). list_any (λ other. nat_eq other tx) c.out) (sym core_is) ∙ is);
    begun = let more = ap (λ (c : CoreState). c.begun) core_is in omega (arith, more);
    number = λ tx is. inr (let more = ap (λ (c : CoreState). c.begun) core_is in
        let same = some_same (old.core.begun + 1) tx (sym now ∙ is) in
        (omega (arith, same), omega (arith, same, more)));
  }
    where
      by : (tx : ℕ) (same : Bool) → nat_eq (old.core.begun + 1) tx ≡ same
          → (same || list_any (λ other. nat_eq other tx) old.core.out) ≡ true
          → (new.worker.begun.tx ≡ Some tx) ⊎ (IsOut old.core tx × (old.worker.begun.tx ≡ Some tx → ⊥))
      by tx true same is = inl (now ∙ ap (λ (n : ℕ). Some n) (eqb-true (old.core.begun + 1) tx same))
      by tx false differs is = inr (is, λ some. let never : None ≡ Some tx = sym none ∙ some in cc)

  record IoLeft : Type 0 where
    pending : (block : BlockNo) → is_fetching new.core block ≡ true
        → IsFetchAt block new.worker.begun.io
        ⊎ ((is_fetching old.core block ≡ true) × (IsFetchAt block old.worker.begun.io → ⊥))
    fetched : IsFetchedBy new.core new.worker.begun.io
    fresh : (block : BlockNo) → IsFetchAt block new.worker.begun.io
        → IsFetchAt block old.worker.begun.io ⊎ (is_fetching old.core block ≡ false)
    stays : (block : BlockNo) → is_fetching old.core block ≡ true
        → (IsFetchAt block old.worker.begun.io → ⊥) → is_fetching new.core block ≡ true

  -- either it is of this block, or it isn't
  at_or_not : (block : BlockNo) (io : Option Fetch)
      → IsFetchAt block io ⊎ (IsFetchAt block io → ⊥)
  at_or_not block None = inr (λ at. at)
  at_or_not block (Some io) = by (nat_eq io.block.0 block.0) refl
    where
      by : (same : Bool) → nat_eq io.block.0 block.0 ≡ same
          → (io.block ≡ block) ⊎ (io.block ≡ block → ⊥)
      by true same = inl (same_block io.block block (eqb-true io.block.0 block.0 same))
      by false differs = inr (λ is. true≢false (sym (eq-eqb io.block.0 block.0
          (ap (λ (b : BlockNo). b.0) is)) ∙ differs))

  io_left : IoGoes old new → IoLeft
  io_left (preserves_io io_is preserves) = record {
    pending = λ block is. elim (at_or_not block old.worker.begun.io) [
      | inl at ↦ inl (subst (IsFetchAt block) (sym io_is) at)
      | inr not_at ↦ inr (sym (preserves block) ∙ is, not_at)
    ];
    fetched = subst (IsFetchedBy new.core) (sym io_is) (still old.worker.begun.io own_io);
    fresh = λ block at. inl (subst (IsFetchAt block) io_is at);
    stays = λ block is not_at. preserves block ∙ is;
  }
    where
      still : (io : Option Fetch) → IsFetchedBy old.core io → IsFetchedBy new.core io
      still None is = tt
      still (Some io) is = preserves io.block ∙ is
  io_left (asks_io io none now settled fetches) = record {
    pending = λ block is. by block (nat_eq block.0 io.block.0) refl (sym (fetches block) ∙ is);
    fetched = subst (IsFetchedBy new.core) (sym now) (fetches io.block
        ∙ or_left (nat_eq io.block.0 io.block.0) (is_fetching old.core io.block)
        (eq-eqb io.block.0 io.block.0 refl));
    fresh = λ block at. inr (subst (λ (b : BlockNo). is_fetching old.core b ≡ false)
        (subst (IsFetchAt block) now at) settled);
    stays = λ block is not_at. fetches block ∙ or_right (nat_eq block.0 io.block.0) (is_fetching old.core block) is;
  }
    where
      by : (block : BlockNo) (same : Bool) → nat_eq block.0 io.block.0 ≡ same
          → (same || is_fetching old.core block) ≡ true
          → IsFetchAt block new.worker.begun.io
          ⊎ ((is_fetching old.core block ≡ true) × (IsFetchAt block old.worker.begun.io → ⊥))
      by block true same is = inl (subst (IsFetchAt block) (sym now)
          (same_block io.block block (sym (eqb-true block.0 io.block.0 same))))
      by block false differs is = inr (is, none_at block old.worker.begun.io none)
  io_left (gives_io io was none fetches) = record {
    pending = λ block is. let left = both (nat_eq block.0 io.block.0) (is_fetching old.core block)
        (sym (fetches block) ∙ is) in
        inr (
          left.1,
          λ at. true≢false (sym (eq-eqb block.0 io.block.0
              (ap (λ (b : BlockNo). b.0) (sym (subst (IsFetchAt block) was at)))) ∙ left.0),
        );
    fetched = subst (IsFetchedBy new.core) (sym none) tt;
    fresh = λ block at. absurd (none_at block new.worker.begun.io none at);
    stays = λ block is not_at. by block is not_at (nat_eq block.0 io.block.0) refl;
  }
    where
      both : (t u : Bool) → (not t && u) ≡ true → (t ≡ false) × (u ≡ true)
      both true u is = absurd (true≢false (sym is))
      both false u is = (refl, is)

      by : (block : BlockNo) → is_fetching old.core block ≡ true
          → (IsFetchAt block old.worker.begun.io → ⊥) → (same : Bool) → nat_eq block.0 io.block.0 ≡ same
          → is_fetching new.core block ≡ true
      by block is not_at true same = absurd (not_at (subst (IsFetchAt block) (sym was)
          (same_block io.block block (sym (eqb-true block.0 io.block.0 same)))))
      by block is not_at false differs = fetches block
          ∙ ap (λ (t : Bool). not t && is_fetching old.core block) differs ∙ is

  pub leaves_by : TxGoes old new → IoGoes old new → LeavesOthers old new
  leaves_by tx_goes io_goes = let txs = tx_left tx_goes in let ios = io_left io_goes in record {
    others = others;
    out = txs.out;
    begun = txs.begun;
    number = txs.number;
    pending = ios.pending;
    fetched = ios.fetched;
    fresh = ios.fresh;
    stays = ios.stays;
  }

-- ---- a step

module _ (old new : WorkerAndCore) (preserves : PreservesReadsOf old new)
    (own_out : IfSome old.worker.begun.tx (IsOut old.core))
    (own_io : IsFetchedBy old.core old.worker.begun.io) where
  abbrev LeftSo : Phase → Option Step → Type 0
  LeftSo phase made = (has_transaction phase ≡ false → old.worker.begun.tx ≡ None)
      → (has_fetch phase ≡ false → old.worker.begun.io ≡ None) → LeavesOthers old new

  -- what another reads stays
  reads : (tx other : ℕ) → old.worker.begun.tx ≡ Some tx → (old.worker.begun.tx ≡ Some other → ⊥)
      → PreservesReads old.core new.core other
  reads tx other is differs = preserves other (λ same. absurd (differs same))

  apart : (tx other : ℕ) → old.worker.begun.tx ≡ Some tx → (old.worker.begun.tx ≡ Some other → ⊥) → other ≡ tx → ⊥
  apart tx other is differs same = differs (is ∙ ap (λ (n : ℕ). Some n) (sym same))

  by_parts : ((tx : ℕ) → (old.worker.begun.tx ≡ Some tx → ⊥) → PreservesTaken old.core new.core tx)
      → TxGoes old new → IoGoes old new → LeavesOthers old new
  by_parts others tx_goes io_goes = leaves_by old new others own_out own_io tx_goes io_goes

  -- nothing has changed of the core
  same_core : new.core ≡ old.core → new.worker.begun.tx ≡ old.worker.begun.tx
      → new.worker.begun.io ≡ old.worker.begun.io → LeavesOthers old new
  same_core core tx io = by_parts (λ t differs. preserves_same old.core new.core t core)
      (stays_out tx (ap (λ (c : CoreState). c.out) core) (ap (λ (c : CoreState). c.begun) core))
      (preserves_io io (λ block. ap (λ (c : CoreState). is_fetching c block) core))

  -- nor has anything but how often memory was refused
  refused_core : new.core ≡ with_refused old.core → new.worker.begun.tx ≡ old.worker.begun.tx
      → new.worker.begun.io ≡ old.worker.begun.io → LeavesOthers old new
  refused_core core tx io = by_parts (λ t differs. preserves_refused old.core new.core t core)
      (stays_out tx (ap (λ (c : CoreState). c.out) core) (ap (λ (c : CoreState). c.begun) core))
      (preserves_io io (λ block. ap (λ (c : CoreState). is_fetching c block) core))

  begins : (job : Job) (number : ℕ) → HasBegun job old number new → old.worker.begun.tx ≡ None
      → old.worker.begun.io ≡ None → LeavesOthers old new
  begins job number has no_tx no_io =
      by_parts (λ t differs. by_begin old.core new.core t (preserves t (λ same. absurd (differs same))) has.core)
      (comes no_tx (ap (λ (s : State). s.begun.tx) has.worker ∙ ap (λ (n : ℕ). Some n) has.next) has.core)
      (preserves_io (ap (λ (s : State). s.begun.io) has.worker ∙ sym no_io)
      (λ block. ap (λ (c : CoreState). is_fetching c block) has.core))

  wants : (tx : ℕ) (addr : Addr) (mode : Mode) (answer : Want) → old.worker.begun.tx ≡ Some tx → old.worker.begun.io ≡ None
      → IsWanted old.core tx addr mode answer new.core → new.worker.begun ≡ begun_wanted answer
      → LeavesOthers old new
  wants tx addr mode answer tx_is no_io is got =
      by_parts (λ t differs. by_want old.core new.core tx t (apart tx t tx_is differs) (reads tx t tx_is differs)
      addr mode answer is) (txs answer is got) (ios answer is got)
    where
      still : (back : ℕ) → back ≡ tx → new.worker.begun.tx ≡ Some back
          → new.worker.begun.tx ≡ old.worker.begun.tx
      still back same got = got ∙ ap (λ (n : ℕ). Some n) same ∙ sym tx_is

      txs : (answer : Want) → IsWanted old.core tx addr mode answer new.core
          → new.worker.begun ≡ begun_wanted answer → TxGoes old new
      txs (want.Held back bytes) is got = stays_out (still back is.0 (ap (λ (b : Begun). b.tx) got))
          (ap (λ (c : CoreState). c.out) is.2.only) (ap (λ (c : CoreState). c.begun) is.2.only)
      txs (want.Fetch back io) is got = stays_out (still back is.0 (ap (λ (b : Begun). b.tx) got))
          (ap (λ (c : CoreState). c.out) is.2.only) (ap (λ (c : CoreState). c.begun) is.2.only)
      txs (want.Busy back) is got = stays_out (still back is.0 (ap (λ (b : Begun). b.tx) got))
          (ap (λ (c : CoreState). c.out) is.2) (ap (λ (c : CoreState). c.begun) is.2)
      txs (want.Loading back) is got = stays_out (still back is.0 (ap (λ (b : Begun). b.tx) got))
          (ap (λ (c : CoreState). c.out) is.2) (ap (λ (c : CoreState). c.begun) is.2)
      txs (want.Outside back) is got = stays_out (still back is.0 (ap (λ (b : Begun). b.tx) got))
          (ap (λ (c : CoreState). c.out) is.2) (ap (λ (c : CoreState). c.begun) is.2)
      txs (want.NoMemory back error) is got = stays_out (still back is.0 (ap (λ (b : Begun). b.tx) got))
          (ap (λ (c : CoreState). c.out) is.2) (ap (λ (c : CoreState). c.begun) is.2)

      ios : (answer : Want) → IsWanted old.core tx addr mode answer new.core
          → new.worker.begun ≡ begun_wanted answer → IoGoes old new
      ios (want.Held back bytes) is got =
          preserves_io (ap (λ (b : Begun). b.io) got ∙ sym no_io) is.2.leaves.fetches
      ios (want.Fetch back io) is got = asks_io io no_io (ap (λ (b : Begun). b.io) got)
          (ap (λ (b : BlockNo). is_fetching old.core b) is.2.block ∙ is.1.settled)
          (λ block. is.2.leaves.fetches block ∙ ap (λ (b : BlockNo). nat_eq block.0 b.0 || is_fetching old.core block)
          (sym is.2.block))
      ios (want.Busy back) is got = preserves_io (ap (λ (b : Begun). b.io) got ∙ sym no_io)
          (λ block. ap (λ (c : CoreState). is_fetching c block) is.2)
      ios (want.Loading back) is got = preserves_io (ap (λ (b : Begun). b.io) got ∙ sym no_io)
          (λ block. ap (λ (c : CoreState). is_fetching c block) is.2)
      ios (want.Outside back) is got = preserves_io (ap (λ (b : Begun). b.io) got ∙ sym no_io)
          (λ block. ap (λ (c : CoreState). is_fetching c block) is.2)
      ios (want.NoMemory back error) is got = preserves_io (ap (λ (b : Begun). b.io) got ∙ sym no_io)
          (λ block. ap (λ (c : CoreState). is_fetching c block) is.2)

  takes : (tx : ℕ) (addr : Addr) (answer : Claim) → old.worker.begun.tx ≡ Some tx → old.worker.begun.io ≡ None
      → IsClaimed old.core tx addr answer new.core → new.worker.begun ≡ begun_claimed answer
      → LeavesOthers old new
  takes tx addr answer tx_is no_io is got =
      by_parts (λ t differs. by_claimed old.core new.core tx t (apart tx t tx_is differs) (reads tx t tx_is differs)
      addr answer is) (txs answer is got) (ios answer is got)
    where
      still : (back : ℕ) → back ≡ tx → new.worker.begun.tx ≡ Some back
          → new.worker.begun.tx ≡ old.worker.begun.tx
      still back same got = got ∙ ap (λ (n : ℕ). Some n) same ∙ sym tx_is

      txs : (answer : Claim) → IsClaimed old.core tx addr answer new.core
          → new.worker.begun ≡ begun_claimed answer → TxGoes old new
      txs (claim.Held back) is got = stays_out (still back is.0 (ap (λ (b : Begun). b.tx) got))
          (ap (λ (c : CoreState). c.out) is.2.only) (ap (λ (c : CoreState). c.begun) is.2.only)
      txs (claim.Busy back) is got = stays_out (still back is.0 (ap (λ (b : Begun). b.tx) got))
          (ap (λ (c : CoreState). c.out) is.2) (ap (λ (c : CoreState). c.begun) is.2)
      txs (claim.Loading back) is got = stays_out (still back is.0 (ap (λ (b : Begun). b.tx) got))
          (ap (λ (c : CoreState). c.out) is.2) (ap (λ (c : CoreState). c.begun) is.2)
      txs (claim.Outside back) is got = stays_out (still back is.0 (ap (λ (b : Begun). b.tx) got))
          (ap (λ (c : CoreState). c.out) is.2) (ap (λ (c : CoreState). c.begun) is.2)
      txs (claim.NoMemory back error) is got = stays_out (still back is.0 (ap (λ (b : Begun). b.tx) got))
          (ap (λ (c : CoreState). c.out) is.2) (ap (λ (c : CoreState). c.begun) is.2)

      ios : (answer : Claim) → IsClaimed old.core tx addr answer new.core
          → new.worker.begun ≡ begun_claimed answer → IoGoes old new
      ios (claim.Held back) is got =
          preserves_io (ap (λ (b : Begun). b.io) got ∙ sym no_io) is.2.leaves.fetches
      ios (claim.Busy back) is got = preserves_io (ap (λ (b : Begun). b.io) got ∙ sym no_io)
          (λ block. ap (λ (c : CoreState). is_fetching c block) is.2)
      ios (claim.Loading back) is got = preserves_io (ap (λ (b : Begun). b.io) got ∙ sym no_io)
          (λ block. ap (λ (c : CoreState). is_fetching c block) is.2)
      ios (claim.Outside back) is got = preserves_io (ap (λ (b : Begun). b.io) got ∙ sym no_io)
          (λ block. ap (λ (c : CoreState). is_fetching c block) is.2)
      ios (claim.NoMemory back error) is got = preserves_io (ap (λ (b : Begun). b.io) got ∙ sym no_io)
          (λ block. ap (λ (c : CoreState). is_fetching c block) is.2)

  -- a transaction that was ended without a change
  aborts : (tx : ℕ) → old.worker.begun.tx ≡ Some tx → old.worker.begun.io ≡ None
      → new.worker.begun.tx ≡ None → new.worker.begun.io ≡ None → new.core.out ≡ without tx old.core.out
      → new.core.begun ≡ old.core.begun
      → Leaves new.core (but_by tx (taken_by old.core)) (is_fetching old.core) (in_memory old.core)
      → LeavesOthers old new
  aborts tx tx_is no_io no_tx none out begun leaves =
      by_parts (λ t differs. by_end old.core new.core tx t (apart tx t tx_is differs) (reads tx t tx_is differs)
      out leaves) (ends tx tx_is no_tx out begun) (preserves_io (none ∙ sym no_io) leaves.fetches)

  commits : (job : Job) (tx : ℕ) (done : Outcome) (base : State) (answer : Commit Outcome)
      → old.worker.begun.tx ≡ Some tx → old.worker.begun.io ≡ None → base.begun ≡ none_begun
      → IsCommit old.core tx (planned_of done) done answer new.core
      → new.worker ≡ after_commit job done.reply answer base → LeavesOthers old new
  commits job tx done base answer tx_is no_io none core is =
      by_parts (λ t differs. by_commit old.core new.core tx t (apart tx t tx_is differs) (reads tx t tx_is differs)
      Outcome (planned_of done) done answer core) (txs answer core is) (ios answer core is)
    where
      still : (back : ℕ) → back ≡ tx → new.worker.begun.tx ≡ Some back
          → new.worker.begun.tx ≡ old.worker.begun.tx
      still back same got = got ∙ ap (λ (n : ℕ). Some n) same ∙ sym tx_is

      placed_begun : (place : Seq) (stable : Bool)
          → (with_entry job done.reply (answered_or_waiting stable job done.reply place base)).begun ≡ base.begun
      placed_begun place true = refl
      placed_begun place false = refl

      begun_then : (place : Seq)
          → new.worker ≡ with_entry job done.reply (answered_or_waiting (is_answered_stable job.call) job done.reply place base)
          → new.worker.begun ≡ none_begun
      begun_then place is = ap (λ (s : State). s.begun) is
          ∙ placed_begun place (is_answered_stable job.call) ∙ none

      txs : (answer : Commit Outcome) → IsCommit old.core tx (planned_of done) done answer new.core
          → new.worker ≡ after_commit job done.reply answer base → TxGoes old new
      txs (commit.Committed receipt) core is = ends tx tx_is (ap (λ (b : Begun). b.tx) (begun_then receipt.place is))
          (ap (λ (c : CoreState). c.out) core.only) (ap (λ (c : CoreState). c.begun) core.only)
      txs (commit.Full back change) core is =
          stays_out (still back core.0.transaction (ap (λ (s : State). s.begun.tx) is))
          (ap (λ (c : CoreState). c.out) core.0.core) (ap (λ (c : CoreState). c.begun) core.0.core)
      txs (commit.Foreign back change) core is =
          stays_out (still back core.0.transaction (ap (λ (s : State). s.begun.tx) is))
          (ap (λ (c : CoreState). c.out) core.0.core) (ap (λ (c : CoreState). c.begun) core.0.core)
      txs (commit.NoMemory back change error) core is =
          stays_out (still back core.0.transaction (ap (λ (s : State). s.begun.tx) is))
          (ap (λ (c : CoreState). c.out) core.0.core) (ap (λ (c : CoreState). c.begun) core.0.core)
      txs (commit.Broken back change) core is =
          stays_out (still back core.0.transaction (ap (λ (s : State). s.begun.tx) is))
          (ap (λ (c : CoreState). c.out) core.0.core) (ap (λ (c : CoreState). c.begun) core.0.core)
      txs (commit.Spent back change) core is =
          stays_out (still back core.0.transaction (ap (λ (s : State). s.begun.tx) is))
          (ap (λ (c : CoreState). c.out) core.0.core) (ap (λ (c : CoreState). c.begun) core.0.core)

      ios : (answer : Commit Outcome) → IsCommit old.core tx (planned_of done) done answer new.core
          → new.worker ≡ after_commit job done.reply answer base → IoGoes old new
      ios (commit.Committed receipt) core is =
          preserves_io (ap (λ (b : Begun). b.io) (begun_then receipt.place is) ∙ sym no_io) core.leaves.fetches
      ios (commit.Full back change) core is = preserves_io (ap (λ (s : State). s.begun.io) is ∙ sym no_io)
          (λ block. ap (λ (c : CoreState). is_fetching c block) core.0.core)
      ios (commit.Foreign back change) core is = preserves_io (ap (λ (s : State). s.begun.io) is ∙ sym no_io)
          (λ block. ap (λ (c : CoreState). is_fetching c block) core.0.core)
      ios (commit.NoMemory back change error) core is = preserves_io (ap (λ (s : State). s.begun.io) is ∙ sym no_io)
          (λ block. ap (λ (c : CoreState). is_fetching c block) core.0.core)
      ios (commit.Broken back change) core is = preserves_io (ap (λ (s : State). s.begun.io) is ∙ sym no_io)
          (λ block. ap (λ (c : CoreState). is_fetching c block) core.0.core)
      ios (commit.Spent back change) core is = preserves_io (ap (λ (s : State). s.begun.io) is ∙ sym no_io)
          (λ block. ap (λ (c : CoreState). is_fetching c block) core.0.core)

  gives : (ok : Bool) (io : Fetch) (made : Step) → old.worker.begun.io ≡ Some io
      → HasGivenBack ok io old made new → LeavesOthers old new
  gives ok io made io_is has =
      by_parts (λ t differs. is_preserved t (preserves t (λ same. absurd (differs same))) ok has.leaves)
      (stays_out (ap (λ (s : State). s.begun.tx) has.worker) (ap (λ (c : CoreState). c.out) has.only)
      (ap (λ (c : CoreState). c.begun) has.only))
      (gives_io io io_is (ap (λ (s : State). s.begun.io) has.worker) has.leaves.fetches)
    where
      is_preserved : (t : ℕ) → PreservesReads old.core new.core t → (ok : Bool)
          → Leaves new.core (taken_by old.core) (without_fetch io.block (is_fetching old.core))
          (there_given ok io old.core) → PreservesTaken old.core new.core t
      is_preserved t preserved_reads true leaves = by_fetched old.core new.core t preserved_reads io.block io.content
          (ap (λ (c : CoreState). c.out) has.only) leaves
      is_preserved t preserved_reads false leaves = by_failed old.core new.core t preserved_reads io.block
          (ap (λ (c : CoreState). c.out) has.only) leaves

  waits : (place : Seq) (made : Step) → Waits place old made new → LeavesOthers old new
  waits place made has = by has.settled old.core.log.broken has.is_reply_sent
    where
      of_state : (state : State) → state.begun ≡ old.worker.begun → new.worker ≡ state → LeavesOthers old new
      of_state state same is = same_core has.core (ap (λ (s : State). s.begun.tx) is ∙ ap (λ (b : Begun). b.tx) same)
          (ap (λ (s : State). s.begun.io) is ∙ ap (λ (b : Begun). b.io) same)

      heard : (base : State) → base.begun ≡ old.worker.begun → (found : Option Reply)
          → IsSomeAnd found (λ reply. new.worker ≡ with_answer (verdict.Reply reply) (Some place) base)
          → LeavesOthers old new
      heard base same None is = absurd is
      heard base same (Some reply) is = of_state _ same is

      by : (settled broken : Bool) → IsReplySent settled broken place old.worker new.worker → LeavesOthers old new
      by true broken is = heard (without_reply old.worker) refl old.worker.work.reply is
      by false true is = heard (without_broken_reply old.worker) refl old.worker.work.broken_reply is
      by false false is = of_state old.worker refl is

  cases : Cases old new LeftSo
  cases = record {
    idle = λ is no_tx no_io. same_core (ap (λ (s : WorkerAndCore). s.core) is) (ap (λ (s : WorkerAndCore). s.worker.begun.tx) is)
        (ap (λ (s : WorkerAndCore). s.worker.begun.io) is);
    reading = λ is no_tx no_io. same_core (ap (λ (s : WorkerAndCore). s.core) is) (ap (λ (s : WorkerAndCore). s.worker.begun.tx) is)
        (ap (λ (s : WorkerAndCore). s.worker.begun.io) is);
    begun = λ job number job_is rules has no_tx no_io. begins job number has (no_tx refl) (no_io refl);
    not_begun = λ job why job_is rules none core worker no_tx no_io.
        unbegun_by (λ (c : CoreState). new.core ≡ c → LeavesOthers old new) why old.core
        (λ same. same_core same (ap (λ (s : State). s.begun.tx) worker) (ap (λ (s : State). s.begun.io) worker))
        (λ one. refused_core one (ap (λ (s : State). s.begun.tx) worker) (ap (λ (s : State). s.begun.io) worker)) core;
    replied = λ job job_is rules core worker no_tx no_io. same_core core
        (ap (λ (s : State). s.begun.tx) worker) (ap (λ (s : State). s.begun.io) worker);
    wanted = λ tx addr mode made tx_is next has no_tx no_io. wants tx addr mode has.answer tx_is (no_io refl) has.core
        (ap (λ (s : State). s.begun) has.worker);
    claimed = λ tx block made tx_is next has no_tx no_io. takes tx has.core.0 has.answer tx_is (no_io refl)
        has.core.2 (ap (λ (s : State). s.begun) has.worker);
    committed = λ job tx done made tx_is next none job_is has no_tx no_io. commits job tx done
        (record (with_snap new.worker old.worker) { begun = none_begun }) has.answer tx_is (no_io refl) refl has.core
        has.worker;
    lacked = λ tx made tx_is none has no_tx no_io. aborts tx tx_is (no_io refl)
        (ap (λ (s : State). s.begun.tx) has.worker) (ap (λ (s : State). s.begun.io) has.worker)
        (ap (λ (c : CoreState). c.out) has.core.only) (ap (λ (c : CoreState). c.begun) has.core.only) has.core.leaves;
    given = λ ok io made io_is has no_tx no_io. gives ok io made io_is has;
    refused = λ why job tx made job_is tx_is has no_tx no_io. aborts tx tx_is (no_io refl)
        (ap (λ (s : State). s.begun.tx) has.worker) (ap (λ (s : State). s.begun.io) has.worker)
        (ap (λ (c : CoreState). c.out) has.core.only) (ap (λ (c : CoreState). c.begun) has.core.only) has.core.leaves;
    left = λ tx made tx_is has no_tx no_io. aborts tx tx_is (no_io refl)
        (ap (λ (s : State). s.begun.tx) has.worker) (ap (λ (s : State). s.begun.io) has.worker)
        (ap (λ (c : CoreState). c.out) has.core.only) (ap (λ (c : CoreState). c.begun) has.core.only) has.core.leaves;
    waited = λ place made has no_tx no_io. waits place made has;
  }

  none_of : {A : Type 0} (found : Option A) (is : Bool) → is_some found ≡ is
      → is ≡ false → found ≡ None
  none_of None is same off = refl
  none_of (Some one) is same off = absurd (true≢false (same ∙ off))

  pub leaves_others : (made : Option Step) → is_some old.worker.begun.tx
      ≡ has_transaction old.worker.phase
      → is_some old.worker.begun.io ≡ has_fetch old.worker.phase
      → GoesOn old.worker.phase old made new → LeavesOthers old new
  leaves_others made tx io goes = by_cases old new LeftSo cases old.worker.phase made goes
      (none_of old.worker.begun.tx (has_transaction old.worker.phase) tx)
      (none_of old.worker.begun.io (has_fetch old.worker.phase) io)

-- ---- a worker that changes by itself

-- it has the same transaction, and fetches the same block
pub leaves_core : (old new : State) (core : CoreState) → IfSome old.begun.tx (IsOut core)
    → IsFetchedBy core old.begun.io → new.begun.tx ≡ old.begun.tx
    → ((block : BlockNo) → IsFetchAt block new.begun.io → IsFetchAt block old.begun.io)
    → ((block : BlockNo) → IsFetchAt block old.begun.io → IsFetchAt block new.begun.io)
    → IsFetchedBy core new.begun.io → LeavesOthers (worker_and_core old core) (worker_and_core new core)
leaves_core old new core own_out own_io tx_is to_old to_new fetched =
    let others : (tx : ℕ) → (old.begun.tx ≡ Some tx → ⊥) → PreservesTaken core core tx =
    λ tx differs. preserves_same core core tx refl in
    let txs = tx_left (worker_and_core old core) (worker_and_core new core) others own_out own_io (stays_out tx_is refl refl) in record {
      others = others;
      out = txs.out;
      begun = txs.begun;
      number = txs.number;
      pending = λ block is. elim (at_or_not (worker_and_core old core) (worker_and_core new core) others own_out own_io block old.begun.io) [
        | inl at ↦ inl (to_new block at)
        | inr not_at ↦ inr (is, not_at)
      ];
      fetched = fetched;
      fresh = λ block at. inl (to_old block at);
      stays = λ block is not_at. is;
    }

-- what is told of a worker changes nothing of what it leaves
pub reported_leaves : (old : WorkerAndCore) (state : State) (core : CoreState) → LeavesOthers old (worker_and_core state core)
    → LeavesOthers old (worker_and_core (reported state) core)
reported_leaves old state core left = record {
  others = left.others;
  out = left.out;
  begun = left.begun;
  number = left.number;
  pending = left.pending;
  fetched = left.fetched;
  fresh = left.fresh;
  stays = left.stays;
}
