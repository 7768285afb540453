-- A worker that is alone in its store is never kept off.
use Rattle.std.proofs.Common.{◌≡◌, ◌∙◌, refl, sym, ap, subst, true≢false, ℕ, inl, inr, Bool, true, false}
use Rattle.std.proofs.Common.{◌&&◌, ◌||◌, nat_eq, Option, Some, None, is_some, List, [], ◌∷◌, All}
use Rattle.std.specs.Prelude.{Contains, IsSomeAnd, option_to_list}
use Rattle.std.proofs.lemmas.Bool.{eqb-true}
use Rattle.std.proofs.lemmas.List.Elements.{All-contains, All-head, All-tail}
use Rattle.disk.specs.declared.block.BlockNo.{BlockNo}
use Rattle.objects.specs.declared.addr.Addr.{Addr}
use Rattle.objects.specs.declared.mode.Mode.{Mode}
use Rattle.objects.specs.declared.mode.Mode.TheVariants as modes
use Rattle.inode.proofs.AllTests.{all_three, same_number}
use Rattle.procs.proofs.FewClaimed.{claimed_object}
use Rattle.procs.specs.Asks.{Asks, Claims, IsWritable}
use Rattle.procs.specs.Finished.{EndsFrom}
use Rattle.procs.specs.Outcome.{Outcome}
use Rattle.procs.specs.Planned.{IsPlanFor}
use Rattle.inode.specs.Snap.{is_among, is_claimed, is_seen, same_addr}
use Rattle.inode.proofs.HadExclusive.{one_addr}
use Rattle.procs.specs.declared.next.Plan.{Plan}
use Rattle.procs.specs.declared.next.Plan.TheVariants as plan
use Rattle.inode.specs.declared.snap.Snap.{Snap}
use Rattle.txn.specs.Claimed.{IsClaimedBy, IsOwnObject}
use Rattle.txn.specs.Commit.{IsOwn, IsReadBy}
use Rattle.txn.specs.Core.{CoreState, IsOut}
use Rattle.txn.specs.Fetch.{Fetch}
use Rattle.txn.specs.Leaves.{is_fetching}
use Rattle.txn.specs.Object.{ObjectBytes}
use Rattle.txn.specs.Outcomes.{IsClaimed, IsCommit, IsWanted}
use Rattle.txn.specs.WellFormed.{IsWellFormed}
use Rattle.txn.specs.LockAnswers.{IsWhole}
use Rattle.txn.specs.declared.outcomes.Claim.{Claim}
use Rattle.txn.specs.declared.outcomes.Claim.TheVariants as claim
use Rattle.txn.specs.declared.outcomes.Commit.{Commit}
use Rattle.txn.specs.declared.outcomes.Commit.TheVariants as commit
use Rattle.txn.specs.declared.outcomes.Want.{Want}
use Rattle.txn.specs.declared.outcomes.Want.TheVariants as want
use Rattle.txn.proofs.LoneTransaction.{never_busy, never_loading}
use Rattle.txn.proofs.OwnChange.{is_own}
use Rattle.txn_law.specs.declared.hold.Hold.{Hold}
use Rattle.txn_law.proofs.Single.{single_is_out}
use Rattle.txn_law.proofs.Again as again
use Rattle.objects.proofs.Residents.{same_block}
use Rattle.txn_law.proofs.Swept.{in_first, in_more}
use Rattle.txn.specs.Group.{blocks_of}
use Rattle.store_promise.specs.declared.events.Step.{Step}
use Rattle.store_promise.specs.declared.events.Step.TheVariants as step
use Rattle.layout.proofs.OnGrid.{one_or_apart}
use Rattle.store_workers.proofs.StepKinds.{Beginning, beginning, ending}
use Rattle.store_workers.proofs.StepKinds.{begun, refused, replied, lacked, committed}
use Rattle.store_workers.specs.Single.{HasExclusive, HasOfCall, HasTaken, IsSingleOut, LeavesNothing, HasTakenInPlan, is_deferred}
use Rattle.store_images.specs.Fetches.{FetchesOnly}
use Rattle.store_workers.specs.Phases.{has_fetch}
use Rattle.store_workers.specs.Seen.{Seen, seen_in, seen_of}
use Rattle.store_workers.specs.WorkerAnswers.{claim_answer, committing_of, want_answer}
use Rattle.store_workers.specs.WorkerSteps.{GoesByNext, GoesOn, HasGivenBack, HasLeft, HasRefused}
use Rattle.store_workers.specs.WorkerSteps.{IsNext, WorkerAndCore, TakesAgain}
use Rattle.store_workers.specs.WorkerSteps.{planned_of}
use Rattle.store_workers.specs.declared.workers.parts.Job.{Job}
use Rattle.store_workers.specs.declared.workers.parts.Phase.{Phase}
use Rattle.store_workers.specs.declared.workers.parts.Phase.TheVariants.{Idle, Called, Planning}
use Rattle.store_workers.specs.declared.workers.parts.Phase.TheVariants.{Reading, Read}
use Rattle.store_workers.specs.declared.workers.parts.Phase.TheVariants.{Refused, Again, Waiting}
use Rattle.store_workers.specs.declared.workers.parts.State.{State}

-- ---- what was read

-- an address that was seen is one of an object that was read
seen_there : (addr : Addr) (objects : List ObjectBytes) → is_seen addr objects ≡ true
    → (before : ObjectBytes) × Contains objects before × (before.addr ≡ addr)
seen_there addr [] none = absurd (true≢false (sym none))
seen_there addr (x ∷ xs) some = go (seen_there addr xs) (same_addr addr x.addr) refl some
  where
    go : (is_seen addr xs ≡ true → (before : ObjectBytes) × Contains xs before
        × (before.addr ≡ addr)) → (t : Bool)
        → same_addr addr x.addr ≡ t → (t || is_seen addr xs) ≡ true
        → (before : ObjectBytes) × Contains (x ∷ xs) before × (before.addr ≡ addr)
    go rest true same some =
        let all = all_three (nat_eq addr.block.0 x.addr.block.0) (nat_eq addr.offset x.addr.offset)
        (nat_eq addr.len x.addr.len) same in (
          x,
          in_first x x xs refl,
          sym (again.same_addr addr x.addr (same_number addr.block.0 x.addr.block.0 all.0)
              (same_number addr.offset x.addr.offset all.1) (same_number addr.len x.addr.len all.2)),
        )
    go rest false same some =
        let found = rest some in (found.0, in_more x found.0 xs found.1, found.2)

both_true : (a b : Bool) → (a && b) ≡ true → (a ≡ true) × (b ≡ true)
both_true true true is = (refl, refl)
both_true true false is = absurd (true≢false (sym is))
both_true false b is = absurd (true≢false (sym is))

some_hold : (a b : Hold) → ◌≡◌ {A = Option Hold} (Some a) (Some b) → a ≡ b
some_hold a b same = ap (λ (o : Option Hold). elim o [ None ↦ a | Some one ↦ one ]) same

-- what is so of all that was asked for alone is so of an address that is among it
pub among_so : (P : Addr → Type 0) (addr : Addr) (addrs : List Addr) → All P addrs → is_among addr addrs ≡ true
    → P addr
among_so P addr [] all none = absurd (true≢false (sym none))
among_so P addr (a ∷ later) all some = by (among_so P addr later (All-tail P a later all)) (same_addr addr a) refl some
  where
    by : (is_among addr later ≡ true → P addr) → (t : Bool) → same_addr addr a ≡ t
        → (t || is_among addr later) ≡ true → P addr
    by rest true same some = subst P (sym (one_addr addr a same)) (All-head P a later all)
    by rest false other some = rest some

-- what is so of all that was claimed is so of a block that is among it
claimed_so : (P : BlockNo → Type 0) (block : BlockNo) (claims : List BlockNo) → All P claims
    → is_claimed block claims ≡ true → P block
claimed_so P block [] all none = absurd (true≢false (sym none))
claimed_so P block (c ∷ cs) all some =
    by (claimed_so P block cs (All-tail P c cs all)) (nat_eq block.0 c.0) refl some
  where
    by : (is_claimed block cs ≡ true → P block) → (t : Bool) → nat_eq block.0 c.0 ≡ t
        → (t || is_claimed block cs) ≡ true → P block
    by rest true same some =
        subst P (sym (same_block block c (eqb-true block.0 c.0 same))) (All-head P c cs all)
    by rest false other some = rest some

-- what a worker has of its call, by its job, its transaction and what was read
pub has_of : (worker : State) (core : CoreState) (job : Job) (tx : ℕ) (seen : Seen) → worker.work.job ≡ Some job
    → worker.begun.tx ≡ Some tx → seen_in worker.work.planner ≡ Some seen → HasTaken worker core
    → HasOfCall tx core seen
has_of worker core job tx seen job_is tx_is seen_is has =
    subst (λ (o : Option Seen). IsSomeAnd o (λ s. HasOfCall tx core s)) seen_is
    (subst (λ (o : Option ℕ). IsSomeAnd o (λ t. IsSomeAnd (seen_in worker.work.planner)
    (λ s. HasOfCall t core s)))
    tx_is (subst (λ (o : Option Job). IsSomeAnd o (λ j. IsSomeAnd worker.begun.tx (λ t.
    IsSomeAnd (seen_in worker.work.planner) (λ s. HasOfCall t core s)))) job_is has))

pub has_so : (worker : State) (core : CoreState) (job : Job) (tx : ℕ) (seen : Seen) → worker.work.job ≡ Some job
    → worker.begun.tx ≡ Some tx → seen_in worker.work.planner ≡ Some seen → HasOfCall tx core seen
    → HasTaken worker core
has_so worker core job tx seen job_is tx_is seen_is has =
    subst (λ (o : Option Job). IsSomeAnd o (λ j. IsSomeAnd worker.begun.tx (λ t.
    IsSomeAnd (seen_in worker.work.planner) (λ s. HasOfCall t core s)))) (sym job_is)
    (subst (λ (o : Option ℕ). IsSomeAnd o (λ t. IsSomeAnd (seen_in worker.work.planner)
    (λ s. HasOfCall t core s)))
    (sym tx_is) (subst (λ (o : Option Seen). IsSomeAnd o (λ s. HasOfCall tx core s)) (sym seen_is) has))

-- ---- a change

-- The change that a plan ends in is its transaction's own, where no block that it writes is fetched.
module _ (core : CoreState) (tx : ℕ) (snap : Snap) (well_formed : IsWellFormed core) (out : IsOut core tx)
    (has : HasOfCall tx core (seen_of snap)) (done : Outcome) (ends : EndsFrom snap done) where
  pub was_read : All (IsReadBy core tx) done.read
  was_read = subst (λ (os : List ObjectBytes). All (IsReadBy core tx) os) (sym ends.named.read) has.read

  pub was_had : (object : ObjectBytes) → IsWritable snap object → IsOwnObject core tx done.read object
  was_had object (inl had) =
      let both = both_true (is_seen object.addr snap.objects.items) (is_among object.addr snap.exclusives.items) had in
      let found = seen_there object.addr snap.objects.items both.0 in
      let hold_exclusive = among_so (HasExclusive core tx) object.addr snap.exclusives.items has.exclusives both.1 in inl (
        (
          found.0,
          subst (λ (os : List ObjectBytes). Contains os found.0) (sym ends.named.read) found.1,
          found.2,
        ),
        λ hold taken.
            let same : hold_exclusive.0 ≡ hold = some_hold hold_exclusive.0 hold (sym hold_exclusive.1 ∙ taken) in
            ap (λ (h : Hold). h.mode) (sym same) ∙ hold_exclusive.2,
      )
  was_had object (inr claimed) = inr (
    claimed_so (IsClaimedBy core tx) object.addr.block snap.claims.items has.claimed claimed.0,
    claimed.1,
  )

  pub had : (object : ObjectBytes) → Contains done.written object → IsOwnObject core tx done.read object
  had object there = was_had object (All-contains (IsWritable snap) done.written object ends.writable there)

  pub own_change : ((object : ObjectBytes) → Contains done.written object
      → is_fetching core object.addr.block ≡ false) → IsOwn core tx (planned_of done)
  own_change settled = is_own core tx well_formed out (planned_of done) (ends.named.blocks ∙ has.blocks)
      (ends.named.inodes ∙ has.inodes) was_read had settled

-- ---- a plan

module _ (core : CoreState) (tx : ℕ) (snap : Snap) (well_formed : IsWellFormed core) (out : core.out ≡ tx ∷ [])
    (has : HasOfCall tx core (seen_of snap)) (none : FetchesOnly None core) where
  wanted_well : (new : CoreState) (addr : Addr) (mode : Mode) → Asks snap.geometry addr
      → (answer : Want)
      → IsWanted core tx addr mode answer new
      → is_deferred (Some (step.Wanted addr mode (want_answer answer))) ≡ false
  wanted_well new addr mode asks (want.Held back bytes) is = refl
  wanted_well new addr mode asks (want.Fetch back io) is = refl
  wanted_well new addr mode asks (want.Outside back) is = refl
  wanted_well new addr mode asks (want.NoMemory back error) is = refl
  wanted_well new addr mode asks (want.Busy back) is =
      absurd (never_busy core tx well_formed out addr mode (λ other hold taken over.
      one_or_apart snap.geometry other addr (has.asked other hold taken) asks over) is.1)
  wanted_well new addr mode asks (want.Loading back) is =
      absurd (never_loading core tx addr mode (none addr.block) is.1)

  claimed_well : (new : CoreState) (block : BlockNo) (addr : Addr) → Claims snap.geometry block
      → IsWhole block addr → (answer : Claim) → IsClaimed core tx addr answer new
      → is_deferred (Some (step.Claimed block (claim_answer answer))) ≡ false
  claimed_well new block addr claims whole (claim.Held back) is = refl
  claimed_well new block addr claims whole (claim.Outside back) is = refl
  claimed_well new block addr claims whole (claim.NoMemory back error) is = refl
  claimed_well new block addr claims whole (claim.Busy back) is =
      absurd (never_busy core tx well_formed out addr modes.Exclusive (λ other hold taken over.
      one_or_apart snap.geometry other addr (has.asked other hold taken)
      (claimed_object snap.geometry block addr claims whole) over) is.1)
  claimed_well new block addr claims whole (claim.Loading back) is =
      absurd (never_loading core tx addr modes.Exclusive (none addr.block) is.1)

  module _ (done : Outcome) (ends : EndsFrom snap done) where
    own : IsOwn core tx (planned_of done)
    own = own_change core tx snap well_formed (single_is_out core tx out) has done ends
        (λ object there. none object.addr.block)

    committed_well : (new : CoreState) (added : List BlockNo) (answer : Commit Outcome)
        → IsCommit core tx (planned_of done) done answer new
        → is_deferred (Some (step.Commit added (committing_of answer))) ≡ false
    committed_well new added (commit.Committed receipt) is = refl
    committed_well new added (commit.Full back same) is = refl
    committed_well new added (commit.NoMemory back same error) is = refl
    committed_well new added (commit.Broken back same) is = refl
    committed_well new added (commit.Spent back same) is = refl
    committed_well new added (commit.Foreign back same) is = absurd (is.2 own)

-- ---- any step

pub no_fetch : (io : Option Fetch) (core : CoreState) → is_some io ≡ false → FetchesOnly io core
    → FetchesOnly None core
no_fetch None core none only = only
no_fetch (Some io) core some only = absurd (true≢false some)

module _ (old new : WorkerAndCore) (well_formed : IsWellFormed old.core) (single_out : IsSingleOut old.worker old.core)
    (fetches : FetchesOnly old.worker.begun.io old.core) where
  by_plan : (tx : ℕ) (made : Step) (next : Plan) → old.worker.begun.tx ≡ Some tx → IsNext old.worker next
      → HasTaken old.worker old.core → FetchesOnly None old.core → GoesByNext next tx old made new
      → is_deferred (Some made) ≡ false
  by_plan tx made next tx_is is taken none goes = of_next next is.plan goes
    where
      has : HasOfCall tx old.core (seen_of is.snap)
      has = has_of old.worker old.core is.job tx (seen_of is.snap) is.job_is tx_is is.snap_is taken

      out : old.core.out ≡ tx ∷ []
      out = single_out ∙ ap (λ (o : Option ℕ). option_to_list o) tx_is

      of_next : (next : Plan) → IsPlanFor is.snap next → GoesByNext next tx old made new
          → is_deferred (Some made) ≡ false
      of_next (plan.Need addr mode) planned goes = ap (λ m. is_deferred (Some m)) goes.made_is
          ∙ wanted_well old.core tx is.snap well_formed out has none new.core addr mode planned.1
          goes.answer goes.core
      of_next (plan.Claim block) planned goes = ap (λ m. is_deferred (Some m)) goes.made_is
          ∙ claimed_well old.core tx is.snap well_formed out has none new.core block goes.core.0 planned.1
          goes.core.1 goes.answer goes.core.2
      of_next (plan.Done done) planned goes = elim (ending old new tx done made goes) [
        | lacked has_lacked ↦ ap (λ m. is_deferred (Some m)) has_lacked.made_is
        | committed job job_is has_committed ↦ ap (λ m. is_deferred (Some m)) has_committed.made_is
            ∙ committed_well old.core tx is.snap well_formed out has none done planned.0 new.core
            (blocks_of done.written) has_committed.answer has_committed.core
      ]
      of_next (plan.NoMemory error) planned goes = ap (λ m. is_deferred (Some m)) goes.made_is

  called_well : (made : Step) → Beginning old made new → is_deferred (Some made) ≡ false
  called_well made (begun job number is made_is has) = ap (λ m. is_deferred (Some m)) made_is
  called_well made (refused why made_is proven) = ap (λ m. is_deferred (Some m)) made_is
  called_well made (replied made_is proven) = ap (λ m. is_deferred (Some m)) made_is

  given_well : (ok : Bool) (made : Step) (io : Option Fetch)
      → IsSomeAnd io (λ io. HasGivenBack ok io old made new)
      → is_deferred (Some made) ≡ false
  given_well ok made None has = absurd has
  given_well true made (Some io) has = ap (λ m. is_deferred (Some m)) has.made_is
  given_well false made (Some io) has = ap (λ m. is_deferred (Some m)) has.made_is

  refused_well : (why : _) (made : Step) (job : Option Job) (tx : Option ℕ)
      → IsSomeAnd job (λ job. IsSomeAnd tx (λ tx. HasRefused why job tx old made new))
      → is_deferred (Some made) ≡ false
  refused_well why made None tx has = absurd has
  refused_well why made (Some job) None has = absurd has
  refused_well why made (Some job) (Some tx) has = ap (λ m. is_deferred (Some m)) has.made_is

  left_well : (made : Step) (tx : Option ℕ) → IsSomeAnd tx (λ tx. HasLeft tx old made new)
      → is_deferred (Some made) ≡ false
  left_well made None has = absurd has
  left_well made (Some tx) has = ap (λ m. is_deferred (Some m)) has.made_is

  -- nothing is left to be taken again
  none_again : {A : Type 0} (made : Step) → old.worker.known.left ≡ [] → TakesAgain old made new → A
  none_again made none has = let never : has.next ∷ has.later ≡ [] = sym has.left ∙ none in cc

  pub never_deferred : (phase : Phase) (made : Option Step) → is_some old.worker.begun.io ≡ has_fetch phase
      → HasTakenInPlan phase old.worker old.core → LeavesNothing phase old.worker.known → GoesOn phase old made new
      → is_deferred made ≡ false
  never_deferred Idle made fetch plans left has = ap is_deferred has.0
  never_deferred Reading made fetch plans left has = ap is_deferred has.0
  never_deferred Called (Some made) fetch plans left has = called_well made (beginning old new made has)
  never_deferred Planning (Some made) fetch plans left (inl has) =
      by_plan has.tx made has.next has.tx_is has.next_is plans
      (no_fetch old.worker.begun.io old.core fetch fetches) has.goes
  never_deferred Planning (Some made) fetch plans left (inr has) = none_again made left has
  never_deferred (Read ok) (Some made) fetch plans left has = given_well ok made old.worker.begun.io has
  never_deferred (Refused why) (Some made) fetch plans left has =
      refused_well why made old.worker.work.job old.worker.begun.tx has
  never_deferred Again (Some made) fetch plans left has = left_well made old.worker.begun.tx has
  never_deferred (Waiting place) (Some made) fetch plans left has = ap (λ m. is_deferred (Some m)) has.made_is
  never_deferred Called None fetch plans left has = absurd has
  never_deferred Planning None fetch plans left has = absurd has
  never_deferred (Read ok) None fetch plans left has = absurd has
  never_deferred (Refused why) None fetch plans left has = absurd has
  never_deferred Again None fetch plans left has = absurd has
  never_deferred (Waiting place) None fetch plans left has = absurd has
