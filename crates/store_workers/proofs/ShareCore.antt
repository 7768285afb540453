-- Workers that share a core do so after a step of one of them.
use Rattle.std.proofs.Common.{◌≡◌, ◌∙◌, ◌+◌, ◌≤◌, ◌<◌, refl, sym, ap, subst, true≢false, ℕ, ◌⊎◌, inl, inr}
use Rattle.std.proofs.Common.{true, nat_eq, Option, Some, None, List, slice_get, arith}
use Rattle.std.specs.List.{list_any}
use Rattle.std.proofs.lemmas.Bool.{cases_eq, eqb-true}
use Rattle.std.proofs.lemmas.List.Elements.{All-contains}
use Rattle.disk.specs.declared.block.BlockNo.{BlockNo}
use Rattle.txn_law.proofs.Claims.{all_four, found_by}
use Rattle.txn_law.specs.Core.{CoreState, IsOut}
use Rattle.txn_law.specs.Fetch.{Fetch}
use Rattle.txn_law.specs.Holds.{is_hold_of}
use Rattle.txn_law.specs.Leaves.{is_fetching}
use Rattle.txn_law.specs.WellFormed.{IsWellFormed, IsOfOne}
use Rattle.store_workers.specs.Unaffected.{IsFetchAt, IsFetchedBy, IsOneOf, LeavesOthers, NoneTakenBeyond}
use Rattle.store_workers.specs.Unaffected.{Replaces, ShareCore}
use Rattle.store_workers.specs.WorkerSteps.{WorkerAndCore}
use Rattle.store_workers.specs.declared.workers.parts.State.{State}

some_same : {X : Type 0} (x y : X) → Some x ≡ Some y → x ≡ y
some_same x y same = cc

module _ (old new : WorkerAndCore) (workers later : List State) (me : ℕ) (are : ShareCore old.core workers)
    (left : LeavesOthers old new) (list : Replaces workers me old.worker new.worker later) where
  -- a worker of the list then is this one, or another, which it was
  by_whom : (other : ℕ) (worker : State) → IsOneOf later other worker
      → ((other ≡ me) × (worker ≡ new.worker)) ⊎ ((other ≡ me → ⊥) × IsOneOf workers other worker)
  by_whom other worker is = elim (cases_eq other me) [
    | inl same ↦ inl (
      same,
      sym (some_same new.worker worker
          (sym list.now ∙ ap (λ (n : ℕ). slice_get later n) (sym same) ∙ is)),
    )
    | inr differs ↦ inr (differs, sym (list.others other differs) ∙ is)
  ]

  -- this one is it, where it is in its place
  is_me : (worker : State) (number : ℕ) → number ≡ me → IsOneOf workers number worker → worker ≡ old.worker
  is_me worker number same is = some_same worker old.worker
      (sym is ∙ ap (λ (n : ℕ). slice_get workers n) same ∙ list.was)

  -- the transaction of another isn't this one's
  not_mine : (other tx : ℕ) (worker : State) → (other ≡ me → ⊥) → IsOneOf workers other worker
      → worker.begun.tx ≡ Some tx → old.worker.begun.tx ≡ Some tx → ⊥
  not_mine other tx worker differs is theirs own =
      differs (are.one_owner other me tx worker old.worker is list.was theirs own)

  not_at : (other : ℕ) (block : BlockNo) (worker : State) → (other ≡ me → ⊥) → IsOneOf workers other worker
      → IsFetchAt block worker.begun.io → IsFetchAt block old.worker.begun.io → ⊥
  not_at other block worker differs is theirs own =
      differs (are.once other me block worker old.worker is list.was theirs own)

  -- what it has then isn't another's
  own_tx : (other tx : ℕ) (worker : State) → (other ≡ me → ⊥) → IsOneOf workers other worker
      → worker.begun.tx ≡ Some tx → new.worker.begun.tx ≡ Some tx → ⊥
  own_tx other tx worker differs is theirs own = elim (left.number tx own) [
    | inl was ↦ not_mine other tx worker differs is theirs was
    | inr fresh ↦ let low = are.begun other tx worker is theirs in let above = fresh.0 in omega (arith, low, above)
  ]

  fetch_of : (block : BlockNo) (io : Option Fetch) → IsFetchAt block io → IsFetchedBy old.core io
      → is_fetching old.core block ≡ true
  fetch_of block None at is = absurd at
  fetch_of block (Some io) at is = ap (λ (b : BlockNo). is_fetching old.core b) (sym at) ∙ is

  own_io : (other : ℕ) (block : BlockNo) (worker : State) → (other ≡ me → ⊥) → IsOneOf workers other worker
      → IsFetchAt block worker.begun.io → IsFetchAt block new.worker.begun.io → ⊥
  own_io other block worker differs is theirs own = elim (left.fresh block own) [
    | inl was ↦ not_at other block worker differs is theirs was
    | inr none ↦ true≢false (sym (fetch_of block worker.begun.io theirs (are.fetched other worker is)) ∙ none)
  ]

  out_then : (tx : ℕ) → IsOut new.core tx
      → (number : ℕ) × (worker : State) × IsOneOf later number worker × (worker.begun.tx ≡ Some tx)
  out_then tx is = elim (left.out tx is) [
    | inl own ↦ (me, new.worker, list.now, own)
    | inr was ↦ from (are.out tx was.0) was.1
  ]
    where
      from : ((number : ℕ) × (worker : State) × IsOneOf workers number worker × (worker.begun.tx ≡ Some tx))
          → (old.worker.begun.tx ≡ Some tx → ⊥)
          → (number : ℕ) × (worker : State) × IsOneOf later number worker × (worker.begun.tx ≡ Some tx)
      from (number, worker, is, has) not_own = elim (cases_eq number me) [
        | inl same ↦ absurd (not_own (ap (λ (s : State). s.begun.tx) (sym (is_me worker number same is)) ∙ has))
        | inr differs ↦ (number, worker, list.others number differs ∙ is, has)
      ]

  pending_then : (block : BlockNo) → is_fetching new.core block ≡ true
      → (number : ℕ) × (worker : State) × IsOneOf later number worker × IsFetchAt block worker.begun.io
  pending_then block is = elim (left.pending block is) [
    | inl own ↦ (me, new.worker, list.now, own)
    | inr was ↦ from (are.pending block was.0) was.1
  ]
    where
      from : ((number : ℕ) × (worker : State) × IsOneOf workers number worker
          × IsFetchAt block worker.begun.io) → (IsFetchAt block old.worker.begun.io → ⊥)
          → (number : ℕ) × (worker : State) × IsOneOf later number worker × IsFetchAt block worker.begun.io
      from (number, worker, is, has) not_own = elim (cases_eq number me) [
        | inl same ↦ absurd (not_own (subst (λ (s : State). IsFetchAt block s.begun.io)
            (is_me worker number same is) has))
        | inr differs ↦ (number, worker, list.others number differs ∙ is, has)
      ]

  fetched_then : (number : ℕ) (worker : State) → IsOneOf later number worker
      → IsFetchedBy new.core worker.begun.io
  fetched_then number worker is = elim (by_whom number worker is) [
    | inl mine ↦ subst (λ (s : State). IsFetchedBy new.core s.begun.io) (sym mine.1) left.fetched
    | inr other ↦ still worker.begun.io (are.fetched number worker other.1) (λ block at own.
        not_at number block worker other.0 other.1 at own)
  ]
    where
      still : (io : Option Fetch) → IsFetchedBy old.core io
          → ((block : BlockNo) → IsFetchAt block io → IsFetchAt block old.worker.begun.io → ⊥)
          → IsFetchedBy new.core io
      still None is apart = tt
      still (Some io) is apart = left.stays io.block is (λ own. apart io.block refl own)

  one_owner_then : (one other tx : ℕ) (a b : State) → IsOneOf later one a → IsOneOf later other b
      → a.begun.tx ≡ Some tx → b.begun.tx ≡ Some tx → one ≡ other
  one_owner_then one other tx a b a_is b_is a_tx b_tx = elim (by_whom one a a_is) [
    | inl mine ↦ elim (by_whom other b b_is) [
      | inl also ↦ mine.0 ∙ sym also.0
      | inr there ↦ absurd (own_tx other tx b there.0 there.1 b_tx
          (ap (λ (s : State). s.begun.tx) (sym mine.1) ∙ a_tx))
    ]
    | inr here ↦ elim (by_whom other b b_is) [
      | inl mine ↦ absurd (own_tx one tx a here.0 here.1 a_tx
          (ap (λ (s : State). s.begun.tx) (sym mine.1) ∙ b_tx))
      | inr there ↦ are.one_owner one other tx a b here.1 there.1 a_tx b_tx
    ]
  ]

  once_then : (one other : ℕ) (block : BlockNo) (a b : State) → IsOneOf later one a → IsOneOf later other b
      → IsFetchAt block a.begun.io → IsFetchAt block b.begun.io → one ≡ other
  once_then one other block a b a_is b_is a_at b_at = elim (by_whom one a a_is) [
    | inl mine ↦ elim (by_whom other b b_is) [
      | inl also ↦ mine.0 ∙ sym also.0
      | inr there ↦ absurd (own_io other block b there.0 there.1 b_at
          (subst (λ (s : State). IsFetchAt block s.begun.io) mine.1 a_at))
    ]
    | inr here ↦ elim (by_whom other b b_is) [
      | inl mine ↦ absurd (own_io one block a here.0 here.1 a_at
          (subst (λ (s : State). IsFetchAt block s.begun.io) mine.1 b_at))
      | inr there ↦ are.once one other block a b here.1 there.1 a_at b_at
    ]
  ]

  begun_then : (number tx : ℕ) (worker : State) → IsOneOf later number worker → worker.begun.tx ≡ Some tx
      → tx ≤ new.core.begun
  begun_then number tx worker is has = elim (by_whom number worker is) [
    | inl mine ↦ own (left.number tx (ap (λ (s : State). s.begun.tx) (sym mine.1) ∙ has))
    | inr other ↦ let low = are.begun number tx worker other.1 has in let more = left.begun in
        omega (arith, low, more)
  ]
    where
      own : (old.worker.begun.tx ≡ Some tx) ⊎ ((old.core.begun < tx) × (tx ≤ new.core.begun))
          → tx ≤ new.core.begun
      own (inl was) = let low = are.begun me tx old.worker list.was was in let more = left.begun in
          omega (arith, low, more)
      own (inr fresh) = fresh.1

  pub share_still : ShareCore new.core later
  share_still = record {
    out = out_then;
    one_owner = one_owner_then;
    begun = begun_then;
    pending = pending_then;
    fetched = fetched_then;
    once = once_then;
  }

-- nothing is taken in a transaction that isn't begun yet
pub none_beyond : (core : CoreState) (workers : List State) → IsWellFormed core → ShareCore core workers
    → NoneTakenBeyond core
none_beyond core workers well_formed are addr hold taken =
    let found = found_by (is_hold_of (core.begun + 1) addr) core.holds hold taken in
    let four = all_four (nat_eq hold.transaction (core.begun + 1)) (nat_eq hold.addr.block.0 addr.block.0)
    (nat_eq hold.addr.offset addr.offset) (nat_eq hold.addr.len addr.len) found.0 in
    let same = eqb-true hold.transaction (core.begun + 1) four.0 in
    let (number, worker, is, has) = are.out hold.transaction
    (All-contains (IsOfOne core) core.holds hold well_formed.owned found.1).0 in
    let low = are.begun number hold.transaction worker is has in omega (arith, same, low)

-- so they do where nothing of what is out and pending has changed
pub share_by : (old new : CoreState) (workers : List State) → new.out ≡ old.out → new.begun ≡ old.begun
    → ((block : BlockNo) → is_fetching new block ≡ is_fetching old block) → ShareCore old workers
    → ShareCore new workers
share_by old new workers out begun fetches are = record {
  out = λ tx is. are.out tx (ap (λ (ts : List ℕ). list_any (λ other. nat_eq other tx) ts) (sym out) ∙ is);
  one_owner = are.one_owner;
  begun = λ number tx worker is has. let low = are.begun number tx worker is has in omega (arith, low, begun);
  pending = λ block is. are.pending block (sym (fetches block) ∙ is);
  fetched = λ number worker is. still worker.begun.io (are.fetched number worker is);
  once = are.once;
}
  where
    still : (io : Option Fetch) → IsFetchedBy old io → IsFetchedBy new io
    still None is = tt
    still (Some io) is = fetches io.block ∙ is
