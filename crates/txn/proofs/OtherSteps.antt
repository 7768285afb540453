-- Lemmas: each step of the core keeps what the transactions have that it isn't of.
use Rattle.std.proofs.Common.{◌≡◌, ◌∙◌, ◌+◌, refl, sym, ap, subst, ℕ, Bool, true, false}
use Rattle.std.proofs.Common.{if◌then◌else◌, nat_eq, ne_eqb, Option, Some, None, List}
use Rattle.std.specs.List.{list_any}
use Rattle.std.proofs.lemmas.Bool.{eqb-true, or_right}
use Rattle.disk.specs.Device.{Content}
use Rattle.disk.specs.declared.block.BlockNo.{BlockNo}
use Rattle.objects.specs.declared.addr.Addr.{Addr}
use Rattle.objects.specs.declared.mode.Mode.{Mode}
use Rattle.circ.specs.Log.Log.{newest}
use Rattle.circ.specs.Log.Overlay.{content_or}
use Rattle.txn_law.specs.Commit.{Planned, refreshed_content}
use Rattle.txn_law.specs.Core.{CoreState, IsOut, with_begun, with_refused, without}
use Rattle.txn_law.specs.CoreWindow.{PreservesReads}
use Rattle.txn_law.specs.Fetch.{Fetch}
use Rattle.txn_law.specs.Holds.{for_fetching, for_reading, for_writing, is_hold_of, joined}
use Rattle.txn_law.specs.Leaves.{Leaves, but_by, in_memory, is_fetching, taken_by, with_content, with_fetch}
use Rattle.txn_law.specs.Leaves.{with_taken, without_fetch}
use Rattle.txn_law.specs.Others.{PreservesTaken}
use Rattle.txn_law.specs.LockAnswers.{IsFetched, IsHeld, IsTaken, TakesOnly}
use Rattle.txn_law.specs.declared.hold.Hold.{Hold}
use Rattle.txn_law.proofs.Claims.{all_four}
use Rattle.txn_law.proofs.HeldReads.{reads_refused}
use Rattle.txn_law.proofs.Others.{preserves_by}
use Rattle.txn_law.proofs.StaysWellFormed.{out_still}
use Rattle.txn.specs.Outcomes.{IsClaimed, IsCommit, IsWanted, TakesPlace}
use Rattle.txn.specs.declared.outcomes.Claim.{Claim}
use Rattle.txn.specs.declared.outcomes.Claim.TheVariants as claim
use Rattle.txn.specs.declared.outcomes.Commit.{Commit}
use Rattle.txn.specs.declared.outcomes.Commit.TheVariants as commit
use Rattle.txn.specs.declared.outcomes.Want.{Want}
use Rattle.txn.specs.declared.outcomes.Want.TheVariants as want

-- nothing changes
pub preserves_same : (old new : CoreState) (t : ℕ) → new ≡ old → PreservesTaken old new t
preserves_same old new t same = subst (λ (core : CoreState). PreservesTaken old core t) (sym same) (record {
  out = λ is. is;
  taken = λ addr. refl;
  reads = λ object is. is;
  loaded = λ addr content some here. (content, here);
})

-- nothing changes but how often memory was refused
pub preserves_refused : (old new : CoreState) (t : ℕ) → new ≡ with_refused old → PreservesTaken old new t
preserves_refused old new t refused =
    subst (λ (core : CoreState). PreservesTaken old core t) (sym refused) (record {
      out = λ is. is;
      taken = λ addr. refl;
      reads = reads_refused old t;
      loaded = λ addr content some here. (content, here);
    })

-- ---- what the others have taken

module _ (old : CoreState) (tx t : ℕ) (differ : t ≡ tx → ⊥) where
  -- it isn't changed by what is taken,
  unaffected_by_hold : (hold : Hold) → hold.transaction ≡ tx → (addr : Addr)
      → with_taken hold (taken_by old) t addr ≡ taken_by old t addr
  unaffected_by_hold hold mine addr = by (is_hold_of t addr hold) refl
    where
      by : (own : Bool) → is_hold_of t addr hold ≡ own
          → (if own then Some (joined (taken_by old t addr) hold) else taken_by old t addr) ≡ taken_by old t addr
      by false is = refl
      by true is =
          let four = all_four (nat_eq hold.transaction t) (nat_eq hold.addr.block.0 addr.block.0)
          (nat_eq hold.addr.offset addr.offset) (nat_eq hold.addr.len addr.len) is in
          absurd (differ (sym (eqb-true hold.transaction t four.0) ∙ mine))

  -- nor by what is let go
  unaffected_by_end : (addr : Addr) → but_by tx (taken_by old) t addr ≡ taken_by old t addr
  unaffected_by_end addr = ap (λ (b : Bool). if b then None else taken_by old t addr) (ne_eqb t tx differ)

  -- and the transaction is still out
  still_out : IsOut old t → IsOut (record old { out = without tx old.out }) t
  still_out is = out_still old.out tx t (ne_eqb t tx differ) is

-- ---- what is in memory

stays_there : (old : CoreState) (block : BlockNo) (content : Content) → in_memory old block ≡ Some content
    → (now : Content) × (in_memory old block ≡ Some now)
stays_there old block content here = (content, here)

stays_with : (old : CoreState) (more : BlockNo) (extra : Content) (block : BlockNo) (content : Content)
    → in_memory old block ≡ Some content
    → (now : Content) × (with_content more extra (in_memory old) block ≡ Some now)
stays_with old more extra block content here = by (nat_eq block.0 more.0)
  where
    by : (t : Bool) → (now : Content) × ((if t then Some extra else in_memory old block) ≡ Some now)
    by true = (extra, refl)
    by false = (content, here)

refreshed_there : (found : Option Content) (logged : Option Content) (content : Content)
    → found ≡ Some content → (now : Content) × (refreshed_content found logged ≡ Some now)
refreshed_there None logged content is = absurd (let no : None ≡ Some content = is in cc)
refreshed_there (Some c) logged content is = (content_or logged c, refl)

-- ---- each step

module _ (old new : CoreState) (tx t : ℕ) (differ : t ≡ tx → ⊥) (reads : PreservesReads old new t) where
  out_by : TakesOnly old new → IsOut old t → IsOut new t
  out_by only is = subst (λ (core : CoreState). IsOut core t) (sym only) is

  pub by_held : (addr : Addr) (mode : Mode) (bytes : List ℕ) → IsHeld old tx addr mode bytes new
      → PreservesTaken old new t
  by_held addr mode bytes held =
      preserves_by old new t (with_taken (for_reading tx addr mode) (taken_by old)) (is_fetching old)
      (with_content addr.block held.content (in_memory old)) held.leaves
      (unaffected_by_hold old tx t differ (for_reading tx addr mode) refl)
      (stays_with old addr.block held.content) (out_by held.only) reads

  pub by_fetch : (addr : Addr) (mode : Mode) (io : Fetch) → IsFetched old tx addr mode io new
      → PreservesTaken old new t
  by_fetch addr mode io is =
      preserves_by old new t (with_taken (for_fetching tx addr mode) (taken_by old))
      (with_fetch addr.block (is_fetching old)) (in_memory old) is.leaves
      (unaffected_by_hold old tx t differ (for_fetching tx addr mode) refl) (stays_there old) (out_by is.only) reads

  pub by_claim : (addr : Addr) → IsTaken old tx addr new → PreservesTaken old new t
  by_claim addr is =
      preserves_by old new t (with_taken (for_writing tx addr) (taken_by old)) (is_fetching old) (in_memory old)
      is.leaves (unaffected_by_hold old tx t differ (for_writing tx addr) refl) (stays_there old) (out_by is.only) reads

  pub by_want : (addr : Addr) (mode : Mode) (answer : Want) → IsWanted old tx addr mode answer new
      → PreservesTaken old new t
  by_want addr mode (want.Held back bytes) is = by_held addr mode bytes is.2
  by_want addr mode (want.Fetch back io) is = by_fetch addr mode io is.2
  by_want addr mode (want.Busy back) is = preserves_same old new t is.2
  by_want addr mode (want.Loading back) is = preserves_same old new t is.2
  by_want addr mode (want.Outside back) is = preserves_same old new t is.2
  by_want addr mode (want.NoMemory back error) is = preserves_refused old new t is.2

  pub by_claimed : (addr : Addr) (answer : Claim) → IsClaimed old tx addr answer new → PreservesTaken old new t
  by_claimed addr (claim.Held back) is = by_claim addr is.2
  by_claimed addr (claim.Busy back) is = preserves_same old new t is.2
  by_claimed addr (claim.Loading back) is = preserves_same old new t is.2
  by_claimed addr (claim.Outside back) is = preserves_same old new t is.2
  by_claimed addr (claim.NoMemory back error) is = preserves_refused old new t is.2

  pub by_end : new.out ≡ without tx old.out
      → Leaves new (but_by tx (taken_by old)) (is_fetching old) (in_memory old) → PreservesTaken old new t
  by_end out leaves =
      preserves_by old new t (but_by tx (taken_by old)) (is_fetching old) (in_memory old) leaves
      (unaffected_by_end old tx t differ) (stays_there old)
      (λ is. ap (λ (out : List ℕ). list_any (λ other. nat_eq other t) out) out ∙ still_out old tx t differ is)
      reads

  pub by_place : (plan : Planned) (place : ℕ) → TakesPlace old tx plan place new → PreservesTaken old new t
  by_place plan place took =
      preserves_by old new t (but_by tx (taken_by old)) (is_fetching old)
      (λ block. refreshed_content (in_memory old block) (newest new.log block.0)) took.leaves
      (unaffected_by_end old tx t differ)
      (λ block content here. refreshed_there (in_memory old block) (newest new.log block.0) content here)
      (λ is. ap (λ (core : CoreState). list_any (λ other. nat_eq other t) core.out) took.only
      ∙ still_out old tx t differ is) reads

  pub by_commit : (C : Type 0) (plan : Planned) (change : C) (answer : Commit C)
      → IsCommit old tx plan change answer new → PreservesTaken old new t
  by_commit C plan change (commit.Committed receipt) is = by_place plan receipt.place.0 is
  by_commit C plan change (commit.Full back same) is = preserves_same old new t is.0.core
  by_commit C plan change (commit.Foreign back same) is = preserves_same old new t is.0.core
  by_commit C plan change (commit.NoMemory back same error) is = preserves_refused old new t is.0.core
  by_commit C plan change (commit.Broken back same) is = preserves_same old new t is.0.core
  by_commit C plan change (commit.Spent back same) is = preserves_same old new t is.0.core

-- a transaction is begun, and a fetch is given back, by whomever
module _ (old new : CoreState) (t : ℕ) (reads : PreservesReads old new t) where
  pub by_begin : new ≡ with_begun old → PreservesTaken old new t
  by_begin is = record {
    out = λ out. ap (λ (core : CoreState). list_any (λ other. nat_eq other t) core.out) is
        ∙ or_right (nat_eq (old.begun + 1) t) (list_any (λ other. nat_eq other t) old.out) out;
    taken = λ addr. ap (λ (core : CoreState). taken_by core t addr) is;
    reads = reads;
    loaded = λ addr content some here.
        (content, ap (λ (core : CoreState). in_memory core addr.block) is ∙ here);
  }

  pub by_fetched : (block : BlockNo) (content : Content) → new.out ≡ old.out
      → Leaves new (taken_by old) (without_fetch block (is_fetching old))
      (if is_fetching old block then with_content block content (in_memory old) else in_memory old)
      → PreservesTaken old new t
  by_fetched block content out leaves =
      preserves_by old new t (taken_by old) (without_fetch block (is_fetching old))
      (if is_fetching old block then with_content block content (in_memory old) else in_memory old) leaves
      (λ addr. refl) (λ at c here. by (is_fetching old block) at c here)
      (λ is. ap (λ (out : List ℕ). list_any (λ other. nat_eq other t) out) out ∙ is) reads
    where
      by : (b : Bool) (at : BlockNo) (c : Content) → in_memory old at ≡ Some c
          → (now : Content)
          × ((if b then with_content block content (in_memory old) else in_memory old) at ≡ Some now)
      by true at c here = stays_with old block content at c here
      by false at c here = (c, here)

  pub by_failed : (block : BlockNo) → new.out ≡ old.out
      → Leaves new (taken_by old) (without_fetch block (is_fetching old)) (in_memory old) → PreservesTaken old new t
  by_failed block out leaves =
      preserves_by old new t (taken_by old) (without_fetch block (is_fetching old)) (in_memory old) leaves
      (λ addr. refl) (stays_there old)
      (λ is. ap (λ (out : List ℕ). list_any (λ other. nat_eq other t) out) out ∙ is) reads
