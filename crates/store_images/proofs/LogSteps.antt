-- Each step of the log's side keeps a run going.
use Rattle.std.proofs.Common.{◌≡◌, ◌∙◌, ap, sym, refl, subst, ℕ, Bool, true, false, not, Option, Some, None}
use Rattle.std.proofs.Common.{List, All}
use Rattle.std.proofs.Common.{Result, Ok, Err, is_ok, is_err, is_some, ◌||◌}
use Rattle.disk.specs.Crash.{Image}
use Rattle.disk.specs.Device.{Content, Device}
use Rattle.disk.specs.declared.block.BlockNo.{BlockNo}
use Rattle.nfs_spec.specs.Model.Entry.{Entry}
use Rattle.nfs_spec.specs.Model.Tree.{Tree}
use Rattle.disk.specs.declared.device.Failed.{Failed}
use Rattle.circ.specs.Log.Calls.{Pending, idle, out, was_made}
use Rattle.circ.specs.Log.Io.{Io}
use Rattle.txn_law.specs.Core.{CoreState}
use Rattle.txn_law.specs.CoreWindow.{IsPending, PreservesReads}
use Rattle.txn_law.specs.Fetch.{Fetch}
use Rattle.txn_law.specs.Leaves.{Leaves, in_memory, is_fetching, taken_by}
use Rattle.txn_law.specs.Records.{is_read_by_uninstalled}
use Rattle.store_images.proofs.HeldTaken.{held_taken}
use Rattle.objects.specs.declared.addr.Addr.{Addr}
use Rattle.store_promise.specs.declared.events.Step.{Step}
use Rattle.store_promise.specs.LogState.{LogState}
use Rattle.store_promise.specs.OpenSince.{IsOpenSince}
use Rattle.store_promise.specs.Running.{IsFetchOver, IsLogStep, IsMovedBy, PreservesPlaces, PreservesTransactions}
use Rattle.store_promise.specs.Running.{StoreState}
use Rattle.store_promise.specs.Running.{home_next, side}
use Rattle.store_promise.specs.Schedule.{Setting}
use Rattle.store_promise.proofs.OpenSteps.{HasSameChanges, same_changes}
use Rattle.store_promise.proofs.Places.{same_places, stay_placed}
use Rattle.store_images.proofs.LogMoves.{LogCallState, Tells}
use Rattle.store_images.specs.LogCallState.{pending_of}

abbrev pub log_call_state_of : StoreState → LogCallState
log_call_state_of s = record { device = s.device; log = s.core.log; logging = s.logging; installing = s.installing }

-- a step leaves the store open, with the entries that there were
abbrev pub StaysOpen : StoreState → Option Step → StoreState → Type 0
StaysOpen old made new = (base : Image) (boot : ℕ) (first last : Tree) (entries : List Entry)
    → IsOpenSince base old.device old.core old.logging old.installing boot first entries last
    → IsOpenSince (home_next base old.core.log made) new.device new.core new.logging new.installing boot first
    entries last

-- and what was read stays what is at home
abbrev pub PreservesFetches : StoreState → Option Step → StoreState → Type 0
PreservesFetches old made new = (base : Image) (boot : ℕ) (first last : Tree) (entries : List Entry)
    (fetches : List Fetch)
    → IsOpenSince base old.device old.core old.logging old.installing boot first entries last
    → All (IsFetchOver base old.core) fetches
    → All (IsFetchOver (home_next base old.core.log made) new.core) fetches

-- and each place keeps its blocks
abbrev pub StaysPlaced : StoreState → Option Step → StoreState → Type 0
StaysPlaced old made new = (base : Image) (boot : ℕ) (first last : Tree) (entries : List Entry)
    → IsOpenSince base old.device old.core old.logging old.installing boot first entries last
    → PreservesPlaces base old.core (home_next base old.core.log made) new.core

pub goes_on : (May : Setting → LogState → Option Step → Type 0) (old new : StoreState) (made : Option Step)
    → IsMovedBy old.device made new.device → PreservesTransactions old.core new.core
    → Tells May (log_call_state_of old) made (log_call_state_of new) → StaysOpen old made new → PreservesFetches old made new
    → StaysPlaced old made new → IsLogStep May old made new
goes_on May old new made moved is_preserved tells opened fetched placed = record {
  device = moved;
  core = is_preserved;
  runs = λ o base fetches boot first last entries run.
      let step_facts = tells o base (record {
        agrees = run.since.over.agrees;
        stands = run.stands;
        behind = record { position = run.position; blocks = run.blocks };
      }) in record {
        may = step_facts.0;
        log_follows = step_facts.1;
        running = record {
          since = opened base boot first last entries run.since;
          position = step_facts.2.behind.position;
          blocks = step_facts.2.behind.blocks;
          stands = step_facts.2.stands;
          inodes = run.inodes ∙ sym is_preserved.inodes;
          newest = run.newest;
          fetched = fetched base boot first last entries fetches run.since run.fetched;
          placed = stay_placed o base (home_next base old.core.log made) old.core new.core
              (placed base boot first last entries run.since) run.placed;
        };
      };
}

-- ---- what transactions have

pub same_transactions : (core : CoreState) → PreservesTransactions core core
same_transactions core = record {
  inodes = refl;
  begun = refl;
  refused = refl;
  out = refl;
  taken = λ tx addr. refl;
  fetches = λ block. refl;
  reads = λ tx object is. is;
  loaded = λ tx addr content some there. there;
}

pub only_log : (old new : CoreState) (log_calls inst_calls : ℕ)
    → new ≡ record old { log = new.log; log_calls = log_calls; inst_calls = inst_calls }
    → ((tx : ℕ) → PreservesReads old new tx) → PreservesTransactions old new
only_log old new log_calls inst_calls is stays = record {
  inodes = ap (λ (c : CoreState). c.inodes) is;
  begun = ap (λ (c : CoreState). c.begun) is;
  refused = ap (λ (c : CoreState). c.refused) is;
  out = ap (λ (c : CoreState). c.out) is;
  taken = λ tx addr. ap (λ (c : CoreState). taken_by c tx addr) is;
  fetches = λ block. ap (λ (c : CoreState). is_fetching c block) is;
  reads = stays;
  loaded = λ tx addr content some there. ap (λ (c : CoreState). in_memory c addr.block) is ∙ there;
}

-- what is taken stays in memory, where only what nobody needs goes
pub still_loaded : (old new : CoreState)
    → Leaves new (taken_by old) (is_fetching old) (in_memory old) → (tx : ℕ)
    (addr : Addr) (content : Content) → is_some (taken_by old tx addr) ≡ true
    → in_memory old addr.block ≡ Some content → in_memory new addr.block ≡ Some content
still_loaded old new leaves tx addr content some there = leaves.stays addr.block content there
    (ap (λ (t : Bool). t || is_read_by_uninstalled new.records addr.block)
    (held_taken new.holds tx addr addr.block refl (ap is_some (leaves.holds tx addr) ∙ some)))

pub fewer : (old new : CoreState) → PreservesTransactions old new → (block : BlockNo) → IsPending new block
    → IsPending old block
fewer old new is_preserved block pending = sym (is_preserved.fetches block) ∙ pending

-- ---- what the places have

pub same_core_places : (base : Image) (core : CoreState) → PreservesPlaces base core base core
same_core_places base core = same_places base core core
    (record { log = same_changes core.log core.log refl; inodes = refl; records = refl; boot = refl })

-- a step that changes nothing of the log but what it has out keeps the places
pub log_places : (base : Image) (old new : CoreState) (log_calls inst_calls : ℕ)
    → new ≡ record old { log = new.log; log_calls = log_calls; inst_calls = inst_calls }
    → HasSameChanges old.log new.log → PreservesPlaces base old base new
log_places base old new log_calls inst_calls is log = same_places base old new (record {
  log = log;
  inodes = ap (λ (c : CoreState). c.inodes) is;
  records = ap (λ (c : CoreState). c.records) is;
  boot = ap (λ (c : CoreState). c.boot) is;
})

-- ---- no step

pub no_step : (May : Setting → LogState → Option Step → Type 0) (s : StoreState)
    → IsMovedBy s.device None s.device → Tells May (log_call_state_of s) None (log_call_state_of s) → IsLogStep May s None s
no_step May s moved tells = goes_on May s s None moved (same_transactions s.core) tells
    (λ base boot first last entries since. since) (λ base boot first last entries fetches since all. all)
    (λ base boot first last entries since. same_core_places base s.core)

-- ---- as the code has them

pub none_out : (io : Option Io) (made : Option Bool) → io ≡ None → pending_of io made ≡ idle
none_out io made none = ap (λ i. pending_of i made) none

pub some_out : (io : Option Io) (made : Option Bool) (call : Io) → io ≡ Some call → made ≡ None
    → pending_of io made ≡ out call
some_out io made call some unmade = ap (λ i. pending_of i made) some ∙ ap (λ m. pending_of (Some call) m) unmade

pub some_made : (io : Option Io) (made : Option Bool) (call : Io) (ok : Bool) → io ≡ Some call → made ≡ Some ok
    → pending_of io made ≡ pending_of (Some call) (Some ok)
some_made io made call ok some was = ap (λ i. pending_of i made) some ∙ ap (λ m. pending_of (Some call) m) was

module _ (May : Setting → LogState → Option Step → Type 0) (made : Option Step) (d e : Device)
    (core new : CoreState) (other_pending : Pending) where
  pub of_logger : (before after was is : Pending) → was ≡ before → is ≡ after
      → IsLogStep May (side d core before other_pending) made (side e new after other_pending)
      → IsLogStep May (side d core was other_pending) made (side e new is other_pending)
  of_logger before after was is was_is is_is steps =
      subst (λ p. IsLogStep May (side d core p other_pending) made (side e new is other_pending)) (sym was_is)
      (subst (λ p. IsLogStep May (side d core before other_pending) made (side e new p other_pending)) (sym is_is) steps)

  pub of_installer : (before after was is : Pending) → was ≡ before → is ≡ after
      → IsLogStep May (side d core other_pending before) made (side e new other_pending after)
      → IsLogStep May (side d core other_pending was) made (side e new other_pending is)
  of_installer before after was is was_is is_is steps =
      subst (λ p. IsLogStep May (side d core other_pending p) made (side e new other_pending is)) (sym was_is)
      (subst (λ p. IsLogStep May (side d core other_pending before) made (side e new other_pending p)) (sym is_is) steps)

-- what the device answered, by whether it was Ok
pub answered : (io : Io) (ok : Bool)
    → (answer : Result Unit Failed) × (pending_of (Some io) (Some ok) ≡ was_made io answer)
    × (is_ok answer ≡ ok)
answered io true = (Ok tt, refl, refl)
answered io false = (Err (record {}), refl, refl)

-- a call failed just where it wasn't answered Ok
pub failed_is : (answer : Result Unit Failed) (ok : Bool) → ok ≡ is_ok answer → not ok ≡ is_err answer
failed_is (Ok done) ok is = ap not is
failed_is (Err failed) ok is = ap not is
