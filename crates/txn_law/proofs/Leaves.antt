-- Lemmas: what each step of the core leaves.
use Rattle.std.proofs.Common.{◌≡◌, ℕ, Bool, true, false, ◌||◌, if◌then◌else◌, nat_eq, List, Option, Some, None}
use Rattle.std.proofs.Common.{is_none, refl, sym, ap, subst, ◌∙◌}
use Rattle.std.proofs.lemmas.Bool.{eqb-true, eq-eqb}
use Rattle.disk.specs.Device.{Content}
use Rattle.disk.specs.declared.block.BlockNo.{BlockNo}
use Rattle.objects.specs.declared.addr.Addr.{Addr}
use Rattle.objects.specs.declared.mode.Mode.{Mode}
use Rattle.objects.specs.declared.mode.Mode.TheVariants as modes
use Rattle.circ.specs.Log.Log.{Log, newest, or_else, installed_place}
use Rattle.txn_law.specs.Commit.{Planned, with_record, refreshed_content, refreshed, committed}
use Rattle.txn_law.specs.Core.{CoreState, with_refused, ended, past, installed}
use Rattle.txn_law.specs.Fetch.{Fetch}
use Rattle.txn_law.specs.Fetched.{fetched, fetch_failed}
use Rattle.objects.specs.Present.{filled}
use Rattle.txn_law.specs.Holds.{for_reading, for_fetching, for_writing, is_hold_of, hold_of, joined, with_hold}
use Rattle.txn_law.specs.Holds.{is_read, is_written, released}
use Rattle.txn_law.specs.Leaves.{Leaves, taken_by, is_fetching, in_memory, but_by}
use Rattle.txn_law.specs.Leaves.{without_fetch, with_content}
use Rattle.txn_law.specs.Lists.{claimed, IsHeldExactly, IsFetchedExactly}
use Rattle.objects.specs.Present.{with_block}
use Rattle.objects.specs.Present.{present_of, content_in, is_pending}
use Rattle.txn_law.specs.WellFormed.{IsWellFormed}
use Rattle.objects.specs.Present.{IsOnce}
use Rattle.txn_law.specs.LockAnswers.{IsOpen, IsHeld, IsFetched, IsTaken}
use Rattle.txn_law.specs.declared.hold.Hold.{Hold}
use Rattle.objects.specs.declared.present.Present.{Present}
use Rattle.txn_law.proofs.Residents.{once_refreshed}
use Rattle.objects.proofs.Residents.{same_block, once_filled}
use Rattle.txn_law.proofs.Memory.{swept_fetches, swept_comes, swept_stays, other_block, own_block, new_block}
use Rattle.txn_law.proofs.Memory.{filled_memory, filled_fetches, failed_memory, failed_fetches}
use Rattle.txn_law.proofs.Memory.{refreshed_memory, refreshed_fetches}
use Rattle.txn_law.proofs.TakenBy.{is_hold_by, taken_with, taken_released}

pub leaves_refused : (core : CoreState) (taken : ℕ → Addr → Option Hold) (fetching : BlockNo → Bool)
    (there : BlockNo → Option Content) → Leaves core taken fetching there
    → Leaves (with_refused core) taken fetching there
leaves_refused core taken fetching there leaves = record {
  holds = leaves.holds;
  fetches = leaves.fetches;
  comes = leaves.comes;
  stays = leaves.stays;
}

pub leaves_end : (spare : Present → Bool) (old : CoreState) (tx : ℕ) → IsWellFormed old
    → Leaves (ended spare old tx) (but_by tx (taken_by old)) (is_fetching old) (in_memory old)
leaves_end spare old tx well_formed = record {
  holds = taken_released old.holds tx;
  fetches = λ block. swept_fetches spare (released old.holds tx) old.records old.present block well_formed.once;
  comes = λ block. swept_comes spare (released old.holds tx) old.records old.present block well_formed.once;
  stays = swept_stays spare (released old.holds tx) old.records old.present;
}

pub leaves_installed : (spare : Present → Bool) (old : CoreState) (log : Log) → IsWellFormed old
    → Leaves (installed spare old log) (taken_by old) (is_fetching old) (in_memory old)
leaves_installed spare old log well_formed = record {
  holds = λ t a. refl;
  fetches = λ block. swept_fetches spare old.holds (past (installed_place log) old.records) old.present
      block well_formed.once;
  comes = λ block. swept_comes spare old.holds (past (installed_place log) old.records) old.present block well_formed.once;
  stays = swept_stays spare old.holds (past (installed_place log) old.records) old.present;
}

pub leaves_fetched : (spare : Present → Bool) (old : CoreState) (block : BlockNo) (content : Content) → IsWellFormed old
    → Leaves (fetched spare old block content) (taken_by old) (without_fetch block (is_fetching old))
    (if is_fetching old block then with_content block content (in_memory old) else in_memory old)
leaves_fetched spare old block content well_formed = record {
  holds = λ t a. refl;
  fetches = λ at. swept_fetches spare old.holds old.records (filled old.present block content) at once
      ∙ filled_fetches old.present block content at;
  comes = λ at c e. there at (is_fetching old block)
      (sym (filled_memory old.present block content at)
      ∙ swept_comes spare old.holds old.records (filled old.present block content) at once c e);
  stays = λ at c e. swept_stays spare old.holds old.records (filled old.present block content) at c
      (filled_memory old.present block content at ∙ from at (is_fetching old block) e);
}
  where
    once : IsOnce (filled old.present block content)
    once = once_filled block content old.present well_formed.once

    there : (at : BlockNo) (t : Bool) {o : Option Content}
        → (if t then (if nat_eq at.0 block.0 then Some content else in_memory old at) else in_memory old at) ≡ o
        → (if t then with_content block content (in_memory old) else in_memory old) at ≡ o
    there at true e = e
    there at false e = e

    from : (at : BlockNo) (t : Bool) {o : Option Content}
        → (if t then with_content block content (in_memory old) else in_memory old) at ≡ o
        → (if t then (if nat_eq at.0 block.0 then Some content else in_memory old at) else in_memory old at) ≡ o
    from at true e = e
    from at false e = e

pub leaves_failed : (old : CoreState) (block : BlockNo) → IsWellFormed old
    → Leaves (fetch_failed old block) (taken_by old) (without_fetch block (is_fetching old)) (in_memory old)
leaves_failed old block well_formed = record {
  holds = λ t a. refl;
  fetches = λ at. failed_fetches old.present block at well_formed.once;
  comes = λ at c e. sym (failed_memory old.present block at well_formed.once) ∙ e;
  stays = λ at c e needed. failed_memory old.present block at well_formed.once ∙ e;
}

pub leaves_commit : (spare : Present → Bool) (old : CoreState) (tx : ℕ) (plan : Planned) (log : Log) → IsWellFormed old
    → Leaves (committed spare old tx plan log) (but_by tx (taken_by old)) (is_fetching old)
    (λ block. refreshed_content (in_memory old block) (newest log block.0))
leaves_commit spare old tx plan log well_formed = record {
  holds = taken_released old.holds tx;
  fetches = λ at. swept_fetches spare (released old.holds tx) (with_record log log.places plan old.records)
      (refreshed log old.present) at once ∙ refreshed_fetches log old.present at;
  comes = λ at c e. sym (refreshed_memory log old.present at)
      ∙ swept_comes spare (released old.holds tx) (with_record log log.places plan old.records)
      (refreshed log old.present) at once c e;
  stays = λ at c e. swept_stays spare (released old.holds tx) (with_record log log.places plan old.records)
      (refreshed log old.present) at c (refreshed_memory log old.present at ∙ e);
}
  where
    once : IsOnce (refreshed log old.present)
    once = once_refreshed log old.present well_formed.once

-- A hold is of its own transaction and address.
own_hold : (hold : Hold) → is_hold_of hold.transaction hold.addr hold ≡ true
own_hold hold = is_hold_by hold.transaction hold.addr hold refl refl refl refl

taken_own : (holds : List Hold) (hold : Hold)
    → hold_of (with_hold holds hold) hold.transaction hold.addr
    ≡ Some (joined (hold_of holds hold.transaction hold.addr) hold)
taken_own holds hold = taken_with holds hold hold.transaction hold.addr
    ∙ ap (λ (b : Bool). if b then Some (joined (hold_of holds hold.transaction hold.addr) hold)
    else hold_of holds hold.transaction hold.addr) (own_hold hold)

reads_new : (had : Option Hold) (hold : Hold) → hold.is_read ≡ true → is_read (Some (joined had hold)) ≡ true
reads_new None hold e = e
reads_new (Some x) hold e = go x.is_read
  where
    go : (t : Bool) → (t || hold.is_read) ≡ true
    go true = refl
    go false = e

writes_new : (had : Option Hold) (tx : ℕ) (addr : Addr) → is_written (Some (joined had (for_writing tx
    addr))) ≡ true
writes_new None tx addr = refl
writes_new (Some x) tx addr = go x.is_read x.is_claimed
  where
    go : (t u : Bool) → ((t || false) || (u || true)) ≡ true
    go true u = refl
    go false true = refl
    go false false = refl

pub leaves_claim : (old new : CoreState) (tx : ℕ) (addr : Addr) → IsOpen old tx addr modes.Exclusive
    → new ≡ claimed old tx addr
    → IsTaken old tx addr new
leaves_claim old new tx addr open' is =
    subst (λ (core : CoreState). IsTaken old tx addr core) (sym is) (record {
      only = refl;
      leaves = record {
        holds = taken_with old.holds (for_writing tx addr);
        fetches = λ block. refl;
        comes = λ block c e. e;
        stays = λ block c e needed. e;
      };
      written = record {
        held = ap is_written (taken_own old.holds (for_writing tx addr))
            ∙ writes_new (hold_of old.holds tx addr) tx addr;
        loaded = open'.settled;
      };
    })

-- Where no fetch of a block is pending, bringing its current content puts that in memory, and no other.
module _ (old : CoreState) (block : BlockNo) (content : Content)
    (loaded : is_fetching old block ≡ false)
    (current_is : or_else (in_memory old block) (newest old.log block.0) ≡ Some content) where
  pub brought_fetches : (at : BlockNo)
      → is_pending (present_of (with_block old.present block (Some content)) at) ≡ is_fetching old at
  brought_fetches at = go (nat_eq at.0 block.0) refl
    where
      own : (o : Option Present) → present_of old.present block ≡ o
          → is_pending (present_of (with_block old.present block (Some content)) block) ≡ is_pending o
      own (Some x) e = ap is_pending (own_block old.present block (Some content) block x e)
      own None e = ap is_pending (new_block old.present block (Some content) block e)

      go : (t : Bool) → nat_eq at.0 block.0 ≡ t
          → is_pending (present_of (with_block old.present block (Some content)) at) ≡ is_fetching old at
      go true same = subst (λ (b : BlockNo). is_pending
          (present_of (with_block old.present block (Some content)) b)
          ≡ is_fetching old b) (sym (same_block at block (eqb-true at.0 block.0 same)))
          (own (present_of old.present block) refl)
      go false other = ap is_pending (other_block old.present block (Some content) at other)

  pub brought_memory : (at : BlockNo) → content_in (present_of (with_block old.present block (Some content)) at)
      ≡ with_content block content (in_memory old) at
  brought_memory at = go (nat_eq at.0 block.0) refl
    where
      has : (x : Present) (c : Option Content) → present_of old.present block ≡ Some x → x.content ≡ c
          → x.content ≡ Some content
      has x None e is =
          absurd (let not_so : is_fetching old block ≡ true = ap is_pending e ∙ ap is_none is in cc)
      has x (Some d) e is = is
          ∙ sym (ap (λ (o : Option Content). or_else o (newest old.log block.0))
          (ap content_in e ∙ is)) ∙ current_is

      own : (o : Option Present) → present_of old.present block ≡ o
          → content_in (present_of (with_block old.present block (Some content)) block) ≡ Some content
      own (Some x) e = ap content_in (own_block old.present block (Some content) block x e)
          ∙ has x x.content e refl
      own None e = ap content_in (new_block old.present block (Some content) block e)

      go : (t : Bool) → nat_eq at.0 block.0 ≡ t
          → content_in (present_of (with_block old.present block (Some content)) at)
          ≡ (if t then Some content else in_memory old at)
      go true same = ap (λ (b : BlockNo). content_in
          (present_of (with_block old.present block (Some content)) b))
          (same_block at block (eqb-true at.0 block.0 same)) ∙ own (present_of old.present block) refl
      go false other = ap content_in (other_block old.present block (Some content) at other)

pub leaves_held : (old new : CoreState) (tx : ℕ) (addr : Addr) (mode : Mode) (bytes : List ℕ)
    → IsOpen old tx addr mode
    → IsHeldExactly old tx addr mode bytes new → IsHeld old tx addr mode bytes new
leaves_held old new tx addr mode bytes open' held = subst (λ (core : CoreState). IsHeld old tx addr mode
    bytes core) (sym held.core)
    (record {
      content = held.content;
      current = held.current;
      bytes_there = held.bytes_there;
      only = refl;
      leaves = record {
        holds = taken_with old.holds (for_reading tx addr mode);
        fetches = brought_fetches old addr.block held.content open'.settled held.current;
        comes = λ at c e. sym (brought_memory old addr.block held.content open'.settled held.current at) ∙ e;
        stays = λ at c e needed. brought_memory old addr.block held.content open'.settled held.current at ∙ e;
      };
      read = record {
        held = ap is_read (taken_own old.holds (for_reading tx addr mode))
            ∙ reads_new (hold_of old.holds tx addr) (for_reading tx addr mode) refl;
        current = record {
          content = held.content;
          there = brought_memory old addr.block held.content open'.settled held.current addr.block
              ∙ ap (λ (b : Bool). if b then Some held.content else in_memory old addr.block)
              (eq-eqb addr.block.0 addr.block.0 refl);
          same = sym held.bytes_there;
        };
      };
    })

pub leaves_fetch : (old new : CoreState) (tx : ℕ) (addr : Addr) (mode : Mode) (io : Fetch)
    → IsFetchedExactly old tx addr mode io new → IsFetched old tx addr mode io new
leaves_fetch old new tx addr mode io fetch = subst (λ (core : CoreState). IsFetched old tx addr mode io core)
    (sym fetch.core)
    (record {
      block = fetch.block;
      absent = ap content_in fetch.absent;
      unlogged = fetch.unlogged;
      only = refl;
      leaves = record {
        holds = taken_with old.holds (for_fetching tx addr mode);
        fetches = fetches;
        comes = λ at c e. sym (memory at) ∙ e;
        stays = λ at c e needed. memory at ∙ e;
      };
    })
  where
    new_one : present_of (with_block old.present addr.block None) addr.block
        ≡ Some (record { block = addr.block; content = None })
    new_one = new_block old.present addr.block None addr.block fetch.absent

    fetches : (at : BlockNo) → is_pending (present_of (with_block old.present addr.block None) at)
        ≡ (nat_eq at.0 addr.block.0 || is_fetching old at)
    fetches at = go (nat_eq at.0 addr.block.0) refl
      where
        go : (t : Bool) → nat_eq at.0 addr.block.0 ≡ t
            → is_pending (present_of (with_block old.present addr.block None) at) ≡ (t || is_fetching old at)
        go true same = ap (λ (b : BlockNo). is_pending (present_of (with_block old.present addr.block None) b))
            (same_block at addr.block (eqb-true at.0 addr.block.0 same)) ∙ ap is_pending new_one
        go false other = ap is_pending (other_block old.present addr.block None at other)

    memory : (at : BlockNo) → content_in (present_of (with_block old.present addr.block None) at)
        ≡ in_memory old at
    memory at = go (nat_eq at.0 addr.block.0) refl
      where
        go : (t : Bool) → nat_eq at.0 addr.block.0 ≡ t
            → content_in (present_of (with_block old.present addr.block None) at) ≡ in_memory old at
        go true same = subst (λ (b : BlockNo). content_in
            (present_of (with_block old.present addr.block None) b)
            ≡ in_memory old b) (sym (same_block at addr.block (eqb-true at.0 addr.block.0 same)))
            (ap content_in new_one ∙ sym (ap content_in fetch.absent))
        go false other = ap content_in (other_block old.present addr.block None at other)
