-- Lemmas: what is held for reading stays.
use Rattle.std.proofs.Common.{◌≡◌, ℕ, Bool, true, false, if◌then◌else◌, ◌||◌, nat_eq, List, Option, Some, None}
use Rattle.std.proofs.Common.{refl, sym, ap, subst, ◌∙◌, ne_eqb}
use Rattle.std.proofs.lemmas.Bool.{eqb-true}
use Rattle.disk.specs.Device.{Content}
use Rattle.disk.specs.declared.block.BlockNo.{BlockNo}
use Rattle.objects.specs.declared.addr.Addr.{Addr}
use Rattle.objects.specs.declared.mode.Mode.{Mode}
use Rattle.circ.specs.Log.Log.{Log, installed_place}
use Rattle.txn_law.specs.Core.{CoreState, with_refused, past, installed, ended}
use Rattle.txn_law.specs.CoreWindow.{PreservesReads}
use Rattle.txn_law.specs.Fetch.{Fetch}
use Rattle.txn_law.specs.Fetched.{fetched, fetch_failed}
use Rattle.objects.specs.Present.{filled}
use Rattle.txn_law.specs.Holds.{for_reading, for_fetching, for_writing}
use Rattle.txn_law.specs.Holds.{is_taken, is_hold_of, hold_of, is_read, joined, with_hold, released}
use Rattle.objects.specs.Present.{present_of, content_in}
use Rattle.txn_law.specs.Lists.{taken, IsHeldExactly, IsFetchedExactly, claimed}
use Rattle.txn_law.specs.declared.hold.Hold.{Hold}
use Rattle.objects.specs.declared.present.Present.{Present}
use Rattle.txn_law.proofs.Claims.{found_by, all_four}
use Rattle.objects.proofs.Residents.{same_block, filled_content}
use Rattle.txn_law.proofs.TakenBy.{taken_with, taken_released}
use Rattle.txn_law.proofs.StaysWellFormed.{block_stays, taken_one, taken_stays, failed_stays}

pub some_read : (o : Option Hold) → is_read o ≡ true → (x : Hold) × (o ≡ Some x) × (x.is_read ≡ true)
some_read None e = absurd (cc)
some_read (Some x) e = (x, refl, e)

-- what is held for reading stays so beside another hold
read_grows : (holds : List Hold) (hold : Hold) (t : ℕ) (a : Addr) → is_read (hold_of holds t a) ≡ true
    → is_read (hold_of (with_hold holds hold) t a) ≡ true
read_grows holds hold t a reads = ap is_read (taken_with holds hold t a) ∙ go (is_hold_of t a hold)
  where
    joins : (o : Option Hold) → is_read o ≡ true → is_read (Some (joined o hold)) ≡ true
    joins None e = absurd (cc)
    joins (Some x) e = ap (λ b. b || hold.is_read) e

    go : (u : Bool) → is_read (if u then Some (joined (hold_of holds t a) hold) else hold_of holds t a) ≡ true
    go true = joins (hold_of holds t a) reads
    go false = reads

-- what is held for reading is taken
pub taken_read : (holds : List Hold) (t : ℕ) (a : Addr) → is_read (hold_of holds t a) ≡ true
    → is_taken holds a.block ≡ true
taken_read holds t a reads =
    let (x, found, is) = some_read (hold_of holds t a) reads in
    let (mine, there) = found_by (is_hold_of t a) holds x found in
    let four = all_four (nat_eq x.transaction t) (nat_eq x.addr.block.0 a.block.0)
    (nat_eq x.addr.offset a.offset) (nat_eq x.addr.len a.len) mine in
    ap (is_taken holds) (sym (same_block x.addr.block a.block (eqb-true x.addr.block.0 a.block.0 four.1)))
    ∙ taken_one holds x there

preserves : (old new : CoreState) (t : ℕ)
    → ((a : Addr) → is_read (hold_of old.holds t a) ≡ true → is_read (hold_of new.holds t a) ≡ true)
    → ((a : Addr) (c : Content) → is_read (hold_of old.holds t a) ≡ true
    → content_in (present_of old.present a.block) ≡ Some c
    → content_in (present_of new.present a.block) ≡ Some c)
    → PreservesReads old new t
preserves old new t holds contents object h = record {
  held = holds object.addr h.held;
  current = record {
    content = h.current.content;
    there = contents object.addr h.current.content h.held h.current.there;
    same = h.current.same;
  };
}

pub reads_held : (old new : CoreState) (tx : ℕ) (addr : Addr) (mode : Mode) (bytes : List ℕ) (t : ℕ)
    → IsHeldExactly old tx addr mode bytes new → PreservesReads old new t
reads_held old new tx addr mode bytes t held =
    subst (λ (core : CoreState). PreservesReads old core t) (sym held.core)
    (preserves old (taken old (for_reading tx addr mode) (Some held.content)) t
    (read_grows old.holds (for_reading tx addr mode) t)
    (λ a c reads. block_stays old.present addr.block (Some held.content) a.block c))

pub reads_fetch : (old new : CoreState) (tx : ℕ) (addr : Addr) (mode : Mode) (io : Fetch) (t : ℕ)
    → IsFetchedExactly old tx addr mode io new → PreservesReads old new t
reads_fetch old new tx addr mode io t fetch =
    subst (λ (core : CoreState). PreservesReads old core t) (sym fetch.core)
    (preserves old (taken old (for_fetching tx addr mode) None) t
    (read_grows old.holds (for_fetching tx addr mode) t)
    (λ a c reads. block_stays old.present addr.block None a.block c))

pub reads_claim : (old : CoreState) (tx : ℕ) (addr : Addr) (t : ℕ) → PreservesReads old (claimed old tx addr) t
reads_claim old tx addr t =
    preserves old (claimed old tx addr) t
    (read_grows old.holds (for_writing tx addr) t)
    (λ a c reads e. e)

pub left : (holds : List Hold) (tx t : ℕ) (a : Addr) → (t ≡ tx → ⊥)
    → hold_of (released holds tx) t a ≡ hold_of holds t a
left holds tx t a differ =
    taken_released holds tx t a ∙ ap (λ (b : Bool). if b then None else hold_of holds t a) (ne_eqb t tx differ)

pub reads_end : (spare : Present → Bool) (old : CoreState) (tx t : ℕ) → (t ≡ tx → ⊥) → PreservesReads old
    (ended spare old tx) t
reads_end spare old tx t differ =
    preserves old (ended spare old tx) t (λ a reads. ap is_read (left old.holds tx t a differ) ∙ reads)
    (λ a c reads e. taken_stays spare (released old.holds tx) old.records old.present a.block c
    (taken_read (released old.holds tx) t a (ap is_read (left old.holds tx t a differ) ∙ reads)) e)

pub reads_fetched : (spare : Present → Bool) (old : CoreState) (block : BlockNo) (content : Content) (t : ℕ)
    → PreservesReads old (fetched spare old block content) t
reads_fetched spare old block content t =
    preserves old (fetched spare old block content) t (λ a reads. reads)
    (λ a c reads e. taken_stays spare old.holds old.records (filled old.present block content) a.block c
    (taken_read old.holds t a reads) (filled_content block content old.present a.block c e))

pub reads_failed : (old : CoreState) (block : BlockNo) (t : ℕ) → PreservesReads old (fetch_failed old block) t
reads_failed old block t =
    preserves old (fetch_failed old block) t (λ a reads. reads)
    (λ a c reads e. failed_stays old.present block a.block c e)

pub reads_log : (old : CoreState) (log : Log) (t : ℕ) → PreservesReads old (record old { log = log }) t
reads_log old log t = preserves old (record old { log = log }) t (λ a reads. reads) (λ a c reads e. e)

-- whatever is counted, too
pub reads_call : (old : CoreState) (log : Log) (log_calls inst_calls t : ℕ)
    → PreservesReads old (record old { log = log; log_calls = log_calls; inst_calls = inst_calls }) t
reads_call old log log_calls inst_calls t =
    preserves old (record old { log = log; log_calls = log_calls; inst_calls = inst_calls }) t (λ a reads. reads)
    (λ a c reads e. e)

pub reads_refused : (core : CoreState) (t : ℕ) → PreservesReads core (with_refused core) t
reads_refused core t = preserves core (with_refused core) t (λ a reads. reads) (λ a c reads e. e)

pub reads_installed : (spare : Present → Bool) (old : CoreState) (log : Log) (t : ℕ) → PreservesReads old
    (installed spare old log) t
reads_installed spare old log t =
    preserves old (installed spare old log) t (λ a reads. reads)
    (λ a c reads e. taken_stays spare old.holds (past (installed_place log) old.records) old.present a.block c
    (taken_read old.holds t a reads) e)
