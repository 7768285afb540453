-- Lemmas: each step of the core keeps what is true of every core.
use Rattle.std.proofs.Common.{◌≡◌, ℕ, ◌+◌, ◌-◌, Bool, true, false, ◌||◌, if◌then◌else◌, nat_lt, nat_eq}
use Rattle.std.proofs.Common.{List, [], ◌∷◌, ◌++◌}
use Rattle.std.proofs.Common.{length, drop, replicate, All, refl, sym, ap, subst, ◌∙◌, arith}
use Rattle.std.proofs.lemmas.List.Elements.{All-push, All-drop, All-filter, All-weaker}
use Rattle.std.proofs.Math.ListN.{length-replicate}
use Rattle.base.specs.declared.TheConstants.{BLOCK_BYTES}
use Rattle.disk.specs.Device.{Content}
use Rattle.disk.specs.Crash.{Image}
use Rattle.disk.specs.declared.block.BlockNo.{BlockNo}
use Rattle.objects.specs.declared.addr.Addr.{Addr}
use Rattle.objects.specs.declared.mode.Mode.{Mode}
use Rattle.objects.specs.declared.mode.Mode.TheVariants as modes
use Rattle.circ.specs.Log.Calls.{home_after}
use Rattle.circ.specs.Log.Effects.{HasGoneOn, brought_home}
use Rattle.circ.specs.Log.Grows.{GrowsBy}
use Rattle.circ.specs.Log.Installer.{next_home, with_inst_out, with_inst_back}
use Rattle.circ.specs.Log.Logger.{with_log_out, with_log_back}
use Rattle.circ.specs.Log.Log.{Log, IsLawful, newest, installed_place, blocks_of as group_blocks}
use Rattle.circ.proofs.LogLemmas.Effects.{seen_inst_done}
use Rattle.txn_law.specs.Commit.{Planned, IsOwn, committed}
use Rattle.txn_law.specs.Core.{CoreState, with_begun, with_log_call, with_inst_call, with_refused, past, installed, ended}
use Rattle.txn_law.specs.CoreLaw.{IsFresh, IsPlanned, IsLawfulCore}
use Rattle.txn_law.specs.CoreWindow.{held_of, IsCoreWindow, AreBlocks, IsHomeOf, PreservesHome}
use Rattle.txn_law.specs.Fetch.{Fetch}
use Rattle.txn_law.specs.Fetched.{fetched, fetch_failed}
use Rattle.txn_law.specs.Group.{blocks_of, IsOverlaid}
use Rattle.objects.specs.Object.{ObjectBytes}
use Rattle.circ.specs.Log.Grows.{IsWholeChange}
use Rattle.txn_law.specs.WellFormed.{IsOfOne, IsWellFormed}
use Rattle.txn_law.specs.Window.{Footprint, IsWindowOver}
use Rattle.txn_law.specs.Lists.{IsHeldExactly, IsFetchedExactly, claimed}
use Rattle.txn_law.specs.LockAnswers.{IsOpen, IsWhole}
use Rattle.objects.specs.declared.present.Present.{Present}
use Rattle.txn_law.proofs.Commits.{past-drop}
use Rattle.txn_law.proofs.Fetches.{core_fetch_failed}
use Rattle.txn_law.proofs.Fresh.{fresh_window}
use Rattle.txn_law.proofs.Homes.{whole_after, fetched_some_home, commit_home}
use Rattle.txn_law.proofs.Moves.{window_log_out, window_log_back, window_inst_out}
use Rattle.txn_law.proofs.OtherHome.{either}
use Rattle.txn_law.proofs.Swept.{or-true, window_swept, core_installed}
use Rattle.txn_law.proofs.WellFormedCommit.{well_formed_commit}
use Rattle.txn_law.proofs.StaysWellFormed.{well_formed_held, well_formed_fetch, well_formed_claim, well_formed_end, well_formed_fetched, well_formed_failed}
use Rattle.txn_law.proofs.StaysWellFormed.{well_formed_installed, well_formed_log, well_formed_call, well_formed_refused}
use Rattle.txn_law.proofs.LockAnswers.{core_held, core_fetch, core_claim, core_end}

-- Steps that keep the window of the core, over the same blocks at home.

pub home_held : (old new : CoreState) (tx : ℕ) (addr : Addr) (mode : Mode) (bytes : List ℕ)
    → IsHeldExactly old tx addr mode bytes new
    → PreservesHome old new
home_held old new tx addr mode bytes held base h = record {
  whole = subst (λ (core : CoreState). AreBlocks core.log.blocks base) (sym held.core) h.whole;
  window = core_held base old new tx addr mode bytes held h.window;
}

pub home_fetch : (old new : CoreState) (tx : ℕ) (addr : Addr) (mode : Mode) (io : Fetch)
    → IsFetchedExactly old tx addr mode io new
    → PreservesHome old new
home_fetch old new tx addr mode io fetch base h = record {
  whole = subst (λ (core : CoreState). AreBlocks core.log.blocks base) (sym fetch.core) h.whole;
  window = core_fetch base old new tx addr mode io fetch h.window;
}

pub home_claim : (old : CoreState) (tx : ℕ) (addr : Addr) → PreservesHome old (claimed old tx addr)
home_claim old tx addr base h = record { whole = h.whole; window = core_claim base old tx addr h.window }

pub home_end : (spare : Present → Bool) (old : CoreState) (tx : ℕ) → PreservesHome old (ended spare old tx)
home_end spare old tx base h = record { whole = h.whole; window = core_end spare base old tx h.window }

pub home_failed : (old : CoreState) (block : BlockNo) → PreservesHome old (fetch_failed old block)
home_failed old block base h = record { whole = h.whole; window = core_fetch_failed base old block h.window }

pub home_refused : (core : CoreState) → PreservesHome core (with_refused core)
home_refused core base h = record { whole = h.whole; window = h.window }

pub home_log_out : (old : CoreState) → IsLawful old.log
    → PreservesHome old (with_log_call old)
home_log_out old lawful base h = record {
  whole = h.whole;
  window = window_log_out base old.log old.records (held_of old.present) lawful h.window;
}

back_blocks : (log : Log) (ok : Bool) → (with_log_back log ok).blocks ≡ log.blocks
back_blocks log false = refl
back_blocks log true = elim (nat_eq log.log_step (log.taken + 2)) as (λ t. (if t
    then record log { logged = log.logged + log.taken; taken = 0; log_step = 0; log_out = false }
    else record log { log_step = log.log_step + 1; log_out = false }).blocks ≡ log.blocks) [
      | true ↦ refl
      | false ↦ refl
    ]

back_changes : (log : Log) (ok : Bool) → (with_log_back log ok).changes ≡ log.changes
back_changes log false = refl
back_changes log true = elim (nat_eq log.log_step (log.taken + 2)) as (λ t. (if t
    then record log { logged = log.logged + log.taken; taken = 0; log_step = 0; log_out = false }
    else record log { log_step = log.log_step + 1; log_out = false }).changes ≡ log.changes) [
      | true ↦ refl
      | false ↦ refl
    ]

-- the logger's call is given back, or one that isn't out
pub home_log_done : (old : CoreState) (is_out ok : Bool) → IsLawful old.log
    → PreservesHome old (record old { log = if is_out then with_log_back old.log ok else old.log })
home_log_done old true ok lawful base h = record {
  whole = subst (λ (n : ℕ). AreBlocks n base) (sym (back_blocks old.log ok)) h.whole;
  window = window_log_back base old.log old.records (held_of old.present) ok lawful h.window;
}
home_log_done old false ok lawful base h = record { whole = h.whole; window = h.window }

pub out_blocks : (log : Log) → (with_inst_out log).blocks ≡ log.blocks
out_blocks log = elim (nat_lt 0 log.installing) as (λ t. (if t then record log { inst_out = true }
    else record log {
      installing = log.logged;
      inst_step = next_home log.changes log.logged 0;
      inst_out = true;
    }).blocks ≡ log.blocks) [
      | true ↦ refl
      | false ↦ refl
    ]

out_changes : (log : Log) → (with_inst_out log).changes ≡ log.changes
out_changes log = elim (nat_lt 0 log.installing) as (λ t. (if t then record log { inst_out = true }
    else record log {
      installing = log.logged;
      inst_step = next_home log.changes log.logged 0;
      inst_out = true;
    }).changes ≡ log.changes) [
      | true ↦ refl
      | false ↦ refl
    ]

pub home_inst_out : (old : CoreState) → IsLawful old.log
    → PreservesHome old (with_inst_call old)
home_inst_out old lawful base h = record {
  whole = subst (λ (n : ℕ). AreBlocks n base) (sym (out_blocks old.log)) h.whole;
  window = window_inst_out base old.log old.records (held_of old.present) lawful h.window;
}

-- all records are past what is installed
pub all_past : (base : Image) (core : CoreState) → IsCoreWindow base core
    → past (installed_place core.log) core.records ≡ core.records
all_past base core h =
    past-drop (installed_place core.log + 1) (installed_place core.log) core.records h.placed
    ∙ ap (λ (n : ℕ). drop n core.records) (none (installed_place core.log + 1))
  where
    none : (n : ℕ) → n - n ≡ 0
    none n = omega arith

-- The installer's call is given back, or one that isn't out: then from what is at home after it, and the
-- kept commits follow from there.
pub home_inst_done : (spare : Present → Bool) (base : Image) (old : CoreState) (is_out ok : Bool)
    → IsLawful old.log → IsWellFormed old
    → IsHomeOf base old
    → IsHomeOf (if is_out then home_after base old.log ok else base)
    (installed spare old (if is_out then with_inst_back old.log ok else old.log))
home_inst_done spare base old true ok lawful well_formed h = record {
  whole = subst (λ (n : ℕ). AreBlocks n (home_after base old.log ok))
      (sym (seen_inst_done old.log true ok lawful).blocks)
      (whole_after old.log.blocks base old.log ok well_formed.changes h.whole);
  window = core_installed spare base old ok lawful h.window;
}
home_inst_done spare base old false ok lawful well_formed h = record {
  whole = h.whole;
  window = window_swept spare base old.log (past (installed_place old.log) old.records) old.holds old.present
      (subst (λ (rs : List Footprint). IsWindowOver base old.log rs (held_of old.present))
      (sym (all_past base old h.window)) h.window);
}

done_changes : (log : Log) (is_out ok : Bool) → All IsWholeChange log.changes
    → All IsWholeChange (if is_out then with_inst_back log ok else log).changes
done_changes log false ok h = h
done_changes log true false h = h
done_changes log true true h = first (nat_lt log.inst_step log.installing)
  where
    second : (u : Bool) → All IsWholeChange
        (if u then record log { inst_step = log.inst_step + 1; inst_out = false }
        else record log {
          start = log.start + log.installing;
          changes = drop log.installing log.changes;
          logged = log.logged - log.installing;
          installing = 0;
          inst_step = 0;
          inst_out = false;
        }).changes
    second true = h
    second false = All-drop IsWholeChange log.installing log.changes h

    first : (t : Bool) → All IsWholeChange (if t
        then record log {
          inst_step = next_home log.changes log.installing (log.inst_step + 1);
          inst_out = false;
        }
        else if nat_lt log.inst_step (log.installing + 2)
        then record log { inst_step = log.inst_step + 1; inst_out = false }
        else record log {
          start = log.start + log.installing;
          changes = drop log.installing log.changes;
          logged = log.logged - log.installing;
          installing = 0;
          inst_step = 0;
          inst_out = false;
        }).changes
    first true = h
    first false = second (nat_lt log.inst_step (log.installing + 2))

-- What is true of every core.

module _ (P : ℕ → ℕ → List ObjectBytes → List ObjectBytes → Type 0) where
  pub lawful_new : (log : Log) (inodes boot : ℕ) → IsLawful log → IsFresh log → All IsWholeChange log.changes
      → IsLawfulCore P (record {
        log = log;
        inodes = inodes;
        begun = 0;
        out = [];
        holds = [];
        present = [];
        records = [];
        boot = boot;
        log_calls = 0;
        inst_calls = 0;
        refused = 0;
      })
  lawful_new log inodes boot lawful fresh whole = record {
    log = lawful;
    well_formed = record {
      owned = λ k d lt. absurd (omega (arith, lt));
      placed = λ k d lt. absurd (omega (arith, lt));
      apart = tt;
      read = λ k d lt. absurd (omega (arith, lt));
      claimed = λ k d lt. absurd (omega (arith, lt));
      once = tt;
      pending = λ k d lt. absurd (omega (arith, lt));
      changes = whole;
    };
    home = (
      (λ block. replicate BLOCK_BYTES 0),
      record {
        whole = λ block lt. length-replicate {A = ℕ} BLOCK_BYTES 0;
        window = fresh_window (λ block. replicate BLOCK_BYTES 0) log lawful fresh;
      },
    );
    planned = λ k d lt. absurd (omega (arith, lt));
  }

  -- a transaction more changes nothing of it
  pub lawful_begun : (old : CoreState) → IsLawfulCore P old → IsLawfulCore P (with_begun old)
  lawful_begun old h = record {
    log = h.log;
    well_formed = record {
      owned = All-weaker (IsOfOne old) (IsOfOne (with_begun old))
          (λ x own. (
            ap (λ b. nat_eq (old.begun + 1) x.transaction || b) own.0
                ∙ or-true (nat_eq (old.begun + 1) x.transaction),
            own.1,
          )) old.holds h.well_formed.owned;
      placed = h.well_formed.placed;
      apart = h.well_formed.apart;
      read = h.well_formed.read;
      claimed = h.well_formed.claimed;
      once = h.well_formed.once;
      pending = h.well_formed.pending;
      changes = h.well_formed.changes;
    };
    home = (h.home.0, record { whole = h.home.1.whole; window = h.home.1.window });
    planned = h.planned;
  }

  pub lawful_held : (old new : CoreState) (tx : ℕ) (addr : Addr) (mode : Mode) (bytes : List ℕ)
      → IsOpen old tx addr mode → IsHeldExactly old tx addr mode bytes new → IsLawfulCore P old
      → IsLawfulCore P new
  lawful_held old new tx addr mode bytes open' held h = record {
    log = subst (λ (core : CoreState). IsLawful core.log) (sym held.core) h.log;
    well_formed = well_formed_held old new tx addr mode bytes open' held h.well_formed;
    home = (h.home.0, home_held old new tx addr mode bytes held h.home.0 h.home.1);
    planned = subst (λ (core : CoreState). All (IsPlanned P core.log.blocks core.inodes) core.records)
        (sym held.core) h.planned;
  }

  pub lawful_fetch : (old new : CoreState) (tx : ℕ) (addr : Addr) (mode : Mode) (io : Fetch)
      → IsOpen old tx addr mode → IsFetchedExactly old tx addr mode io new → IsLawfulCore P old
      → IsLawfulCore P new
  lawful_fetch old new tx addr mode io open' fetch h = record {
    log = subst (λ (core : CoreState). IsLawful core.log) (sym fetch.core) h.log;
    well_formed = well_formed_fetch old new tx addr mode io open' fetch h.well_formed;
    home = (h.home.0, home_fetch old new tx addr mode io fetch h.home.0 h.home.1);
    planned = subst (λ (core : CoreState). All (IsPlanned P core.log.blocks core.inodes) core.records)
        (sym fetch.core) h.planned;
  }

  pub lawful_claim : (old : CoreState) (tx : ℕ) (block : BlockNo) (addr : Addr) → IsWhole block addr
      → IsOpen old tx addr modes.Exclusive → IsLawfulCore P old
      → IsLawfulCore P (claimed old tx addr)
  lawful_claim old tx block addr whole open' h = record {
    log = h.log;
    well_formed = well_formed_claim old tx block addr whole open' h.well_formed;
    home = (h.home.0, home_claim old tx addr h.home.0 h.home.1);
    planned = h.planned;
  }

  pub lawful_end : (spare : Present → Bool) (old : CoreState) (tx : ℕ) → IsLawfulCore P old → IsLawfulCore P
      (ended spare old tx)
  lawful_end spare old tx h = record {
    log = h.log;
    well_formed = well_formed_end spare old tx h.well_formed;
    home = (h.home.0, home_end spare old tx h.home.0 h.home.1);
    planned = h.planned;
  }

  pub lawful_fetched : (spare : Present → Bool) (old : CoreState) (block : BlockNo) (content : Content)
      → length content ≡ BLOCK_BYTES
      → IsLawfulCore P old → IsLawfulCore P (fetched spare old block content)
  lawful_fetched spare old block content size h = record {
    log = h.log;
    well_formed = well_formed_fetched spare old block content h.well_formed;
    home = fetched_some_home spare old block content h.well_formed size h.home;
    planned = h.planned;
  }

  pub lawful_failed : (old : CoreState) (block : BlockNo) → IsLawfulCore P old
      → IsLawfulCore P (fetch_failed old block)
  lawful_failed old block h = record {
    log = h.log;
    well_formed = well_formed_failed old block h.well_formed;
    home = (h.home.0, home_failed old block h.home.0 h.home.1);
    planned = h.planned;
  }

  pub lawful_refused : (core : CoreState) → IsLawfulCore P core → IsLawfulCore P (with_refused core)
  lawful_refused core h = record {
    log = h.log;
    well_formed = well_formed_refused core h.well_formed;
    home = (h.home.0, home_refused core h.home.0 h.home.1);
    planned = h.planned;
  }

  pub lawful_log_out : (old : CoreState) → IsLawful (with_log_out old.log) → IsLawfulCore P old
      → IsLawfulCore P (with_log_call old)
  lawful_log_out old lawful h = record {
    log = lawful;
    well_formed = well_formed_call old (with_log_out old.log) (old.log_calls + 1) old.inst_calls
        (well_formed_log old (with_log_out old.log) refl refl h.well_formed);
    home = (h.home.0, home_log_out old h.log h.home.0 h.home.1);
    planned = h.planned;
  }

  pub lawful_log_done : (old : CoreState) (is_out ok : Bool)
      → IsLawful (if is_out then with_log_back old.log ok else old.log) → IsLawfulCore P old
      → IsLawfulCore P (record old { log = if is_out then with_log_back old.log ok else old.log })
  lawful_log_done old true ok lawful h = record {
    log = lawful;
    well_formed = well_formed_log old (with_log_back old.log ok) (back_blocks old.log ok) (back_changes old.log ok) h.well_formed;
    home = (h.home.0, home_log_done old true ok h.log h.home.0 h.home.1);
    planned = subst (λ (n : ℕ). All (IsPlanned P n old.inodes) old.records)
        (sym (back_blocks old.log ok)) h.planned;
  }
  lawful_log_done old false ok lawful h = record {
    log = lawful;
    well_formed = well_formed_log old old.log refl refl h.well_formed;
    home = (h.home.0, home_log_done old false ok h.log h.home.0 h.home.1);
    planned = h.planned;
  }

  pub lawful_inst_out : (old : CoreState) → IsLawful (with_inst_out old.log) → IsLawfulCore P old
      → IsLawfulCore P (with_inst_call old)
  lawful_inst_out old lawful h = record {
    log = lawful;
    well_formed = well_formed_call old (with_inst_out old.log) old.log_calls (old.inst_calls + 1)
        (well_formed_log old (with_inst_out old.log) (out_blocks old.log) (out_changes old.log) h.well_formed);
    home = (h.home.0, home_inst_out old h.log h.home.0 h.home.1);
    planned = subst (λ (n : ℕ). All (IsPlanned P n old.inodes) old.records)
        (sym (out_blocks old.log)) h.planned;
  }

  pub lawful_inst_done : (spare : Present → Bool) (old : CoreState) (is_out ok : Bool)
      → IsLawful (if is_out then with_inst_back old.log ok else old.log) → IsLawfulCore P old
      → IsLawfulCore P (installed spare old (if is_out then with_inst_back old.log ok else old.log))
  lawful_inst_done spare old is_out ok lawful h =
      let log : Log = if is_out then with_inst_back old.log ok else old.log in
      let seen : HasGoneOn old.log log = seen_inst_done old.log is_out ok h.log in record {
        log = lawful;
        well_formed = well_formed_installed spare old log seen.blocks
            (λ block none. (either (newest log block) (brought_home old.log block)
            (sym (seen.newest_content block) ∙ none)).0) (done_changes old.log is_out ok h.well_formed.changes) h.well_formed;
        home = (
          (if is_out then home_after h.home.0 old.log ok else h.home.0),
          home_inst_done spare h.home.0 old is_out ok h.log h.well_formed h.home.1,
        );
        planned = All-filter (λ kept. nat_lt (installed_place log) kept.place)
            (IsPlanned P log.blocks old.inodes) old.records
            (subst (λ (n : ℕ). All (IsPlanned P n old.inodes) old.records) (sym seen.blocks) h.planned);
      }

  pub lawful_commit : (spare : Present → Bool) (old : CoreState) (tx : ℕ) (plan : Planned)
      (group : List (BlockNo × Content)) (log : Log)
      → IsOwn old tx plan → All (λ object. length object.bytes ≡ object.addr.len) plan.written
      → group_blocks group ≡ blocks_of plan.written → All (IsOverlaid old.present old.log plan.written) group
      → GrowsBy old.log group log → log.blocks ≡ old.log.blocks → IsLawful log → All IsWholeChange log.changes
      → P plan.blocks plan.inodes plan.read plan.written → IsLawfulCore P old
      → IsLawfulCore P (committed spare old tx plan log)
  lawful_commit spare old tx plan group log own sizes blocks contents grown same lawful whole is_plan h = record {
    log = lawful;
    well_formed = well_formed_commit spare old tx plan group log own blocks grown h.well_formed same whole;
    home = (
      h.home.0,
      commit_home spare h.home.0 old tx plan group log h.log h.well_formed own sizes blocks contents grown same h.home.1,
    );
    planned = go (nat_lt (installed_place log) log.places);
  }
    where
      older : All (IsPlanned P log.blocks old.inodes) old.records
      older = subst (λ (n : ℕ). All (IsPlanned P n old.inodes) old.records) (sym same) h.planned

      here : P log.blocks old.inodes plan.read plan.written
      here = subst (λ (n : ℕ). P n old.inodes plan.read plan.written) (own.blocks ∙ sym same)
          (subst (λ (n : ℕ). P plan.blocks n plan.read plan.written) own.inodes is_plan)

      go : (t : Bool) → All (IsPlanned P log.blocks old.inodes) (if t then old.records
          ++ record { place = log.places; read = plan.read; written = plan.written } ∷ [] else old.records)
      go true = All-push (IsPlanned P log.blocks old.inodes) old.records
          (record { place = log.places; read = plan.read; written = plan.written }) older here
      go false = older
