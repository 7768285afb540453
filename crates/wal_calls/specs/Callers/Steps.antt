-- What a step of the logger or of the installer makes of the core, and of the call that is out.
use Rattle.std.specs.Prelude.{◌≡◌, ℕ, Bool, true, false, if◌then◌else◌, Option, Some, None}
use Rattle.disk.specs.Crash.{Image}
use Rattle.disk.specs.declared.block.Side.{Side}
use Rattle.disk.specs.declared.block.Side.TheVariants.{Log as LogSide, Home}
use Rattle.txn_law.specs.Core.{CoreState, past, with_inst_call, with_log_call}
use Rattle.txn_law.specs.CoreWindow.{IsHomeOf, PreservesHome, PreservesReads}
use Rattle.txn_law.specs.Leaves.{Leaves, in_memory, is_fetching, taken_by}
use Rattle.circ.specs.Log.Calls.{InstCallComesBack, InstCallGoesOut, LogCallComesBack, LogCallGoesOut, home_after}
use Rattle.circ.specs.Log.Installer.{IsNextInstCall, is_inst_out, may_install, with_inst_back}
use Rattle.circ.specs.Log.Io.{Io, IsCallWithin}
use Rattle.circ.specs.Log.Log.{Log, installed_place}
use Rattle.circ.specs.Log.Logger.{IsNextLogCall, is_log_out, may_log, with_log_back}
use Rattle.wal_calls.specs.Callers.Making.{answered_ok}
use Rattle.wal_calls.specs.declared.callers.stepped.Stepped.{Stepped}
use Rattle.wal_calls.specs.declared.callers.stepped.Stepped.TheVariants.{Next, Done}

-- ---- the core

-- The core handed out the logger's next call.
pub record LogGoesOut (old : CoreState) (io : Io) (new : CoreState) : Type 0 where
  pub may : may_log old.log ≡ true
  pub core : new ≡ with_log_call old
  pub blocks : new.log.blocks ≡ old.log.blocks
  pub within : IsCallWithin old.log.blocks io.call
  pub next : IsNextLogCall new.log io
  pub law : LogCallGoesOut old.log io new.log
  pub reads : (other : ℕ) → PreservesReads old new other
  pub home : PreservesHome old new

-- It was given a call of the logger back, with whether that was answered Ok. One that isn't the one out changes
-- nothing.
pub record LogComesBack (old : CoreState) (io : Io) (ok : Bool) (new : CoreState) : Type 0 where
  pub log : new.log ≡ (if is_log_out old.log io then with_log_back old.log ok else old.log)
  pub blocks : new.log.blocks ≡ old.log.blocks
  pub core : new ≡ record old { log = new.log }
  pub law : LogCallComesBack old.log io ok new.log
  pub reads : (other : ℕ) → PreservesReads old new other
  pub home : PreservesHome old new

-- The core handed out the installer's next call.
pub record InstGoesOut (old : CoreState) (io : Io) (new : CoreState) : Type 0 where
  pub may : may_install old.log ≡ true
  pub core : new ≡ with_inst_call old
  pub blocks : new.log.blocks ≡ old.log.blocks
  pub within : IsCallWithin old.log.blocks io.call
  pub next : IsNextInstCall new.log io
  pub law : InstCallGoesOut old.log io new.log
  pub reads : (other : ℕ) → PreservesReads old new other
  pub home : PreservesHome old new

-- It was given a call of the installer back, with whether that was answered Ok. One that isn't the one out changes
-- nothing. What was installed goes.
pub record InstComesBack (old : CoreState) (io : Io) (ok : Bool) (new : CoreState) : Type 0 where
  pub log : new.log ≡ (if is_inst_out old.log io then with_inst_back old.log ok else old.log)
  pub blocks : new.log.blocks ≡ old.log.blocks
  pub core : new ≡ record old {
    log = new.log;
    records = past (installed_place new.log) old.records;
    present = new.present;
  }
  pub leaves : Leaves new (taken_by old) (is_fetching old) (in_memory old)
  pub law : InstCallComesBack old.log io ok new.log
  pub reads : (other : ℕ) → PreservesReads old new other
  pub home : (base : Image) → IsHomeOf base old
      → IsHomeOf (if is_inst_out old.log io then home_after base old.log ok else base) new

-- ---- a side

-- how a call goes out, and how it comes back
abbrev pub GoesOut : Type 1
GoesOut = CoreState → Io → CoreState → Type 0

abbrev pub ComesBack : Type 1
ComesBack = CoreState → Io → Bool → CoreState → Type 0

-- the same by the side: the logger works on the log's, the installer on the home side
abbrev pub goes_out : Side → GoesOut
goes_out LogSide = LogGoesOut
goes_out Home = InstGoesOut

abbrev pub comes_back : Side → ComesBack
comes_back LogSide = LogComesBack
comes_back Home = InstComesBack

-- What one step makes of the core, of the call that is out, and of its answer, where the side may take a call as
-- told: the one that was made is given back, or the next is taken, or nothing changes.
abbrev pub HasStepped : (Log → Bool) → GoesOut → ComesBack → CoreState → Option Io → Option Bool → Option Stepped
    → CoreState → Option Io → Option Bool → Type 0
HasStepped may Goes Comes old None made (Some (Next call)) new (Some io) later =
    Goes old io new × (io.call ≡ call) × (later ≡ None)
HasStepped may Goes Comes old None made (Some (Next call)) new None later = ⊥
HasStepped may Goes Comes old None made (Some (Done ok)) new next later = ⊥
HasStepped may Goes Comes old None made None new next later =
    (new ≡ old) × (next ≡ None) × (later ≡ made) × (may old.log ≡ false)
HasStepped may Goes Comes old (Some io) (Some ok) (Some (Done step_result)) new next later =
    Comes old io ok new × (step_result ≡ ok) × (next ≡ None) × (later ≡ None)
HasStepped may Goes Comes old (Some io) (Some ok) (Some (Next call)) new next later = ⊥
HasStepped may Goes Comes old (Some io) (Some ok) None new next later = ⊥
HasStepped may Goes Comes old (Some io) None None new next later =
    (new ≡ old) × (next ≡ Some io) × (later ≡ None)
HasStepped may Goes Comes old (Some io) None (Some stepped) new next later = ⊥

-- A side has ended: what was out came back by its answer.
abbrev pub HasEnded : ComesBack → CoreState → Option Io → Option Bool → CoreState → Type 0
HasEnded Comes old None made new = new ≡ old
HasEnded Comes old (Some io) made new = Comes old io (answered_ok made) new
