-- What one step of the logger or of the installer makes of the core and of its seat.
use Rattle.std.specs.Prelude.{◌≡◌, ℕ, Bool, true, false, Option, Some, None}
use Rattle.wal_calls.specs.Callers.Steps.{ComesBack, GoesOut}
use Rattle.txn_law.specs.Core.{CoreState}
use Rattle.circ.specs.Log.Io.{Io}
use Rattle.circ.specs.Log.Log.{Log}
use Rattle.wal_calls.specs.declared.seats.turn.Turn.{Turn}
use Rattle.wal_calls.specs.declared.seats.turn.Turn.TheVariants as turn

-- What one step makes of the core, the call that is out, and its answer, where the side may take a call as told:
-- one is handed out, or one is given back with its answer, or nothing changes.
abbrev pub HasTurned : (Log → Bool) → GoesOut → ComesBack → CoreState → Option Io → Option Bool → Turn
    → CoreState → Option Io → Option Bool → Type 0
HasTurned may Goes Comes old None made turn.Moved new (Some io) later = Goes old io new × (later ≡ None)
HasTurned may Goes Comes old None made turn.Moved new None later = ⊥
HasTurned may Goes Comes old None made turn.Idle new next later = (new ≡ old) × (next ≡ None)
    × (old.log.broken ≡ false) × (may old.log ≡ false)
HasTurned may Goes Comes old None made turn.Broken new next later = (new ≡ old) × (next ≡ None)
    × (old.log.broken ≡ true)
HasTurned may Goes Comes old (Some io) None turn.Idle new next later = (new ≡ old) × (next ≡ Some io)
    × (later ≡ None)
HasTurned may Goes Comes old (Some io) None turn.Moved new next later = ⊥
HasTurned may Goes Comes old (Some io) None turn.Broken new next later = ⊥
HasTurned may Goes Comes old (Some io) (Some ok) turn.Moved new next later =
    Comes old io ok new × (next ≡ None) × (later ≡ None)
HasTurned may Goes Comes old (Some io) (Some ok) turn.Idle new next later = ⊥
HasTurned may Goes Comes old (Some io) (Some ok) turn.Broken new next later = ⊥

-- how many calls a step has handed out, by the call that was out before it and the one that is out then
abbrev pub gone : Option Io → Option Io → ℕ
gone None (Some io) = 1
gone None None = 0
gone (Some io) next = 0

-- No device call is handed out, and the boot number stays.
pub record HandsOutNone (old new : CoreState) : Type 0 where
  pub log : new.log_calls ≡ old.log_calls
  pub inst : new.inst_calls ≡ old.inst_calls
  pub boot : new.boot ≡ old.boot
