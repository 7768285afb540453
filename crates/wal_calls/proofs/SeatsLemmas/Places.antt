-- No step of the logger or of the installer takes a place.
use Rattle.std.proofs.Common.{◌≡◌, ◌∙◌, ap, refl, ◌+◌, Bool, true, false, if◌then◌else◌, nat_eq, nat_lt, Option, Some, None}
use Rattle.disk.specs.declared.block.Side.{Side}
use Rattle.disk.specs.declared.block.Side.TheVariants.{Log as LogSide, Home}
use Rattle.wal_calls.specs.Callers.Making.{answered_ok}
use Rattle.wal_calls.specs.Callers.Steps.{HasEnded, HasStepped, comes_back, goes_out}
use Rattle.wal_calls.specs.declared.callers.stepped.Stepped.{Stepped}
use Rattle.wal_calls.specs.declared.callers.stepped.Stepped.TheVariants.{Next, Done}
use Rattle.txn_law.specs.Core.{CoreState}
use Rattle.wal.specs.Sides.{may_call}
use Rattle.circ.specs.Log.Installer.{is_inst_out, with_inst_back, with_inst_out, with_installed}
use Rattle.circ.specs.Log.Io.{Io}
use Rattle.circ.specs.Log.Log.{Log}
use Rattle.circ.specs.Log.Logger.{is_log_out, with_log_back}

-- ---- the log

either : (is : Bool) (one other old : Log) → one.places ≡ old.places → other.places ≡ old.places
    → (if is then one else other).places ≡ old.places
either true one other old so not = so
either false one other old so not = not

log_back : (log : Log) (ok : Bool) → (with_log_back log ok).places ≡ log.places
log_back log true = either (nat_eq log.log_step (log.taken + 2)) _ _ log refl refl
log_back log false = refl

inst_out : (log : Log) → (with_inst_out log).places ≡ log.places
inst_out log = either (nat_lt 0 log.installing) _ _ log refl refl

inst_back : (log : Log) (ok : Bool) → (with_inst_back log ok).places ≡ log.places
inst_back log true = either (nat_lt log.inst_step log.installing) _ _ log refl
    (either (nat_lt log.inst_step (log.installing + 2)) _ (with_installed log) log refl refl)
inst_back log false = refl

-- ---- the core

places_of : (old new : CoreState) → new ≡ old → new.log.places ≡ old.log.places
places_of old new is = ap (λ (core : CoreState). core.log.places) is

goes : (side : Side) (old new : CoreState) (io : Io) → goes_out side old io new → new.log.places ≡ old.log.places
goes LogSide old new io is = ap (λ (core : CoreState). core.log.places) is.core
goes Home old new io is = ap (λ (core : CoreState). core.log.places) is.core ∙ inst_out old.log

comes : (side : Side) (old new : CoreState) (io : Io) (ok : Bool) → comes_back side old io ok new
    → new.log.places ≡ old.log.places
comes LogSide old new io ok is = ap (λ (log : Log). log.places) is.log
    ∙ either (is_log_out old.log io) (with_log_back old.log ok) old.log old.log (log_back old.log ok) refl
comes Home old new io ok is = ap (λ (log : Log). log.places) is.log
    ∙ either (is_inst_out old.log io) (with_inst_back old.log ok) old.log old.log (inst_back old.log ok) refl

pub stepped : (side : Side) (old new : CoreState) (out : Option Io) (made : Option Bool) (step_result : Option Stepped)
    (next : Option Io) (later : Option Bool)
    → HasStepped (may_call side) (goes_out side) (comes_back side) old out made step_result new next later
    → new.log.places ≡ old.log.places
stepped side old new None made (Some (Next call)) (Some io) later is = goes side old new io is.0
stepped side old new None made (Some (Next call)) None later is = absurd is
stepped side old new None made (Some (Done ok)) next later is = absurd is
stepped side old new None made None next later is = places_of old new is.0
stepped side old new (Some io) (Some ok) (Some (Done step_result)) next later is = comes side old new io ok is.0
stepped side old new (Some io) (Some ok) (Some (Next call)) next later is = absurd is
stepped side old new (Some io) (Some ok) None next later is = absurd is
stepped side old new (Some io) None None next later is = places_of old new is.0
stepped side old new (Some io) None (Some step_result) next later is = absurd is

pub ended : (side : Side) (old new : CoreState) (out : Option Io) (made : Option Bool)
    → HasEnded (comes_back side) old out made new → new.log.places ≡ old.log.places
ended side old new None made is = places_of old new is
ended side old new (Some io) made is = comes side old new io (answered_ok made) is
