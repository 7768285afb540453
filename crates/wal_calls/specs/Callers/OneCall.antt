-- One device call of a side, from its taking to its giving back.
use Rattle.std.specs.Prelude.{ℕ, Bool, List}
use Rattle.disk.specs.Device.{Device}
use Rattle.objects.specs.Object.{ObjectBytes}
use Rattle.txn_law.specs.Core.{CoreState}
use Rattle.txn_law.specs.CoreLaw.{IsLawfulCore}
use Rattle.circ.specs.Log.Io.{Io}
use Rattle.wal_calls.specs.Callers.Making.{CallIsMade, IsMadeOn}
use Rattle.wal_calls.specs.Callers.Steps.{ComesBack, GoesOut}

-- The next call of a side was taken, made and given back: the core had it out in between.
pub record MakesOne (Goes : GoesOut) (IsMade : CallIsMade) (Comes : ComesBack)
    (is_plan : ℕ → ℕ → List ObjectBytes → List ObjectBytes → Type 0) (old : CoreState) (before : Device)
    (new : CoreState) (after : Device) : Type 0 where
  pub mid : CoreState
  pub io : Io
  pub ok : Bool
  pub goes : Goes old io mid
  pub lawful : IsLawfulCore is_plan mid
  pub made : IsMadeOn IsMade before io ok after
  pub back : Comes mid io ok new
