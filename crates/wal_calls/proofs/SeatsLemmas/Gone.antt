-- How many calls a step of the logger or of the installer hands out.
use Rattle.std.proofs.Common.{◌≡◌, ap, refl, Bool, Option, Some, None}
use Rattle.txn_law.specs.Core.{CoreState}
use Rattle.circ.specs.Log.Io.{Io}
use Rattle.circ.specs.Log.Log.{Log}
use Rattle.circ.specs.declared.log.calls.IoCall.{IoCall}
use Rattle.wal_calls.specs.Callers.Steps.{ComesBack, GoesOut, HasStepped}
use Rattle.wal_calls.specs.declared.callers.stepped.Stepped.TheVariants.{Next, Done}
use Rattle.wal_calls.specs.Seats.Sides.{gone}

module _ (may : Log → Bool) (Goes : GoesOut) (Comes : ComesBack) (old new : CoreState) (later : Option Bool) where
  pub gone_next : (out : Option Io) (made : Option Bool) (call : IoCall) (next : Option Io)
      → HasStepped may Goes Comes old out made (Some (Next call)) new next later → gone out next ≡ 1
  gone_next None made call (Some io) is = refl
  gone_next None made call None is = absurd is
  gone_next (Some io) (Some ok) call next is = absurd is
  gone_next (Some io) None call next is = absurd is

  pub gone_done : (out : Option Io) (made : Option Bool) (ok : Bool) (next : Option Io)
      → HasStepped may Goes Comes old out made (Some (Done ok)) new next later → gone out next ≡ 0
  gone_done None made ok next is = absurd is
  gone_done (Some io) made ok next is = refl

  pub gone_idle : (out : Option Io) (made : Option Bool) (next : Option Io)
      → HasStepped may Goes Comes old out made None new next later → gone out next ≡ 0
  gone_idle None made next is = ap (gone None) is.1
  gone_idle (Some io) made next is = refl

-- what stays out wasn't handed out now
pub gone_still : (out : Option Io) → gone out out ≡ 0
gone_still None = refl
gone_still (Some io) = refl
