-- What is made of a call that is out.
use Rattle.std.specs.Prelude.{◌≡◌, ◌∷◌, ◌++◌, [], Bool, false, Option, Some, None, Result, is_ok}
use Rattle.disk.specs.Device.{CountsFailure, Device}
use Rattle.disk.specs.Ports.{AnsweredCalls}
use Rattle.disk.specs.declared.device.Failed.{Failed}
use Rattle.wal.specs.OnPorts.{port_call}
use Rattle.circ.specs.Log.Io.{HasMade, Io, IsCallWithin}
use Rattle.circ.specs.declared.log.calls.IoCall.{IoCall}

-- the call was made, and answered Ok
abbrev pub answered_ok : Option Bool → Bool
answered_ok None = false
answered_ok (Some ok) = ok

-- the call to make is this: the one that is out, where it wasn't made
abbrev pub IsDue : Option Io → Option Bool → Option IoCall → Type 0
IsDue None made due = due ≡ None
IsDue (Some io) None due = due ≡ Some io.call
IsDue (Some io) (Some ok) due = due ≡ None

-- what a call of a side does to the device, whose answer this is
abbrev pub CallIsMade : Type 1
CallIsMade = Device → Io → Result Unit Failed → Device → Type 0

-- A call was made on the device, which answered Ok or not.
pub record IsAnswered (IsMade : CallIsMade) (old : Device) (io : Io) (ok : Bool) (new : Device) : Type 0 where
  pub answer : Result Unit Failed
  pub ok_is : ok ≡ is_ok answer
  pub call : HasMade old io answer new
  pub failure : CountsFailure old new answer
  pub law : IsMade old io answer new

-- A call that lies on the device was made on it; one that doesn't has failed.
pub record IsMadeOn (IsMade : CallIsMade) (old : Device) (io : Io) (ok : Bool) (new : Device) : Type 0 where
  pub within : IsCallWithin old.size io.call → IsAnswered IsMade old io ok new
  pub beyond : (IsCallWithin old.size io.call → ⊥) → (ok ≡ false) × (new ≡ old)

-- A call that is out and wasn't made is made on the device, and its answer is kept; else nothing is done.
abbrev pub IsTried : CallIsMade → Device → Option Io → Option Bool → Option Bool → Device → Option Bool → Type 0
IsTried IsMade old (Some io) None (Some ok) new later = IsMadeOn IsMade old io ok new × (later ≡ Some ok)
IsTried IsMade old (Some io) None None new later = ⊥
IsTried IsMade old (Some io) (Some ok) step_result new later = (step_result ≡ None) × (new ≡ old) × (later ≡ Some ok)
IsTried IsMade old None made step_result new later = (step_result ≡ None) × (new ≡ old) × (later ≡ made)

-- the same on a port
abbrev pub IsTriedOn : AnsweredCalls → Option Io → Option Bool → Option (Result Unit Failed) → AnsweredCalls
    → Option Bool → Type 0
IsTriedOn old (Some io) None (Some answer) new later =
    (new ≡ old ++ (port_call io, answer) ∷ []) × (later ≡ Some (is_ok answer))
IsTriedOn old (Some io) None None new later = ⊥
IsTriedOn old (Some io) (Some ok) step_result new later = (step_result ≡ None) × (new ≡ old) × (later ≡ Some ok)
IsTriedOn old None made step_result new later = (step_result ≡ None) × (new ≡ old) × (later ≡ made)
