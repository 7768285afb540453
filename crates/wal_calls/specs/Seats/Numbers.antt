-- The device calls that the core hands out, by their numbers, and what a port has made of them.
use Rattle.std.specs.Prelude.{◌≡◌, ℕ, zero, suc, List, Bool, Result, is_ok, length, map, [], ◌∷◌, ◌++◌}
use Rattle.std.specs.Prelude.{Option, Some, None}
use Rattle.disk.specs.Overlap.{DeviceCall}
use Rattle.disk.specs.Ports.{AnsweredCalls}
use Rattle.disk.specs.declared.device.Failed.{Failed}
use Rattle.wal.specs.OnPorts.{call_with, port_call}
use Rattle.circ.specs.Log.Io.{Io}
use Rattle.wal_calls.specs.declared.seats.due.Shown.{Shown}
use Rattle.wal_calls.specs.declared.seats.handed.HandedOut.{HandedOut}

-- the number of a value, in the order in which they were handed out, from 1
abbrev pub number_of : HandedOut → ℕ
number_of handed = length handed.number.value.items

-- values with their port's answers
abbrev pub Taken : Type 0
Taken = List (HandedOut × Result Unit Failed)

abbrev pub numbers : Taken → List ℕ
numbers taken = map (λ one. number_of one.0) taken

-- 1 to n
abbrev pub upto : ℕ → List ℕ
upto zero = []
upto (suc n) = upto n ++ suc n ∷ []

-- one where a call is out and wasn't made
abbrev pub due : Option Io → Option Bool → ℕ
due None made = 0
due (Some io) None = 1
due (Some io) (Some ok) = 0

-- the call to make is shown: the one that is out, where it wasn't made
abbrev pub IsShown : Option Io → Option Bool → Option Shown → Type 0
IsShown None made shown = shown ≡ None
IsShown (Some io) None (Some shown) = (shown.call ≡ io.call) × (shown.content.value ≡ io.content)
IsShown (Some io) None None = ⊥
IsShown (Some io) (Some ok) shown = shown ≡ None

-- a value as a call of a port
abbrev pub made_of : HandedOut × Result Unit Failed → DeviceCall × Result Unit Failed
made_of one = (call_with one.0.call one.0.content.value, one.1)

-- The port has made exactly the calls of these values, in their order, and each has the port's answer.
abbrev pub IsTied : AnsweredCalls → Taken → Type 0
IsTied calls taken = calls ≡ map made_of taken

-- A call that is out and wasn't made is made, and its answer is kept; else no call is made.
abbrev pub MakesCall : Option Io → Option Bool → Option Bool → AnsweredCalls → AnsweredCalls → Type 0
MakesCall (Some io) None (Some ok) old new = (answer : Result Unit Failed) × (is_ok answer ≡ ok)
    × (new ≡ old ++ (port_call io, answer) ∷ [])
MakesCall (Some io) None None old new = ⊥
MakesCall (Some io) (Some ok) later old new = (later ≡ Some ok) × (new ≡ old)
MakesCall None made later old new = (later ≡ made) × (new ≡ old)
