-- What steps tell of the device calls that failed.
use Rattle.std.specs.Prelude.{◌≡◌, ℕ, ◌+◌, Bool, true, if◌then◌else◌, List, [], ◌∷◌, Option}
use Rattle.store_promise.specs.declared.events.Step.{Step}
use Rattle.store_promise.specs.Transcript.{calls_device, fails}

-- one where it is so, and none where it isn't
abbrev pub one_if : Bool → ℕ
one_if is = if is then 1 else 0

-- a step that makes the device call of this number tells that it failed just where it did
abbrev pub TellsFailure : (ℕ → Bool) → ℕ → Option Step → Type 0
TellsFailure failed call made = calls_device made ≡ true → failed call ≡ fails made

-- so does each of these steps, of which the first device call has this number
abbrev pub TellEachFailure : (ℕ → Bool) → ℕ → List (Option Step) → Type 0
TellEachFailure failed call [] = Unit {0}
TellEachFailure failed call (made ∷ steps) = TellsFailure failed call made
    × TellEachFailure failed (call + one_if (calls_device made)) steps
