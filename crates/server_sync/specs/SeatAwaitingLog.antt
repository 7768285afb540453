-- Seats that wait for their places to be settled, in the order in which they came.
use Rattle.std.specs.Prelude.{◌≡◌, ◌<◌, ◌≤◌, ◌++◌, ◌∷◌, ℕ, List, All}
use Rattle.server_sync.specs.declared.free_keys.SeatKey.{SeatKey}
use Rattle.server_sync.specs.declared.waiting.SeatAwaitingLog.{SeatAwaitingLog}

-- each of them waits for a place that isn't settled
abbrev pub AllWait : ℕ → List SeatAwaitingLog → Type 0
AllWait settled seats = All (λ s. settled < s.place) seats

-- this seat is the first whose place is settled, and the rest are all others, in their order
abbrev pub IsFirstSettled : ℕ → List SeatAwaitingLog → SeatKey → List SeatAwaitingLog → Type 0
IsFirstSettled settled seats seat rest = (before : List SeatAwaitingLog) × (after : List SeatAwaitingLog) × (place : ℕ)
    × (seats ≡ before ++ record { place = place; seat = seat } ∷ after)
    × (rest ≡ before ++ after)
    × (place ≤ settled)
    × AllWait settled before
