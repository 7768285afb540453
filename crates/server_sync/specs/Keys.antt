-- The keys of seats.
use Rattle.std.specs.Prelude.{◌≡◌, ◌≢◌, ◌<◌, ℕ, List, map}
use Rattle.std.specs.List.{All, AllPairs, Any}
use Rattle.server_sync.specs.declared.free_keys.SeatKey.{SeatKey}

-- the numbers of their seats
abbrev pub numbers_of : List SeatKey → List ℕ
numbers_of keys = map (λ key. key.number) keys

-- no two are of one seat
abbrev pub AreApart : List SeatKey → Type 0
AreApart keys = AllPairs (λ key other. key.number ≢ other.number) keys

-- each is of a seat below the count
abbrev pub AreOfSeats : ℕ → List SeatKey → Type 0
AreOfSeats count keys = All (λ key. key.number < count) keys

-- one of them is of the seat with this number
abbrev pub HasKeyOf : List SeatKey → ℕ → Type 0
HasKeyOf keys number = Any (λ key. key.number ≡ number) keys
