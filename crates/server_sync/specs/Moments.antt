-- The moments of calls: each is later than the one before it.
use Rattle.std.specs.Prelude.{ℕ, ◌+◌, ◌*◌, ◌<◌, Option, Some, None}
use Rattle.base.specs.declared.TheConstants.{NANOSECONDS}
use Rattle.nfs_types.specs.declared.ctx.Moment.{Moment}

-- the nanoseconds from 1970 to a moment
abbrev pub since_1970 : Moment → ℕ
since_1970 moment = moment.seconds * NANOSECONDS + moment.nanoseconds

-- the greatest moment: one nanosecond more takes seconds of more than 32 bits
abbrev pub greatest : Moment
greatest = record { seconds = 4294967295; nanoseconds = 999999999 }

-- what the clock tells is later than this moment
abbrev pub IsPast : Moment → Option Moment → Type 0
IsPast last None = ⊥
IsPast last (Some now) = since_1970 last < since_1970 now
