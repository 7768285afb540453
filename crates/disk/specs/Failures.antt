-- Which calls of a device failed, by their numbers.
use Rattle.std.specs.Prelude.{◌≡◌, ℕ, zero, suc, ◌+◌, ◌-◌, Bool, if◌then◌else◌}
use Rattle.disk.specs.Device.{Device}

-- how many of so many calls failed, from this one on
abbrev pub failures_from : (ℕ → Bool) → ℕ → ℕ → ℕ
failures_from failed first zero = 0
failures_from failed first (suc count) = failures_from failed first count
    + (if failed (first + count) then 1 else 0)

-- the failures that are more are those of the calls between
abbrev pub CountsFailures : Device → Device → Type 0
CountsFailures old new = new.failures ≡ old.failures
    + failures_from new.failed old.clock (new.clock - old.clock)
