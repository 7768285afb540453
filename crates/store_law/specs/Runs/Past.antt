-- What each stop so far leaves of a run.
use Rattle.std.specs.Prelude.{◌≡◌, ℕ, ◌+◌, ◌<◌, ◌≤◌, length}
use Rattle.disk.specs.Crash.{Image, IsCrashImage}
use Rattle.disk.specs.Device.{Device}
use Rattle.layout.specs.Homes.{homes_of}
use Rattle.nfs_spec.specs.Model.Tree.{Tree}
use Rattle.circ.specs.Log.Overlay.{over}
use Rattle.store_promise.specs.Headline.{IsBootBy}
use Rattle.store_promise.specs.LogState.{state_settled}
use Rattle.store_promise.specs.Prefix.{HasPrefix}
use Rattle.store_promise.specs.Schedule.{Schedule, state_before}
use Rattle.store_promise.specs.Transcript.{Transcript, commits_by, device_calls, entries_of}

-- the steps told the place as settled by a clock, of a run whose events began at another
pub record WasSettledBy (events : Schedule) (start : ℕ) (t : Transcript) (clock place : ℕ) : Type 0 where
  pub index : ℕ
  pub within : index ≤ length t.steps
  pub by : start + device_calls t index ≤ clock
  pub settled : place ≤ state_settled (state_before events t.steps index).log

-- What a stop at a clock leaves has the files after a beginning of the history, committed by then, in which
-- is each place that the steps told as settled by then; and once the opening has ended their blocks.
pub record LeavesSoFar (size first : ℕ) (tree : Tree) (events : Schedule) (start : ℕ) (t : Transcript)
    (blocks : ℕ → Image) (clock : ℕ) (image : Image) : Type 0 where
  pub prefix : HasPrefix size (IsBootBy first start clock) tree (entries_of t) (commits_by start t clock)
      (WasSettledBy events start t clock) image
  pub homes : start ≤ clock → homes_of size (over image) ≡ blocks prefix.count

-- so it was whenever a call of the device was next, but for what is next now
abbrev pub HasLeft : Device → ℕ → ℕ → Tree → Schedule → ℕ → Transcript → (ℕ → Image) → Device → Type 0
HasLeft before size first tree events start t blocks d = (clock : ℕ) (image : Image) → before.clock ≤ clock
    → clock < d.clock → IsCrashImage d clock image
    → LeavesSoFar size first tree events start t blocks clock image
