-- Recovery that is stopped again and again.
use Rattle.std.specs.Prelude.{◌≡◌, ℕ, suc, ◌+◌, ◌≤◌, List, slice_get, Some}
use Rattle.disk.specs.Crash.{Image, IsAtRest, IsCrashImage}
use Rattle.disk.specs.Device.{Device}
use Rattle.nfs_spec.specs.Model.Tree.{Tree}
use Rattle.store_law.specs.Lives.Life.{LeavesImage}
use Rattle.store_promise.specs.GoodImage.{IsGoodImage}
use Rattle.store_promise.specs.Openings.{PreservesTree}

-- An opening, from a device to what it became, and a crash at a clock of it: at its end, or sooner.
pub record StoppedOpening : Type 0 where
  pub before : Device
  pub later : Device
  pub crash : ℕ

-- the device holds a good image with this tree and this boot number
abbrev pub Holds : Device → Tree → ℕ → Type 0
Holds d tree first = (image : Image) → IsCrashImage d d.clock image → IsGoodImage d.size image tree first

-- What an opening keeps, come what may of it: the tree of a good image stays at each stop.
pub record IsStopped (o : StoppedOpening) : Type 0 where
  pub rest : IsAtRest o.before
  pub preserves : (tree : Tree) (first : ℕ) → Holds o.before tree first → PreservesTree o.before o.later tree first
  pub begun : o.before.clock ≤ o.crash
  pub ended : o.crash ≤ o.later.clock

-- Openings, each of what a crash of the one before left.
pub record AreStopped (openings : List StoppedOpening) : Type 0 where
  pub each : (at : ℕ) (o : StoppedOpening) → slice_get openings at ≡ Some o → IsStopped o
  pub left : (at : ℕ) (o next : StoppedOpening) → slice_get openings at ≡ Some o
      → slice_get openings (suc at) ≡ Some next → LeavesImage o.later o.crash next.before

-- a good image with this tree, whose boot number has risen by so many at most
pub record StaysGood (size first most : ℕ) (tree : Tree) (image : Image) : Type 0 where
  pub boot : ℕ
  pub least : first ≤ boot
  pub risen : boot ≤ first + most
  pub good : IsGoodImage size image tree boot
