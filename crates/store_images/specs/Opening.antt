-- What comes of opening a store.
use Rattle.std.specs.Prelude.{◌≡◌, ℕ, ◌+◌, ◌≤◌, false, length, Result, Ok, Err}
use Rattle.base.specs.declared.TheConstants.{MOST_UNINSTALLED_COMMITS}
use Rattle.disk.specs.Crash.{Image, IsAtRest, IsCrashImage}
use Rattle.disk.specs.Device.{Device}
use Rattle.nfs_spec.specs.Model.Tree.{Tree}
use Rattle.wal.specs.Log.{settled_place}
use Rattle.txn.specs.Core.{CoreState}
use Rattle.layout.specs.Geometry.{IsLawful}
use Rattle.store_images.specs.Settling.{IsIdle}
use Rattle.store_promise.specs.declared.fault.OpenFault.{OpenFault}
use Rattle.store_promise.specs.GoodImage.{IsGoodImage}
use Rattle.store_promise.specs.Openings.{IsOpened, IsRefused}
use Rattle.store_promise.specs.OpenStore.{IsNewOver}

-- an open store: its device, its core and its boot number
pub record Opened : Type 0 where
  pub device : Device
  pub core : CoreState
  pub boot : ℕ

abbrev pub store_of : Device → CoreState → ℕ → Opened
store_of device core boot = record { device = device; core = core; boot = boot }

-- every change is settled, not too many commits are kept, and no write or barrier has failed
pub record IsSettled (core : CoreState) : Type 0 where
  pub settled : settled_place core.log ≡ core.log.places
  pub is_preserved : length core.records ≤ MOST_UNINSTALLED_COMMITS
  pub sound : core.log.broken ≡ false

-- A device is at rest, and the image that it holds is good, with this tree and this boot number.
pub record HoldsTree (d : Device) (tree : Tree) (first : ℕ) : Type 0 where
  pub rest : IsAtRest d
  pub good : (image : Image) → IsCrashImage d d.clock image → IsGoodImage d.size image tree first

-- what an opening answers: the store, or the device with the fault
abbrev pub Opening : Type 0
Opening = Result Opened (Device × OpenFault)

-- what is known of a store that was opened
abbrev pub IsOpening : Opening → Type 0
IsOpening (Ok store) = IsIdle store.core × (store.device.size ≡ store.core.log.blocks)
    × IsLawful store.core.log.blocks store.core.inodes
IsOpening (Err refused) = Unit {0}

-- What comes of opening a device that holds this tree: the tree stays at each stop, and the store that is
-- answered is a new one over it, with the next boot number; or it was refused for a cause that a good image
-- may have.
abbrev pub Opens : Device → Opening → Tree → ℕ → Type 0
Opens before (Ok store) tree first = (store.boot ≡ first + 1) × (position : ℕ)
    × IsOpened before store.device tree first position
    × (base : Image) × IsNewOver base store.device store.core
Opens before (Err refused) tree first = IsRefused before refused.0 tree first refused.1

-- A device was to be opened, and this was answered. As its body can't be used elsewhere, it is known of just
-- what `open` answers.
pub HasOpened : Device → Opening → Type 0
HasOpened device answer = IsOpening answer

-- for the proof of `open` alone
pub has_opened : (device : Device) (answer : Opening) → IsOpening answer → HasOpened device answer
unfolding HasOpened
has_opened device answer opening = opening
