-- What each stop leaves of an open store while it settles.
use Rattle.std.specs.Prelude.{◌≡◌, ℕ, ◌≤◌, List, [], ◌∷◌}
use Rattle.disk.specs.Crash.{Image, IsCrashImage}
use Rattle.disk.specs.Device.{Device, OneLater}
use Rattle.nfs_spec.specs.Model.Entry.{Entry}
use Rattle.nfs_spec.specs.Model.Tree.{Tree}
use Rattle.circ.specs.Log.Calls.{idle}
use Rattle.circ.specs.Log.Log.{settled_place}
use Rattle.txn_law.specs.Core.{CoreState}
use Rattle.store_promise.specs.Openings.{IsLater, LeavesImages}
use Rattle.store_promise.specs.OpenSince.{HasPreservedFiles, IsOpenSince, PreservesFiles, LeavesBeginning}

-- ---- call by call

-- A store is open for these entries, none of whose device calls is out, and each stop now leaves the files
-- after a beginning of them, in which is each place that is settled now.
pub record IsSettledSo (boot : ℕ) (first : Tree) (entries : List Entry) (last : Tree) (now : Device)
    (core : CoreState) : Type 0 where
  pub base : Image
  pub since : IsOpenSince base now core idle idle boot first entries last
  pub stops : (image : Image) → IsCrashImage now now.clock image
      → LeavesBeginning now.size boot first entries (settled_place core.log) image

-- one device call led to such a store, and no settled place was taken back
pub record GoesOneCall (boot : ℕ) (first : Tree) (entries : List Entry) (last : Tree) (before : Device)
    (old : CoreState) (later : Device) (new : CoreState) : Type 0 where
  pub call : OneLater before later
  pub further : settled_place old.log ≤ settled_place new.log
  pub so : IsSettledSo boot first entries last later new

-- what a device call left
pub record AfterCall : Type 0 where
  pub device : Device
  pub core : CoreState

-- from a store to a later one by these device calls, each of which led to such a store
abbrev pub GoesByCalls : ℕ → Tree → List Entry → Tree → Device → CoreState → List AfterCall → Device → CoreState
    → Type 0
GoesByCalls boot first entries last before old [] later new = (later ≡ before) × (new ≡ old)
GoesByCalls boot first entries last before old (after ∷ rest) later new =
    GoesOneCall boot first entries last before old after.device after.core
    × GoesByCalls boot first entries last after.device after.core rest later new

-- ---- what a settling keeps

-- What holds from one moment to a later one of a store that is open for these entries, none of whose device
-- calls is out at either moment. The store stays open for them. Each stop on the way leaves some image, and
-- each that is left is good, with the boot number and the files after a beginning of the entries, in which is
-- each place that was settled at first; and each stop at the end has in it each place that is settled then.
-- So it is behind each device call on the way: each stop there has in it each place that is settled by then,
-- of which none is taken back.
pub record PreservesPrefix (before : Device) (old : CoreState) (later : Device) (new : CoreState) (boot : ℕ)
    (first : Tree) (entries : List Entry) (last : Tree) : Type 0 where
  pub past : IsLater before later
  pub left : LeavesImages before later
  pub stops : PreservesFiles before later boot first entries (settled_place old.log)
  pub ended : (image : Image) → IsCrashImage later later.clock image
      → LeavesBeginning later.size boot first entries (settled_place new.log) image
  pub further : settled_place old.log ≤ settled_place new.log
  pub calls : List AfterCall
  pub by_calls : GoesByCalls boot first entries last before old calls later new
  pub base : Image
  pub since : IsOpenSince base later new idle idle boot first entries last

-- so it is of any entries for which the store was open
abbrev pub PreservesPrefixes : Device → CoreState → Device → CoreState → Type 0
PreservesPrefixes before old later new = (base : Image) (boot : ℕ) (first last : Tree) (entries : List Entry)
    → IsOpenSince base before old idle idle boot first entries last
    → PreservesPrefix before old later new boot first entries last

-- ---- between its device calls

-- The store has stayed open, each stop before now left the same, and no settled place was taken back, call by
-- call.
pub record StaysOpen (before : Device) (old : CoreState) (later : Device) (new : CoreState) (boot : ℕ)
    (first : Tree) (entries : List Entry) (last : Tree) : Type 0 where
  pub past : IsLater before later
  pub left : HasPreservedFiles before later boot first entries (settled_place old.log)
  pub further : settled_place old.log ≤ settled_place new.log
  pub calls : List AfterCall
  pub by_calls : GoesByCalls boot first entries last before old calls later new
  pub base : Image
  pub since : IsOpenSince base later new idle idle boot first entries last

abbrev pub StayOpen : Device → CoreState → Device → CoreState → Type 0
StayOpen before old later new = (base : Image) (boot : ℕ) (first last : Tree) (entries : List Entry)
    → IsOpenSince base before old idle idle boot first entries last
    → StaysOpen before old later new boot first entries last
