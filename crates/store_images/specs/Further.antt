-- What the log's side leaves of an open store while it settles: the same entries, over what is at home then.
use Rattle.std.specs.Prelude.{◌≡◌, ℕ, ◌+◌, ◌≤◌, true, List, length}
use Rattle.disk.specs.Crash.{Image}
use Rattle.disk.specs.Device.{Device}
use Rattle.nfs_spec.specs.Model.Entry.{Entry}
use Rattle.nfs_spec.specs.Model.Tree.{Tree}
use Rattle.txn_law.specs.Core.{CoreState}
use Rattle.txn_law.specs.Fetch.{Fetch}
use Rattle.circ.specs.Log.Log.{Log, settled_place}
use Rattle.store_promise.specs.Openings.{IsLater}
use Rattle.store_promise.specs.Running.{IsRunningOver, PreservesTransactions, at_rest}
use Rattle.store_promise.specs.Schedule.{Setting}
use Rattle.store_images.specs.Settling.{HasBroken}

-- the log position behind the last change
abbrev pub end_of : Log → ℕ
end_of log = log.start + length log.changes

-- what is settled stays settled, what is broken stays broken, no number is given back, and no refusal is forgotten
pub record IsFurther (old new : CoreState) : Type 0 where
  pub begun : old.begun ≤ new.begun
  pub refused : old.refused ≤ new.refused
  pub places : old.log.places ≤ new.log.places
  pub positions : end_of old.log ≤ end_of new.log
  pub settled : settled_place old.log ≤ settled_place new.log
  pub broken : old.log.broken ≡ true → new.log.broken ≡ true

-- the same run goes on, with the entries and the reads that there were, over what is at home then
pub record RunsOn (o : Setting) (after : Device) (new : CoreState)
    (fetches : List Fetch) (boot : ℕ) (first : Tree) (entries : List Entry) (last : Tree) : Type 0 where
  pub home : Image
  pub running : IsRunningOver o home (at_rest after new) fetches boot first entries last

-- An open store stays open, whatever is at home, and what transactions have stays. It breaks only with a
-- write or a barrier that failed.
pub record LeavesOpen (before : Device) (old : CoreState) (after : Device) (new : CoreState) : Type 0 where
  pub core : PreservesTransactions old new
  pub further : IsFurther old new
  pub past : IsLater before after
  pub failures : before.failures ≤ after.failures
  pub failed : new.log.broken ≡ true → HasBroken old.log before after
  pub runs : (o : Setting) (base : Image) (fetches : List Fetch) (boot : ℕ) (first last : Tree)
      (entries : List Entry) → IsRunningOver o base (at_rest before old) fetches boot first entries last
      → RunsOn o after new fetches boot first entries last
