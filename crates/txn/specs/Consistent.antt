-- What is true of the lists of every core: each block is pinned once for each hold of a part of it and once for each
-- object that a kept commit read in it, each block in memory that the log has is what the log has, and each commit
-- that is kept is still to be installed, and read no more than a list may have. What isn't pinned may stay in memory.
use Rattle.std.specs.Prelude.{◌≡◌, ℕ, ◌+◌, ◌<◌, ◌≤◌, Some, List, All}
use Rattle.disk.specs.Device.{Content}
use Rattle.disk.specs.declared.block.BlockNo.{BlockNo}
use Rattle.circ.specs.Log.Log.{Log, installed_place, newest}
use Rattle.txn_law.specs.Core.{CoreState}
use Rattle.txn_law.specs.Window.{Footprint}
use Rattle.txn_law.specs.declared.hold.Hold.{Hold}
use Rattle.objects.specs.Pins.{Residents, pins_of}
use Rattle.objects.specs.declared.present.Present.{Present}
use Rattle.txn.specs.Pinned.{AreFew, holds_in, reads_in}

-- where the log has the block, its content there is in memory, and no fetch of it is pending
abbrev pub IsAsLogged : Log → Present → Type 0
IsAsLogged log resident =
    (content : Content) → newest log resident.block.0 ≡ Some content → resident.content ≡ Some content

-- the commit's place is past what is installed, and one of the log's
abbrev pub IsToInstall : Log → Footprint → Type 0
IsToInstall log commit = (installed_place log < commit.place) × (commit.place ≤ log.places)

pub record IsConsistent (log : Log) (holds : List Hold) (records : List Footprint) (residents : Residents)
    : Type 0 where
  pub counted : (at : BlockNo) → pins_of residents at ≡ holds_in holds at + reads_in records at
  pub logged : All (IsAsLogged log) residents.blocks
  pub kept : All (IsToInstall log) records
  pub few : AreFew records

-- the core that has these parts
abbrev pub core_of : Log → ℕ → ℕ → List ℕ → List Hold → List Present → List Footprint → ℕ → ℕ → ℕ → ℕ → CoreState
core_of log inodes begun out holds present records boot log_calls inst_calls refused = record {
  log = log;
  inodes = inodes;
  begun = begun;
  out = out;
  holds = holds;
  present = present;
  records = records;
  boot = boot;
  log_calls = log_calls;
  inst_calls = inst_calls;
  refused = refused;
}
