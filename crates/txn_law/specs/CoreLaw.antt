-- What is true of every core.
use Rattle.std.specs.Prelude.{◌≡◌, ℕ, ◌<◌, List, All}
use Rattle.disk.specs.Crash.{Image}
use Rattle.circ.specs.Log.Log.{Log, IsLawful}
use Rattle.txn_law.specs.Core.{CoreState}
use Rattle.txn_law.specs.CoreWindow.{IsHomeOf}
use Rattle.objects.specs.Object.{ObjectBytes}
use Rattle.txn_law.specs.WellFormed.{IsWellFormed}
use Rattle.txn_law.specs.Window.{Footprint}

-- a log in which no commit was made, and of which the installer has taken all or nothing
pub record IsFresh (log : Log) : Type 0 where
  pub places : log.places ≡ 0
  pub installing : 0 < log.installing → log.installing ≡ log.logged

-- what a commit read and wrote is what a plan reads and writes, for an image of these counts
abbrev pub IsPlanned : (ℕ → ℕ → List ObjectBytes → List ObjectBytes → Type 0) → ℕ → ℕ → Footprint → Type 0
IsPlanned is_plan blocks inodes commit = is_plan blocks inodes commit.read commit.written

-- The log is lawful, what transactions have taken and what is in memory is well formed, there are blocks that may be
-- what is at home, and each commit that is kept is a plan's.
pub record IsLawfulCore (is_plan : ℕ → ℕ → List ObjectBytes → List ObjectBytes → Type 0)
    (core : CoreState) : Type 0 where
  pub log : IsLawful core.log
  pub well_formed : IsWellFormed core
  pub home : (base : Image) × IsHomeOf base core
  pub planned : All (IsPlanned is_plan core.log.blocks core.inodes) core.records
