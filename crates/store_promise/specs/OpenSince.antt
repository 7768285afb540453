-- A store that has been open for some entries, some of which are home by now; and what a step of it may rest
-- on.
use Rattle.std.specs.Prelude.{◌≡◌, ℕ, ◌-◌, ◌<◌, ◌≤◌, List, length, take, drop}
use Rattle.disk.specs.Crash.{Image, IsCrashImage}
use Rattle.disk.specs.Device.{Device}
use Rattle.nfs_spec.specs.Model.Entry.{Entry}
use Rattle.nfs_spec.specs.Procedures.After.{after}
use Rattle.nfs_spec.specs.Model.Tree.{Tree}
use Rattle.layout.specs.declared.geometry.Geometry.{Geometry}
use Rattle.layout.specs.declared.version.FormatVersion.TheVariants.{Second}
use Rattle.layout.specs.Homes.{homes_of}
use Rattle.layout.specs.Stands.{Stands}
use Rattle.procs.specs.SoundCalls.{SoundCall}
use Rattle.procs.specs.Outcome.{Outcome}
use Rattle.procs.specs.Steps.{IsStepOf}
use Rattle.circ.specs.Log.Calls.{Pending}
use Rattle.circ.specs.Log.Overlay.{over}
use Rattle.circ.specs.Log.Log.{IsLawful, installed_place, settled_place}
use Rattle.txn_law.specs.Commit.{Planned}
use Rattle.txn_law.specs.Core.{CoreState}
use Rattle.txn_law.specs.CoreWindow.{IsHomeOf}
use Rattle.txn_law.specs.WellFormed.{IsWellFormed}
use Rattle.txn_law.specs.Window.{after_commits, opening}
use Rattle.store_promise.specs.Openings.{AtEachStop}
use Rattle.store_promise.specs.OpenStore.{IsBoot, IsOpenOver}
use Rattle.store_promise.specs.Prefix.{HasPrefix}

-- The files were a tree when the store was opened, and each commit since has its entry. Those that are home
-- lead to the tree at home, over which the store is open with the others. The core has the boot number.
pub record IsOpenSince (base : Image) (d : Device) (core : CoreState) (logging installing : Pending) (boot : ℕ)
    (first : Tree) (entries : List Entry) (last : Tree) : Type 0 where
  pub counted : length entries ≡ core.log.places
  pub boot_is : core.boot ≡ boot
  pub home : Tree
  pub leads : after first (take (installed_place core.log) entries) home
  pub over : IsOpenOver base d core logging installing boot home (drop (installed_place core.log) entries) last

-- The blocks that stand for the files: what is at home under the log that the opening found, and after the
-- commits since.
abbrev pub file_blocks : Image → CoreState → Image
file_blocks base core = after_commits (homes_of core.log.blocks (opening base core.log)) core.records

-- the blocks after so many of the commits that aren't home
abbrev pub blocks_after : Image → CoreState → ℕ → Image
blocks_after base core count =
    after_commits (homes_of core.log.blocks (opening base core.log)) (take count core.records)

-- they stand for this tree, in an image of the newest version and of the core's counts
pub record HasFileBlocks (base : Image) (core : CoreState) (tree : Tree) : Type 0 where
  pub geometry : Geometry
  pub newest : geometry.version ≡ Second
  pub blocks : geometry.blocks ≡ core.log.blocks
  pub inodes : geometry.inodes ≡ core.inodes
  pub stands : Stands geometry (file_blocks base core) tree

-- a core is sound over what is at home: so its type keeps it, and each of its methods leads from home to home
pub record IsSoundCore (base : Image) (core : CoreState) : Type 0 where
  pub lawful : IsLawful core.log
  pub well_formed : IsWellFormed core
  pub home : IsHomeOf base core

-- a step has left the log, the commits, the counts and the boot number as they were
pub record LeavesLogUnchanged (old new : CoreState) : Type 0 where
  pub log : new.log ≡ old.log
  pub inodes : new.inodes ≡ old.inodes
  pub records : new.records ≡ old.records
  pub boot : new.boot ≡ old.boot

-- what comes of the entry's call, by the change that is committed
abbrev pub outcome_of : Planned → Entry → Outcome
outcome_of plan entry = record {
  ctx = entry.ctx;
  asked = entry.call;
  reply = entry.reply;
  read = plan.read;
  written = plan.written;
  blocks = plan.blocks;
  inodes = plan.inodes;
}

-- An entry tells of this change: its call was made in this boot and can be spelled, and what comes of it is
-- a step of the sequential server, in an image of the newest version and of the change's counts.
pub record TellsOf (boot : ℕ) (plan : Planned) (entry : Entry) : Type 0 where
  pub boot_is : entry.ctx.boot ≡ boot
  pub sound : SoundCall entry.ctx.credential entry.ctx.moment entry.call
  pub geometry : Geometry
  pub newest : geometry.version ≡ Second
  pub blocks : plan.blocks ≡ geometry.blocks
  pub inodes : plan.inodes ≡ geometry.inodes
  pub step : IsStepOf geometry entry.ctx entry.call (outcome_of plan entry)

-- What a stop leaves is good, and has the files after a beginning of the entries, in which is each settled
-- place.
abbrev pub LeavesBeginning : ℕ → ℕ → Tree → List Entry → ℕ → Image → Type 0
LeavesBeginning size boot first entries settled image =
    HasPrefix size (IsBoot boot) first entries (length entries) (λ place. place ≤ settled) image

-- what a stop leaves of an open store has besides the blocks after those entries
pub record LeavesBlocks (base : Image) (core : CoreState) (boot : ℕ) (first : Tree) (entries : List Entry)
    (image : Image) : Type 0 where
  pub files : LeavesBeginning core.log.blocks boot first entries (settled_place core.log) image
  pub behind : installed_place core.log ≤ files.count
  pub homes : homes_of core.log.blocks (over image) ≡ blocks_after base core
      (files.count - installed_place core.log)

-- so it was whenever a call of the device was next, from one device on, but for what is next now
abbrev pub HasPreservedFiles : Device → Device → ℕ → Tree → List Entry → ℕ → Type 0
HasPreservedFiles before d boot first entries settled = (clock : ℕ) (image : Image) → before.clock ≤ clock
    → clock < d.clock → IsCrashImage d clock image → LeavesBeginning d.size boot first entries settled image

-- and so it is now
abbrev pub PreservesFiles : Device → Device → ℕ → Tree → List Entry → ℕ → Type 0
PreservesFiles before d boot first entries settled =
    AtEachStop before d (λ clock image. LeavesBeginning d.size boot first entries settled image)
