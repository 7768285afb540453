-- Lives of an image, as runs on devices.
use Rattle.std.specs.Prelude.{◌≡◌, ℕ, suc, ◌-◌, ◌≤◌, List, [], length, map, take, slice_get, Some, Result, Ok, Err}
use Rattle.disk.specs.Crash.{Image, IsCrashImage}
use Rattle.disk.specs.Device.{Device}
use Rattle.nfs_spec.specs.Model.Entry.{Entry}
use Rattle.nfs_spec.specs.Model.Tree.{Tree}
use Rattle.nfs_spec.specs.Lives.Lives.{Birth, CountedRun, HasTree}
use Rattle.store_promise.specs.declared.fault.OpenFault.{OpenFault}
use Rattle.store_promise.specs.GoodImage.{IsGoodImage}
use Rattle.store_promise.specs.Headline.{ComesOfRun, MayRun}
use Rattle.store_promise.specs.Schedule.{Schedule}
use Rattle.store_promise.specs.Transcript.{Report, commits_by, device_calls, entries_of}

-- A run that a crash ended: the device as the run found it, with this tree and this boot number, and as it left
-- it; what it was given and what came of it; and at which clock the crash was, at the run's end or sooner.
pub record EndedRun : Type 0 where
  pub before : Device
  pub later : Device
  pub tree : Tree
  pub boot : ℕ
  pub workers : ℕ
  pub events : Schedule
  pub answer : Result Report OpenFault
  pub crash : ℕ

-- It stood on what a run stands on, what is promised came of it, and the crash came while it went on.
pub record WasRun (run : EndedRun) : Type 0 where
  pub stood : MayRun (Unit {0}) run.before run.tree run.boot run.events
  pub came : ComesOfRun run.before run.later run.tree run.boot run.workers run.events run.answer
  pub begun : run.before.clock ≤ run.crash
  pub ended : run.crash ≤ run.later.clock

-- A crash of a device at a clock left an image that another device holds.
pub record LeavesImage (later : Device) (crash : ℕ) (next : Device) : Type 0 where
  pub image : Image
  pub left : IsCrashImage later crash image
  pub found : IsCrashImage next next.clock image
  pub size : next.size ≡ later.size

-- A life of an image: runs, each on an image that a crash of the one before left.
pub record IsLife (life : List EndedRun) : Type 0 where
  pub each : (at : ℕ) (run : EndedRun) → slice_get life at ≡ Some run → WasRun run
  pub left : (at : ℕ) (run next : EndedRun) → slice_get life at ≡ Some run
      → slice_get life (suc at) ≡ Some next → LeavesImage run.later run.crash next.before

-- what had been committed by the crash: where the store was opened, the entries with a clock by then
abbrev pub committed_by : ℕ → ℕ → Result Report OpenFault → List Entry
committed_by later crash (Ok report) =
    take (commits_by (later - device_calls report.run_transcript (length report.run_transcript.steps)) report.run_transcript crash)
    (entries_of report.run_transcript)
committed_by later crash (Err cause) = []

-- the run as far as it counts
abbrev pub counted : EndedRun → CountedRun
counted run = record {
  boot = run.boot;
  tree = run.tree;
  entries = committed_by run.later.clock run.crash run.answer;
}

abbrev pub counted_runs : List EndedRun → List CountedRun
counted_runs life = map counted life

-- an image that a run of a life left is good, and its tree is one of the life, with its births
pub record HasTreeOf (life : List EndedRun) (at size : ℕ) (image : Image) : Type 0 where
  pub tree : Tree
  pub boot : ℕ
  pub good : IsGoodImage size image tree boot
  pub place : ℕ
  pub births : ℕ → Birth
  pub has : HasTree (counted_runs life) at place tree births
