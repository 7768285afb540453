-- What a store promises of a whole run, on a device that keeps its model.
use Rattle.std.specs.Prelude.{◌≡◌, ℕ, ◌+◌, ◌<◌, ◌≤◌, List, take, length, count_by, Contains}
use Rattle.std.specs.Prelude.{Result, Ok, Err}
use Rattle.disk.specs.Crash.{Image, IsAtRest, IsCrashImage}
use Rattle.disk.specs.Device.{Device}
use Rattle.layout.specs.declared.geometry.Geometry.{Geometry}
use Rattle.layout.specs.declared.version.FormatVersion.TheVariants.{Second}
use Rattle.layout.specs.Homes.{homes_of}
use Rattle.layout.specs.Stands.{Stands}
use Rattle.nfs_spec.specs.Model.Entry.{Entry}
use Rattle.nfs_spec.specs.Procedures.After.{after}
use Rattle.nfs_spec.specs.Model.Tree.{Tree}
use Rattle.circ.specs.Log.Overlay.{over}
use Rattle.store_promise.specs.declared.fault.OpenFault.{OpenFault}
use Rattle.store_promise.specs.declared.transcript.Answer.{Answer}
use Rattle.store_promise.specs.Changes.{ChangeTheirOwn}
use Rattle.store_promise.specs.DeviceCalls.{DoEachStep}
use Rattle.store_promise.specs.FailedCalls.{TellEachFailure}
use Rattle.store_promise.specs.GoodImage.{IsGoodImage}
use Rattle.store_promise.specs.History.{IsHistory}
use Rattle.store_promise.specs.LogState.{state_settled}
use Rattle.store_promise.specs.Openings.{AtEachStop, IsBootOf, IsLater, IsOpened, IsRefused, LeavesImages}
use Rattle.store_promise.specs.Prefix.{HasPrefix}
use Rattle.store_promise.specs.Schedule.{Schedule, Setting, SoundEvents, state_before}
use Rattle.store_promise.specs.EventSteps.{AreTaken}
use Rattle.store_promise.specs.Transcript.{Transcript, Report, entries_of, device_calls, commits_by, fails}
use Rattle.store_promise.specs.Verdicts.{IsStableAnswer, IsCoveredWrite, AreAnswers}

-- The procedure of a place was promised to last by a clock, of a run whose events began at another: it was
-- answered as stable by then, or is a write that an answer to a COMMIT covers, or the steps told it as settled.
pub data WasPromised (events : Schedule) (start : ℕ) (t : Transcript) (clock place : ℕ) : Type 0 where
  by_answer : (a : Answer) → Contains t.answers a → start + a.clock ≤ clock → IsStableAnswer t a place
      → WasPromised events start t clock place
  by_commit : (a : Answer) → Contains t.answers a → start + a.clock ≤ clock → IsCoveredWrite t a place
      → WasPromised events start t clock place
  by_steps : (index : ℕ) → index ≤ length t.steps → start + device_calls t index ≤ clock
      → place ≤ state_settled (state_before events t.steps index).log → WasPromised events start t clock place

-- the boot number is that before the opening, or that of it, and the latter once the opening has ended
pub record IsBootBy (first start clock boot : ℕ) : Type 0 where
  pub either : IsBootOf first boot
  pub boot_incremented : start ≤ clock → boot ≡ first + 1

-- What a stop at a clock leaves has a prefix of the history, committed by then, that holds what was promised to
-- last.
abbrev pub LeavesPrefix : ℕ → ℕ → Tree → Schedule → ℕ → Transcript → ℕ → Image → Type 0
LeavesPrefix size first tree events start t clock image =
    HasPrefix size (IsBootBy first start clock) tree (entries_of t) (commits_by start t clock)
    (WasPromised events start t clock) image

-- And once the opening has ended its homes are the blocks that stand for those files.
pub record LeavesFiles (size first : ℕ) (tree : Tree) (events : Schedule) (start : ℕ) (t : Transcript)
    (blocks : ℕ → Image) (clock : ℕ) (image : Image) : Type 0 where
  pub prefix : LeavesPrefix size first tree events start t clock image
  pub homes : start ≤ clock → homes_of size (over image) ≡ blocks prefix.count

-- the geometry of an open image of so many blocks that has this tree: it has the newest version
pub record IsGeometryOf (size : ℕ) (tree : Tree) (g : Geometry) : Type 0 where
  pub blocks : g.blocks ≡ size
  pub inodes : g.inodes ≡ tree.geometry.inodes
  pub newest : g.version ≡ Second

-- the blocks stand for the tree that the entries lead to
pub record StandsAfter (g : Geometry) (tree : Tree) (entries : List Entry) (blocks : Image) : Type 0 where
  pub left : Tree
  pub leads : after tree entries left
  pub stands : Stands g blocks left

-- An opening comes first: it went over this device, and nothing of it was taken back behind it.
pub record ComesFirst (before opened later : Device) (tree : Tree) (first : ℕ) (setting : Setting) : Type 0 where
  pub is : IsOpened before opened tree first setting.position
  pub geometry : IsGeometryOf later.size tree setting.geometry
  pub past : IsLater opened later

-- Behind it the device made the calls that the steps tell, and no others.
pub record MakesItsCalls (opened later : Device) (events : Schedule) (t : Transcript) : Type 0 where
  pub clock : later.clock ≡ opened.clock + device_calls t (length t.steps)
  pub failures : later.failures ≡ opened.failures + count_by fails t.steps
  -- each of them is told to have failed just where that very call did
  pub failures_match : TellEachFailure later.failed opened.clock t.steps
  -- and does what its step names
  pub did : DoEachStep later.contents events opened.clock t.steps

-- A stop leaves some image, and whatever it leaves has the tree of a prefix, which holds what was promised to
-- last.
pub record LeavesAPrefix (before opened later : Device) (tree : Tree) (first : ℕ) (events : Schedule)
    (t : Transcript) (setting : Setting) : Type 0 where
  pub some : LeavesImages before later
  pub each : AtEachStop before later
      (LeavesFiles later.size first tree events opened.clock t setting.blocks)

-- The replies are the sequential server's, in the order of the commits.
pub record AnswersInOrder (size : ℕ) (tree : Tree) (first workers : ℕ) (events : Schedule) (t : Transcript)
    (setting : Setting) : Type 0 where
  pub last : Tree
  pub leads : after tree (entries_of t) last
  pub boot : t.boot ≡ first + 1
  pub history : IsHistory events t
  pub answers : AreAnswers events t
  -- events are taken, from the first on
  pub taken : AreTaken setting workers events t.steps
  -- there are blocks that stand for the files after each procedure, which changed only what its transaction had
  -- taken
  pub files : (place : ℕ) → StandsAfter setting.geometry tree (take place (entries_of t)) (setting.blocks place)
  pub changes : ChangeTheirOwn size events t setting.blocks

-- The promise of a run with so many workers, which took events on a device whose image had this tree and this
-- boot number, and left the device as it became.
pub record PreservesPromise (before later : Device) (tree : Tree) (first workers : ℕ) (events : Schedule)
    (t : Transcript) : Type 0 where
  pub opened : Device
  pub setting : Setting
  pub opens : ComesFirst before opened later tree first setting
  pub calls : MakesItsCalls opened later events t
  pub stops : LeavesAPrefix before opened later tree first events t setting
  pub replies : AnswersInOrder later.size tree first workers events t setting

-- What a run stands on: the device keeps its model, is at rest, and holds a good image with this tree and this
-- boot number; and the calls that are handed over can be spelled.
pub record MayRun (keeps_model : Type 0) (before : Device) (tree : Tree) (first : ℕ) (events : Schedule) : Type 0
  where
    pub model : keeps_model
    pub rest : IsAtRest before
    pub good : (image : Image) → IsCrashImage before before.clock image
        → IsGoodImage before.size image tree first
    pub sound : SoundEvents events

-- A run comes to an end: it keeps its promise, and took each event, or fewer where memory was refused to it.
pub record EndsWell (before later : Device) (tree : Tree) (first workers : ℕ) (events : Schedule)
    (report : Report) : Type 0 where
  pub preserves : PreservesPromise before later tree first workers events report.run_transcript
  pub all : length report.run_transcript.steps < length events → 0 < report.refused

-- what comes of a run: what it hands back, or why the store wasn't opened
abbrev pub ComesOfRun : Device → Device → Tree → ℕ → ℕ → Schedule → Result Report OpenFault → Type 0
ComesOfRun before later tree first workers events (Ok report) =
    EndsWell before later tree first workers events report
ComesOfRun before later tree first workers events (Err cause) = IsRefused before later tree first cause

-- What is promised: a run that stands on this keeps its promise, or was refused for a cause that a good image
-- may have.
abbrev pub IsPromised : Type 0 → Device → Device → Tree → ℕ → ℕ → Schedule → Result Report OpenFault
    → Type 0
IsPromised keeps_model before later tree first workers events answer =
    MayRun keeps_model before tree first events
    → ComesOfRun before later tree first workers events answer
