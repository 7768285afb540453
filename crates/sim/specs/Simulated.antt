-- What comes of a script: what is printed, command by command.
use Rattle.std.specs.Prelude.{◌≡◌, ◌⊎◌, ◌+◌, ◌-◌, ◌^◌, ℕ, Bool, ◌&&◌, true, false, List, [], ◌∷◌, ◌++◌, map, min}
use Rattle.std.specs.Prelude.{length, nat_lt, nat_le, if◌then◌else◌, Ok, Err, Option, Some, None}
use Rattle.std.specs.Io.KnownBytes.{Appends}
use Rattle.disk.specs.Memory.{blocks_of, memory_device, past_of, to_fail}
use Rattle.disk.specs.declared.mem_disk.MemDisk.{MemDisk}
use Rattle.layout.specs.declared.geometry.Geometry.{Geometry}
use Rattle.layout.specs.Geometry.{IsLawful}
use Rattle.base.specs.declared.TheConstants.{BLOCK_BYTES, NANOSECONDS}
use Rattle.nfs_spec.specs.Model.Tree.{Tree}
use Rattle.nfs_types.specs.declared.ctx.Moment.{Moment}
use Rattle.store_images.specs.declared.formatter.FormatFault.{FormatFault}
use Rattle.store_promise.specs.Headline.{IsPromised}
use Rattle.store_promise.specs.Openings.{IsFormatted}
use Rattle.store_promise.specs.Transcript.{Report}
use Rattle.store_promise.specs.declared.fault.OpenFault.{OpenFault}
use Rattle.store.specs.Runs.FormattedRun.{IsNewDevice, IsNotMade}
use Rattle.sim.specs.Crashing.{IsLeft, IsPoked}
use Rattle.sim.specs.Files.{HasScannedFiles, ScannedFiles, scan_lines}
use Rattle.sim.specs.Lines.{boot_line, format_refused_line, open_refused_line}
use Rattle.sim.specs.Replies.{reply_lines}
use Rattle.sim.specs.Segments.{Happened, nothing, with_action, with_show}
use Rattle.sim.specs.declared.stage.Stage.{Stage}
use Rattle.sim.specs.declared.stage.Stage.TheVariants.{First, Open, Stopped, Refused}
use Rattle.sim_words.specs.declared.command.Action.{Action}
use Rattle.sim_words.specs.declared.command.Choice.{Choice}
use Rattle.sim_words.specs.declared.command.Command.{Command}
use Rattle.sim_words.specs.declared.command.Command.TheVariants as command
use Rattle.sim_words.specs.declared.command.TheConstants.{WORKERS}

-- an image was made on a new device at a moment
pub record IsImage (moment : Moment) (blocks inodes : ℕ) (disk : MemDisk) : Type 0 where
  pub empty : MemDisk
  pub is_new : IsNewDevice blocks (memory_device empty)
  pub geometry : Geometry
  pub lawful : IsLawful blocks inodes
  pub blocks_are : geometry.blocks ≡ blocks
  pub inodes_are : geometry.inodes ≡ inodes
  pub formatted : IsFormatted (memory_device empty) (memory_device disk) geometry moment

-- the number of a device call among all of a device, up to the greatest number, where it is counted behind others
abbrev pub number_behind : ℕ → ℕ → ℕ
number_behind calls call = min (calls + call) (2 ^ 64 - 1)

-- the device at an opening, which lets further calls fail, counted behind those that it has made
pub record IsFailing (fails : List ℕ) (disk failing : MemDisk) : Type 0 where
  pub blocks : blocks_of failing ≡ blocks_of disk
  pub past : past_of failing ≡ past_of disk
  pub more : to_fail failing ≡ to_fail disk ++ map (number_behind (memory_device disk).clock) fails

-- what happened was a run of the store, which keeps its promise and took all events; what it tells is printed
pub record IsRun (disk : MemDisk) (happened : Happened) (left : MemDisk) (printed : List ℕ) : Type 0 where
  pub seen : MemDisk
  pub scanned_files : ScannedFiles
  pub before : MemDisk
  pub report : Report
  pub looks : HasScannedFiles happened.shows disk seen scanned_files
  pub fails : IsFailing happened.fails seen before
  pub promised : (tree : Tree) (first : ℕ) → IsPromised (Unit {0}) (memory_device before) (memory_device left) tree
      first WORKERS happened.events (Ok report)
  pub all : length report.run_transcript.steps ≡ length happened.events
  pub prints : printed ≡ boot_line report.run_transcript.boot ++ scan_lines scanned_files
      ++ reply_lines happened.handed report.run_transcript.steps report.run_transcript.answers

-- or the image was refused, and that is printed
pub record IsRefusal (disk : MemDisk) (happened : Happened) (printed : List ℕ) : Type 0 where
  pub seen : MemDisk
  pub scanned_files : ScannedFiles
  pub before : MemDisk
  pub left : MemDisk
  pub fault : OpenFault
  pub looks : HasScannedFiles happened.shows disk seen scanned_files
  pub fails : IsFailing happened.fails seen before
  pub promised : (tree : Tree) (first : ℕ) → IsPromised (Unit {0}) (memory_device before) (memory_device left) tree
      first WORKERS happened.events (Err fault)
  pub prints : printed ≡ open_refused_line fault

-- what is known to be written grows by something of which this holds
abbrev pub Prints : Option (List ℕ) → Option (List ℕ) → (List ℕ → Type 0) → Type 0
Prints written written' holds = (printed : List ℕ) × Appends written written' printed × holds printed

-- one of the two was printed: of a run, whose device is handed back, or of a refusal
abbrev pub HasPlayed : MemDisk → Happened → Option MemDisk → List ℕ → Type 0
HasPlayed disk happened (Some left) printed = IsRun disk happened left printed
HasPlayed disk happened None printed = IsRefusal disk happened printed

-- nothing came of a command
abbrev pub IsIdle : Stage → Stage → List ℕ → Type 0
IsIdle stage later printed = (later ≡ stage) × (printed ≡ [])

-- an image was made, or refused, and that was printed
abbrev pub IsMade : Moment → ℕ → ℕ → Stage → Stage → List ℕ → Type 0
IsMade moment blocks inodes First later printed =
    ((disk : MemDisk) × IsImage moment blocks inodes disk × (later ≡ Open disk nothing) × (printed ≡ []))
    ⊎ ((fault : FormatFault) × IsNotMade fault blocks inodes × (later ≡ Refused)
    × (printed ≡ format_refused_line fault))
IsMade moment blocks inodes stage later printed = IsIdle stage later printed

-- what a crash left is to be opened
abbrev pub opened : Stage → Stage
opened (Stopped disk) = Open disk nothing
opened stage = stage

-- something more happens to an open store
abbrev pub acted : Moment → Action → Stage → Stage
acted moment action (Open disk happened) = Open disk (with_action moment action happened)
acted moment action stage = stage

-- the files are told, as the opening finds them
abbrev pub shown : Stage → Stage
shown (Open disk happened) = Open disk (with_show happened)
shown stage = stage

-- all that has happened is run, and then the device stops; an image that is refused ends the script
abbrev pub IsStopped : Choice → Stage → Stage → List ℕ → Type 0
IsStopped choice (Open disk happened) later printed =
    ((end : MemDisk) × (left : MemDisk) × IsRun disk happened end printed × IsLeft choice end left
    × (later ≡ Stopped left))
    ⊎ (IsRefusal disk happened printed × (later ≡ Refused))
IsStopped choice stage later printed = IsIdle stage later printed

-- bytes within a block of what a crash left are changed; others are none
abbrev pub is_within : ℕ → ℕ → List ℕ → MemDisk → Bool
is_within block offset bytes disk =
    nat_lt block (length (blocks_of disk)) && nat_le (offset + length bytes) BLOCK_BYTES

abbrev pub IsPokedWhere : Bool → ℕ → ℕ → List ℕ → MemDisk → MemDisk → Type 0
IsPokedWhere true block offset bytes disk poked = IsPoked block offset bytes disk poked
IsPokedWhere false block offset bytes disk poked = poked ≡ disk

abbrev pub HasPoked : ℕ → ℕ → List ℕ → Stage → Stage → List ℕ → Type 0
HasPoked block offset bytes (Stopped disk) later printed = (poked : MemDisk) × (later ≡ Stopped poked)
    × (printed ≡ []) × IsPokedWhere (is_within block offset bytes disk) block offset bytes disk poked
HasPoked block offset bytes stage later printed = IsIdle stage later printed

-- What a command prints at a moment, and how the script stands then. One that may not stand there does nothing.
abbrev pub Does : Moment → Stage → Command → Stage → List ℕ → Type 0
Does moment stage (command.Time next) later printed = IsIdle stage later printed
Does moment stage (command.Image blocks inodes) later printed = IsMade moment blocks inodes stage later printed
Does moment stage command.Open later printed = (later ≡ opened stage) × (printed ≡ [])
Does moment stage (command.Act action) later printed = (later ≡ acted moment action stage) × (printed ≡ [])
Does moment stage (command.Crash choice) later printed = IsStopped choice stage later printed
Does moment stage (command.Poke block offset bytes) later printed = HasPoked block offset bytes stage later printed
Does moment stage command.Show later printed = (later ≡ shown stage) × (printed ≡ [])

-- a moment that has a second of nanoseconds or more is none
abbrev pub next_moment : Moment → Moment → Moment
next_moment next moment = if nat_lt next.nanoseconds NANOSECONDS then next else moment

-- the moment of what follows
abbrev pub moment_after : Command → Moment → Moment
moment_after (command.Time next) moment = next_moment next moment
moment_after _ moment = moment

-- what is still to be printed at the end of a script
abbrev pub Ends : Stage → List ℕ → Type 0
Ends (Open disk happened) printed =
    ((left : MemDisk) × IsRun disk happened left printed) ⊎ IsRefusal disk happened printed
Ends stage printed = printed ≡ []

-- what commands print, one after another, up to the end
unfoldable pub Comes : Moment → Stage → List Command → List ℕ → Type 0
Comes moment stage [] printed = Ends stage printed
Comes moment stage (it ∷ commands) printed = (later : Stage) × (now : List ℕ) × (more : List ℕ)
    × Does moment stage it later now × Comes (moment_after it moment) later commands more × (printed ≡ now ++ more)

-- what a script prints
abbrev pub IsPlayed : List Command → List ℕ → Type 0
IsPlayed commands printed = Comes (record { seconds = 0; nanoseconds = 0 }) First commands printed
