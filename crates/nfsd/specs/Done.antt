-- What the program does for its arguments: what it prints, and which fault it tells.
use Rattle.std.specs.Prelude.{◌≡◌, ℕ, ◌-◌, ◌≤◌, List, ◌++◌, [], ◌∷◌, Option, Some, None, Result, Ok, Err, OnOk, IfSome, ◌⊎◌, codes, false}
use Rattle.std.specs.Fmt.{decimal}
use Rattle.std.specs.Io.KnownBytes.{Appends}
use Rattle.std.specs.declared.io.Error.{Error}
use Rattle.clap.specs.Words.{Text}
use Rattle.base.specs.declared.TheConstants.{MOST_BLOCKS}
use Rattle.disk_file.specs.declared.file.FirstContents.{FirstContents}
use Rattle.disk.specs.Device.{Device}
use Rattle.disk_file.specs.File.{file_device, first_in}
use Rattle.circ.specs.Log.Log.{settled_place}
use Rattle.txn_law.specs.Core.{CoreState}
use Rattle.nfs_types.specs.declared.ctx.Moment.{Moment}
use Rattle.nfsd_words.specs.declared.Args.{Args}
use Rattle.nfsd_words.specs.declared.Args.TheVariants.{Check, Format, Once, Serve, Show, Sim}
use Rattle.nfsd_words.specs.Words.{HasMeaning, WordsAsk}
use Rattle.layout.specs.Geometry.{data_at}
use Rattle.store_images.specs.Formatting.{HasFormatted}
use Rattle.store_images.specs.Opening.{HasOpened, Opened}
use Rattle.session.specs.Serving.{Client, HasServed}
use Rattle.pool.specs.declared.shutdown.Ended.{Ended}
use Rattle.server.specs.declared.threads.ServeFault.{ServeFault}
use Rattle.server.specs.declared.threads.ServeFault.TheVariants as server
use Rattle.session.specs.declared.stream.SessionFault.TheVariants as session
use Rattle.nfsd.specs.declared.fault.Fault.{Fault}
use Rattle.nfsd.specs.declared.fault.Fault.TheVariants as fault
use Rattle.nfsd.specs.Faults.{IsAbout, as_line, fault_line, status_of_outcome}
use Rattle.nfsd.specs.Left.{Left, nothing_left, with_core, with_device}
use Rattle.nfsd.specs.Lines.{listening_line}
use Rattle.nfsd.specs.ImageScans.{ChecksImage, ShowsImage}
use Rattle.nfsd.specs.Scripts.{RunsScript}

-- what came of the program: it is done, or there is a fault
abbrev pub Outcome : Type 0
Outcome = Result (Unit {0}) Fault

-- `formatted N blocks I inodes D data`, where D blocks follow the table of inodes
abbrev pub formatted_line : ℕ → ℕ → List ℕ
formatted_line blocks inodes = as_line (codes "formatted " ++ decimal blocks ++ codes " blocks "
    ++ decimal inodes ++ codes " inodes " ++ decimal (blocks - data_at blocks inodes) ++ codes " data")

-- the beginning of a second
abbrev pub moment_at : ℕ → Moment
moment_at second = record { seconds = second; nanoseconds = 0 }

-- `format` of a device: it was made an image and the line of its counts was printed, or the line wasn't, or it
-- was refused and nothing was printed
abbrev pub FormatsDevice : Device → ℕ → ℕ → Option (List ℕ) → Outcome → Device → Option (List ℕ) → Type 0
FormatsDevice old inodes time written (Ok done) new written' =
    HasFormatted old inodes (moment_at time) (Ok (old.size - data_at old.size inodes)) new
    × Appends written written' (formatted_line old.size inodes)
FormatsDevice old inodes time written (Err fault.Print) new written' =
    HasFormatted old inodes (moment_at time) (Ok (old.size - data_at old.size inodes)) new
FormatsDevice old inodes time written (Err (fault.Format why)) new written' =
    HasFormatted old inodes (moment_at time) (Err why) new × (written' ≡ written)
FormatsDevice old inodes time written (Err other) new written' = ⊥

-- `once` of a device: it was opened as a store, and what came of serving the client from that store, which
-- leaves the device, is what came; or it was refused, and nothing was read or printed
abbrev pub ServesDevice : Device → ℕ → Client → Outcome → Device → Client → Type 0
ServesDevice old time client (Ok done) new later = (opened : Opened) × (store : Opened) × (count : ℕ)
    × HasOpened old (Ok opened) × HasServed opened client (moment_at time) (Ok count) store later
    × (store.device ≡ new)
ServesDevice old time client (Err (fault.Session why)) new later = (opened : Opened) × (store : Opened)
    × HasOpened old (Ok opened) × HasServed opened client (moment_at time) (Err why) store later
    × (store.device ≡ new)
ServesDevice old time client (Err (fault.Open why)) new later = HasOpened old (Err (new, why))
    × (later ≡ client)
ServesDevice old time client (Err other) new later = ⊥

-- a device was opened as a store, and where it listens was printed
abbrev pub IsAnnounced : Device → Option (List ℕ) → Option (List ℕ) → Type 0
IsAnnounced old written written' = (opened : Opened) × HasOpened old (Ok opened)
    × (address : List ℕ) × Appends written written' (listening_line address)

-- each commit of this core, which came out of a server of this store, is settled
pub record HasEnded (opened : Opened) (core : CoreState) : Type 0 where
  pub boot_is : core.boot ≡ opened.core.boot
  pub settled : settled_place core.log ≡ core.log.places
  pub sound : core.log.broken ≡ false

-- `serve` of a device: it was opened as a store, where it listens was printed, its clients were served, and a core is
-- handed out in which all is settled; or that device failed; or it was opened and that couldn't be printed, or no memory was left to begin with, and nothing was printed; or it was
-- refused, and nothing was printed
abbrev pub ServesClients : Device → Option (List ℕ) → Outcome → Left → Option (List ℕ) → Type 0
ServesClients old written (Ok done) left written' = (opened : Opened) × HasOpened old (Ok opened)
    × (address : List ℕ) × Appends written written' (listening_line address)
    × (core : CoreState) × (left ≡ with_core core) × HasEnded opened core
ServesClients old written (Err (fault.Session session.NoMemory)) left written' = (opened : Opened)
    × HasOpened old (Ok opened) × (written' ≡ written)
ServesClients old written (Err (fault.Session why)) left written' = IsAnnounced old written written'
ServesClients old written (Err fault.Print) left written' = (opened : Opened) × HasOpened old (Ok opened)
ServesClients old written (Err (fault.Open why)) left written' = (new : Device) × (left ≡ with_device new)
    × HasOpened old (Err (new, why)) × (written' ≡ written)
ServesClients old written (Err other) left written' = ⊥

-- what is left of a server by how it ended: its core, where that is well
abbrev pub left_of_server : Result Ended ServeFault → Left
left_of_server (Ok ended) = with_core ended.core
left_of_server (Err why) = nothing_left

-- what comes of a server by how it ended
abbrev pub outcome_of_server : {T : Type 0} → Result T ServeFault → Outcome
outcome_of_server (Ok done) = Ok tt
outcome_of_server (Err server.Memory) = Err (fault.Session session.NoMemory)
outcome_of_server (Err server.Output) = Err fault.Print
outcome_of_server (Err server.Device) = Err (fault.Session session.Device)

-- the device of so many blocks of a file that held this when it was opened, before any call of it
abbrev pub device_of : FirstContents → ℕ → Device
device_of first size = file_device (first_in first.blocks.items) size []

-- so many blocks are as many as are asked for, or no more than the most of an image, where no number is
abbrev pub AreAsked : Option ℕ → ℕ → Type 0
AreAsked None size = size ≤ MOST_BLOCKS
AreAsked (Some asked) size = size ≡ asked

-- `format` of an image's file: what lies there was made an image; or it can't be had, and nothing was printed
abbrev pub FormatsImage : FirstContents → Text → Option ℕ → ℕ → ℕ → Option (List ℕ) → Outcome → Left → Option (List ℕ) → Type 0
FormatsImage first image blocks inodes time written (Err (fault.File io_report)) left written' =
    (written' ≡ written) × (left ≡ nothing_left) × IsAbout io_report image
FormatsImage first image blocks inodes time written outcome left written' = (size : ℕ) × (new : Device)
    × AreAsked blocks size × (left ≡ with_device new)
    × FormatsDevice (device_of first size) inodes time written outcome new written'

-- `once` of an image's file; or it can't be had, and nothing was read or printed
abbrev pub ServesImageOnce : FirstContents → Text → ℕ → Client → Outcome → Left → Client → Type 0
ServesImageOnce first image time client (Err (fault.File io_report)) left later =
    (later ≡ client) × (left ≡ nothing_left) × IsAbout io_report image
ServesImageOnce first image time client outcome left later = (size : ℕ) × (new : Device)
    × (left ≡ with_device new) × ServesDevice (device_of first size) time client outcome new later

-- `serve` of an image's file at an address; or one of them can't be had, and nothing was printed
abbrev pub ServesImage : FirstContents → Text → Text → Option (List ℕ) → Outcome → Left → Option (List ℕ) → Type 0
ServesImage first image listen written (Err (fault.File io_report)) left written' =
    (written' ≡ written) × (left ≡ nothing_left) × IsAbout io_report image
ServesImage first image listen written (Err (fault.Address io_report)) left written' =
    (written' ≡ written) × (left ≡ nothing_left) × IsAbout io_report listen
ServesImage first image listen written outcome left written' = (size : ℕ)
    × ServesClients (device_of first size) written outcome left written'

-- the image of a command, or its script
abbrev pub image_of : Args → Text
image_of (Format image blocks inodes time) = image.now
image_of (Once image time) = image.now
image_of (Serve image listen workers connections) = image.now
image_of (Check image) = image.now
image_of (Show image) = image.now
image_of (Sim script stops) = script.now

-- The command that is asked for was done to the device of a file that held this, this came of it, and the device
-- is handed back as that left it, but for a device that was served from; or a script was run; or there is no
-- device, and the fault is that of the file, of what closed streams are filled from, or of the address.
abbrev pub DoesCommand : FirstContents → Args → Client → Outcome → Left → Client → Type 0
DoesCommand first args client (Err (fault.File io_report)) left later = (later ≡ client) × (left ≡ nothing_left)
    × (IsAbout io_report (image_of args) ⊎ IsAbout io_report (codes "/dev/null"))
DoesCommand first (Format image blocks inodes time) client outcome left later = (later.unread ≡ client.unread)
    × FormatsImage first image.now blocks inodes time client.written outcome left later.written
DoesCommand first (Once image time) client outcome left later =
    ServesImageOnce first image.now time client outcome left later
DoesCommand first (Serve image listen workers connections) client outcome left later =
    (later.unread ≡ client.unread)
    × ServesImage first image.now listen.now client.written outcome left later.written
DoesCommand first (Check image) client outcome left later = (later.unread ≡ client.unread)
    × ChecksImage first image.now client.written outcome left later.written
DoesCommand first (Show image) client outcome left later = (later.unread ≡ client.unread)
    × ShowsImage first image.now client.written outcome left later.written
DoesCommand first (Sim script stops) client outcome left later = (left ≡ nothing_left) × (later.unread ≡ client.unread)
    × RunsScript stops script.now client.written outcome later.written

-- The arguments were obeyed: the command that they ask for was done to a file that held this, or they have no
-- meaning, or there was no memory to read them.
abbrev pub Obeys : FirstContents → List Text → Client → Outcome → Left → Client → Type 0
Obeys first words client (Err fault.NotText) left later = ⊥
Obeys first words client (Err fault.Memory) left later = (later ≡ client) × (left ≡ nothing_left)
Obeys first words client (Err (fault.Words error)) left later = (¬ HasMeaning words) × (later ≡ client)
    × (left ≡ nothing_left)
Obeys first words client outcome left later = (args : Args) × WordsAsk words args
    × DoesCommand first args client outcome left later

-- the faults that were told on a stream, each with the stream's answer
abbrev pub FaultReports : Type 0
FaultReports = List (Fault × Result (Unit {0}) Error)

-- a fault was told: its line was written, where the stream answered Ok, and nothing else
abbrev pub TellsFault : FaultReports → Option (List ℕ) → Fault → FaultReports → Option (List ℕ) → Type 0
TellsFault reports written why reports' written' = (answer : Result (Unit {0}) Error)
    × (reports' ≡ reports ++ (why, answer) ∷ [])
    × OnOk answer (IfSome (fault_line why) (Appends written written'))

-- a fault was told, or there was none and nothing was
abbrev pub TellsOutcome : FaultReports → Option (List ℕ) → Outcome → FaultReports → Option (List ℕ) → Type 0
TellsOutcome reports written (Ok done) reports' written' = (reports' ≡ reports) × (written' ≡ written)
TellsOutcome reports written (Err why) reports' written' = TellsFault reports written why reports' written'

-- what the program answers its arguments, where the image's file held this: it obeyed them, which left the
-- device so, told what came of it, and ended with its status
pub record Answers (first : FirstContents) (words : List Text) (client : Client) (reports : FaultReports)
    (written : Option (List ℕ)) (status : ℕ) (left : Left) (later : Client) (reports' : FaultReports)
    (written' : Option (List ℕ)) : Type 0 where
  pub outcome : Outcome
  pub obeys : Obeys first words client outcome left later
  pub ends : status ≡ status_of_outcome outcome
  pub tells : TellsOutcome reports written outcome reports' written'

-- there was no memory to read the arguments, which was told, with status 1
pub record IsWithoutMemory (reports : FaultReports) (written : Option (List ℕ)) (status : ℕ) (reports' : FaultReports)
    (written' : Option (List ℕ)) : Type 0 where
  pub ends : status ≡ 1
  pub tells : TellsFault reports written fault.Memory reports' written'
