-- A run on an image that was just made.
use Rattle.std.specs.Prelude.{◌≡◌, ℕ, Result, Ok, Err}
use Rattle.disk.specs.Crash.{IsAtRest}
use Rattle.disk.specs.Device.{Device}
use Rattle.layout.specs.declared.geometry.Geometry.{Geometry}
use Rattle.layout.specs.Geometry.{IsLawful, IsLawfulCount, IsLawfulSize}
use Rattle.layout.specs.Stands.{geometry_of}
use Rattle.nfs_spec.specs.Model.Format.{format_tree}
use Rattle.nfs_types.specs.declared.ctx.Moment.{Moment}
use Rattle.store_promise.specs.declared.fault.OpenFault.{OpenFault}
use Rattle.store_promise.specs.declared.transcript.Run.{Run}
use Rattle.store_promise.specs.Headline.{ComesOfRun, MayRun}
use Rattle.store_promise.specs.Openings.{IsFormatted}
use Rattle.store_promise.specs.Schedule.{Schedule}
use Rattle.store_promise.specs.Transcript.{Report, report_of}
use Rattle.store_images.specs.declared.formatter.FormatFault.{FormatFault}
use Rattle.store_images.specs.declared.formatter.FormatFault.TheVariants as fault

-- what came of a run, as lists
abbrev pub answer_of : Result Run OpenFault → Result Report OpenFault
answer_of (Ok run_record) = Ok (report_of run_record)
answer_of (Err cause) = Err cause

-- a new device of so many blocks: no call of it was made, so that none has failed, and each block has one
-- content
pub record IsNewDevice (blocks : ℕ) (d : Device) : Type 0 where
  pub size : d.size ≡ blocks
  pub clock : d.clock ≡ 0
  pub failures : d.failures ≡ 0
  pub rest : IsAtRest d

-- A fresh image with these counts was made on a new device at this moment. So a run may stand on it, with the
-- root alone as its tree; so many workers took these events on it, and the run was answered as it promises.
pub record HasRunOnMade (blocks inodes : ℕ) (made : Moment) (workers : ℕ) (events : Schedule) (later : Device)
    (answer : Result Run OpenFault) : Type 0 where
  pub empty : Device
  pub is_new : IsNewDevice blocks empty
  pub before : Device
  pub geometry : Geometry
  pub lawful : IsLawful blocks inodes
  pub blocks_are : geometry.blocks ≡ blocks
  pub inodes_are : geometry.inodes ≡ inodes
  pub formatted : IsFormatted empty before geometry made
  pub may : MayRun (Unit {0}) before (format_tree (geometry_of geometry) made) 0 events
  pub answered : ComesOfRun before later (format_tree (geometry_of geometry) made) 0 workers events
      (answer_of answer)

-- why no image is made on a device in memory
abbrev pub IsNotMade : FormatFault → ℕ → ℕ → Type 0
IsNotMade fault.Size blocks inodes = ¬ IsLawfulSize blocks
IsNotMade fault.Inodes blocks inodes = IsLawfulSize blocks × (¬ IsLawfulCount blocks inodes)
IsNotMade fault.Device blocks inodes = IsLawful blocks inodes
IsNotMade (fault.NoMemory error) blocks inodes = Unit {0}
