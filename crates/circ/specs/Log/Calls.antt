-- The calls of the log that are out, beside a disk that agrees with it.
use Rattle.std.specs.Prelude.{◌≡◌, ℕ, ◌+◌, ◌<◌, Bool, true, false, ◌&&◌, if◌then◌else◌, nat_le, take}
use Rattle.std.specs.Prelude.{slice_get, Some, Result, Ok, Err, is_ok}
use Rattle.base.specs.declared.TheConstants.{LOG_HEADER_BLOCK, START_BLOCK}
use Rattle.disk.specs.Device.{Device, current, newest}
use Rattle.disk.specs.Crash.{Image}
use Rattle.disk.specs.declared.device.Failed.{Failed}
use Rattle.circ.specs.declared.log.change.LogChange.{LogChange}
use Rattle.circ.specs.Log.Io.{Io}
use Rattle.circ.specs.Log.Law.{LeavesOnly, IsOutside, HoldsSlots, IsHeaderOf, IsStartBehind, Agrees}
use Rattle.circ.specs.Log.Law.{with_changes}
use Rattle.circ.specs.Log.Log.{Log, IsLawful}
use Rattle.circ.specs.Log.Logger.{slot_block, IsNextLogCall}
use Rattle.circ.specs.Log.Installer.{IsNextInstCall}

-- No call of a side is out; one is out and not yet made; or it was made and is not yet given back, with what
-- the disk answered.
pub data Pending : Type 0 where
  idle : Pending
  out : Io → Pending
  was_made : Io → Result Unit Failed → Pending

-- What the disk shows once the logger's call that is out was made: by its number, what was written is the
-- newest content of its block, and what was settled the only one.
pub record HasMadeLogCall (d : Device) (log : Log) : Type 0 where
  pub body : log.log_step < log.taken → (change : LogChange)
      → slice_get log.changes (log.logged + log.log_step) ≡ Some change
      → newest (current d (slot_block (log.start + (log.logged + log.log_step)))) ≡ change.content
  pub body_barrier : log.log_step ≡ log.taken → HoldsSlots d log (log.logged + log.taken)
  pub header : log.log_step ≡ log.taken + 1
      → IsHeaderOf log (log.logged + log.taken) (newest (current d LOG_HEADER_BLOCK))
  pub header_barrier : log.log_step ≡ log.taken + 2
      → LeavesOnly d LOG_HEADER_BLOCK (IsHeaderOf log (log.logged + log.taken))

-- The same of the installer's call.
pub record HasMadeInstCall (d : Device) (base : Image) (log : Log) : Type 0 where
  pub home : log.inst_step < log.installing → (change : LogChange)
      → slice_get log.changes log.inst_step ≡ Some change
      → newest (current d change.block.0) ≡ change.content
  pub home_barrier : log.inst_step ≡ log.installing → (block : ℕ) → IsOutside log.blocks block
      → LeavesOnly d block (λ content. content ≡ with_changes base (take log.installing log.changes) block)
  pub start : log.inst_step ≡ log.installing + 1
      → IsStartBehind log log.installing (newest (current d START_BLOCK))
  pub start_barrier : log.inst_step ≡ log.installing + 2
      → LeavesOnly d START_BLOCK (IsStartBehind log log.installing)

-- how the logger stands
abbrev pub IsLoggerAt : Device → Log → Pending → Type 0
IsLoggerAt d log idle = log.log_out ≡ false
IsLoggerAt d log (out io) = (log.log_out ≡ true) × IsNextLogCall log io
IsLoggerAt d log (was_made io (Ok _)) = (log.log_out ≡ true) × IsNextLogCall log io × HasMadeLogCall d log
IsLoggerAt d log (was_made io (Err _)) = (log.log_out ≡ true) × IsNextLogCall log io

-- how the installer stands
abbrev pub IsInstallerAt : Device → Image → Log → Pending → Type 0
IsInstallerAt d base log idle = log.inst_out ≡ false
IsInstallerAt d base log (out io) = (log.inst_out ≡ true) × IsNextInstCall log io
IsInstallerAt d base log (was_made io (Ok _)) = (log.inst_out ≡ true) × IsNextInstCall log io
    × HasMadeInstCall d base log
IsInstallerAt d base log (was_made io (Err _)) = (log.inst_out ≡ true) × IsNextInstCall log io

-- The disk agrees with the log, and the calls that are out are these.
pub record AgreesWithPending (d : Device) (base : Image) (log : Log) (logging installing : Pending) : Type 0 where
  pub agrees : Agrees d base log
  pub logger : IsLoggerAt d log logging
  pub installer : IsInstallerAt d base log installing

-- what is at home once the installer's call is given back: after its last call, the blocks that it has
-- brought there
abbrev pub home_after : Image → Log → Bool → Image
home_after base log ok = if ok && nat_le (log.installing + 2) log.inst_step
    then with_changes base (take log.installing log.changes) else base

-- A step of the log keeps the agreement, whatever is out.
abbrev pub PreservesAgreement : Log → Log → Type 0
PreservesAgreement old new = (d : Device) (base : Image) (logging installing : Pending)
    → AgreesWithPending d base old logging installing → AgreesWithPending d base new logging installing

-- The logger's call goes out: the agreement is kept, whatever the installer has out.
abbrev pub LogCallGoesOut : Log → Io → Log → Type 0
LogCallGoesOut old io new = (d : Device) (base : Image) (installing : Pending)
    → AgreesWithPending d base old idle installing → AgreesWithPending d base new (out io) installing

-- It is made on the disk, with this answer.
abbrev pub LogCallIsMade : Device → Io → Result Unit Failed → Device → Type 0
LogCallIsMade old io answer new = (base : Image) (log : Log) (installing : Pending) → IsLawful log
    → AgreesWithPending old base log (out io) installing
    → AgreesWithPending new base log (was_made io answer) installing

-- It is given back, with whether it was made.
abbrev pub LogCallComesBack : Log → Io → Bool → Log → Type 0
LogCallComesBack old io ok new =
    (d : Device) (base : Image) (answer : Result Unit Failed) (installing : Pending) → is_ok answer ≡ ok
    → AgreesWithPending d base old (was_made io answer) installing → AgreesWithPending d base new idle installing

-- The installer's call goes out: the agreement is kept, whatever the logger has out.
abbrev pub InstCallGoesOut : Log → Io → Log → Type 0
InstCallGoesOut old io new = (d : Device) (base : Image) (logging : Pending)
    → AgreesWithPending d base old logging idle → AgreesWithPending d base new logging (out io)

-- It is made on the disk, with this answer.
abbrev pub InstCallIsMade : Device → Io → Result Unit Failed → Device → Type 0
InstCallIsMade old io answer new = (base : Image) (log : Log) (logging : Pending) → IsLawful log
    → AgreesWithPending old base log logging (out io) → AgreesWithPending new base log logging (was_made io answer)

-- It is given back, with whether it was made. After the last, what was brought home is what is at home.
abbrev pub InstCallComesBack : Log → Io → Bool → Log → Type 0
InstCallComesBack old io ok new =
    (d : Device) (base : Image) (answer : Result Unit Failed) (logging : Pending) → is_ok answer ≡ ok
    → AgreesWithPending d base old logging (was_made io answer)
    → AgreesWithPending d (home_after base old ok) new logging idle
