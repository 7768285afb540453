-- In what logger and installer differ: what each takes, where its blocks go, and what tells of them.
use Rattle.std.specs.Prelude.{◌≡◌, ℕ, ◌+◌, ◌-◌, Bool, false, ◌||◌, if◌then◌else◌, nat_le, nat_lt, length, take}
use Rattle.std.specs.Prelude.{slice_get, Some}
use Rattle.base.specs.declared.TheConstants.{LOG_HEADER_BLOCK, LOG_SLOTS, START_BLOCK}
use Rattle.disk.specs.Device.{Content}
use Rattle.disk.specs.declared.block.BlockNo.{BlockNo}
use Rattle.disk.specs.declared.block.Side.{Side}
use Rattle.disk.specs.declared.block.Side.TheVariants.{Log as LogSide, Home}
use Rattle.circ.specs.declared.log.change.LogChange.{LogChange}
use Rattle.circ.specs.Log.Installer.{next_home, start_content, with_installed}
use Rattle.circ.specs.Log.Log.{Log, log_end}
use Rattle.circ.specs.Log.Logger.{IsHeader, has_group, slot_block}

-- ---- what a side has

-- how many changes it has taken
abbrev pub taken_by : Side → Log → ℕ
taken_by LogSide log = log.taken
taken_by Home log = log.installing

-- how many of its calls come before the next
abbrev pub step_of : Side → Log → ℕ
step_of LogSide log = log.log_step
step_of Home log = log.inst_step

-- a call of it is out
abbrev pub out_of : Side → Log → Bool
out_of LogSide log = log.log_out
out_of Home log = log.inst_out

-- how many changes stand before those that it has taken
abbrev pub preceding_of : Side → Log → ℕ
preceding_of LogSide log = log.logged
preceding_of Home log = 0

-- the log whose side has this
abbrev pub with_role_step : Side → Log → ℕ → ℕ → Bool → Log
with_role_step LogSide log taken step out = record log { taken = taken; log_step = step; log_out = out }
with_role_step Home log taken step out = record log { installing = taken; inst_step = step; inst_out = out }

-- ---- what it does

-- it has taken changes, or there are some to take
abbrev pub has_batch : Side → Log → Bool
has_batch LogSide log = has_group log
has_batch Home log = nat_lt 0 log.installing || nat_lt 0 log.logged

-- how many changes it may take at once: the logger the tail, where its positions fit behind the settled start, the
-- installer what is logged
abbrev pub to_take : Side → Log → ℕ
to_take LogSide log = if nat_le (length log.changes) LOG_SLOTS then length log.changes - log.logged else 0
to_take Home log = log.logged

-- the first block, from one on, that it writes of so many changes, or past the last
abbrev pub next_body : Side → Log → ℕ → ℕ → ℕ
next_body LogSide log taken number = number
next_body Home log taken number = next_home log.changes taken number

-- a block of what it has taken goes there: the logger's to the slot of its position, the installer's to its home
abbrev pub IsBody : Side → Log → ℕ → BlockNo → Content → Type 0
IsBody LogSide log number block content = (change : LogChange)
    → slice_get log.changes (log.logged + number) ≡ Some change
    → (block ≡ record { 0 = slot_block (log_end log + number) }) × (content ≡ change.content)
IsBody Home log number block content = (change : LogChange)
    → slice_get log.changes number ≡ Some change → (block ≡ change.block) × (content ≡ change.content)

-- what tells of them goes there: the logger's header, the installer's start
abbrev pub IsControlWrite : Side → Log → BlockNo → Content → Type 0
IsControlWrite LogSide log block content = (block ≡ record { 0 = LOG_HEADER_BLOCK })
    × IsHeader content log.start (take (log.logged + log.taken) log.changes)
IsControlWrite Home log block content = (block ≡ record { 0 = START_BLOCK })
    × (content ≡ start_content (log.start + log.installing))

-- the log once all of its calls were made: the group is logged, or the changes are home and go
abbrev pub with_ended : Side → Log → Log
with_ended LogSide log = record log { logged = log.logged + log.taken; taken = 0; log_step = 0; log_out = false }
with_ended Home log = with_installed log
