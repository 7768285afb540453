-- What the logger does: it takes the whole tail as a group, where the group's positions fit behind the
-- settled start, and makes its calls in their order: the group's blocks to their slots, a barrier, the
-- header, a barrier.
use Rattle.std.specs.Prelude.{◌≡◌, ℕ, ◌+◌, ◌-◌, ◌*◌, ◌%◌, ◌<◌, Bool, true, false, not, ◌&&◌, ◌||◌}
use Rattle.std.specs.Prelude.{if◌then◌else◌, nat_eq, nat_lt, nat_le, List, length, take, slice_get, Some}
use Rattle.base.specs.declared.TheConstants.{LOG_SLOTS, FIRST_SLOT_BLOCK, LOG_HEADER_BLOCK, BLOCK_BYTES}
use Rattle.disk.specs.Device.{Content}
use Rattle.disk.specs.declared.block.Side.TheVariants.{Log as LogSide}
use Rattle.circ.specs.declared.log.change.LogChange.{LogChange}
use Rattle.circ.specs.declared.log.calls.IoCall.TheVariants.{Write, Barrier}
use Rattle.circ.specs.Log.Io.{Io}
use Rattle.circ.specs.Log.Log.{Log, log_end}
use Rattle.circ.specs.Log.EightBytes.{number_at}

-- a group is taken, or the tail isn't empty and its positions fit behind the settled start
abbrev pub has_group : Log → Bool
has_group log =
    nat_lt 0 log.taken || (nat_lt log.logged (length log.changes) && nat_le (length log.changes) LOG_SLOTS)

-- the logger has a call to hand out: the log isn't broken, it has a group, and no call is out
abbrev pub may_log : Log → Bool
may_log log = not log.broken && (has_group log && not log.log_out)

-- the size of the logger's group: where it has none, it takes the whole tail
abbrev pub group_size : Log → ℕ
group_size log = if nat_lt 0 log.taken then log.taken else length log.changes - log.logged

-- the log once a call of the logger is handed out
abbrev pub with_log_out : Log → Log
with_log_out log = record log { taken = group_size log; log_out = true }

-- the block of a log position
abbrev pub slot_block : ℕ → ℕ
slot_block position = FIRST_SLOT_BLOCK + position % LOG_SLOTS

-- A header: it tells where the positions of these changes end, and of the slot of each its home address.
pub record IsHeader (content : Content) (start : ℕ) (changes : List LogChange) : Type 0 where
  pub bytes : length content ≡ BLOCK_BYTES
  pub end : number_at content 0 ≡ start + length changes
  pub homes : (k : ℕ) (change : LogChange) → slice_get changes k ≡ Some change
      → number_at content (8 + 8 * ((start + k) % LOG_SLOTS)) ≡ change.block.0

-- The call is the one that the logger has to make next.
pub record IsNextLogCall (log : Log) (io : Io) : Type 0 where
  pub beginning : io.beginning ≡ log_end log
  pub step : io.step ≡ log.log_step
  pub body : log.log_step < log.taken → (change : LogChange)
      → slice_get log.changes (log.logged + log.log_step) ≡ Some change
      → (io.call ≡ Write (record { 0 = slot_block (log_end log + log.log_step) }))
      × (io.content ≡ change.content)
  pub body_barrier : log.log_step ≡ log.taken → io.call ≡ Barrier LogSide
  pub header : log.log_step ≡ log.taken + 1
      → (io.call ≡ Write (record { 0 = LOG_HEADER_BLOCK }))
      × IsHeader io.content log.start (take (log.logged + log.taken) log.changes)
  pub header_barrier : log.log_step ≡ log.taken + 2 → io.call ≡ Barrier LogSide

-- the call is the logger's that is out
abbrev pub is_log_out : Log → Io → Bool
is_log_out log io = log.log_out && (nat_eq io.beginning (log_end log) && nat_eq io.step log.log_step)

-- the log once its logger's call was made: after the last of the group, the group is settled
abbrev pub with_log_made : Log → Log
with_log_made log =
    if nat_eq log.log_step (log.taken + 2)
    then record log { logged = log.logged + log.taken; taken = 0; log_step = 0; log_out = false }
    else record log { log_step = log.log_step + 1; log_out = false }

-- the log once its logger's call is given back
abbrev pub with_log_back : Log → Bool → Log
with_log_back log ok = if ok then with_log_made log else record log { log_out = false; broken = true }
