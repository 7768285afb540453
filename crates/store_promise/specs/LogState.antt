-- How far the log and the installer are, told from the steps alone. Fields and calls bear the names that they
-- have in the memory log.
use Rattle.std.specs.Prelude.{ℕ, ◌+◌, ◌-◌, Bool, true, false, not, ◌&&◌, ◌||◌, if◌then◌else◌, nat_eq, nat_lt}
use Rattle.std.specs.Prelude.{nat_le, List, [], ◌++◌, length}
use Rattle.base.specs.declared.TheConstants.{LOG_SLOTS}
use Rattle.disk.specs.declared.block.BlockNo.{BlockNo}
use Rattle.circ.specs.Log.Log.{new_blocks}
use Rattle.circ.specs.declared.log.calls.IoCall.{IoCall}
use Rattle.circ.specs.declared.log.calls.IoCall.TheVariants.{Write, Barrier}
use Rattle.store_promise.specs.declared.events.Committing.TheVariants as committing
use Rattle.store_promise.specs.declared.events.Step.{Step}
use Rattle.store_promise.specs.declared.events.Step.TheVariants as step

-- no call of a side is out; one is out and not yet made; or it was made, and is not yet given back
pub data CallState : Type 0 where
  idle : CallState
  out : IoCall → CallState
  was_made : IoCall → Bool → CallState

pub record LogState : Type 0 where
  -- the count of commits, which is the place of the last
  pub places : ℕ
  -- how many log positions the commits have taken
  pub appended : ℕ
  -- the blocks that the tail holds, and the place of the first commit that changed one of them, 0 where it is
  -- empty
  pub tail : List BlockNo
  pub tail_first : ℕ
  -- the blocks of the group that the logger has taken, 0 where it has none, the place of its first commit,
  -- and how many of its calls were given back
  pub taken : ℕ
  pub taken_first : ℕ
  pub log_step : ℕ
  -- the positions that are logged and not brought home, how many of these the installer has taken, 0 where it
  -- has none, how many blocks it has written home, and how many of its calls behind these were given back
  pub logged : ℕ
  pub installing : ℕ
  pub homes : ℕ
  pub behind : ℕ
  -- a write or a barrier failed
  pub broken : Bool
  pub log_call : CallState
  pub inst_call : CallState

-- a log without changes
abbrev pub empty_log : LogState
empty_log = record {
  places = 0;
  appended = 0;
  tail = [];
  tail_first = 0;
  taken = 0;
  taken_first = 0;
  log_step = 0;
  logged = 0;
  installing = 0;
  homes = 0;
  behind = 0;
  broken = false;
  log_call = idle;
  inst_call = idle;
}

-- how many blocks the tail holds
abbrev pub state_tail : LogState → ℕ
state_tail log = length log.tail

-- how many blocks more it holds by a commit that changes these, and how many then
abbrev pub state_added : LogState → List BlockNo → ℕ
state_added log blocks = length (new_blocks log.tail blocks)

abbrev pub state_tail_after : LogState → List BlockNo → ℕ
state_tail_after log blocks = state_tail log + state_added log blocks

-- the greatest place such that each change at or before it is settled
abbrev pub state_settled : LogState → ℕ
state_settled log = if nat_lt 0 log.taken then log.taken_first - 1 else if nat_lt 0 (state_tail log)
    then log.tail_first - 1 else log.places

-- the log has a call to hand out, where none is out: of its group, or the tail's first, where the tail fits
-- behind the start
abbrev pub state_may_log : LogState → Bool
state_may_log log =
    not log.broken && (nat_lt 0 log.taken
    || (nat_lt 0 (state_tail log) && nat_le (log.logged + state_tail log) LOG_SLOTS))

-- the installer has one
abbrev pub state_may_install : LogState → Bool
state_may_install log = not log.broken && (nat_lt 0 log.installing || nat_lt 0 log.logged)

-- the place of the first commit that changed a block of the tail, once the next commit changes these
abbrev pub first_with : LogState → List BlockNo → ℕ
first_with log blocks = if nat_lt 0 (state_tail log) then log.tail_first
    else if nat_lt 0 (state_added log blocks) then log.places + 1 else 0

-- a commit that changes these blocks: the tail holds those that it lacked, and takes a position for each
abbrev pub with_commit : LogState → List BlockNo → LogState
with_commit log blocks = record log {
  places = log.places + 1;
  appended = log.appended + state_added log blocks;
  tail = log.tail ++ new_blocks log.tail blocks;
  tail_first = first_with log blocks;
}

-- a call of the log is taken; the first of a group takes the whole tail
abbrev pub with_log_taken : LogState → IoCall → LogState
with_log_taken log call =
    if nat_lt 0 log.taken
    then record log { log_call = out call }
    else record log {
      taken = state_tail log;
      taken_first = log.tail_first;
      tail = [];
      tail_first = 0;
      log_call = out call;
    }

-- a call of the log is given back, made well: after the last of its group, which has three more than blocks,
-- it is settled
abbrev pub with_log_done : LogState → LogState
with_log_done log =
    if nat_eq log.log_step (log.taken + 2)
    then record log {
      logged = log.logged + log.taken;
      taken = 0;
      taken_first = 0;
      log_step = 0;
      log_call = idle;
    }
    else record log { log_step = log.log_step + 1; log_call = idle }

-- a call of the installer is taken; the first of an installation takes what is logged
abbrev pub with_inst_taken : LogState → IoCall → LogState
with_inst_taken log call =
    if nat_lt 0 log.installing
    then record log { inst_call = out call }
    else record log { installing = log.logged; inst_call = out call }

-- a call of the installer is given back, made well: the third of those behind what it writes home, the barrier
-- behind the raised start, ends the installation
abbrev pub with_inst_behind : LogState → LogState
with_inst_behind log =
    if nat_eq log.behind 2
    then record log {
      logged = log.logged - log.installing;
      installing = 0;
      homes = 0;
      behind = 0;
      inst_call = idle;
    }
    else record log { behind = log.behind + 1; inst_call = idle }

abbrev pub with_inst_done : LogState → CallState → LogState
with_inst_done log (was_made (Write block) ok) =
    if nat_eq log.behind 0
    then record log { homes = log.homes + 1; inst_call = idle }
    else with_inst_behind log
with_inst_done log (was_made (Barrier side) ok) = with_inst_behind log
with_inst_done log idle = log
with_inst_done log (out call) = log

-- a call of the log, or of the installer, is given back, made well or not
abbrev pub with_log_given : LogState → Bool → LogState
with_log_given log ok = if ok then with_log_done log else record log { broken = true; log_call = idle }

abbrev pub with_inst_given : LogState → Bool → LogState
with_inst_given log ok = if ok then with_inst_done log log.inst_call
    else record log { broken = true; inst_call = idle }

-- a call that is out was made
abbrev pub call_made : CallState → Bool → CallState
call_made idle ok = idle
call_made (out call) ok = was_made call ok
call_made (was_made call before) ok = was_made call before

-- the log after a step
abbrev pub log_moved : LogState → Step → LogState
log_moved log (step.Commit blocks (committing.Committed place)) = with_commit log blocks
log_moved log (step.LogNext call) = with_log_taken log call
log_moved log (step.LogIo ok) = record log { log_call = call_made log.log_call ok }
log_moved log (step.LogDone ok) = with_log_given log ok
log_moved log (step.InstNext call) = with_inst_taken log call
log_moved log (step.InstIo ok) = record log { inst_call = call_made log.inst_call ok }
log_moved log (step.InstDone ok) = with_inst_given log ok
log_moved log _ = log
