-- What is told of a log, as a function of the memory log and of the device calls that are out.
use Rattle.std.specs.Prelude.{◌≡◌, ℕ, zero, suc, ◌+◌, ◌-◌, List, [], ◌∷◌, if◌then◌else◌, is_ok, is_some}
use Rattle.std.specs.Prelude.{length, take, drop}
use Rattle.circ.specs.declared.log.change.LogChange.{LogChange}
use Rattle.circ.specs.Log.Calls.{Pending}
use Rattle.circ.specs.Log.Calls as pending
use Rattle.circ.specs.Log.Installer.{next_home}
use Rattle.circ.specs.Log.Log.{Log, newest_of, tail_blocks}
use Rattle.store_promise.specs.LogState.{CallState, LogState, idle, out, was_made}

abbrev pub call_state_of : Pending → CallState
call_state_of pending.idle = idle
call_state_of (pending.out io) = out io.call
call_state_of (pending.was_made io answer) = was_made io.call (is_ok answer)

-- the place of the first of these changes, 0 where there is none
abbrev pub first_of : List LogChange → ℕ
first_of [] = 0
first_of (change ∷ later) = change.place

-- of the first so many of these changes, how many are the newest of their block
abbrev pub newest_among : List LogChange → ℕ → ℕ
newest_among changes zero = 0
newest_among [] (suc count) = 0
newest_among (change ∷ later) (suc count) =
    if is_some (newest_of later change.block.0) then newest_among later count else 1 + newest_among later count

-- a log that was opened at a position
abbrev pub log_state_of : ℕ → Log → Pending → Pending → LogState
log_state_of position log logging installing = record {
  places = log.places;
  appended = log.start + length log.changes - position;
  tail = tail_blocks log;
  tail_first = first_of (drop (log.logged + log.taken) log.changes);
  taken = log.taken;
  taken_first = first_of (take log.taken (drop log.logged log.changes));
  log_step = log.log_step;
  logged = log.logged;
  installing = log.installing;
  homes = newest_among (take log.installing log.changes) log.inst_step;
  behind = log.inst_step - log.installing;
  broken = log.broken;
  log_call = call_state_of logging;
  inst_call = call_state_of installing;
}

-- the installer stands at a change that is the newest of its block, or past the last
abbrev pub StandsAtHome : Log → Type 0
StandsAtHome log = next_home log.changes log.installing log.inst_step ≡ log.inst_step
