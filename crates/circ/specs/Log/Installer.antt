-- What the installer does: it takes the logged changes, and makes its calls in their order: the newest
-- content of each of their blocks to its home, a barrier, the raised start, a barrier.
use Rattle.std.specs.Prelude.{◌≡◌, ℕ, ◌+◌, ◌-◌, ◌<◌, Bool, true, false, not, ◌&&◌, ◌||◌, if◌then◌else◌}
use Rattle.std.specs.Prelude.{nat_eq, nat_lt, List, [], ◌∷◌, take, drop, replicate, is_some, slice_get, Some}
use Rattle.base.specs.declared.TheConstants.{START_BLOCK, BLOCK_BYTES}
use Rattle.disk.specs.Device.{Content}
use Rattle.disk.specs.declared.block.Side.TheVariants.{Home}
use Rattle.circ.specs.declared.log.change.LogChange.{LogChange}
use Rattle.circ.specs.declared.log.calls.IoCall.TheVariants.{Write, Barrier}
use Rattle.circ.specs.Log.Io.{Io}
use Rattle.circ.specs.Log.Log.{Log, newest_of}
use Rattle.circ.specs.Log.EightBytes.{with_number}

-- how many changes stand before the first that is the newest of its block
abbrev pub passed_over : List LogChange → ℕ
passed_over [] = 0
passed_over (change ∷ later) = if is_some (newest_of later change.block.0) then 1 + passed_over later else 0

-- the first change from an index on, among so many, that is the newest of its block, or past the last
abbrev pub next_home : List LogChange → ℕ → ℕ → ℕ
next_home changes count index = index + passed_over (drop index (take count changes))

-- the installer has a call to hand out: the log isn't broken, something logged isn't home, and no call is out
abbrev pub may_install : Log → Bool
may_install log = not log.broken && ((nat_lt 0 log.installing || nat_lt 0 log.logged) && not log.inst_out)

-- the log once a call of the installer is handed out: where it has no changes, it takes the logged ones
abbrev pub with_inst_out : Log → Log
with_inst_out log =
    if nat_lt 0 log.installing
    then record log { inst_out = true }
    else record log {
      installing = log.logged;
      inst_step = next_home log.changes log.logged 0;
      inst_out = true;
    }

-- a block that tells the start
abbrev pub start_content : ℕ → Content
start_content start = with_number (replicate BLOCK_BYTES 0) 0 start

-- The call is the one that the installer has to make next.
pub record IsNextInstCall (log : Log) (io : Io) : Type 0 where
  pub beginning : io.beginning ≡ log.start
  pub step : io.step ≡ log.inst_step
  pub home : log.inst_step < log.installing → (change : LogChange)
      → slice_get log.changes log.inst_step ≡ Some change
      → (io.call ≡ Write change.block) × (io.content ≡ change.content)
  pub home_barrier : log.inst_step ≡ log.installing → io.call ≡ Barrier Home
  pub start : log.inst_step ≡ log.installing + 1
      → (io.call ≡ Write (record { 0 = START_BLOCK }))
      × (io.content ≡ start_content (log.start + log.installing))
  pub start_barrier : log.inst_step ≡ log.installing + 2 → io.call ≡ Barrier Home

-- the call is the installer's that is out
abbrev pub is_inst_out : Log → Io → Bool
is_inst_out log io = log.inst_out && (nat_eq io.beginning log.start && nat_eq io.step log.inst_step)

-- the log once its changes are home and the start behind them is settled
abbrev pub with_installed : Log → Log
with_installed log =
    record log {
      start = log.start + log.installing;
      changes = drop log.installing log.changes;
      logged = log.logged - log.installing;
      installing = 0;
      inst_step = 0;
      inst_out = false;
    }

-- the log once its installer's call was made
abbrev pub with_inst_made : Log → Log
with_inst_made log =
    if nat_lt log.inst_step log.installing
    then record log { inst_step = next_home log.changes log.installing (log.inst_step + 1); inst_out = false }
    else if nat_lt log.inst_step (log.installing + 2)
    then record log { inst_step = log.inst_step + 1; inst_out = false }
    else with_installed log

-- the log once its installer's call is given back
abbrev pub with_inst_back : Log → Bool → Log
with_inst_back log ok = if ok then with_inst_made log else record log { inst_out = false; broken = true }
