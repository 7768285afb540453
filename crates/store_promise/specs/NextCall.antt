-- Which device call the log, and the installer, has to take next, told from the steps alone.
use Rattle.std.specs.Prelude.{◌≡◌, ℕ, ◌+◌, ◌-◌, ◌<◌, ◌⊎◌, if◌then◌else◌, nat_eq, nat_lt}
use Rattle.base.specs.declared.TheConstants.{LOG_HEADER_BLOCK, START_BLOCK}
use Rattle.disk.specs.declared.block.BlockNo.{BlockNo}
use Rattle.disk.specs.declared.block.Side.TheVariants as side
use Rattle.circ.specs.declared.log.calls.IoCall.{IoCall}
use Rattle.circ.specs.declared.log.calls.IoCall.TheVariants.{Write, Barrier}
use Rattle.circ.specs.Log.Log.{IsHomeOn}
use Rattle.circ.specs.Log.Logger.{slot_block}
use Rattle.store_promise.specs.LogState.{LogState, state_tail}

-- the blocks of the log's group: where it has none, it takes the whole tail
abbrev pub state_group : LogState → ℕ
state_group log = if nat_lt 0 log.taken then log.taken else state_tail log

-- where the group's positions begin, of a log that was opened at a position
abbrev pub group_begins : ℕ → LogState → ℕ
group_begins position log = position + log.appended - (log.taken + state_tail log)

-- the call of the log: its group's blocks to their slots, a barrier, the header, a barrier
abbrev pub next_log_call : ℕ → LogState → IoCall
next_log_call position log =
    if nat_lt log.log_step (state_group log)
    then Write (record { 0 = slot_block (group_begins position log + log.log_step) })
    else if nat_eq log.log_step (state_group log + 1)
    then Write (record { 0 = LOG_HEADER_BLOCK })
    else Barrier side.Log

-- the positions of the installation: where it has none, the installer takes what is logged
abbrev pub taken_home : LogState → ℕ
taken_home log = if nat_lt 0 log.installing then log.installing else log.logged

-- a block is written home, on a disk of so many: no more of them than there are positions
pub record BringsHome (blocks : ℕ) (log : LogState) (block : BlockNo) : Type 0 where
  pub before : log.behind ≡ 0
  pub fewer : log.homes < taken_home log
  pub home : IsHomeOn blocks block

-- the start is written, behind the barrier
pub record AdvancesStart (log : LogState) (block : BlockNo) : Type 0 where
  pub behind : log.behind ≡ 1
  pub start : block.0 ≡ START_BLOCK

-- The call of the installer: some blocks to their homes, a barrier, the raised start, a barrier.
abbrev pub IsNextOfInstalling : ℕ → LogState → IoCall → Type 0
IsNextOfInstalling blocks log (Write block) = BringsHome blocks log block ⊎ AdvancesStart log block
IsNextOfInstalling blocks log (Barrier side.Home) = ((log.behind ≡ 0) × (0 < log.homes)) ⊎ (log.behind ≡ 2)
IsNextOfInstalling blocks log (Barrier side.Log) = ⊥
