-- What settling a store does, and how many device calls it makes at most.
use Rattle.std.specs.Prelude.{◌≡◌, ℕ, ◌+◌, ◌-◌, ◌*◌, ◌<◌, ◌≤◌, ◌⊎◌, true, false, if◌then◌else◌, nat_eq, None}
use Rattle.std.specs.Prelude.{[], length}
use Rattle.disk.specs.Device.{Device}
use Rattle.disk.specs.declared.block.Side.{Side}
use Rattle.disk.specs.declared.block.Side.TheVariants as sides
use Rattle.wal.specs.Log.{Log, tail_count}
use Rattle.circ.specs.Log.Logger.{may_log}
use Rattle.txn.specs.Core.{CoreState}
use Rattle.store_promise.specs.Openings.{IsLater}
use Rattle.store_images.specs.Fetches.{FetchesOnly}

-- no device call of the log or of the installer is out
pub record IsQuiet (log : Log) : Type 0 where
  pub logging : log.log_out ≡ false
  pub installing : log.inst_out ≡ false

-- nothing is out: no transaction, no device call of the log or of the installer, and no fetch
pub record IsIdle (core : CoreState) : Type 0 where
  pub out : core.out ≡ []
  pub quiet : IsQuiet core.log
  pub fetches : FetchesOnly None core

-- no transaction was begun, and no place was taken
pub record SameNumbers (old new : CoreState) : Type 0 where
  pub begun : new.begun ≡ old.begun
  pub places : new.log.places ≡ old.log.places

-- how many calls of a group are left that has so many blocks, of which so many were made: each block, a
-- barrier, the block that tells of it, and a barrier
abbrev pub group_left : ℕ → ℕ → ℕ
group_left blocks made = if nat_eq blocks 0 then 0 else (blocks + 3) - made

-- The most device calls that are left until all is home: what the logger has taken, the tail, what the
-- installer has taken, and what comes behind it. A group of one block takes four calls, and no group takes
-- more for each of its blocks.
abbrev pub calls_left : Log → ℕ
calls_left log = group_left log.taken log.log_step + 4 * (length log.changes - (log.logged + log.taken))
    + (group_left log.installing log.inst_step + 4 * (length log.changes - log.installing))

-- how many calls a settling makes at most: none once the log is broken, and else those that are left, and one
-- that fails
abbrev pub most_calls : Log → ℕ
most_calls log = if log.broken then 0 else calls_left log + 1

-- each call that was made is one of these
pub record SpendsCalls (before : Device) (old : Log) (after : Device) (new : Log) : Type 0 where
  pub few : after.clock + most_calls new ≤ before.clock + most_calls old

-- one of the calls since was a write or a barrier, and failed
pub record HasLost (before after : Device) : Type 0 where
  pub call : ℕ
  pub since : before.clock ≤ call
  pub below : call < after.clock
  pub failed : after.failed call ≡ true
  pub lost : after.lost call ≡ true

-- A write or a barrier was made and given back. An answer of Ok leaves fewer to make; only its failure breaks
-- the log.
pub record HasCalled (old : Log) (before : Device) (new : Log) (after : Device) : Type 0 where
  pub sound : old.broken ≡ false
  pub nearer : new.broken ≡ false → calls_left new < calls_left old
  pub past : IsLater before after
  pub failed : new.broken ≡ true → before.failures < after.failures
  pub lost : new.broken ≡ true → HasLost before after
  pub counted : before.failures ≤ after.failures

-- a write or a barrier had failed before, or one failed since
abbrev pub HasBroken : Log → Device → Device → Type 0
HasBroken log before after = (log.broken ≡ true) ⊎ HasLost before after

-- a write or a barrier had failed before, or a device call failed since, which may be a read
abbrev pub HasFailed : Log → Device → Device → Type 0
HasFailed log before after = (log.broken ≡ true) ⊎ (before.failures < after.failures)

-- ---- at most twice the blocks in the log, and twelve

-- The most device calls that a settling has before it, group by group: what is left of the logger's group and
-- of what the installer has taken; what stands behind that, brought home at once; and the tail, logged at once
-- and brought home at once.
abbrev pub settling_left : Log → ℕ
settling_left log = group_left log.taken log.log_step + group_left log.installing log.inst_step
    + (group_left (log.logged + log.taken - log.installing) 0 + 2 * group_left (tail_count log) 0)

-- none once the log is broken
abbrev pub settling_calls : Log → ℕ
settling_calls log = if log.broken then 0 else settling_left log

-- it is the side's turn in a settling: the installer's where the logger has no call to make
abbrev pub IsTurnOf : Side → Log → Type 0
IsTurnOf sides.Log log = Unit {0}
IsTurnOf sides.Home log = may_log log ≡ false

-- each call of a settling that was made is one of these
pub record SpendsSettling (before : Device) (old : Log) (after : Device) (new : Log) : Type 0 where
  pub few : after.clock + settling_calls new ≤ before.clock + settling_calls old

-- The most device calls of a settling: two for each block in the log, and three for each of four groups.
abbrev pub most_of_settling : Log → ℕ
most_of_settling log = 2 * length log.changes + 12
