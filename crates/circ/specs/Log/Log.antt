-- The memory log: the changes that aren't home yet, and how far the logger and the installer have come with
-- them.
use Rattle.std.specs.Prelude.{◌≡◌, ℕ, ◌+◌, ◌-◌, ◌≤◌, ◌<◌, ◌^◌, Bool, false, not, if◌then◌else◌, nat_eq, List}
use Rattle.std.specs.Prelude.{[], ◌∷◌, length, drop, map, Option, Some, None, All}
use Rattle.std.specs.List.{filter, list_any}
use Rattle.base.specs.declared.TheConstants.{LOG_SLOTS, FIRST_HOME_BLOCK}
use Rattle.disk.specs.Device.{Content}
use Rattle.disk.specs.declared.block.BlockNo.{BlockNo}
use Rattle.circ.specs.declared.log.change.LogChange.{LogChange}

pub record Log : Type 0 where
  -- the count of the disk's blocks
  pub blocks : ℕ
  -- the log position of the first change, settled on the disk
  pub start : ℕ
  -- the changes that aren't installed, oldest first
  pub changes : List LogChange
  -- how many of them are settled in the log
  pub logged : ℕ
  -- how many after those are the group that the logger has taken, 0 where it has none
  pub taken : ℕ
  -- how many of the group's calls have been made
  pub log_step : ℕ
  -- a call of the logger is out
  pub log_out : Bool
  -- how many of the logged changes the installer has taken, 0 where it has none
  pub installing : ℕ
  -- the change that the installer writes home, or past the last how many further calls have been made
  pub inst_step : ℕ
  -- a call of the installer is out
  pub inst_out : Bool
  -- how many commits there were
  pub places : ℕ
  -- a device call failed
  pub broken : Bool

-- the first of two that is there
abbrev pub or_else : Option Content → Option Content → Option Content
or_else (Some content) other = Some content
or_else None other = other

-- the content of the last change of the block
abbrev pub newest_of : List LogChange → ℕ → Option Content
newest_of [] block = None
newest_of (change ∷ later) block =
    or_else (newest_of later block) (if nat_eq change.block.0 block then Some change.content else None)

-- the newest content of the block in the log
abbrev pub newest : Log → ℕ → Option Content
newest log block = newest_of log.changes block

-- the greatest place before the first of these changes, of so many places
abbrev pub place_before : List LogChange → ℕ → ℕ
place_before [] places = places
place_before (change ∷ later) places = change.place - 1

-- the greatest place such that each change at or before it is settled in the log
abbrev pub settled_place : Log → ℕ
settled_place log = place_before (drop log.logged log.changes) log.places

-- the greatest place such that each change at or before it is home
abbrev pub installed_place : Log → ℕ
installed_place log = place_before log.changes log.places

-- the open tail: what is changed and not yet taken by the logger
abbrev pub tail_of : Log → List LogChange
tail_of log = drop (log.logged + log.taken) log.changes

-- how many blocks the tail holds
abbrev pub tail_count : Log → ℕ
tail_count log = length log.changes - (log.logged + log.taken)

-- the blocks of changes
abbrev pub changed_blocks : List LogChange → List BlockNo
changed_blocks changes = map (λ (change : LogChange). change.block) changes

-- the blocks that the tail holds
abbrev pub tail_blocks : Log → List BlockNo
tail_blocks log = changed_blocks (tail_of log)

-- whether the block is among these
abbrev pub is_among : BlockNo → List BlockNo → Bool
is_among block blocks = list_any (λ b. nat_eq b.0 block.0) blocks

-- each of the blocks stands there once
abbrev pub AreOnce : List BlockNo → Type 0
AreOnce [] = Unit {0}
AreOnce (block ∷ later) = (is_among block later ≡ false) × AreOnce later

-- those of the blocks that a tail of these lacks: what it gets more by a group that changes them
abbrev pub new_blocks : List BlockNo → List BlockNo → List BlockNo
new_blocks tail blocks = filter (λ block. not (is_among block tail)) blocks

-- how many blocks more the tail holds by a group that changes these
abbrev pub added_blocks : Log → List BlockNo → ℕ
added_blocks log blocks = length (new_blocks (tail_blocks log) blocks)

-- the blocks that the tail holds after such a group
abbrev pub tail_after : Log → List BlockNo → ℕ
tail_after log blocks = tail_count log + added_blocks log blocks

-- the blocks of a group
abbrev pub blocks_of : List (BlockNo × Content) → List BlockNo
blocks_of group = map (λ (change : BlockNo × Content). change.0) group

-- the changes of a group, by the commit of the place
abbrev pub changes_of : ℕ → List (BlockNo × Content) → List LogChange
changes_of place group =
    map (λ (change : BlockNo × Content). record { place = place; block = change.0; content = change.1 }) group

-- where the positions of the settled log end
abbrev pub log_end : Log → ℕ
log_end log = log.start + log.logged

-- the log that an opening found on a disk of so many blocks: all of its changes are logged, none by a commit
abbrev pub opened : ℕ → ℕ → List (BlockNo × Content) → Log
opened blocks start logged =
    record {
      blocks = blocks;
      start = start;
      changes = changes_of 0 logged;
      logged = length logged;
      taken = 0;
      log_step = 0;
      log_out = false;
      installing = 0;
      inst_step = 0;
      inst_out = false;
      places = 0;
      broken = false;
    }

-- a change that a log may hold: of a block that lies behind the log and on the disk
abbrev pub IsHomeOn : ℕ → BlockNo → Type 0
IsHomeOn blocks block = (FIRST_HOME_BLOCK ≤ block.0) × (block.0 < blocks)

-- the place of the first of these changes, or the last of so many places
abbrev pub first_place : List LogChange → ℕ → ℕ
first_place [] places = places
first_place (change ∷ later) places = change.place

-- the places of changes don't fall, and are at most the last
abbrev pub IsRising : List LogChange → ℕ → Type 0
IsRising [] places = Unit {0}
IsRising (change ∷ later) places = (change.place ≤ first_place later places) × IsRising later places

-- a change that a commit made
abbrev pub IsCommitted : LogChange → Type 0
IsCommitted change = 0 < change.place

-- what is true of every log
pub record IsLawful (log : Log) : Type 0 where
  pub disk : FIRST_HOME_BLOCK ≤ log.blocks
  pub taken_within : log.logged + log.taken ≤ length log.changes
  -- no slot is used again before the raised start is settled
  pub slots : log.logged + log.taken ≤ LOG_SLOTS
  pub tail : length log.changes ≤ log.logged + log.taken + LOG_SLOTS
  pub positions : log.start + length log.changes < 2 ^ 64
  pub log_step : log.log_step ≤ log.taken + 2
  pub log_idle : log.taken ≡ 0 → (log.log_step ≡ 0) × (log.log_out ≡ false)
  pub installing : log.installing ≤ log.logged
  pub inst_step : log.inst_step ≤ log.installing + 2
  pub inst_idle : log.installing ≡ 0 → (log.inst_step ≡ 0) × (log.inst_out ≡ false)
  -- What is taken is taken as its first call goes out: with no call out, one of it was made, unless the log is
  -- broken.
  pub log_begun : log.broken ≡ false → log.log_out ≡ false → 0 < log.taken → 0 < log.log_step
  pub inst_begun : log.broken ≡ false → log.inst_out ≡ false → 0 < log.installing → 0 < log.inst_step
  pub places : log.places < 2 ^ 64
  pub homes : All (λ (change : LogChange). IsHomeOn log.blocks change.block) log.changes
  pub rising : IsRising log.changes log.places
  pub committed : All IsCommitted (drop log.logged log.changes)
  -- the open tail has one change of each of its blocks
  pub once : AreOnce (tail_blocks log)
