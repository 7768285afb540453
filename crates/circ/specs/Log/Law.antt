-- The law of the log: while the contents that the blocks of a disk may have agree with a log's meaning, a
-- crash leaves the blocks after a whole group.
use Rattle.std.specs.Prelude.{◌≡◌, ℕ, ◌+◌, ◌-◌, ◌*◌, ◌%◌, ◌≤◌, ◌<◌, ◌⊎◌, if◌then◌else◌, nat_eq, List, map}
use Rattle.std.specs.Prelude.{take, drop, slice_get, Some, None, Contains}
use Rattle.base.specs.declared.TheConstants.{LOG_SLOTS, LOG_HEADER_BLOCK, START_BLOCK}
use Rattle.disk.specs.Device.{Content, Device, current, newest}
use Rattle.disk.specs.Crash.{Image}
use Rattle.disk.specs.declared.block.BlockNo.{BlockNo}
use Rattle.circ.specs.declared.log.change.LogChange.{LogChange}
use Rattle.circ.specs.Log.Log.{Log, newest_of}
use Rattle.circ.specs.Log.Logger.{slot_block}
use Rattle.circ.specs.Log.EightBytes.{number_at}
use Rattle.circ.specs.Log.Overlay.{start_in, logged_in, IsInRange, HasHomes, content_or, over}
use Rattle.circ.specs.Log.Effects.{brought_home}

-- a crash now leaves no other content of the block
abbrev pub LeavesOnly : Device → ℕ → (Content → Type 0) → Type 0
LeavesOnly d block P = (content : Content) → Contains (current d block) content → P content

-- a block of a disk of so many that isn't the log's own
abbrev pub IsOutside : ℕ → ℕ → Type 0
IsOutside blocks block = (block < blocks) × ((block < LOG_HEADER_BLOCK) ⊎ (START_BLOCK < block))

-- the blocks after these changes
abbrev pub with_changes : Image → List LogChange → Image
with_changes base changes block = content_or (newest_of changes block) (base block)

-- the blocks, of which one has this content
abbrev pub with_home : Image → ℕ → Content → Image
with_home base block content other = if nat_eq other block then content else base other

-- the slots of the first so many changes hold their contents
abbrev pub HoldsSlots : Device → Log → ℕ → Type 0
HoldsSlots d log count = (k : ℕ) → k < count → (change : LogChange) → slice_get log.changes k ≡ Some change
    → LeavesOnly d (slot_block (log.start + k)) (λ content. content ≡ change.content)

-- a header of the first so many changes: where they end, and of each its home
abbrev pub IsHeaderOf : Log → ℕ → Content → Type 0
IsHeaderOf log count content = (number_at content 0 ≡ log.start + count)
    × ((k : ℕ) → k < count → (change : LogChange) → slice_get log.changes k ≡ Some change
    → number_at content (8 + 8 * ((log.start + k) % LOG_SLOTS)) ≡ change.block.0)

-- a start behind the first so many changes
abbrev pub IsStartBehind : Log → ℕ → Content → Type 0
IsStartBehind log count content = number_at content 0 ≡ log.start + count

-- The log's own blocks agree with the log, by how far the logger has come with its group.
pub record LogAgrees (d : Device) (log : Log) : Type 0 where
  pub slots : HoldsSlots d log log.logged
  -- what was written of the group is the newest of its slots
  pub written : (k : ℕ) → k < log.log_step → k < log.taken → (change : LogChange)
      → slice_get log.changes (log.logged + k) ≡ Some change
      → newest (current d (slot_block (log.start + (log.logged + k)))) ≡ change.content
  -- after the barrier behind its blocks, the group is in its slots, and its header may come
  pub group_slots : log.taken < log.log_step → HoldsSlots d log (log.logged + log.taken)
  pub header : log.log_step ≤ log.taken → LeavesOnly d LOG_HEADER_BLOCK (IsHeaderOf log log.logged)
  pub group_header : log.taken < log.log_step
      → LeavesOnly d LOG_HEADER_BLOCK (λ content. IsHeaderOf log log.logged content
      ⊎ IsHeaderOf log (log.logged + log.taken) content)
  pub newest_header : log.log_step ≡ log.taken + 2
      → IsHeaderOf log (log.logged + log.taken) (newest (current d LOG_HEADER_BLOCK))

-- no change that the installer has still to bring home is of the block
abbrev pub IsPast : Log → ℕ → Type 0
IsPast log block = newest_of (drop log.inst_step (take log.installing log.changes)) block ≡ None

-- The blocks at home and the start agree with the log, by how far the installer has come.
pub record HomeAgrees (d : Device) (base : Image) (log : Log) : Type 0 where
  -- what comes home next is the newest of its block
  pub chosen : log.inst_step < log.installing → (change : LogChange)
      → slice_get log.changes log.inst_step ≡ Some change
      → brought_home log change.block.0 ≡ Some change.content
  -- before the barrier behind what is brought home, each of those blocks may be old or new
  pub home : log.inst_step ≤ log.installing → (block : ℕ) → IsOutside log.blocks block
      → LeavesOnly d block (λ content. (content ≡ base block) ⊎ (brought_home log block ≡ Some content))
  -- and the new is the newest where it was written
  pub written : log.inst_step ≤ log.installing → (block : ℕ) → IsOutside log.blocks block → IsPast log block
      → (content : Content) → brought_home log block ≡ Some content → newest (current d block) ≡ content
  pub start : log.inst_step ≤ log.installing → LeavesOnly d START_BLOCK (IsStartBehind log 0)
  -- after it they are new, and the raised start may come
  pub brought : log.installing < log.inst_step → (block : ℕ) → IsOutside log.blocks block
      → LeavesOnly d block (λ content. content ≡ with_changes base (take log.installing log.changes) block)
  pub advanced_start : log.installing < log.inst_step
      → LeavesOnly d START_BLOCK (λ content. IsStartBehind log 0 content
      ⊎ IsStartBehind log log.installing content)
  pub newest_start : log.inst_step ≡ log.installing + 2
      → IsStartBehind log log.installing (newest (current d START_BLOCK))

-- The contents that the disk may have agree with the log, over what is at home.
pub record Agrees (d : Device) (base : Image) (log : Log) : Type 0 where
  pub size : d.size ≡ log.blocks
  pub own : LogAgrees d log
  pub homes : HomeAgrees d base log

-- the blocks of the image, with its log laid over them, are those after the first so many changes
abbrev pub IsAfter : Image → Log → ℕ → Image → Type 0
IsAfter base log count image = (block : ℕ) → IsOutside log.blocks block
    → over image block ≡ with_changes base (take count log.changes) block

-- changes, as an opening finds them
abbrev pub pairs_of : List LogChange → List (BlockNo × Content)
pairs_of changes = map (λ (change : LogChange). (change.block, change.content)) changes

-- An opening finds the changes of the log in order: from the first, or from behind those that are brought
-- home, to the last of the settled groups, or of one group more.
pub record ShowsLog (log : Log) (start : ℕ) (logged : List (BlockNo × Content)) : Type 0 where
  pub first : ℕ
  pub end : ℕ
  pub from : (first ≡ 0) ⊎ (first ≡ log.installing)
  pub to : (end ≡ log.logged) ⊎ (end ≡ log.logged + log.taken)
  pub position : start ≡ log.start + first
  pub changes : logged ≡ pairs_of (take (end - first) (drop first log.changes))

-- The image can be opened, and has the blocks after the settled groups, or after one group more.
pub record IsBoundary (base : Image) (log : Log) (image : Image) : Type 0 where
  pub range : IsInRange image
  pub homes : HasHomes log.blocks image
  pub blocks : IsAfter base log log.logged image ⊎ IsAfter base log (log.logged + log.taken) image
  pub positions : ShowsLog log (start_in image) (logged_in image)
