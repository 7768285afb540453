-- When the commits that aren't installed agree with the log, over what is at home, and with what is in
-- memory.
use Rattle.std.specs.Prelude.{◌≡◌, ℕ, ◌+◌, ◌-◌, ◌<◌, if◌then◌else◌, nat_eq, List, [], ◌∷◌, length, take, drop}
use Rattle.std.specs.Prelude.{Some, Contains, All}
use Rattle.std.specs.List.{AllByRecursion}
use Rattle.disk.specs.Device.{Content}
use Rattle.disk.specs.Crash.{Image}
use Rattle.objects.specs.declared.addr.Addr.{Addr}
use Rattle.objects.specs.Spliced.{spliced}
use Rattle.circ.specs.declared.log.change.LogChange.{LogChange}
use Rattle.circ.specs.Log.Grows.{recovered}
use Rattle.circ.specs.Log.Law.{with_changes}
use Rattle.circ.specs.Log.Log.{Log, installed_place, newest_of, place_before}
use Rattle.objects.specs.Object.{ObjectBytes}

-- what a commit read, and what it wrote
pub record Footprint : Type 0 where
  pub place : ℕ
  pub read : List ObjectBytes
  pub written : List ObjectBytes

-- the bytes of a block at an address
abbrev pub part : Content → Addr → List ℕ
part content addr = take addr.len (drop addr.offset content)

-- the bytes at an address
abbrev pub object_at : Image → Addr → List ℕ
object_at blocks addr = part (blocks addr.block.0) addr

-- the blocks with an object laid over them
abbrev pub with_object : Image → ObjectBytes → Image
with_object blocks object = λ block. if nat_eq block object.addr.block.0
    then spliced (blocks block) object.addr.offset object.bytes else blocks block

-- the blocks with these objects laid over them, later ones over earlier ones
abbrev pub with_objects : Image → List ObjectBytes → Image
with_objects blocks [] = blocks
with_objects blocks (object ∷ objects) = with_objects (with_object blocks object) objects

-- an object that was read has the bytes that are there
abbrev pub IsAsRead : Image → ObjectBytes → Type 0
IsAsRead blocks object = object_at blocks object.addr ≡ object.bytes

-- from these blocks, each commit in turn read what was there, and its writes lead on to the next
abbrev pub Follow : Image → List Footprint → Type 0
Follow blocks [] = Unit {0}
Follow blocks (commit ∷ commits) = AllByRecursion (IsAsRead blocks) commit.read
    × Follow (with_objects blocks commit.written) commits

-- the blocks after these commits
abbrev pub after_commits : Image → List Footprint → Image
after_commits blocks [] = blocks
after_commits blocks (commit ∷ commits) = after_commits (with_objects blocks commit.written) commits

-- the blocks from which the commits follow: what is at home, with what the opening found in the log
abbrev pub opening : Image → Log → Image
opening base log = with_changes base (recovered log.changes)

-- the blocks after the commits
abbrev pub now_of : Image → Log → List Footprint → Image
now_of base log commits = after_commits (opening base log) commits

-- Where a group of the log's changes ends: at the first change, behind those that the installer has taken,
-- behind the settled ones, behind the logger's group, behind the last.
pub data GroupEnd (log : Log) (count : ℕ) : Type 0 where
  at_first : count ≡ 0 → GroupEnd log count
  at_installed : count ≡ log.installing → GroupEnd log count
  at_logged : count ≡ log.logged → GroupEnd log count
  at_taken : count ≡ log.logged + log.taken → GroupEnd log count
  at_last : count ≡ length log.changes → GroupEnd log count

-- how many of the commits have their changes among the first so many
abbrev pub commits_among : Log → ℕ → ℕ
commits_among log count = place_before (drop count log.changes) log.places - installed_place log

-- the blocks under the first of the log's changes are those after the commits whose changes are among them
abbrev pub LeadsTo : Image → Log → List Footprint → ℕ → Type 0
LeadsTo base log commits count =
    (block : ℕ) → with_changes base (take count log.changes) block
    ≡ after_commits (opening base log) (take (commits_among log count) commits) block

-- the commits have their places in order
abbrev pub ArePlaced : ℕ → List Footprint → Type 0
ArePlaced next [] = Unit {0}
ArePlaced next (commit ∷ later) = (commit.place ≡ next) × ArePlaced (next + 1) later

-- the block of what a commit wrote has one of these changes
abbrev pub IsInLog : List LogChange → ObjectBytes → Type 0
IsInLog changes object = (content : Content) × (newest_of changes object.addr.block.0 ≡ Some content)

abbrev pub AreInLog : List LogChange → Footprint → Type 0
AreInLog changes commit = All (IsInLog changes) commit.written

-- the block of what a commit read is in memory
abbrev pub IsPinned : List (ℕ × Content) → ObjectBytes → Type 0
IsPinned held object = (content : Content) × Contains held (object.addr.block.0, content)

abbrev pub ArePinned : List (ℕ × Content) → Footprint → Type 0
ArePinned held commit = All (IsPinned held) commit.read

-- a block in memory has the content that these blocks have
abbrev pub IsCurrent : Image → ℕ × Content → Type 0
IsCurrent now resident = resident.1 ≡ now resident.0

-- A legal window over what is at home.
pub record IsWindowOver (base : Image) (log : Log) (commits : List Footprint)
    (held : List (ℕ × Content)) : Type 0 where
  pub follow : Follow (opening base log) commits
  pub placed : ArePlaced (installed_place log + 1) commits
  pub all : installed_place log + length commits ≡ log.places
  -- the installer takes all that the opening found
  pub opened : 0 < log.installing → recovered (drop log.installing log.changes) ≡ []
  pub group : (count : ℕ) → GroupEnd log count → recovered (drop count log.changes) ≡ []
      → LeadsTo base log commits count
  pub written : (count : ℕ) → GroupEnd log count
      → All (AreInLog (drop count log.changes)) (drop (commits_among log count) commits)
  pub memory : All (IsCurrent (now_of base log commits)) held
  pub pinned : All (ArePinned held) commits

-- A legal window: there are blocks at home over which it is one. That a commit's reply and its writes are its
-- plan's is told by the change's type.
abbrev pub IsLegalWindow : Log → List Footprint → List (ℕ × Content) → Type 0
IsLegalWindow log commits held = (base : Image) × IsWindowOver base log commits held
