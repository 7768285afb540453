-- What a commit of the core needs, and what it leaves.
use Rattle.std.specs.Prelude.{◌≡◌, ℕ, Bool, true, false, if◌then◌else◌, Option, Some, None, List, [], ◌∷◌, ◌++◌}
use Rattle.std.specs.Prelude.{length, map, nat_lt, All}
use Rattle.base.specs.declared.TheConstants.{BLOCK_BYTES}
use Rattle.disk.specs.Device.{Content}
use Rattle.disk.specs.Crash.{Image}
use Rattle.disk.specs.declared.block.BlockNo.{BlockNo}
use Rattle.objects.specs.declared.addr.Addr.{Addr}
use Rattle.circ.specs.Log.Grows.{GrowsBy}
use Rattle.circ.specs.Log.Log.{Log, IsHomeOn, newest, installed_place, blocks_of as group_blocks}
use Rattle.circ.specs.Log.Overlay.{content_or}
use Rattle.txn_law.specs.Core.{CoreState, IsOut, ended}
use Rattle.txn_law.specs.Group.{blocks_of, IsOverlaid}
use Rattle.txn_law.specs.Holds.{released, hold_of, is_read, is_written}
use Rattle.objects.specs.Object.{ObjectBytes}
use Rattle.objects.specs.Present.{present_of, content_in, is_pending}
use Rattle.txn_law.specs.Records.{lies_in, swept}
use Rattle.txn_law.specs.Steps.{IsWholeIn}
use Rattle.txn_law.specs.Window.{Footprint, now_of, part}
use Rattle.objects.specs.declared.present.Present.{Present}

-- what a change was planned for, what it read and what it writes
pub record Planned : Type 0 where
  pub read : List ObjectBytes
  pub written : List ObjectBytes
  pub blocks : ℕ
  pub inodes : ℕ

-- the object's block is in memory, and has its bytes
pub record HasBytes (core : CoreState) (object : ObjectBytes) : Type 0 where
  pub content : Content
  pub there : content_in (present_of core.present object.addr.block) ≡ Some content
  pub same : part content object.addr ≡ object.bytes

-- the transaction holds the object for reading, and its bytes are the current ones
pub record IsReadBy (core : CoreState) (tx : ℕ) (object : ObjectBytes) : Type 0 where
  pub held : is_read (hold_of core.holds tx object.addr) ≡ true
  pub current : HasBytes core object

-- the transaction holds the address for writing, and no fetch of its block is pending
pub record IsWrittenBy (core : CoreState) (tx : ℕ) (addr : Addr) : Type 0 where
  pub held : is_written (hold_of core.holds tx addr) ≡ true
  pub loaded : is_pending (present_of core.present addr.block) ≡ false

-- The transaction is out. Its change was planned for this core, read what the transaction holds, and writes
-- what the transaction holds, in blocks that a change may write.
pub record IsOwn (core : CoreState) (tx : ℕ) (plan : Planned) : Type 0 where
  pub out : IsOut core tx
  pub blocks : plan.blocks ≡ core.log.blocks
  pub inodes : plan.inodes ≡ core.inodes
  pub read : All (IsReadBy core tx) plan.read
  pub written : All (λ object. IsWrittenBy core tx object.addr) plan.written
  pub homes : All (IsHomeOn core.log.blocks) (blocks_of plan.written)

-- what the commit of a place read and wrote
abbrev pub footprint : ℕ → Planned → Footprint
footprint place plan = record { place = place; read = plan.read; written = plan.written }

-- the records with a commit's, where it isn't installed at once
abbrev pub with_record : Log → ℕ → Planned → List Footprint → List Footprint
with_record log place plan records =
    if nat_lt (installed_place log) place then records ++ footprint place plan ∷ [] else records

-- what is in memory, with the log's content of a block that the log has
abbrev pub refreshed_content : Option Content → Option Content → Option Content
refreshed_content None logged = None
refreshed_content (Some content) logged = Some (content_or logged content)

abbrev pub refreshed_resident : Log → Present → Present
refreshed_resident log resident = record {
  block = resident.block;
  content = refreshed_content resident.content (newest log resident.block.0);
}

abbrev pub refreshed : Log → List Present → List Present
refreshed log present = map (refreshed_resident log) present

-- the core once the change is committed
abbrev pub committed : (Present → Bool) → CoreState → ℕ → Planned → Log → CoreState
committed spare old tx plan log = record (ended spare old tx) {
  log = log;
  records = with_record log log.places plan old.records;
  present = swept spare (released old.holds tx) (with_record log log.places plan old.records)
      (refreshed log old.present);
}

-- A change is committed: it read what the transaction holds, and the log has its group. What it writes and
-- isn't in memory it has claimed, and writes whole.
pub record IsCommitted (base : Image) (old : CoreState) (tx : ℕ) (plan : Planned)
    (group : List (BlockNo × Content)) (log : Log) : Type 0 where
  pub grown : GrowsBy old.log group log
  pub blocks : group_blocks group ≡ blocks_of plan.written
  pub contents : All (IsOverlaid old.present old.log plan.written) group
  pub read : All (IsReadBy old tx) plan.read
  pub claimed : (block : BlockNo) → lies_in plan.written block ≡ true
      → content_in (present_of old.present block) ≡ None → newest old.log block.0 ≡ None
      → (length (now_of base old.log old.records block.0) ≡ BLOCK_BYTES) × All (IsWholeIn block) plan.written
