-- A directory's block in which a slot becomes zeros.
use Rattle.std.specs.Prelude.{◌≡◌, ◌≢◌, ℕ, ◌*◌, ◌/◌, ◌%◌, ◌<◌, List, length, get_or, replicate}
use Rattle.base.specs.declared.TheConstants.{SLOTS_PER_BLOCK}
use Rattle.disk.specs.Crash.{Image}
use Rattle.objects.specs.Spliced.{spliced}
use Rattle.layout.specs.declared.inode.Inode.{Inode}
use Rattle.layout.specs.declared.slot.TheConstants.{SLOT_BYTES}
use Rattle.layout.specs.Decode.{numbers_of, pointer_blocks}
use Rattle.layout.specs.declared.geometry.Geometry.{Geometry}
use Rattle.layout.specs.Parts.{content_in, put, with_bytes}
use Rattle.nfs_spec.specs.Model.Node.{Node}
use Rattle.nfs_spec.specs.Procedures.Changes.{without_dirent}

-- the block in which a slot lies
abbrev pub slot_block : Image → Inode → ℕ → ℕ
slot_block content inode slot = get_or (numbers_of content inode) (slot / SLOTS_PER_BLOCK) 0

-- the blocks with the slot cleared
abbrev pub cleared : Image → Inode → ℕ → Image
cleared content inode slot =
    put content (slot_block content inode slot)
    (spliced (content (slot_block content inode slot)) (SLOT_BYTES * (slot % SLOTS_PER_BLOCK))
    (replicate SLOT_BYTES 0))

-- the block is at one index of the file alone, and has no numbers itself
pub record HasOnce (content : Image) (inode : Inode) (block : ℕ) : Type 0 where
  pub index : (one other : ℕ) → one < length (numbers_of content inode) → other < length (numbers_of content inode)
      → get_or (numbers_of content inode) one 0 ≡ block → get_or (numbers_of content inode) other 0 ≡ block
      → one ≡ other
  pub pointer : (one : ℕ) → one < length (pointer_blocks content inode)
      → get_or (pointer_blocks content inode) one 0 ≢ block

-- the file without the name
abbrev pub without_name : List ℕ → Node → Node
without_name name node = record node { body = without_dirent name node.body }

-- the bytes of the block in which the slot lies, with the slot cleared
abbrev pub cleared_bytes : Image → Inode → ℕ → List ℕ
cleared_bytes content inode slot =
    spliced (content (slot_block content inode slot)) (SLOT_BYTES * (slot % SLOTS_PER_BLOCK))
    (replicate SLOT_BYTES 0)

-- blocks in which the slot is cleared
abbrev pub IsClearedIn : Geometry → Inode → ℕ → Image → Image → Type 0
IsClearedIn g inode slot old new =
    new ≡ with_bytes old (slot_block (content_in g old) inode slot) 0 (cleared_bytes (content_in g old) inode slot)
