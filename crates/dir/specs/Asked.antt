-- What a look at a directory asks for: a block that it spans, behind those that it looked through.
use Rattle.std.specs.Prelude.{◌≡◌, ℕ, ◌-◌, ◌*◌, ◌/◌, ◌<◌, ◌≤◌, List, None}
use Rattle.base.specs.declared.TheConstants.{SLOTS_PER_BLOCK}
use Rattle.disk.specs.Crash.{Image}
use Rattle.objects.specs.declared.addr.Addr.{Addr}
use Rattle.nfs_spec.specs.Model.Tree.{Tree}
use Rattle.layout.specs.declared.inode.Inode.{Inode}
use Rattle.layout.specs.Decode.{span_of}
use Rattle.layout.specs.Parts.{content_in}
use Rattle.inode.specs.declared.snap.Snap.{Snap}
use Rattle.inode.specs.declared.suspend.Suspend.{Suspend}
use Rattle.inode.specs.Asked.{IsNeededAt, IsSuspendFor}
use Rattle.inode.specs.Over.{IsResumable, MaySuspend}
use Rattle.dir.specs.declared.cursor.SearchCursor.{SearchCursor}
use Rattle.dir.specs.Slots.{AreFree, IsDirectoryOf, Lying, NoneHas, slot_at}
use Rattle.dir.specs.Vacant.{NoneFree}

-- The address is that of a block that the directory spans, or of the indirect block that names it; and of the slots
-- before it this is known.
pub record IsNeededBehind (known : ℕ → Lying → Type 0) (snap : Snap) (inode : Inode) (addr : Addr) : Type 0
  where
    pub index : ℕ
    pub within : index < span_of inode
    pub scanned : (blocks : Image) (tree : Tree) (file : ℕ) → IsDirectoryOf snap blocks tree file inode
        → known index (slot_at snap.geometry.inodes (content_in snap.geometry blocks) inode)
    pub needed : IsNeededAt snap inode index addr

-- no slot of the block before an index has the name
abbrev pub LackBefore : List ℕ → ℕ → Lying → Type 0
LackBefore name index lies = NoneHas lies name (SLOTS_PER_BLOCK * (index - 1)) (SLOTS_PER_BLOCK * index)

-- the index isn't before this slot's block, and each slot from that one on and before the index's block is free
abbrev pub FreeBefore : ℕ → ℕ → Lying → Type 0
FreeBefore from index lies = (from / SLOTS_PER_BLOCK ≤ index) × AreFree lies from (SLOTS_PER_BLOCK * index)

-- a name lies in each slot before the block of an index
abbrev pub TakenBefore : ℕ → Lying → Type 0
TakenBefore index lies = NoneFree lies 0 (SLOTS_PER_BLOCK * index)

-- the name is still looked for, and the address is that of the first block that wasn't looked through for it
pub record IsAtCursor (snap : Snap) (inode : Inode) (cursor : SearchCursor) (addr : Addr) : Type 0 where
  pub none : cursor.found ≡ None
  pub within : cursor.blocks < span_of inode
  pub needed : IsNeededAt snap inode cursor.blocks addr

-- the same, or a search that is restarted asks for it
pub data IsAtCursorOrRestarted (snap : Snap) (inode : Inode) (cursor : SearchCursor) (addr : Addr) : Type 0 where
  next : IsAtCursor snap inode cursor addr → IsAtCursorOrRestarted snap inode cursor addr
  restarted : IsNeededBehind (LackBefore cursor.name) snap inode addr → IsAtCursorOrRestarted snap inode cursor addr

-- where the block at an index is read, the reading stops
pub record StopsAt (snap : Snap) (inode : Inode) (index : ℕ) : Type 0 where
  pub suspend : Suspend
  pub may : MaySuspend snap suspend
  pub asks : IsSuspendFor (IsNeededAt snap inode index) suspend
  pub resumable : (blocks : Image) (tree : Tree) (file : ℕ) → IsDirectoryOf snap blocks tree file inode
      → index < span_of inode → IsResumable suspend
