-- What a write set has read and written, and over which blocks.
use Rattle.std.specs.Prelude.{◌≡◌, ℕ, ◌+◌, ◌<◌, Bool, false, not, ◌&&◌, ◌||◌, cond, List, [], ◌∷◌, length, nat_eq}
use Rattle.std.specs.Prelude.{All, Contains}
use Rattle.base.specs.declared.TheConstants.{BLOCK_BYTES, INODE_BYTES}
use Rattle.disk.specs.Crash.{Image}
use Rattle.objects.specs.declared.addr.Addr.{Addr}
use Rattle.nfs_spec.specs.Model.Tree.{Tree}
use Rattle.layout.specs.declared.grid.TheConstants.{PIECE_BYTES}
use Rattle.layout.specs.Holds.{Holds}
use Rattle.layout.specs.Objects.{IsObject}
use Rattle.layout.specs.Places.{inode_block, inode_offset}
use Rattle.objects.specs.Object.{ObjectBytes}
use Rattle.txn_law.specs.Window.{with_objects}
use Rattle.inode.specs.declared.snap.Snap.{Snap}
use Rattle.inode.specs.Read.{Saw}
use Rattle.inode.specs.Snap.{MayWrite, is_seen}

-- what was read, what lies there now, and what was written, later objects over earlier ones
pub record WriteSetContents : Type 0 where
  pub seen : Snap
  pub there : Snap
  pub written : List ObjectBytes

-- What lies there is of the same image, of all its objects that were read, after the same claims, and with the same
-- objects asked for alone.
pub record IsAfter (seen there : Snap) : Type 0 where
  pub geometry : there.geometry ≡ seen.geometry
  pub claims : there.claims.items ≡ seen.claims.items
  pub exclusives : there.exclusives.items ≡ seen.exclusives.items
  pub all : (addr : Addr) → IsObject there.geometry addr → is_seen addr there.objects.items ≡ false
      → is_seen addr seen.objects.items ≡ false

-- A write set writes objects of its image that were asked for alone or claimed.
pub record IsValidWriteSet (write_set : WriteSetContents) : Type 0 where
  pub after : IsAfter write_set.seen write_set.there
  pub grid : All (λ (object : ObjectBytes). IsObject write_set.there.geometry object.addr) write_set.written
  pub given : All (λ (object : ObjectBytes). MayWrite write_set.seen object.addr) write_set.written

-- these blocks with what was written
abbrev pub image_of : Image → WriteSetContents → Image
image_of blocks write_set = with_objects blocks write_set.written

-- The blocks have what lies there, each an object of the image.
pub record Shows (write_set : WriteSetContents) (image : Image) : Type 0 where
  pub long : (number : ℕ) → number < write_set.there.geometry.blocks → length (image number) ≡ BLOCK_BYTES
  pub grid : (object : ObjectBytes) → Contains write_set.there.objects.items object
      → IsObject write_set.there.geometry object.addr
  pub saw : Saw image write_set.there

-- with what was written the blocks hold the files of the tree, and have what lies there
pub record IsWriteSet (write_set : WriteSetContents) (blocks : Image) (tree : Tree) : Type 0 where
  pub shows : Shows write_set (image_of blocks write_set)
  pub holds : Holds write_set.there.geometry (image_of blocks write_set) tree

-- an inode or a data block, and no part of a bitmap
abbrev pub is_dirty_object : ObjectBytes → Bool
is_dirty_object object = not (nat_eq object.addr.len PIECE_BYTES)

-- the address is of this place
abbrev pub is_address : ℕ → ℕ → ℕ → Addr → Bool
is_address block offset len addr = nat_eq block addr.block.0 && nat_eq offset addr.offset && nat_eq len addr.len

-- an object of this place is among these
abbrev pub is_written : ℕ → ℕ → ℕ → List ObjectBytes → Bool
is_written block offset len [] = false
is_written block offset len (object ∷ objects) =
    is_address block offset len object.addr || is_written block offset len objects

-- how many inodes and data blocks are among the objects, each once: where it is the last of its place
abbrev pub dirty_in : List ObjectBytes → ℕ
dirty_in [] = 0
dirty_in (object ∷ objects) =
    cond (is_dirty_object object && not (is_written object.addr.block.0 object.addr.offset object.addr.len objects)) 1 0
    + dirty_in objects

-- how many inodes and data blocks were written
abbrev pub dirty_count : WriteSetContents → ℕ
dirty_count write_set = dirty_in write_set.written

-- 1 where no object of this place was written yet, and else 0
unfoldable pub fresh : ℕ → ℕ → ℕ → WriteSetContents → ℕ
fresh block offset len write_set = cond (is_written block offset len write_set.written) 0 1

-- the same of the inode of a number
unfoldable pub fresh_inode : WriteSetContents → ℕ → ℕ
fresh_inode write_set number = fresh (inode_block write_set.there.geometry number) (inode_offset number) INODE_BYTES write_set

-- the same of a whole block
unfoldable pub fresh_block : WriteSetContents → ℕ → ℕ
fresh_block write_set number = fresh number 0 BLOCK_BYTES write_set

-- with the blocks of the bitmaps these are no more blocks than a transaction changes
abbrev pub MOST_DIRTY : ℕ
MOST_DIRTY = 80
