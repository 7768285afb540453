-- An inode that was read is the one of the blocks, and one that is refused lies in no blocks that hold a
-- tree.
use Rattle.std.proofs.Common.{◌≡◌, ℕ, ◌<◌, sym, ap, ◌∙◌, subst, cond, List, take, drop, Option, Some, None}
use Rattle.std.proofs.Common.{IfSome, Ok, Err, length}
use Rattle.std.proofs.Common.{arith}
use Rattle.std.proofs.lemmas.Bool.{lt-ltb}
use Rattle.base.specs.declared.TheConstants.{BLOCK_BYTES, INODE_BYTES}
use Rattle.std.proofs.lemmas.List.{take_all}
use Rattle.disk.specs.Crash.{Image}
use Rattle.objects.specs.declared.addr.Addr.{Addr}
use Rattle.nfs_spec.specs.Model.Tree.{Tree}
use Rattle.layout.specs.declared.fault.LayoutFault.{LayoutFault}
use Rattle.layout.specs.declared.fault.LayoutFault.TheVariants.{Range}
use Rattle.layout.specs.declared.geometry.Geometry.{Geometry}
use Rattle.layout.specs.Decode.{IsFile, inode_at}
use Rattle.layout.specs.InodeForm.{read_inode}
use Rattle.layout.specs.Parts.{content_in}
use Rattle.layout.specs.Places.{inode_block, inode_offset}
use Rattle.layout.specs.Holds.{Holds}
use Rattle.layout.specs.declared.inode.Inode.{Inode}
use Rattle.objects.specs.Object.{ObjectBytes}
use Rattle.txn_law.specs.Window.{object_at}
use Rattle.inode.specs.Read.{IsInodeAddr, WasRead, WasReadInode}

pub read_there : (g : Geometry) (blocks : Image) (number : ℕ) (addr : Addr) (bytes : List ℕ)
    → addr.block.0 ≡ inode_block g number → addr.offset ≡ inode_offset number
    → addr.len ≡ INODE_BYTES
    → object_at blocks addr ≡ bytes → inode_at g blocks number ≡ read_inode g bytes
unfolding inode_at
read_there g blocks number addr bytes block offset len there =
    (λ i. read_inode g (take (sym len i) (drop (sym offset i) (blocks (sym block i)))))
    ∙ ap (read_inode g) there

pub no_fault : (g : Geometry) (blocks : Image) (tree : Tree) (number : ℕ) (fault : LayoutFault)
    → number < g.inodes → Holds g blocks tree → inode_at g blocks number ≡ Err fault → ⊥
no_fault g blocks tree number fault less holds is =
    subst (IsFile g (content_in g blocks))
    (ap (λ b. cond b (inode_at g blocks number) (Err Range)) (lt-ltb number g.inodes less)
    ∙ is) (holds.parts.has.inodes number less)

-- a whole block that was read
pub whole_there : (blocks : Image) (indirect : ℕ) (addr : Addr) (bytes : List ℕ)
    → addr.block.0 ≡ indirect → addr.offset ≡ 0 → addr.len ≡ BLOCK_BYTES → object_at blocks addr ≡ bytes
    → length (blocks indirect) ≡ BLOCK_BYTES → bytes ≡ blocks indirect
whole_there blocks indirect addr bytes block offset len there long =
    sym there ∙ (λ i. take (len i) (drop (offset i) (blocks (block i))))
    ∙ take_all BLOCK_BYTES (blocks indirect) (omega (arith, long))

-- an inode that was read, where it isn't free
pub was_read : (g : Geometry) (objects : List ObjectBytes) (number : ℕ) (addr : Addr)
    → IsInodeAddr g number addr → (bytes : List ℕ) → WasRead objects addr bytes → (found : Option Inode)
    → read_inode g bytes ≡ Ok found
    → IfSome found (λ inode. WasReadInode g objects number inode)
was_read g objects number addr at bytes read None is = tt
was_read g objects number addr at bytes read (Some inode) is = record {
  addr = addr;
  at = at;
  bytes = bytes;
  read = read;
  is_inode = is;
}
