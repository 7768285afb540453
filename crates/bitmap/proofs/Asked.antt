-- A piece of a bitmap is an object of the image.
use Rattle.std.proofs.Common.{◌≡◌, ℕ, ◌+◌, ◌*◌, ◌/◌, ◌%◌, ◌<◌, ◌≤◌, arith}
use Rattle.base.specs.declared.TheConstants.{FIRST_HOME_BLOCK}
use Rattle.objects.specs.declared.addr.Addr.{Addr}
use Rattle.layout.specs.declared.geometry.Geometry.{Geometry}
use Rattle.layout.specs.declared.grid.TheConstants.{PIECE_BITS, PIECE_BYTES, PIECES_PER_BLOCK}
use Rattle.layout.specs.Geometry.{table_at}
use Rattle.layout.specs.Objects.{IsObject, bits}
use Rattle.inode.specs.declared.snap.Snap.{Snap}
use Rattle.inode.specs.declared.suspend.Suspend.{Suspend}
use Rattle.inode.specs.declared.suspend.Suspend.TheVariants as suspend
use Rattle.inode.specs.Over.{MaySuspend}
use Rattle.inode.specs.Snap.{IsNew}
use Rattle.bitmap.specs.Pieces.{IsAskedObject}

pub is_object : (g : Geometry) (first piece : ℕ) (addr : Addr) → FIRST_HOME_BLOCK ≤ first
    → first + piece / PIECES_PER_BLOCK < table_at g.blocks g.inodes → addr.block.0 ≡ first + piece / PIECES_PER_BLOCK
    → addr.offset ≡ PIECE_BYTES * (piece % PIECES_PER_BLOCK) → addr.len ≡ PIECE_BYTES → IsObject g addr
is_object g first piece addr from to block offset len =
    bits (piece % PIECES_PER_BLOCK) (omega arith) (omega (arith, from, block)) (omega (arith, to, block)) offset len

pub may_suspend : (snap : Snap) (why : Suspend) → IsNew snap why → IsAskedObject snap.geometry why → MaySuspend snap why
may_suspend snap (suspend.Need addr mode) new asked = (new, asked)
may_suspend snap (suspend.Claim block) new asked = absurd asked
may_suspend snap suspend.Io new asked = tt
may_suspend snap (suspend.NoMemory error) new asked = tt

-- the piece of the bitmap that has the bit of a block
pub has_bit_of : (g : Geometry) (number : ℕ) (addr : Addr) → number < g.blocks
    → addr.block.0 ≡ FIRST_HOME_BLOCK + number / PIECE_BITS / PIECES_PER_BLOCK
    → addr.offset ≡ PIECE_BYTES * (number / PIECE_BITS % PIECES_PER_BLOCK) → addr.len ≡ PIECE_BYTES → IsObject g addr
has_bit_of g number addr less block offset len =
    is_object g FIRST_HOME_BLOCK (number / PIECE_BITS) addr (omega arith) (omega (arith, less)) block offset len
