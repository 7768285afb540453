-- The blocks that names take.
use Rattle.std.specs.Prelude.{◌≡◌, ℕ, suc, ◌+◌, ◌-◌, ◌/◌, max, true, false, cond, nat_le, nat_lt, Option}
use Rattle.std.specs.Prelude.{Some, None}
use Rattle.base.specs.declared.TheConstants.{BLOCK_BYTES, DIRECT_INDEXES, SLOTS_PER_BLOCK}
use Rattle.nfs_spec.specs.Model.Node.{Body}
use Rattle.nfs_spec.specs.Model.Tree.{Tree, free}
use Rattle.nfs_spec.specs.Procedures.Places.{least_free_slot}

-- the blocks of a directory that spans so many
abbrev pub span_cost : ℕ → ℕ
span_cost span = span + cond (nat_lt DIRECT_INDEXES span) 1 0

-- the blocks that a name in this slot adds to a directory of this size
abbrev pub dirent_adds : ℕ → ℕ → ℕ
dirent_adds size slot =
    span_cost (max (size / BLOCK_BYTES) (suc (slot / SLOTS_PER_BLOCK))) - span_cost (size / BLOCK_BYTES)

-- The blocks for a name in the least free slot, and so many more, are free.
pub record IsRoomyIn (tree : Tree) (size : ℕ) (body : Body) (more slot : ℕ) : Type 0 where
  pub least : least_free_slot body ≡ Some slot
  pub has_space : nat_le (dirent_adds size slot + more) (free tree) ≡ true

-- Either no slot is free, or too few blocks are.
pub record IsCramped (tree : Tree) (size : ℕ) (body : Body) (more : ℕ) : Type 0 where
  pub full : (slot : ℕ) → least_free_slot body ≡ Some slot
      → nat_le (dirent_adds size slot + more) (free tree) ≡ false

-- the least free slot of a directory, where the blocks for a name in it and so many more are free
abbrev pub IsRoomy : Tree → ℕ → Body → ℕ → Option ℕ → Type 0
IsRoomy tree size body more (Some slot) = IsRoomyIn tree size body more slot
IsRoomy tree size body more None = IsCramped tree size body more
