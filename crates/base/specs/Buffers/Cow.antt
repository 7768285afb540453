-- Blocks of one owner or of several, by who holds them.
use Rattle.std.specs.Prelude.{ℕ, List}
use Rattle.base.specs.declared.buffers.cow_block.Ownership.{Ownership}
use Rattle.base.specs.declared.buffers.cow_block.Ownership.TheVariants.{Owned, Shared}

-- the block's bytes
abbrev pub bytes_of : Ownership → List ℕ
bytes_of (Owned block) = block
bytes_of (Shared block) = block
