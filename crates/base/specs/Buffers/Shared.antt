-- Bytes that are shared, by what they lie in.
use Rattle.std.specs.Prelude.{ℕ, ◌+◌, ◌≤◌, List, take, drop}
use Rattle.base.specs.declared.TheConstants.{BLOCK_BYTES}
use Rattle.base.specs.declared.buffers.shared_octets.Backing.{Backing}
use Rattle.base.specs.declared.buffers.shared_octets.Backing.TheVariants.{Bytes, Block}

-- the bytes that lie there
abbrev pub bytes_in : Backing → List ℕ
bytes_in (Bytes bytes) = bytes
bytes_in (Block block offset len) = take len (drop offset block)

-- a block has them all
abbrev pub IsWithin : Backing → Type 0
IsWithin (Bytes bytes) = Unit {0}
IsWithin (Block block offset len) = offset + len ≤ BLOCK_BYTES
