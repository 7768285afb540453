-- A walk through the holds of a block, from the last one to the first.
use Rattle.std.specs.Prelude.{◌≡◌, ℕ, ◌-◌, ◌<◌, ◌≤◌, List, get_or, length, slice_index}
use Rattle.txn_law.specs.declared.hold.Hold.{Hold}
use Rattle.locks.specs.Index.{numbers}

-- The name is that of the next hold of the block, or of none, and each one from there on is such.
pub record IsPassed (P : Hold → Type 0) (holds : List Hold) (block name : ℕ) : Type 0 where
  pub within : name ≤ length holds
  pub there : 0 < name → slice_index (numbers holds) (name - 1) ≡ block
  pub passed : (k : ℕ) (d : Hold) → name ≤ k → k < length holds → (get_or holds k d).addr.block.0 ≡ block
      → P (get_or holds k d)
