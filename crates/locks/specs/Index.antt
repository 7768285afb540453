-- The index over a list of holds: of each block the name of its last hold, and of each hold that of the one before it of
-- the same block. A hold is named by its index and one: 0 names none.
use Rattle.std.specs.Prelude.{◌≡◌, ◌≢◌, ℕ, ◌-◌, ◌<◌, ◌≤◌, List, length, map, slice_index}
use Rattle.txn_law.specs.WellFormed.{AreApart}
use Rattle.txn_law.specs.declared.hold.Hold.{Hold}
use Rattle.locks.specs.declared.table.Table.TheInside.{Inside}

-- the numbers of the holds' blocks
abbrev pub numbers : List Hold → List ℕ
numbers holds = map (λ (hold : Hold). hold.addr.block.0) holds

-- among so many names one stands at each number
abbrev pub AreHomed : ℕ → List ℕ → Type 0
AreHomed count list = (k : ℕ) → k < length list → slice_index list k < count

-- the name is that of a number that is the block
pub record IsOf (list : List ℕ) (block name : ℕ) : Type 0 where
  pub some : 0 < name
  pub within : name ≤ length list
  pub there : slice_index list (name - 1) ≡ block

-- The name is that of the last of these numbers that is the block, or of none.
pub record IsLast (list : List ℕ) (block name : ℕ) : Type 0 where
  pub within : name ≤ length list
  pub there : 0 < name → slice_index list (name - 1) ≡ block
  pub last : (k : ℕ) → name ≤ k → k < length list → slice_index list k ≢ block

-- The name is that of a number that is the same as this one, and not before it.
pub record IsSame (list : List ℕ) (k name : ℕ) : Type 0 where
  pub later : k < name
  pub within : name ≤ length list
  pub there : slice_index list (name - 1) ≡ slice_index list k

-- The name is that of the last before this one that is the same number, or of none.
pub record IsBefore (list : List ℕ) (k name : ℕ) : Type 0 where
  pub within : name ≤ k
  pub there : 0 < name → slice_index list (name - 1) ≡ slice_index list k
  pub between : (j : ℕ) → name ≤ j → j < k → slice_index list j ≢ slice_index list k

pub record IsIndex (list last before : List ℕ) : Type 0 where
  pub homed : AreHomed (length last) list
  pub each : length before ≡ length list
  pub of_block : (k : ℕ) → k < length list → IsSame list k (slice_index last (slice_index list k))
  pub of_hold : (k : ℕ) → k < length list → IsBefore list k (slice_index before k)

pub record IsSound (table : Inside) : Type 0 where
  pub apart : AreApart table.holds.items
  pub index : IsIndex (numbers table.holds.items) table.index.last.items table.index.before.items
