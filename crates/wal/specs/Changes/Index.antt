-- The index over the changes: of each block where its newest change is, and of each change where the next one of its
-- block is. A change is named by its log position and one; 0 names none, and so does what lies before the first.
use Rattle.std.specs.Prelude.{◌≡◌, ◌≢◌, ℕ, ◌+◌, ◌-◌, ◌<◌, ◌≤◌, List, map, length, slice_index, slice_set, nat_lt}
use Rattle.std.specs.Prelude.{if◌then◌else◌}
use Rattle.circ.specs.declared.log.change.LogChange.{LogChange}

-- the numbers of the blocks of changes
abbrev pub numbers : List LogChange → List ℕ
numbers changes = map (λ (change : LogChange). change.block.0) changes

-- The name is that of the last of these numbers that is the block, or of none.
pub record IsNewest (start : ℕ) (list : List ℕ) (block name : ℕ) : Type 0 where
  pub within : name ≤ start + length list
  pub there : start < name → slice_index list (name - start - 1) ≡ block
  pub last : (k : ℕ) → name ≤ start + k → k < length list → slice_index list k ≢ block

-- The name is that of the first after this one that is the same block, or none.
pub record IsNext (start : ℕ) (list : List ℕ) (i name : ℕ) : Type 0 where
  pub within : name ≤ start + length list
  pub later : 0 < name → start + i + 1 < name
  pub there : 0 < name → slice_index list (name - start - 1) ≡ slice_index list i
  pub between : (k : ℕ) → i < k → k < length list → (0 < name → start + k + 1 < name)
      → slice_index list k ≢ slice_index list i

pub record IsIndex (start : ℕ) (list newest behind : List ℕ) : Type 0 where
  pub homes : (k : ℕ) → k < length list → slice_index list k < length newest
  pub each : length behind ≡ length list
  pub of_block : (block : ℕ) → block < length newest → IsNewest start list block (slice_index newest block)
  pub of_change : (i : ℕ) → i < length list → IsNext start list i (slice_index behind i)

-- the names of the next ones once a change before is followed by one of this name; a change that isn't there is none
abbrev pub followed : ℕ → List ℕ → ℕ → ℕ → List ℕ
followed start behind before name =
    if nat_lt start before then slice_set behind (before - start - 1) name else behind
