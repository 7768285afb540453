-- The blocks that are in memory besides the log's, and how often each block is pinned.
use Rattle.std.specs.Prelude.{◌≡◌, ℕ, ◌+◌, ◌-◌, Bool, ◌||◌, if◌then◌else◌, List, IsSome}
use Rattle.std.specs.Prelude.{is_none, nat_eq, nat_lt}
use Rattle.std.specs.List.{filter}
use Rattle.std.specs.Map.{lookup}
use Rattle.std.specs.Option.{unwrap_or}
use Rattle.disk.specs.declared.block.BlockNo.{BlockNo}
use Rattle.objects.specs.declared.present.Present.{Present}

-- The blocks in memory, and the counts of pins by the blocks' numbers. A block may be pinned while it isn't in
-- memory, and in memory while it isn't pinned.
pub record Residents : Type 0 where
  pub blocks : List Present
  pub counts : List (ℕ × ℕ)

-- a block's count: none where it isn't listed
abbrev pub count_in : List (ℕ × ℕ) → BlockNo → ℕ
count_in counts block = unwrap_or (lookup (nat_eq block.0) counts) 0

-- how often the block is pinned
abbrev pub pins_of : Residents → BlockNo → ℕ
pins_of residents block = count_in residents.counts block

-- one pin more of the block needs no memory
abbrev pub HasReserved : List (ℕ × ℕ) → BlockNo → Type 0
HasReserved counts block = IsSome (lookup (nat_eq block.0) counts)

-- one at this block
abbrev pub once_at : BlockNo → BlockNo → ℕ
once_at block at = if nat_eq at.0 block.0 then 1 else 0

-- whether the block is pinned, or its fetch is pending
abbrev pub is_wanted : (BlockNo → ℕ) → Present → Bool
is_wanted pins resident = is_none resident.content || nat_lt 0 (pins resident.block)

-- the blocks that are pinned, or whose fetch is pending, and those that are spared besides
abbrev pub spared : (Present → Bool) → (BlockNo → ℕ) → List Present → List Present
spared spare pins blocks = filter (λ resident. spare resident || is_wanted pins resident) blocks

-- no block goes that is pinned, or whose fetch is pending, and what stays is as it was
abbrev pub LetsGo : (BlockNo → ℕ) → List Present → List Present → Type 0
LetsGo pins old new = (spare : Present → Bool) × (new ≡ spared spare pins old)

-- each block is pinned so many times as before
abbrev pub PinsStay : Residents → Residents → Type 0
PinsStay old new = (at : BlockNo) → pins_of new at ≡ pins_of old at

-- each block is pinned so many times more, and nothing else changes
abbrev pub Pins : Residents → (BlockNo → ℕ) → Residents → Type 0
Pins old more new = ((at : BlockNo) → pins_of new at ≡ pins_of old at + more at) × (new.blocks ≡ old.blocks)

-- each block is pinned so many times less, and some may go that nobody wants then
abbrev pub Unpins : Residents → (BlockNo → ℕ) → Residents → Type 0
Unpins old less new =
    ((at : BlockNo) → pins_of new at ≡ pins_of old at - less at) × LetsGo (pins_of new) old.blocks new.blocks
