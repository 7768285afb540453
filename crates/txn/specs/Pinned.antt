-- How often each block is pinned: once for each hold of a part of it, and once for each object that a kept commit
-- read in it.
use Rattle.std.specs.Prelude.{◌≡◌, ℕ, ◌+◌, ◌<◌, ◌^◌, if◌then◌else◌, List, [], ◌∷◌, All, length, map, nat_eq, not}
use Rattle.std.specs.Prelude.{is_some, true}
use Rattle.std.specs.List.{IsDistinct, list_any}
use Rattle.disk.specs.declared.block.BlockNo.{BlockNo}
use Rattle.objects.specs.Object.{ObjectBytes}
use Rattle.objects.specs.Pins.{Residents, once_at, pins_of}
use Rattle.txn_law.specs.Core.{CoreState}
use Rattle.txn_law.specs.Holds.{hold_of}
use Rattle.txn_law.specs.Window.{Footprint}
use Rattle.txn_law.specs.declared.hold.Hold.{Hold}

-- the sum of what each counts for
abbrev pub total : {X : Type 0} → (X → ℕ) → List X → ℕ
total count [] = 0
total count (x ∷ xs) = count x + total count xs

-- how many holds are of a part of the block
abbrev pub holds_in : List Hold → BlockNo → ℕ
holds_in holds at = total (λ hold. once_at hold.addr.block at) holds

-- how many of them are this transaction's
abbrev pub own_in : ℕ → List Hold → BlockNo → ℕ
own_in tx holds at =
    total (λ hold. if not (nat_eq hold.transaction tx) then 0 else once_at hold.addr.block at) holds

-- one more, where the transaction hadn't taken the address
abbrev pub newly_in : List Hold → Hold → BlockNo → ℕ
newly_in holds hold at =
    if is_some (hold_of holds hold.transaction hold.addr) then 0 else once_at hold.addr.block at

-- the block of each object
abbrev pub block_of_each : List ObjectBytes → List BlockNo
block_of_each objects = map (λ object. object.addr.block) objects

-- how many of these blocks are this block
abbrev pub count_in : List BlockNo → BlockNo → ℕ
count_in blocks at = total (λ block. once_at block at) blocks

-- how many of the objects lie in the block
abbrev pub objects_in : List ObjectBytes → BlockNo → ℕ
objects_in objects at = total (λ object. once_at object.addr.block at) objects

-- how many objects the kept commits read in the block
abbrev pub reads_in : List Footprint → BlockNo → ℕ
reads_in records at = total (λ kept. objects_in kept.read at) records

-- for each of the blocks, so many pins more as there are blocks can be counted
abbrev pub AreCountable : Residents → List BlockNo → Type 0
AreCountable residents blocks = All (λ block. pins_of residents block + length blocks < 2 ^ 128) blocks

-- Each kept commit read no more objects than a list may have.
abbrev pub AreFew : List Footprint → Type 0
AreFew records = All (λ kept. length kept.read < 2 ^ 64) records

-- of each of these blocks a part is taken, or was read by a kept commit, and none of them stands twice
pub record ArePinned (core : CoreState) (numbers : List ℕ) : Type 0 where
  pub distinct : IsDistinct nat_eq numbers
  pub pinned : (block : BlockNo) → list_any (nat_eq block.0) numbers ≡ true
      → 0 < holds_in core.holds block + reads_in core.records block
