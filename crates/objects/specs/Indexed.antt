-- The index over the blocks in memory: at the number of each its index in the list.
use Rattle.std.specs.Prelude.{◌≡◌, ℕ, ◌<◌, List, length, map, slice_index}
use Rattle.objects.specs.Present.{IsOnce}
use Rattle.objects.specs.declared.blocks.Blocks.TheInside.{Inside}
use Rattle.objects.specs.declared.present.Present.{Present}

-- the numbers of the blocks
abbrev pub numbers : List Present → List ℕ
numbers list = map (λ (resident : Present). resident.block.0) list

-- among so many indices one stands at each number
abbrev pub AreHomed : ℕ → List ℕ → Type 0
AreHomed count list = (k : ℕ) → k < length list → slice_index list k < count

pub record IsIndex (list indices : List ℕ) : Type 0 where
  pub homed : AreHomed (length indices) list
  pub there : (k : ℕ) → k < length list → slice_index indices (slice_index list k) ≡ k

pub record IsSound (blocks : Inside) : Type 0 where
  pub once : IsOnce blocks.list.items
  pub index : IsIndex (numbers blocks.list.items) blocks.indices.items
