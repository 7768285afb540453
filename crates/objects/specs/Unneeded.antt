-- The blocks in memory that nobody needs, and that each of them is noted.
use Rattle.std.specs.Prelude.{◌≡◌, ℕ, ◌<◌, ◌*◌, true, not, ◌||◌, List, All, length}
use Rattle.std.specs.List.{filter}
use Rattle.disk.specs.declared.block.BlockNo.{BlockNo}
use Rattle.base.specs.declared.TheConstants.{CLEAN_BLOCKS}
use Rattle.objects.specs.Pins.{Residents, is_wanted, pins_of}
use Rattle.objects.specs.Recent.{is_tracked}
use Rattle.objects.specs.declared.present.Present.{Present}

-- the blocks whose content is there, and which nobody has pinned
abbrev pub unneeded : Residents → List Present
unneeded residents = filter (λ resident. not (is_wanted (pins_of residents) resident)) residents.blocks

-- each of them is noted
abbrev pub AreTracked : List ℕ → (BlockNo → ℕ) → List Present → Type 0
AreTracked numbers pins blocks =
    All (λ (resident : Present). (is_tracked numbers resident.block || is_wanted pins resident) ≡ true) blocks

-- and few are noted
pub record TracksUnneeded (numbers : List ℕ) (pins : BlockNo → ℕ) (blocks : List Present) : Type 0 where
  pub few : length numbers < 2 * CLEAN_BLOCKS
  pub tracked : AreTracked numbers pins blocks
