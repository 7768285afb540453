-- The log as an image holds it, and what it makes of the blocks at home.
use Rattle.std.specs.Prelude.{ℕ, zero, suc, ◌+◌, ◌-◌, ◌*◌, ◌%◌, ◌≤◌, ◌<◌, List, [], ◌∷◌, ◌++◌, Option, Some}
use Rattle.std.specs.Prelude.{None}
use Rattle.base.specs.declared.TheConstants.{LOG_SLOTS, LOG_HEADER_BLOCK, START_BLOCK}
use Rattle.disk.specs.Device.{Content}
use Rattle.disk.specs.Crash.{Image}
use Rattle.disk.specs.declared.block.BlockNo.{BlockNo}
use Rattle.circ.specs.Log.Log.{IsHomeOn}
use Rattle.circ.specs.Log.Logger.{slot_block}
use Rattle.circ.specs.Log.EightBytes.{number_at}
use Rattle.circ.specs.Log.Effects.{newest_in}

-- the log position at which the log starts
abbrev pub start_in : Image → ℕ
start_in image = number_at (image START_BLOCK) 0

-- the log position before which it ends
abbrev pub end_in : Image → ℕ
end_in image = number_at (image LOG_HEADER_BLOCK) 0

-- how many positions are logged
abbrev pub count_in : Image → ℕ
count_in image = end_in image - start_in image

-- the home address that a header tells of a position
abbrev pub home_at : Content → ℕ → BlockNo
home_at header position = record { 0 = number_at header (8 + 8 * (position % LOG_SLOTS)) }

-- so many positions from one on, in order: the home address by the header, and the content of the slot
abbrev pub positions : Content → Image → ℕ → ℕ → List (BlockNo × Content)
positions header image start zero = []
positions header image start (suc count) = positions header image start count
    ++ (home_at header (start + count), image (slot_block (start + count))) ∷ []

-- the logged positions, in order
abbrev pub logged_in : Image → List (BlockNo × Content)
logged_in image = positions (image LOG_HEADER_BLOCK) image (start_in image) (count_in image)

-- start and end belong together
pub record IsInRange (image : Image) : Type 0 where
  pub order : start_in image ≤ end_in image
  pub slots : end_in image ≤ start_in image + LOG_SLOTS

-- each logged position has a home on a disk of so many blocks
abbrev pub HasHomes : ℕ → Image → Type 0
HasHomes blocks image = (k : ℕ) → k < count_in image
    → IsHomeOn blocks (home_at (image LOG_HEADER_BLOCK) (start_in image + k))

-- a content, or another where there is none
abbrev pub content_or : Option Content → Content → Content
content_or (Some content) other = content
content_or None other = other

-- the log overlay: each block as the last logged position of it has it, or else as it is at home
abbrev pub over : Image → Image
over image block = content_or (newest_in (logged_in image) block) (image block)
