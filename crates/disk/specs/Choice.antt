-- The image that a list of digits chooses of what a crash may leave.
use Rattle.std.specs.Prelude.{ℕ, ◌-◌, min, List, [], ◌∷◌, length, drop, slice_index, slice_index_or}
use Rattle.std.specs.Prelude.{if◌then◌else◌, nat_lt}
use Rattle.disk.specs.Device.{Content}

-- the content of this index, from 0; past the list, the last
abbrev pub pick : ℕ → List Content → Content
pick index contents = slice_index_or contents (min index (length contents - 1)) []

-- Of each block one content: a block with several takes the next digit, and the first content where digits
-- are missing.
abbrev pub chosen : List ℕ → List (List Content) → List Content
chosen digits [] = []
chosen digits (contents ∷ rest) =
    if nat_lt 1 (length contents) then pick (slice_index digits 0) contents ∷ chosen (drop 1 digits) rest
    else pick 0 contents ∷ chosen digits rest
