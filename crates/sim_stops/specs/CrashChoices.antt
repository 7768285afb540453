-- The choices of what a crash leaves.
use Rattle.std.specs.Prelude.{ℕ, ◌+◌, ◌-◌, ◌*◌, ◌/◌, ◌%◌, ◌^◌, Bool, ◌||◌, List, [], ◌∷◌, length, min, max}
use Rattle.std.specs.Prelude.{nat_eq, nat_lt, if◌then◌else◌}
use Rattle.disk.specs.Memory.{Blocks}

-- of blocks that have several contents: how many each has, up to the greatest number of 32 bits
abbrev pub counts_in : Blocks → List ℕ
counts_in [] = []
counts_in (contents ∷ blocks) =
    if nat_lt 1 (length contents) then min (length contents) (2 ^ 32 - 1) ∷ counts_in blocks else counts_in blocks

-- how many choices there are, up to the greatest number of 64 bits
abbrev pub product_from : ℕ → List ℕ → ℕ
product_from all [] = all
product_from all (count ∷ counts) = product_from (min (all * count) (2 ^ 64 - 1)) counts

-- so many are tried: of up to so many blocks each, and of more all old, all new, and each block alone new
abbrev pub choices_of : List ℕ → ℕ → ℕ
choices_of counts most = if nat_lt most (length counts) then length counts + 2 else product_from 1 counts

-- of all choices the one of this number
abbrev pub each_choice : ℕ → List ℕ → List ℕ
each_choice number [] = []
each_choice number (count ∷ counts) = number % max count 1 ∷ each_choice (number / max count 1) counts

-- The last content of a block from this one on, or the first: 0 is all old, 1 all new, and 2 and on each block alone new.
abbrev pub single_choice : ℕ → ℕ → List ℕ → List ℕ
single_choice number at [] = []
single_choice number at (count ∷ counts) =
    (if nat_eq number 1 || nat_eq number (at + 2) then max count 1 - 1 else 0) ∷ single_choice number (at + 1) counts

-- the index of the content that each block keeps
abbrev pub choice_of : ℕ → List ℕ → ℕ → List ℕ
choice_of most counts number =
    if nat_lt most (length counts) then single_choice number 0 counts else each_choice number counts
