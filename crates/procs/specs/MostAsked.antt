-- How much a plan asks for.
use Rattle.std.specs.Prelude.{ℕ, ◌+◌, ◌*◌, if◌then◌else◌, List, [], ◌∷◌}
use Rattle.objects.specs.declared.addr.Addr.{Addr}
use Rattle.txn.specs.Object.{ObjectBytes}
use Rattle.inode.specs.Snap.{is_among}

-- The most objects that any plan asks for in an image of so many blocks, as each begins with a piece of 128 bytes
-- of its own; and the most blocks that it claims. Measures for proofs alone, which no plan comes near.
abbrev pub most_asked : ℕ → ℕ
most_asked blocks = 32 * blocks

abbrev pub most_claimed : ℕ → ℕ
most_claimed blocks = blocks

-- how often objects were asked for: each once, and once more if it was asked for alone
abbrev pub times_asked : List ObjectBytes → List Addr → ℕ
times_asked [] exclusives = 0
times_asked (object ∷ objects) exclusives = (if is_among object.addr exclusives then 2 else 1) + times_asked objects exclusives
