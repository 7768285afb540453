-- of the places so far is known where twice as many steps lead
use Rattle.std.proofs.Common.{◌≡◌, ◌<◌, ℕ, length}
use Rattle.image_read.specs.ImageCounts.Iterated.{in_list}
use Rattle.image_read.proofs.image_counts.iterated.doubled.Given as goal

abbrev pub invariant-places : goal.invariant-places
invariant-places l = (length l.twice.items ≡ l.index_within-index)
    × ((index_within : ℕ) → index_within < l.index_within-index → in_list l.twice.items index_within ≡ in_list l.furthest (in_list l.furthest index_within))
