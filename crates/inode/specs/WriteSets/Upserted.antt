-- An object in the place of what lay at its address.
use Rattle.std.specs.Prelude.{not, List, [], ◌∷◌, ◌++◌, filter}
use Rattle.objects.specs.Object.{ObjectBytes}
use Rattle.inode.specs.Snap.{same_addr}

-- the objects with another of its address in the place of one, or behind all others
abbrev pub upserted : List ObjectBytes → ObjectBytes → List ObjectBytes
upserted objects object = filter (λ other. not (same_addr other.addr object.addr)) objects ++ object ∷ []
