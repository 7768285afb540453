-- The positions that are known under a key, and that all objects of a list stand in such positions.
use Rattle.std.specs.Prelude.{◌≡◌, ◌+◌, ◌*◌, ◌/◌, ◌%◌, ◌<◌, ℕ, Bool, true, List, [], Option, Some, length, nat_eq}
use Rattle.std.specs.Prelude.{slice_index_or}
use Rattle.std.specs.List.{list_any}
use Rattle.base.specs.declared.TheConstants.{INODE_BYTES}
use Rattle.objects.specs.declared.addr.Addr.{Addr}
use Rattle.objects.specs.Object.{ObjectBytes}

-- the positions under a key, among those of other keys of its bucket
abbrev pub under : ℕ → List (List ℕ) → List ℕ
under key buckets = slice_index_or buckets (key % length buckets) []

-- the position is among them
abbrev pub is_under : ℕ → ℕ → List (List ℕ) → Bool
is_under position key buckets = list_any (nat_eq position) (under key buckets)

-- The key of an address. Blocks behind each other have other keys, and so have objects behind each other in a block.
abbrev pub key_of : Addr → ℕ
key_of addr = addr.block.0 * 33 + addr.offset / INODE_BYTES

-- each object's position is under the key of its address
abbrev pub AreKnown : List (List ℕ) → List ObjectBytes → Type 0
AreKnown positions objects = (at : ℕ) (d : ObjectBytes) → at < length objects
    → is_under at (key_of (slice_index_or objects at d).addr) positions ≡ true

-- the same, where there is an index
pub record IsIndexed (index : Option (List (List ℕ))) (objects : List ObjectBytes) : Type 0 where
  pub all : (positions : List (List ℕ)) → index ≡ Some positions → AreKnown positions objects
