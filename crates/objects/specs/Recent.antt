-- The blocks that were unpinned last.
use Rattle.std.specs.Prelude.{ℕ, Bool, List, [], Option, Some, None, nat_eq}
use Rattle.std.specs.List.{list_any}
use Rattle.std.specs.Map.{keys_of}
use Rattle.disk.specs.declared.block.BlockNo.{BlockNo}
use Rattle.lru.specs.LruCache.{LruCache}

-- the numbers in the cache, the last one first; none where there is no cache
abbrev pub numbers_in : Option (LruCache ℕ (Unit {0})) → List ℕ
numbers_in None = []
numbers_in (Some cache) = keys_of cache.entries

-- whether the block's number is among these
abbrev pub is_tracked : List ℕ → BlockNo → Bool
is_tracked numbers block = list_any (nat_eq block.0) numbers
