-- What the methods of the memory log do, as the layers above it see the log: by the newest contents, the
-- places and the blocks of the tail.
use Rattle.std.specs.Prelude.{◌≡◌, ℕ, ◌+◌, ◌≤◌, Bool, true, ◌&&◌, if◌then◌else◌, nat_eq, List, ◌++◌, length}
use Rattle.std.specs.Prelude.{take, drop, Option}
use Rattle.disk.specs.Device.{Content}
use Rattle.disk.specs.declared.block.BlockNo.{BlockNo}
use Rattle.circ.specs.Log.Log.{Log, or_else, newest_of, newest, settled_place, installed_place, tail_count}
use Rattle.circ.specs.Log.Log.{tail_blocks, new_blocks, blocks_of, changes_of}

-- each change is settled in the log
abbrev pub is_all_settled : Log → Bool
is_all_settled log = nat_eq (length (drop log.logged log.changes)) 0

-- each change is home
abbrev pub is_all_home : Log → Bool
is_all_home log = nat_eq (length log.changes) 0

-- the content of the last change of the block in a group
abbrev pub newest_in : List (BlockNo × Content) → ℕ → Option Content
newest_in group block = newest_of (changes_of 0 group) block

-- The group is in the log: its contents are the newest, at the next place. One without changes is settled or
-- home at once where all before it is.
pub record HasAppended (old : Log) (group : List (BlockNo × Content)) (new : Log) : Type 0 where
  pub blocks : new.blocks ≡ old.blocks
  pub broken : new.broken ≡ old.broken
  pub places : new.places ≡ old.places + 1
  pub newest_content : (block : ℕ) → newest new block ≡ or_else (newest_in group block) (newest old block)
  pub tail : tail_blocks new ≡ tail_blocks old ++ new_blocks (tail_blocks old) (blocks_of group)
  pub settled : settled_place new ≡ (if is_all_settled old && nat_eq (length group) 0 then new.places
      else settled_place old)
  pub installed : installed_place new ≡ (if is_all_home old && nat_eq (length group) 0 then new.places
      else installed_place old)

-- the newest content that the installer has taken of a block: what it brings home
abbrev pub brought_home : Log → ℕ → Option Content
brought_home log block = newest_of (take log.installing log.changes) block

-- The logger or the installer has gone on: what is settled and what is home don't fall, a broken log stays
-- broken, and a newest content is let go only once it is home.
pub record HasGoneOn (old new : Log) : Type 0 where
  pub blocks : new.blocks ≡ old.blocks
  pub places : new.places ≡ old.places
  pub broken : old.broken ≡ true → new.broken ≡ true
  pub tail : tail_count new ≤ tail_count old
  pub newest_content : (block : ℕ) → newest old block ≡ or_else (newest new block) (brought_home old block)
  pub settled : settled_place old ≤ settled_place new
  pub installed : installed_place old ≤ installed_place new
