-- What an append does to the ends of the log's groups.
use Rattle.std.specs.Prelude.{◌≡◌, ℕ, ◌+◌, ◌≤◌, ◌&&◌, if◌then◌else◌, nat_eq, List, [], ◌∷◌, length, take}
use Rattle.std.specs.Prelude.{drop}
use Rattle.base.specs.declared.TheConstants.{BLOCK_BYTES}
use Rattle.disk.specs.Device.{Content}
use Rattle.disk.specs.declared.block.BlockNo.{BlockNo}
use Rattle.circ.specs.declared.log.change.LogChange.{LogChange}
use Rattle.circ.specs.Log.Effects.{newest_in}
use Rattle.circ.specs.Log.Log.{Log, newest_of, or_else, place_before}

-- the changes that no commit made: those that the opening found in the log
abbrev pub recovered : List LogChange → List LogChange
recovered [] = []
recovered (change ∷ later) = if nat_eq change.place 0 then change ∷ recovered later else recovered later

-- The log has a group more, in its open tail: what was behind an end of a group is still there, and the group
-- behind it. It says nothing of how the tail has them, and so holds as well for a tail that keeps one change
-- of each block.
pub record GrowsBy (old : Log) (group : List (BlockNo × Content)) (new : Log) : Type 0 where
  pub places : new.places ≡ old.places + 1
  pub installing : new.installing ≡ old.installing
  pub logged : new.logged ≡ old.logged
  pub taken : new.taken ≡ old.taken
  pub leading : (count : ℕ) → count ≤ old.logged + old.taken → take count new.changes ≡ take count old.changes
  pub behind : (count : ℕ) → count ≤ old.logged + old.taken → (block : ℕ)
      → newest_of (drop count new.changes) block
      ≡ or_else (newest_in group block) (newest_of (drop count old.changes) block)
  pub place : (count : ℕ) → count ≤ old.logged + old.taken → place_before (drop count new.changes) new.places
      ≡ (if nat_eq (length (drop count old.changes)) 0 && nat_eq (length group) 0 then old.places + 1
      else place_before (drop count old.changes) old.places)
  pub opened : (count : ℕ) → count ≤ old.logged + old.taken
      → recovered (drop count new.changes) ≡ recovered (drop count old.changes)

-- Logger and installer stand where they stood, and the log is broken just where it was.
pub record StandsStill (old new : Log) : Type 0 where
  pub blocks : new.blocks ≡ old.blocks
  pub start : new.start ≡ old.start
  pub log_step : new.log_step ≡ old.log_step
  pub log_out : new.log_out ≡ old.log_out
  pub inst_step : new.inst_step ≡ old.inst_step
  pub inst_out : new.inst_out ≡ old.inst_out
  pub broken : new.broken ≡ old.broken

-- a change of a whole block
abbrev pub IsWholeChange : LogChange → Type 0
IsWholeChange change = length change.content ≡ BLOCK_BYTES
