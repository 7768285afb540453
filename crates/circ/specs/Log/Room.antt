-- When a group finds room in the log, and what its append does.
use Rattle.std.specs.Prelude.{ℕ, ◌+◌, ◌≤◌, ◌<◌, ◌^◌, List, ◌++◌, not, take, map}
use Rattle.std.specs.List.{filter}
use Rattle.base.specs.declared.TheConstants.{LOG_SLOTS}
use Rattle.disk.specs.Device.{Content}
use Rattle.disk.specs.declared.block.BlockNo.{BlockNo}
use Rattle.circ.specs.declared.log.outcomes.Room.{Room}
use Rattle.circ.specs.declared.log.outcomes.Room.TheVariants.{Fits, Spent, Full}
use Rattle.circ.specs.declared.log.change.LogChange.{LogChange}
use Rattle.circ.specs.Log.Log.{Log, tail_after, tail_of, changes_of, changed_blocks, is_among}
use Rattle.circ.specs.Log.Overlay.{content_or}
use Rattle.circ.specs.Log.Effects.{newest_in}

-- a place is left, and enough log positions for the blocks
pub record HasPlaces (log : Log) (blocks : List BlockNo) : Type 0 where
  pub place : log.places + 1 < 2 ^ 64
  pub positions : log.start + (log.logged + log.taken) + tail_after log blocks < 2 ^ 64

-- whether there is room for a group that changes these blocks
abbrev pub IsRoom : Log → List BlockNo → Room → Type 0
IsRoom log blocks Fits = HasPlaces log blocks × (tail_after log blocks ≤ LOG_SLOTS)
IsRoom log blocks Spent = HasPlaces log blocks → ⊥
IsRoom log blocks Full = HasPlaces log blocks × (LOG_SLOTS < tail_after log blocks)

-- a change of the tail once it has taken a group in: the content that the group has of its block, at the
-- place that it had
abbrev pub absorbed : List (BlockNo × Content) → LogChange → LogChange
absorbed group change = record {
  place = change.place;
  block = change.block;
  content = content_or (newest_in group change.block.0) change.content;
}

-- what a group changes that a tail of these blocks lacks
abbrev pub fresh : List BlockNo → List (BlockNo × Content) → List (BlockNo × Content)
fresh tail group = filter (λ change. not (is_among change.0 tail)) group

-- the tail once it has taken in the group of the commit of a place
abbrev pub tail_with : List LogChange → ℕ → List (BlockNo × Content) → List LogChange
tail_with tail place group = map (absorbed group) tail ++ changes_of place (fresh (changed_blocks tail) group)

-- The log once a commit's changes are in its tail, at the next place: a block that the tail has takes the new
-- content where it stands and keeps its older place, and the others come behind. No other group takes changes.
abbrev pub with_group : Log → List (BlockNo × Content) → Log
with_group log group = record log {
  places = log.places + 1;
  changes = take (log.logged + log.taken) log.changes ++ tail_with (tail_of log) (log.places + 1) group;
}
