-- The commits that aren't installed, and the blocks that are kept in memory for them.
use Rattle.std.specs.Prelude.{Bool, ◌||◌, List, is_none, nat_eq}
use Rattle.std.specs.List.{list_any, filter}
use Rattle.disk.specs.declared.block.BlockNo.{BlockNo}
use Rattle.txn_law.specs.Holds.{is_taken}
use Rattle.objects.specs.Object.{ObjectBytes}
use Rattle.txn_law.specs.Window.{Footprint}
use Rattle.txn_law.specs.declared.hold.Hold.{Hold}
use Rattle.objects.specs.declared.present.Present.{Present}

-- whether one of the objects lies in the block
abbrev pub lies_in : List ObjectBytes → BlockNo → Bool
lies_in objects block = list_any (λ object. nat_eq object.addr.block.0 block.0) objects

-- whether a kept record read a part of the block
abbrev pub is_read_by_uninstalled : List Footprint → BlockNo → Bool
is_read_by_uninstalled records block = list_any (λ kept. lies_in kept.read block) records

-- whether its fetch is pending, somebody has taken a part of the block, or a kept record read one
abbrev pub is_needed : List Hold → List Footprint → Present → Bool
is_needed holds records resident =
    is_none resident.content || is_taken holds resident.block || is_read_by_uninstalled records resident.block

-- whether it stays in memory: it is spared, or needed
abbrev pub is_left : (Present → Bool) → List Hold → List Footprint → Present → Bool
is_left spare holds records resident = spare resident || is_needed holds records resident

-- the blocks that are needed, and those that are spared besides
abbrev pub swept : (Present → Bool) → List Hold → List Footprint → List Present → List Present
swept spare holds records present = filter (is_left spare holds records) present
