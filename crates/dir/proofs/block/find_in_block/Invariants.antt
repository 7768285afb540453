-- no slot so far has the name, none is refused where that is told, and each was compared once
use Rattle.std.proofs.Common.{◌≡◌, ◌+◌, ◌-◌, ◌≤◌, true}
use Rattle.dir.specs.Slots.{NoneHas, NoneRefused, block_slot}
use Rattle.dir.proofs.block.find_in_block.Given as goal

abbrev pub invariant-slots : goal.invariant-slots
invariant-slots l =
    NoneHas (block_slot l.inodes l.first l.block) l.name l.first l.slot
    × (l.is_valid ≡ true → NoneRefused (block_slot l.inodes l.first l.block) l.first l.slot)
    × (l.compared ≤ l.fn.compared + (l.slot - l.first))
