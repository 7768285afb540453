-- the numbers so far are marked as free, and nothing else is changed
use Rattle.std.proofs.Common.{◌≡◌, ◌-◌, ◌≤◌, length, take}
use Rattle.disk.specs.Crash.{Image}
use Rattle.inode.specs.WriteSets.WriteSetContents.{Shows, image_of, dirty_count}
use Rattle.bitmap.specs.Inodes.Frees.{Frees}
use Rattle.bitmap.proofs.inodes.block_release.free_each.Given as goal

abbrev pub invariant-numbers : goal.invariant-numbers
invariant-numbers l =
    ((blocks : Image) → Shows l.fn.write_set (image_of blocks l.fn.write_set) → Shows l.write_set (image_of blocks l.write_set))
    × ((blocks : Image) → Shows l.fn.write_set (image_of blocks l.fn.write_set)
    → Frees l.fn.write_set.there.geometry (take l.at l.numbers) (image_of blocks l.fn.write_set)
    (image_of blocks l.write_set))
    × (l.write_set.seen ≡ l.fn.write_set.seen) × (l.write_set.there.geometry ≡ l.fn.write_set.there.geometry)
    × (dirty_count l.write_set ≤ dirty_count l.fn.write_set) × (l.at ≤ length l.numbers)

abbrev pub decreases-numbers : goal.decreases-numbers
decreases-numbers l = length l.numbers - l.at
