-- the bytes so far are written, up to a border of blocks or to the last
use Rattle.std.proofs.Common.{◌≡◌, ◌+◌, ◌-◌, ◌*◌, ◌/◌, ◌%◌, ◌<◌, ◌≤◌, length, take}
use Rattle.base.specs.declared.TheConstants.{BLOCK_BYTES}
use Rattle.disk.specs.Crash.{Image}
use Rattle.nfs_spec.specs.Model.Tree.{Tree}
use Rattle.inode.specs.WriteSets.WriteSetContents.{IsWriteSet, dirty_count}
use Rattle.inode_data.specs.CleanCounts.{clean_count}
use Rattle.inode_data.specs.Written.{NamesRegular, WritesText}
use Rattle.inode_data.proofs.writes.write_all.Given as goal

abbrev pub invariant-pieces : goal.invariant-pieces
invariant-pieces l =
    (0 < l.done) × (l.done ≤ length l.text) × (l.done < length l.text → (l.offset + l.done) % BLOCK_BYTES ≡ 0)
    × ((blocks : Image) (tree : Tree) → IsWriteSet l.fn.write_set blocks tree
    → NamesRegular l.fn.write_set blocks l.number l.inode
    → WritesText l.write_set blocks tree l.number l.offset (take l.done l.text)
    × NamesRegular l.write_set blocks l.number l.file)
    × (l.write_set.seen ≡ l.fn.write_set.seen)
    × (dirty_count l.write_set + clean_count l.write_set l.number l.file.indirect l.file.double
    ≤ dirty_count l.fn.write_set + clean_count l.fn.write_set l.number l.inode.indirect l.inode.double
    + 2 * ((l.offset + l.done - 1) / BLOCK_BYTES - l.offset / BLOCK_BYTES + 1))

abbrev pub decreases-pieces : goal.decreases-pieces
decreases-pieces l = length l.text - l.done
