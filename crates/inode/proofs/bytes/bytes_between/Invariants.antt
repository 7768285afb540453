-- the bytes so far are those of the blocks up to this place
use Rattle.std.proofs.Common.{◌≡◌, ℕ, ◌+◌, ◌-◌, ◌≤◌, length, take, drop}
use Rattle.disk.specs.Crash.{Image}
use Rattle.nfs_spec.specs.Model.Tree.{Tree}
use Rattle.inode.specs.Over.{HasInode, all_bytes}
use Rattle.inode.proofs.bytes.bytes_between.Given as goal

abbrev pub invariant-pieces : goal.invariant-pieces
invariant-pieces l =
    (l.start ≤ l.at) × (l.at ≤ l.end)
    × ((blocks : Image) (tree : Tree) (file : ℕ) → HasInode l.snap blocks tree file l.inode
    → l.bytes ≡ take (l.at - l.start) (drop l.start (all_bytes l.snap.geometry blocks l.inode)))
    × (length l.bytes + l.start ≤ l.at)

abbrev pub decreases-pieces : goal.decreases-pieces
decreases-pieces l = l.end - l.at
