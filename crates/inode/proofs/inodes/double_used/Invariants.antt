-- what is held by the double indirect block and by the inner blocks so far
use Rattle.std.proofs.Common.{◌≡◌, ◌+◌, ◌*◌, ◌≤◌, sum_by, take}
use Rattle.base.specs.declared.TheConstants.{INDIRECT_INDEXES}
use Rattle.disk.specs.Crash.{Image}
use Rattle.layout.specs.Decode.{numbers_in}
use Rattle.layout.specs.Parts.{content_in}
use Rattle.nfs_spec.specs.Model.Tree.{Tree}
use Rattle.inode.specs.Over.{IsOver}
use Rattle.inode.proofs.UsedBlocks.{row_held}
use Rattle.inode.proofs.inodes.double_used.Given as goal

abbrev pub invariant-inner : goal.invariant-inner
invariant-inner l = (l.used ≤ 1 + (INDIRECT_INDEXES + 1) * l.inner)
    × ((blocks : Image) (tree : Tree) → IsOver l.snap blocks tree
    → l.used ≡ 1 + sum_by (row_held (content_in l.snap.geometry blocks))
    (take l.inner (numbers_in (content_in l.snap.geometry blocks) l.double)))
