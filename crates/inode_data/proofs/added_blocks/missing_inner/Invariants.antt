-- so many are those of no block
use Rattle.std.proofs.Common.{◌≡◌, ℕ, ◌≤◌}
use Rattle.disk.specs.Crash.{Image}
use Rattle.nfs_spec.specs.Model.Tree.{Tree}
use Rattle.layout.specs.Decode.{numbers_in}
use Rattle.layout.specs.Parts.{content_in}
use Rattle.inode.specs.Over.{HasInode}
use Rattle.inode_data.specs.Adding.{missing_between}
use Rattle.inode_data.proofs.added_blocks.missing_inner.Given as goal

abbrev pub invariant-inner : goal.invariant-inner
invariant-inner l = (l.missing ≤ l.step)
    × ((blocks : Image) (tree : Tree) (file : ℕ) → HasInode l.snap blocks tree file l.inode
    → l.missing ≡ missing_between (numbers_in (content_in l.snap.geometry blocks) l.inode.double) l.first l.step)
