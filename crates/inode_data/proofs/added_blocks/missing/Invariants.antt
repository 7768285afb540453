-- so many have no block, and with one each there are as many more
use Rattle.std.proofs.Common.{◌≡◌, ℕ, ◌+◌, ◌≤◌}
use Rattle.disk.specs.Crash.{Image}
use Rattle.nfs_spec.specs.Model.Tree.{Tree}
use Rattle.layout.specs.Decode.{numbers_of}
use Rattle.layout.specs.Fields.{count_of}
use Rattle.layout.specs.Parts.{content_in}
use Rattle.inode.specs.Over.{HasInode}
use Rattle.inode_data.specs.Adding.{filled_up}
use Rattle.inode_data.proofs.added_blocks.missing.Given as goal

abbrev pub invariant-indexes : goal.invariant-indexes
invariant-indexes l = (l.missing ≤ l.step)
    × ((blocks : Image) (tree : Tree) (file : ℕ) → HasInode l.snap blocks tree file l.inode
    → l.missing + count_of (numbers_of (content_in l.snap.geometry blocks) l.inode)
    ≡ count_of (filled_up (numbers_of (content_in l.snap.geometry blocks) l.inode) l.first l.step))
