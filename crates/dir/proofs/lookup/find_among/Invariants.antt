-- no slot of the blocks so far has the name
use Rattle.std.proofs.Common.{ℕ, ◌*◌}
use Rattle.base.specs.declared.TheConstants.{SLOTS_PER_BLOCK}
use Rattle.disk.specs.Crash.{Image}
use Rattle.nfs_spec.specs.Model.Tree.{Tree}
use Rattle.layout.specs.Parts.{content_in}
use Rattle.dir.specs.Slots.{IsDirectoryOf, NoneHas, slot_at}
use Rattle.dir.proofs.lookup.find_among.Given as goal

abbrev pub invariant-indexes : goal.invariant-indexes
invariant-indexes l =
    (blocks : Image) (tree : Tree) (file : ℕ) → IsDirectoryOf l.snap blocks tree file l.inode
    → NoneHas (slot_at l.snap.geometry.inodes (content_in l.snap.geometry blocks) l.inode) l.name 0
    (SLOTS_PER_BLOCK * l.index)
