-- the numbers that the pointer blocks so far name are added
use Rattle.std.proofs.Common.{◌≡◌, ◌++◌, take}
use Rattle.std.specs.List.{flat_map}
use Rattle.disk.specs.Crash.{Image}
use Rattle.nfs_spec.specs.Model.Tree.{Tree}
use Rattle.layout.specs.Parts.{content_in}
use Rattle.inode.specs.Over.{IsOver}
use Rattle.bitmap.specs.Inodes.Frees.{named_by}
use Rattle.bitmap.proofs.inodes.numbers.add_below.Given as goal

abbrev pub invariant-loop-pointer : goal.invariant-loop-pointer
invariant-loop-pointer l = (blocks : Image) (tree : Tree) → IsOver l.snap blocks tree
    → l.numbers.items ≡ l.fn.numbers.items
    ++ flat_map (named_by (content_in l.snap.geometry blocks)) (take l.pointer-index l.pointers)
