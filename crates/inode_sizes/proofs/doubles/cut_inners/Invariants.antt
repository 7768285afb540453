-- what stays of the inner blocks so far
use Rattle.std.proofs.Common.{◌≡◌, length, take}
use Rattle.disk.specs.Crash.{Image}
use Rattle.nfs_spec.specs.Model.Tree.{Tree}
use Rattle.layout.specs.Decode.{numbers_in}
use Rattle.layout.specs.Parts.{content_in}
use Rattle.inode.specs.Over.{IsOver}
use Rattle.inode_sizes.specs.Doubles.{AreInnersCut, FitInners}
use Rattle.inode_sizes.proofs.doubles.cut_inners.Given as goal

abbrev pub invariant-loop-pointer : goal.invariant-loop-pointer
invariant-loop-pointer l =
    (length l.inners.numbers.items ≡ l.pointer-index) × FitInners l.snap.geometry l.inners
    × ((blocks : Image) (tree : Tree) → IsOver l.snap blocks tree
    → AreInnersCut (numbers_in (content_in l.snap.geometry blocks)) (take l.pointer-index l.pointers) l.count
    l.fn.gone.items l.inners.numbers.items l.inners.part l.inners.part_numbers.items l.inners.used l.gone.items)
