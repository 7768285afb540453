-- What is read of a write set is read over its blocks with what was written.
use Rattle.std.proofs.Common.{◌≡◌, sym, subst}
use Rattle.disk.specs.Crash.{Image}
use Rattle.nfs_spec.specs.Model.Tree.{Tree}
use Rattle.inode.specs.declared.snap.Snap.{Snap}
use Rattle.inode.specs.Over.{IsOver}
use Rattle.inode.specs.WriteSets.WriteSetContents.{WriteSetContents, IsWriteSet, image_of}
use Rattle.inode.proofs.WriteSetsLemmas.PutThere.{over_of}

pub reads : (write_set : WriteSetContents) (snap : Snap) (blocks : Image) (tree : Tree) → snap ≡ write_set.there
    → IsWriteSet write_set blocks tree → IsOver snap (image_of blocks write_set) tree
reads write_set snap blocks tree same is =
    subst (λ (s : Snap). IsOver s (image_of blocks write_set) tree) (sym same) (over_of write_set blocks tree is)
