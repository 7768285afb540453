-- What a directory uses of the data blocks.
use Rattle.std.proofs.Common.{◌≡◌, ℕ, ◌+◌, ◌∙◌, refl, cond, nat_lt}
use Rattle.base.specs.declared.TheConstants.{DIRECT_INDEXES}
use Rattle.disk.specs.Crash.{Image}
use Rattle.nfs_spec.specs.Model.Cost.{cost}
use Rattle.nfs_spec.specs.Model.Tree.{Tree}
use Rattle.layout.specs.declared.inode.Inode.{Inode}
use Rattle.layout.specs.declared.inode.InodeKind.{InodeKind}
use Rattle.layout.specs.declared.inode.InodeKind.TheVariants as kinds
use Rattle.layout.specs.Decode.{body_of, span_of}
use Rattle.layout.specs.Parts.{content_in}
use Rattle.inode.specs.declared.snap.Snap.{Snap}
use Rattle.inode.specs.Shown.{IsShown, body_in}
use Rattle.inode.proofs.HeldThere.{is_shown}
use Rattle.inode.proofs.UsedBlocks.{counted}
use Rattle.dir.specs.Slots.{IsDirectoryOf}

spanned : (inodes : ℕ) (content : Image) (kind : InodeKind) (inode : Inode) → kind ≡ kinds.Directory
    → cost (body_of inodes content kind inode)
    ≡ span_of inode + cond (nat_lt DIRECT_INDEXES (span_of inode)) 1 0
spanned inodes content kinds.Directory inode is = refl
spanned inodes content kinds.Regular inode is = cc
spanned inodes content kinds.Link inode is = cc

pub shown : (snap : Snap) (blocks : Image) (tree : Tree) (file : ℕ) (inode : Inode) (used : ℕ)
    → IsDirectoryOf snap blocks tree file inode
    → span_of inode + cond (nat_lt DIRECT_INDEXES (span_of inode)) 1 0 ≡ used
    → IsShown inode used (body_in snap.geometry blocks inode)
shown snap blocks tree file inode used is count =
    let content = content_in snap.geometry blocks in
    let one = is_shown snap blocks tree file inode is.has (counted content inode) refl in
    record {
      kind = one.kind;
      size = one.size;
      used = spanned snap.geometry.inodes content inode.kind inode is.kind ∙ count;
      parent = one.parent;
    }
