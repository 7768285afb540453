-- What an inode tells of the tree's file.
use Rattle.std.proofs.Common.{◌≡◌, ℕ, ◌*◌, sym, ap, ◌∙◌, refl, Option, Some, None}
use Rattle.std.specs.Option.{unwrap_or}
use Rattle.base.specs.declared.TheConstants.{BLOCK_BYTES}
use Rattle.disk.specs.Crash.{Image}
use Rattle.nfs_spec.specs.Model.Node.{Body, Node}
use Rattle.nfs_spec.specs.Model.Tree.{Tree}
use Rattle.layout.specs.declared.geometry.Geometry.{Geometry}
use Rattle.layout.specs.declared.inode.Inode.{Inode}
use Rattle.layout.specs.declared.inode.InodeKind.{InodeKind}
use Rattle.layout.specs.declared.inode.InodeKind.TheVariants as kinds
use Rattle.layout.specs.Decode.{body_of}
use Rattle.layout.specs.Parts.{content_in}
use Rattle.nfs_spec.specs.Model.Attributes.{kind_of}
use Rattle.nfs_types.specs.declared.attributes.FileKind.TheVariants as file_kinds
use Rattle.procs_files.specs.declared.inode_attributes.InodeAttributes.{InodeAttributes}
use Rattle.procs_files.specs.Heads.{IsBodyOf, IsFileAt, IsFileIn, node_of}
use Rattle.inode.specs.declared.snap.Snap.{Snap}
use Rattle.inode.specs.declared.suspend.Suspend.{Suspend}
use Rattle.inode.specs.declared.suspend.Suspend.TheVariants as suspend
use Rattle.inode.specs.Over.{HasInode, MaySuspend}
use Rattle.inode.specs.Shown.{IsInodeOf, IsShown, body_in}
use Rattle.inode.specs.Snap.{IsNew}
use Rattle.bitmap.specs.Pieces.{IsAskedObject}
use Rattle.procs_blocks.specs.Heads.{inode_attributes_of}

pub may_suspend : (snap : Snap) (why : Suspend) → IsNew snap why → IsAskedObject snap.geometry why → MaySuspend snap why
may_suspend snap (suspend.Need addr mode) new asked = (new, asked)
may_suspend snap (suspend.Claim block) new asked = absurd asked
may_suspend snap suspend.Io new asked = tt
may_suspend snap (suspend.NoMemory error) new asked = tt

-- the file of an inode
pub is_file : (snap : Snap) (blocks : Image) (tree : Tree) (number used : ℕ) (inode : Inode)
    → IsInodeOf snap blocks tree number (Some inode)
    → ((file : ℕ) → HasInode snap blocks tree file inode → IsShown inode used (body_in snap.geometry blocks inode))
    → IsFileAt tree number (Some (inode_attributes_of number inode used))
is_file snap blocks tree number used inode is shown =
    let shows = shown number is.0 in
    let fits : IsBodyOf (inode_attributes_of number inode used) (body_in snap.geometry blocks inode) = record {
      kind = shows.kind;
      size = shows.size;
      used = ap (λ k. BLOCK_BYTES * k) shows.used;
      parent = shows.parent;
    } in
    (refl, (body_in snap.geometry blocks inode, record { there = is.1; fits = fits }))

-- what is in the file that a head names is what is in the inode's
pub same_body : (snap : Snap) (blocks : Image) (tree : Tree) (inode_attributes : InodeAttributes) (body : Body) (inode : Inode)
    → IsInodeOf snap blocks tree inode_attributes.number (Some inode) → IsFileIn tree inode_attributes body
    → body_in snap.geometry blocks inode ≡ body
same_body snap blocks tree inode_attributes body inode is file =
    ap (λ (o : Option Node). (unwrap_or o (node_of inode_attributes body)).body) (sym is.1 ∙ file.there)

pub none_there : (snap : Snap) (blocks : Image) (tree : Tree) (inode_attributes : InodeAttributes) (body : Body)
    → IsInodeOf snap blocks tree inode_attributes.number None → IsFileIn tree inode_attributes body → ⊥
none_there snap blocks tree inode_attributes body is file =
    let clash : None ≡ Some (node_of inode_attributes body) = sym is ∙ file.there in cc

by_kind : (g : Geometry) (blocks : Image) (inode : Inode) (kind : InodeKind)
    → kind_of (body_of g.inodes (content_in g blocks) kind inode) ≡ file_kinds.Link → kind ≡ kinds.Link
by_kind g blocks inode kinds.Regular e = cc
by_kind g blocks inode kinds.Directory e = cc
by_kind g blocks inode kinds.Link e = refl

-- the inode of a link is a link's
pub is_link : (snap : Snap) (blocks : Image) (tree : Tree) (inode_attributes : InodeAttributes) (body : Body) (inode : Inode)
    → IsInodeOf snap blocks tree inode_attributes.number (Some inode) → IsFileIn tree inode_attributes body → inode_attributes.kind ≡ file_kinds.Link
    → inode.kind ≡ kinds.Link
is_link snap blocks tree inode_attributes body inode is file link =
    by_kind snap.geometry blocks inode inode.kind
    (ap kind_of (same_body snap blocks tree inode_attributes body inode is file) ∙ file.fits.kind ∙ link)
