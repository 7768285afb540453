-- What a file spans, by its inode, and files that have no names.
use Rattle.std.proofs.Common.{◌≡◌, ℕ, ap, ◌∙◌, sym, refl, true, Option, Some}
use Rattle.std.specs.Option.{unwrap_or}
use Rattle.disk.specs.Crash.{Image}
use Rattle.nfs_spec.specs.Model.Names.{is_directory}
use Rattle.nfs_spec.specs.Model.Node.{Node}
use Rattle.nfs_spec.specs.Model.Tree.{Tree, node_at}
use Rattle.procs_files.specs.Writable.{spanned}
use Rattle.layout.specs.declared.geometry.Geometry.{Geometry}
use Rattle.layout.specs.declared.inode.Inode.{Inode}
use Rattle.layout.specs.declared.inode.InodeKind.{InodeKind}
use Rattle.layout.specs.declared.inode.InodeKind.TheVariants as kinds
use Rattle.layout.specs.Decode.{body_of, node_with, span_of}
use Rattle.layout.specs.Parts.{content_in}
use Rattle.inode.specs.declared.snap.Snap.{Snap}
use Rattle.inode.specs.Over.{HasInode}
use Rattle.inode.proofs.HeldThere as held

module _ (snap : Snap) (image : Image) (tree : Tree) (n : ℕ) (inode : Inode) (node : Node)
    (has : HasInode snap image tree n inode) (was : node_at tree n ≡ Some node) where
  abbrev g : Geometry
  g = snap.geometry

  pub body_there : node.body ≡ body_of g.inodes (content_in g image) inode.kind inode
  body_there =
      ap (λ (o : Option Node). (unwrap_or o node).body)
      (sym was ∙ held.there snap image tree n (Some inode) has.less has.there has.over)

  pub node_there : node_with inode (body_of g.inodes (content_in g image) inode.kind inode) ≡ node
  node_there =
      ap (λ (o : Option Node). unwrap_or o node)
      (sym (held.there snap image tree n (Some inode) has.less has.there has.over) ∙ was)

  spans_by : (kind : InodeKind) → kind ≡ kinds.Directory
      → spanned (body_of g.inodes (content_in g image) kind inode) ≡ span_of inode
  spans_by kinds.Directory e = refl
  spans_by kinds.Regular e = cc
  spans_by kinds.Link e = cc

  pub spans_there : inode.kind ≡ kinds.Directory → spanned node.body ≡ span_of inode
  spans_there is = ap spanned body_there ∙ spans_by inode.kind is

  named_by : (kind : InodeKind) → is_directory (body_of g.inodes (content_in g image) kind inode) ≡ true
      → kind ≡ kinds.Directory
  named_by kinds.Directory e = refl
  named_by kinds.Regular e = cc
  named_by kinds.Link e = cc

  pub kind_there : is_directory node.body ≡ true → inode.kind ≡ kinds.Directory
  kind_there is = named_by inode.kind (ap is_directory (sym body_there) ∙ is)
