-- A file that has no such name is as it is without it.
use Rattle.std.proofs.Common.{◌≡◌, ℕ, sym, ap, ◌∙◌, refl, List, Option, Some, None}
use Rattle.std.specs.FinMap as map
use Rattle.std.specs.Option.{unwrap_or}
use Rattle.disk.specs.Crash.{Image}
use Rattle.nfs_spec.specs.Model.Node.{Body, DirentValue, Node}
use Rattle.nfs_spec.specs.Model.Tree.{Tree, node_at}
use Rattle.nfs_spec.specs.Procedures.Changes.{without_dirent}
use Rattle.layout.specs.declared.inode.Inode.{Inode}
use Rattle.layout.specs.declared.inode.InodeKind.{InodeKind}
use Rattle.layout.specs.declared.inode.InodeKind.TheVariants as kinds
use Rattle.layout.specs.Decode.{body_of, entries_in, span_of}
use Rattle.layout.specs.Parts.{content_in}
use Rattle.inode.specs.declared.snap.Snap.{Snap}
use Rattle.inode.specs.Over.{HasInode}
use Rattle.inode.proofs.HeldThere as held
use Rattle.dir_writes.specs.Clearing.{without_name}
use Rattle.dir_writes.proofs.Places.{lost_none}

module _ (snap : Snap) (image : Image) (tree : Tree) (n : ℕ) (inode : Inode) (name : List ℕ) (node : Node)
    (has : HasInode snap image tree n inode) (was : node_at tree n ≡ Some node) where
  abbrev content : Image
  content = content_in snap.geometry image

  body : node.body ≡ body_of snap.geometry.inodes content inode.kind inode
  body =
      ap (λ (o : Option Node). (unwrap_or o node).body)
      (sym was ∙ held.there snap image tree n (Some inode) has.less has.there has.over)

  same_file : (kind : InodeKind) → inode.kind ≡ kind
      → without_dirent name (body_of snap.geometry.inodes content kind inode)
      ≡ body_of snap.geometry.inodes content kind inode → without_name name node ≡ node
  same_file kind is same =
      let there : node.body ≡ body_of snap.geometry.inodes content kind inode =
      body ∙ ap (λ k. body_of snap.geometry.inodes content k inode) is in
      let is_preserved : without_dirent name node.body ≡ node.body =
      ap (without_dirent name) there ∙ same ∙ sym there in
      ap (λ (b : Body). record node { body = b }) is_preserved

  pub preserved_directory : inode.kind ≡ kinds.Directory
      → ◌≡◌ {A = Option DirentValue} None (map.get (entries_in snap.geometry.inodes content inode) name)
      → without_name name node ≡ node
  preserved_directory is none = same_file kinds.Directory is
      (lost_none (entries_in snap.geometry.inodes content inode) (span_of inode) inode.parent name (sym none))

  pub preserved_regular : inode.kind ≡ kinds.Regular → without_name name node ≡ node
  preserved_regular is = same_file kinds.Regular is refl

  pub preserved_link : inode.kind ≡ kinds.Link → without_name name node ≡ node
  preserved_link is = same_file kinds.Link is refl
