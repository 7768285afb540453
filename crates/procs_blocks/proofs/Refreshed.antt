-- The head of a file in which something changed.
use Rattle.std.proofs.Common.{◌≡◌, ℕ, ◌*◌, sym, ap, ◌∙◌, refl, subst, List, Option, Some}
use Rattle.std.specs.Option.{unwrap_or}
use Rattle.base.specs.declared.TheConstants.{BLOCK_BYTES}
use Rattle.nfs_spec.specs.Model.Attributes.{kind_of, size_of}
use Rattle.nfs_spec.specs.Model.Cost.{cost}
use Rattle.nfs_spec.specs.Model.Names.{parent_of}
use Rattle.nfs_spec.specs.Model.Node.{Body, Node}
use Rattle.nfs_spec.specs.Model.Node as model
use Rattle.nfs_spec.specs.Model.Tree.{Tree, node_at}
use Rattle.nfs_spec.specs.Procedures.Rename.{with_parent}
use Rattle.nfs_spec.specs.Procedures.Write.{with_text}
use Rattle.procs_files.specs.declared.inode_attributes.InodeAttributes.{InodeAttributes}
use Rattle.procs_files.specs.Writable.{SoundInodeAttributes, headed}
use Rattle.procs_files.specs.Heads.{IsBodyOf, IsFileAt, node_of}

-- what was read of the file is what is in it
pub read_size : (tree : Tree) (n : ℕ) (found : InodeAttributes) (node : Node) → IsFileAt tree n (Some found)
    → node_at tree n ≡ Some node → (found.size ≡ size_of node.body) × (found.used ≡ BLOCK_BYTES * cost node.body)
read_size tree n found node proven was =
    let body = proven.1.0 in
    let is : node_of found body ≡ node =
    ap (λ (o : Option Node). unwrap_or o node)
    (sym proven.1.1.there ∙ ap (node_at tree) proven.0 ∙ was) in
    let same : body ≡ node.body = ap (λ (one : Node). one.body) is in (
      sym proven.1.1.fits.size ∙ ap size_of same,
      sym proven.1.1.fits.used ∙ ap (λ (b : Body). BLOCK_BYTES * cost b) same,
    )

pub parent_preserved : (parent : ℕ) (body : Body) → parent_of body ≡ parent → with_parent parent body ≡ body
parent_preserved parent (model.Regular bytes mapped) is = refl
parent_preserved parent (model.Directory named span old) is = ap (λ p. model.Directory named span p) (sym is)
parent_preserved parent (model.Link target) is = refl

pub headed_fits : (inode_attributes : InodeAttributes) (body : Body) → kind_of body ≡ inode_attributes.kind → parent_of body ≡ inode_attributes.parent
    → IsBodyOf (headed inode_attributes body) (with_parent inode_attributes.parent body)
headed_fits inode_attributes body kind parent =
    subst (λ (b : Body). IsBodyOf (headed inode_attributes body) b) (sym (parent_preserved inode_attributes.parent body parent))
    (record { kind = kind; size = refl; used = refl; parent = parent })

pub headed_sound : (inodes : ℕ) (inode_attributes : InodeAttributes) (body : Body) → SoundInodeAttributes inodes inode_attributes
    → SoundInodeAttributes inodes (headed inode_attributes body)
headed_sound inodes inode_attributes body sound = record {
  mode = sound.mode;
  uid = sound.uid;
  gid = sound.gid;
  linked = sound.linked;
  nlink = sound.nlink;
  atime = sound.atime;
  mtime = sound.mtime;
  ctime = sound.ctime;
  stamp = sound.stamp;
  verifier = sound.verifier;
  directory = sound.directory;
}

-- what is written changes neither the kind nor the parent
pub kind_preserved : (offset : ℕ) (text : List ℕ) (body : Body) → kind_of (with_text offset text body) ≡ kind_of body
kind_preserved offset text (model.Regular bytes mapped) = refl
kind_preserved offset text (model.Directory named span parent) = refl
kind_preserved offset text (model.Link target) = refl

pub parent_stays : (offset : ℕ) (text : List ℕ) (body : Body)
    → parent_of (with_text offset text body) ≡ parent_of body
parent_stays offset text (model.Regular bytes mapped) = refl
parent_stays offset text (model.Directory named span parent) = refl
parent_stays offset text (model.Link target) = refl
