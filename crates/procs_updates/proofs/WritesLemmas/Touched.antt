-- Heads of files whose attributes, bytes or names change.
use Rattle.std.proofs.Common.{◌≡◌, ℕ, sym, ap, ◌∙◌, refl, Some, None, cond, Bool, true, false, Option, List}
use Rattle.std.specs.Cmp.{nat_cmp_total}
use Rattle.std.specs.FinMap.{get-insert, nat_cmp-IsAntisymmetric}
use Rattle.std.specs.Ordering.{eq_by_cmp, nat_cmp}
use Rattle.nfs_types.specs.declared.attributes.NewAttributes.{NewAttributes}
use Rattle.nfs_types.specs.declared.ctx.Moment.{Moment}
use Rattle.nfs_spec.proofs.ModelLemmas.Sets.{itself}
use Rattle.nfs_spec.specs.Model.Attributes.{kind_of}
use Rattle.nfs_spec.specs.Model.Names.{parent_of}
use Rattle.nfs_spec.specs.Model.Node.{Node, Body, Regular, Directory, Link}
use Rattle.nfs_spec.specs.Model.SetAttr.{with_length}
use Rattle.nfs_spec.specs.Model.Sound.{SoundTime}
use Rattle.nfs_spec.specs.Model.Tree.{Tree, node_at, with_node}
use Rattle.nfs_spec.proofs.ProceduresLemmas.Parts.{insert_same}
use Rattle.nfs_spec.specs.Procedures.Rename.{with_parent}
use Rattle.nfs_spec.specs.Procedures.Write.{with_text}
use Rattle.procs_files.specs.declared.inode_attributes.InodeAttributes.{InodeAttributes}
use Rattle.procs_files.specs.Writable.{SoundInodeAttributes, headed}
use Rattle.procs_files.specs.Heads.{IsBodyOf}
use Rattle.procs_updates.specs.Writes.Acting.{set_inode_attributes, touched_inode_attributes}

pub same_parent : (parent : ℕ) (body : Body) → parent_of body ≡ parent → with_parent parent body ≡ body
same_parent parent (Regular bytes mapped) is = refl
same_parent parent (Directory named span old) is = ap (Directory named span) (sym is)
same_parent parent (Link target) is = refl

pub touched_sound : (inodes : ℕ) (moment : Moment) (inode_attributes : InodeAttributes) → SoundTime moment → SoundInodeAttributes inodes inode_attributes
    → SoundInodeAttributes inodes (touched_inode_attributes moment inode_attributes)
touched_sound inodes moment inode_attributes now sound = record {
  mode = sound.mode;
  uid = sound.uid;
  gid = sound.gid;
  linked = sound.linked;
  nlink = sound.nlink;
  atime = sound.atime;
  mtime = now;
  ctime = now;
  stamp = sound.stamp;
  verifier = sound.verifier;
  directory = sound.directory;
}

-- a head that has the size of what is in its file
pub headed_is : (inode_attributes : InodeAttributes) (body : Body) → IsBodyOf inode_attributes body → headed inode_attributes body ≡ inode_attributes
headed_is inode_attributes body fits = λ i. record inode_attributes { size = fits.size i; used = fits.used i }

taken : (b : Bool) (v : Node) (o : Option Node) → b ≡ true → cond b (Some v) o ≡ Some v
taken true v o e = refl
taken false v o e = cc

-- the file of a number is the one that was put there
pub put_there : (tree : Tree) (number : ℕ) (node : Node) → node_at (with_node tree number node) number ≡ Some node
put_there tree number node =
    get-insert nat_cmp_total tree.nodes number node number
    ∙ taken (eq_by_cmp nat_cmp number number) node (node_at tree number) (itself number)

-- what changes what is in a file, and not its kind and its parent
pub record Alike (old new : Body) : Type 0 where
  pub kind : kind_of new ≡ kind_of old
  pub parent : parent_of new ≡ parent_of old

pub text_alike : (offset : ℕ) (text : List ℕ) (body : Body) → Alike body (with_text offset text body)
text_alike offset text (Regular bytes mapped) = record { kind = refl; parent = refl }
text_alike offset text (Directory named span parent) = record { kind = refl; parent = refl }
text_alike offset text (Link target) = record { kind = refl; parent = refl }

pub length_alike : (size : Option ℕ) (body : Body) → Alike body (with_length size body)
length_alike None body = record { kind = refl; parent = refl }
length_alike (Some size) (Regular bytes mapped) = record { kind = refl; parent = refl }
length_alike (Some size) (Directory named span parent) = record { kind = refl; parent = refl }
length_alike (Some size) (Link target) = record { kind = refl; parent = refl }

pub headed_fits : (inode_attributes : InodeAttributes) (old new : Body) → IsBodyOf inode_attributes old → Alike old new → IsBodyOf (headed inode_attributes new) new
headed_fits inode_attributes old new fits alike = record {
  kind = alike.kind ∙ fits.kind;
  size = refl;
  used = refl;
  parent = alike.parent ∙ fits.parent;
}

-- a tree in which a file is put again
pub preserved_tree : (tree : Tree) (number : ℕ) (node : Node) → node_at tree number ≡ Some node
    → with_node tree number node ≡ tree
preserved_tree tree number node was =
    λ i. record { geometry = tree.geometry; nodes = insert_same nat_cmp_total nat_cmp-IsAntisymmetric tree.nodes number node was i }

-- attributes that are set leave what is in the file
pub same_fits : (moment : Moment) (wanted : NewAttributes) (file : InodeAttributes) (body : Body) → IsBodyOf file body
    → IsBodyOf (set_inode_attributes moment wanted file) body
same_fits moment wanted file body fits = record {
  kind = fits.kind;
  size = fits.size;
  used = fits.used;
  parent = fits.parent;
}

pub touched_fits : (moment : Moment) (file : InodeAttributes) (body : Body) → IsBodyOf file body
    → IsBodyOf (touched_inode_attributes moment file) body
touched_fits moment file body fits = record {
  kind = fits.kind;
  size = fits.size;
  used = fits.used;
  parent = fits.parent;
}
