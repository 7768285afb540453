-- The head of a file of another size.
use Rattle.std.proofs.Common.{◌≡◌, ℕ, zero, suc, ◌+◌, ◌-◌, ◌*◌, sym, ap, ◌∙◌, refl, true, false, List, [], ◌∷◌}
use Rattle.std.proofs.Common.{subst, length, length-append, take, replicate, Some, None, arith}
use Rattle.base.specs.declared.TheConstants.{BLOCK_BYTES}
use Rattle.disk.specs.Crash.{Image}
use Rattle.nfs_types.specs.declared.attributes.FileKind.TheVariants as file_kinds
use Rattle.nfs_spec.specs.Model.Attributes.{size_of}
use Rattle.nfs_spec.specs.Model.Cost.{cost}
use Rattle.nfs_spec.specs.Model.Node.{Body, Node}
use Rattle.nfs_spec.specs.Model.Node as model
use Rattle.nfs_spec.specs.Model.SetAttr.{resized, with_length}
use Rattle.nfs_spec.specs.Model.Tree.{Tree, node_at}
use Rattle.nfs_spec.specs.Procedures.Rename.{with_parent}
use Rattle.procs_files.specs.declared.inode_attributes.InodeAttributes.{InodeAttributes}
use Rattle.procs_files.specs.Writable.{SoundInodeAttributes}
use Rattle.procs_files.specs.Heads.{IsBodyOf, is_kind_regular}
use Rattle.layout.specs.declared.geometry.Geometry.{Geometry}
use Rattle.layout.specs.declared.inode.Inode.{Inode}
use Rattle.layout.specs.Holds.{Holds}
use Rattle.layout.specs.InodeForm.{SoundInode}
use Rattle.layout.specs.Parts.{content_in}
use Rattle.inode.specs.Shown.{body_in}
use Rattle.inode.specs.WriteSets.Attributes.{attributed}
use Rattle.inode_sizes.specs.Sized.{IsUse}
use Rattle.procs_blocks.specs.Heads.{looks_of}
use Rattle.procs_blocks.proofs.SetThere.{found, same_in, set_sound}

resized-length : (bytes : List ℕ) (size : ℕ) → length (resized size bytes) ≡ size
resized-length bytes size =
    let both = length-append (take size bytes) (replicate (size - length bytes) 0) in
    let first = taken size bytes in
    let rest = length-zeros (size - length bytes) in
    omega (arith, both, first, rest)
  where
    length-zeros : (n : ℕ) → length (replicate {A = ℕ} n 0) ≡ n
    length-zeros zero = refl
    length-zeros (suc n) = ap suc (length-zeros n)

    taken : (n : ℕ) (xs : List ℕ) → length (take n xs) + (n - length xs) ≡ n
    taken zero xs = omega arith
    taken (suc n) [] = omega arith
    taken (suc n) (x ∷ xs) = let rest = taken n xs in omega (arith, rest)

pub regular_size : (inode_attributes : InodeAttributes) (size : ℕ) (body : Body) → inode_attributes.kind ≡ file_kinds.Regular → IsBodyOf inode_attributes body
    → size ≡ size_of (with_length (Some size) body)
regular_size inode_attributes size (model.Regular bytes mapped) is fits = sym (resized-length bytes size)
regular_size inode_attributes size (model.Directory named span parent) is fits =
    let clash : file_kinds.Directory ≡ file_kinds.Regular = fits.kind ∙ is in cc
regular_size inode_attributes size (model.Link target) is fits =
    let clash : file_kinds.Link ≡ file_kinds.Regular = fits.kind ∙ is in cc

pub other_size : (inode_attributes : InodeAttributes) (size : ℕ) (body : Body) → is_kind_regular inode_attributes.kind ≡ false → IsBodyOf inode_attributes body
    → inode_attributes.size ≡ size_of (with_length (Some size) body)
other_size inode_attributes size (model.Regular bytes mapped) other fits =
    let clash : true ≡ false = ap is_kind_regular fits.kind ∙ other in cc
other_size inode_attributes size (model.Directory named span parent) other fits = sym fits.size
other_size inode_attributes size (model.Link target) other fits = sym fits.size

pub as_before : (inode_attributes : InodeAttributes) (body new : Body) → IsBodyOf inode_attributes body → IsUse None body new
    → inode_attributes.used ≡ BLOCK_BYTES * cost new
as_before inode_attributes body new fits same = sym fits.used ∙ sym (ap (λ k. BLOCK_BYTES * k) same)

-- ---- the file that gets the attributes of a head

own_parent : (inode_attributes : InodeAttributes) (body : Body) → IsBodyOf inode_attributes body → with_parent inode_attributes.parent body ≡ body
own_parent inode_attributes (model.Regular bytes mapped) fits = refl
own_parent inode_attributes (model.Directory named span parent) fits =
    ap (λ p. model.Directory named span p) (sym fits.parent)
own_parent inode_attributes (model.Link target) fits = refl

module _ (g : Geometry) (image : Image) (tree : Tree) (inode_attributes : InodeAttributes) (node : Node) (holds : Holds g image tree)
    (was : node_at tree inode_attributes.number ≡ Some node) (fits : IsBodyOf inode_attributes node.body) where
  abbrev pub inode : Inode
  inode = (found g image tree inode_attributes.number node holds was).inode

  pub same_body : body_in g image (attributed inode (looks_of inode_attributes)) ≡ node.body
  same_body = same_in g.inodes (content_in g image) inode (looks_of inode_attributes) inode.kind
      ∙ ap (with_parent inode_attributes.parent) (sym (found g image tree inode_attributes.number node holds was).body)
      ∙ own_parent inode_attributes node.body fits

  pub sound : SoundInodeAttributes tree.geometry.inodes inode_attributes → SoundInode g (attributed inode (looks_of inode_attributes))
  sound good = set_sound g image tree inode_attributes node holds was
      (subst (IsBodyOf inode_attributes) (sym (own_parent inode_attributes node.body fits)) fits) good
