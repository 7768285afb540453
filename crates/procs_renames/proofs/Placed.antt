-- What the parts of a move make of a tree.
use Rattle.std.proofs.Common.{◌≡◌, ◌≢◌, ℕ, sym, ap, subst, ◌∙◌, refl, Option, Some, None, cond}
use Rattle.std.specs.Option.{option_map}
use Rattle.nfs_types.specs.declared.ctx.Moment.{Moment}
use Rattle.nfs_spec.specs.Model.Attributes.{kind_of}
use Rattle.nfs_spec.specs.Model.Names.{parent_of}
use Rattle.nfs_spec.specs.Model.Node.{Node, Body, Regular, Directory, Link}
use Rattle.nfs_spec.specs.Model.Tree.{Tree, node_at, with_node}
use Rattle.nfs_spec.proofs.ProceduresLemmas.Soundness.{changed_is}
use Rattle.nfs_spec.specs.Procedures.Changes.{changed_at, with_file}
use Rattle.nfs_spec.specs.Procedures.Rename.{moved, with_parent}
use Rattle.procs_files.specs.declared.inode_attributes.InodeAttributes.{InodeAttributes}
use Rattle.procs_files.specs.Writable.{SoundInodeAttributes}
use Rattle.procs_files.specs.Heads.{IsBodyOf, IsFileAt, IsFound, is_kind_directory, node_of}
use Rattle.procs_names.proofs.LinksLemmas.Shaped.{shaped_inode_attributes, still_in}
use Rattle.procs_names.specs.Links.Shapes.{CanChange}
use Rattle.procs_renames.specs.Placing.{above}

-- a file that was found is still found where another has changed
pub still_found : (tree : Tree) (at : ℕ) (change : Node → Node) (found : Option (ℕ × Node)) (file : Option InodeAttributes)
    → ((other : ℕ × Node) → found ≡ Some other → other.0 ≢ at) → IsFound tree found file
    → IsFound (changed_at tree at change) found file
still_found tree at change found None apart none = none
still_found tree at change found (Some inode_attributes) apart there = (
  there.0,
  there.1,
  still_in tree at change inode_attributes there.0 (apart (inode_attributes.number, node_of inode_attributes there.0) there.1) there.2,
)

same_body : (file : InodeAttributes) (parent : ℕ) (body : Body) → kind_of body ≡ file.kind → parent_of body ≡ file.parent
    → with_parent (above file parent) body ≡ with_parent parent body
same_body file parent (Regular bytes mapped) kind is = refl
same_body file parent (Directory named span old) kind is =
    ap (λ k. Directory named span (cond (is_kind_directory k) parent file.parent)) (sym kind)
same_body file parent (Link target) kind is = refl

parent_now : (file : InodeAttributes) (parent : ℕ) (body : Body) → kind_of body ≡ file.kind → parent_of body ≡ file.parent
    → parent_of (with_parent parent body) ≡ above file parent
parent_now file parent (Regular bytes mapped) kind is =
    is ∙ ap (λ k. cond (is_kind_directory k) parent file.parent) kind
parent_now file parent (Directory named span old) kind is =
    ap (λ k. cond (is_kind_directory k) parent file.parent) kind
parent_now file parent (Link target) kind is =
    is ∙ ap (λ k. cond (is_kind_directory k) parent file.parent) kind

same_kind : (parent : ℕ) (body : Body) → kind_of (with_parent parent body) ≡ kind_of body
same_kind parent (Regular bytes mapped) = refl
same_kind parent (Directory named span old) = refl
same_kind parent (Link target) = refl

fits_moved : (file : InodeAttributes) (moment : Moment) (parent : ℕ) (body : Body) → IsBodyOf file body
    → IsBodyOf (record file { ctime = moment; parent = above file parent }) (with_parent parent body)
fits_moved file moment parent body fits = by body fits
  where
    by : (body : Body) → IsBodyOf file body
        → IsBodyOf (record file { ctime = moment; parent = above file parent }) (with_parent parent body)
    by (Regular bytes mapped) fits = record {
      kind = fits.kind;
      size = fits.size;
      used = fits.used;
      parent = parent_now file parent (Regular bytes mapped) fits.kind fits.parent;
    }
    by (Directory named span old) fits = record {
      kind = fits.kind;
      size = fits.size;
      used = fits.used;
      parent = parent_now file parent (Directory named span old) fits.kind fits.parent;
    }
    by (Link target) fits = record {
      kind = fits.kind;
      size = fits.size;
      used = fits.used;
      parent = parent_now file parent (Link target) fits.kind fits.parent;
    }

pub settled_none : (tree : Tree) (number : ℕ) (moment : Moment) (parent : ℕ) (stands : Tree → Type 0)
    → IsFileAt tree number None → stands tree → stands (changed_at tree number (moved moment parent))
settled_none tree number moment parent stands none is =
    subst stands (ap (λ o. with_file tree number (option_map (moved moment parent) o)) (sym none)) is

pub settled_some : (tree : Tree) (number : ℕ) (moment : Moment) (parent : ℕ) (stands : Tree → Type 0) (old : InodeAttributes)
    (over : ℕ) → IsFileAt tree number (Some old) → over ≡ above old parent
    → CanChange tree number (moved moment parent)
    → (let inode_attributes : InodeAttributes = record old { ctime = moment; parent = over } in
    (node : Node) → node_at tree old.number ≡ Some node → IsBodyOf inode_attributes (with_parent over node.body)
    → SoundInodeAttributes tree.geometry.inodes inode_attributes
    → stands (with_node tree old.number (node_of inode_attributes (with_parent over node.body))))
    → stands (changed_at tree number (moved moment parent))
settled_some tree number moment parent stands old over at over_is can then =
    let body = at.1.0 in
    let node = node_of old body in
    let there = at.1.1.there in
    let was = at.1.1.fits in
    let inode_attributes : InodeAttributes = record old { ctime = moment; parent = over } in
    let same : with_parent over body ≡ with_parent parent body =
    ap (λ p. with_parent p body) over_is ∙ same_body old parent body was.kind was.parent in
    let fits : IsBodyOf inode_attributes (with_parent parent body) =
    subst (λ p. IsBodyOf (record old { ctime = moment; parent = p }) (with_parent parent body)) (sym over_is)
    (fits_moved old moment parent body was) in
    let shaped = can node (ap (node_at tree) (sym at.0) ∙ there) in
    let sound = shaped_inode_attributes tree.geometry.inodes inode_attributes (with_parent parent body) fits.kind fits.parent shaped in
    subst stands (
    ap (λ b. with_node tree old.number (node_of inode_attributes b)) same
    ∙ sym (changed_is tree old.number (moved moment parent) node there)
    ∙ ap (λ n. changed_at tree n (moved moment parent)) at.0
    ) (then node there (subst (IsBodyOf inode_attributes) (sym same) fits) sound)
