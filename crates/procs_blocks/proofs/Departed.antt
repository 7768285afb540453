-- A directory that lost a name and then got the attributes of a head.
use Rattle.std.proofs.Common.{◌≡◌, ℕ, sym, ap, ◌∙◌, refl, Bool, true, false, cond, List, Some}
use Rattle.std.specs.Cmp.{nat_cmp_total}
use Rattle.std.specs.FinMap.{get, get-insert, insert, nat_cmp-IsAntisymmetric, remove, same_map}
use Rattle.std.specs.Ordering.{eq_by_cmp, nat_cmp}
use Rattle.nfs_spec.specs.Model.Node.{Body, Node}
use Rattle.nfs_spec.specs.Model.Node as model
use Rattle.nfs_spec.specs.Model.Tree.{Tree, with_node}
use Rattle.nfs_spec.specs.Procedures.Changes.{without_dirent}
use Rattle.nfs_spec.specs.Procedures.Rename.{with_parent}
use Rattle.procs_files.specs.declared.inode_attributes.InodeAttributes.{InodeAttributes}
use Rattle.procs_files.specs.Heads.{IsBodyOf}

pub departs_body : (inode_attributes : InodeAttributes) (name : List ℕ) (body : Body) → IsBodyOf inode_attributes body
    → IsBodyOf inode_attributes (with_parent inode_attributes.parent (without_dirent name body))
departs_body inode_attributes name (model.Regular bytes mapped) fits = fits
departs_body inode_attributes name (model.Directory named span parent) fits =
    record { kind = fits.kind; size = fits.size; used = fits.used; parent = refl }
departs_body inode_attributes name (model.Link target) fits = fits

pub same_parent : (inode_attributes : InodeAttributes) (name : List ℕ) (body : Body) → IsBodyOf inode_attributes body
    → with_parent inode_attributes.parent (without_dirent name body) ≡ without_dirent name body
same_parent inode_attributes name (model.Regular bytes mapped) fits = refl
same_parent inode_attributes name (model.Directory named span parent) fits =
    ap (λ p. model.Directory (remove named name) span p) (sym fits.parent)
same_parent inode_attributes name (model.Link target) fits = refl

pub twice : (tree : Tree) (n : ℕ) (a b : Node) → with_node (with_node tree n a) n b ≡ with_node tree n b
twice tree n a b = λ i. record { geometry = tree.geometry; nodes = nodes i }
  where
    by_test : (q : ℕ) (t : Bool) → eq_by_cmp nat_cmp q n ≡ t
        → cond t (Some b) (get (insert tree.nodes n a) q) ≡ cond t (Some b) (get tree.nodes q)
    by_test q true e = refl
    by_test q false e = get-insert nat_cmp_total tree.nodes n a q
        ∙ ap (λ t. cond t (Some a) (get tree.nodes q)) e

    nodes : insert (insert tree.nodes n a) n b ≡ insert tree.nodes n b
    nodes = same_map nat_cmp_total nat_cmp-IsAntisymmetric (insert (insert tree.nodes n a) n b)
        (insert tree.nodes n b)
        (λ q. get-insert nat_cmp_total (insert tree.nodes n a) n b q ∙ by_test q (eq_by_cmp nat_cmp q n) refl
        ∙ sym (get-insert nat_cmp_total tree.nodes n b q))
