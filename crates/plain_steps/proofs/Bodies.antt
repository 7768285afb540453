-- The file that stands in the list is the tree's.
use Rattle.std.proofs.Common.{◌≡◌, ℕ, sym, ap, ◌∙◌, Option, Some, None}
use Rattle.std.specs.Option.{option_map}
use Rattle.nfs_spec.specs.Model.Node.{Node, Body}
use Rattle.nfs_spec.specs.Model.Tree.{Tree, node_at}
use Rattle.nfs_spec.specs.Procedures.Places.{file_at}
use Rattle.procs_files.specs.declared.inode_attributes.InodeAttributes.{InodeAttributes}
use Rattle.procs_files.specs.Heads.{IsFileIn, node_of}

pub file_body : (old tree : Tree) (inode_attributes : InodeAttributes) (body : Body) (file : ℕ × Node) → old ≡ tree
    → IsFileIn tree inode_attributes body → file_at old inode_attributes.number ≡ Some file → file.1.body ≡ body
file_body old tree inode_attributes body file same at found =
    let whole : Some (inode_attributes.number, node_of inode_attributes body) ≡ Some file =
    ap (option_map (λ (n : Node). (inode_attributes.number, n))) (sym at.there ∙ ap (λ t. node_at t inode_attributes.number) (sym same))
    ∙ found in
    let pair : (inode_attributes.number, node_of inode_attributes body) ≡ file = cc in
    ap (λ f. f.1.body) (sym pair)

pub file_there : (old tree : Tree) (inode_attributes : InodeAttributes) (body : Body) → old ≡ tree → IsFileIn tree inode_attributes body
    → file_at old inode_attributes.number ≡ None → ⊥
file_there old tree inode_attributes body same at found =
    let whole : ◌≡◌ {A = Option (ℕ × Node)} (Some (inode_attributes.number, node_of inode_attributes body)) None =
    ap (option_map (λ (n : Node). (inode_attributes.number, n))) (sym at.there ∙ ap (λ t. node_at t inode_attributes.number) (sym same))
    ∙ found in cc
