-- What the head of a file says of the file that a handle names, and of what a name leads to.
use Rattle.std.proofs.Common.{◌≡◌, ℕ, ◌<◌, ◌^◌, sym, ap, ◌∙◌, refl, subst, cond, Bool, true, false, ◌&&◌}
use Rattle.std.proofs.Common.{nat_eq, inl, inr, not, List, Option, Some, None, Ok, Err}
use Rattle.std.specs.Option.{option_map, option_and_then}
use Rattle.std.proofs.lemmas.Bool.{eq-eqb}
use Rattle.std.proofs.lemmas.Bool.Decides.{eqb_tells}
use Rattle.nfs_types.specs.Handle.{handle_bytes}
use Rattle.nfs_types.specs.declared.handle.Stamp.{Stamp}
use Rattle.nfs_types.specs.declared.status.Status.TheVariants as status
use Rattle.nfs_spec.specs.Model.Node.{Node, DirentValue}
use Rattle.nfs_spec.specs.Model.Find.{find_file, stamped, same_stamp}
use Rattle.nfs_spec.specs.Model.Tree.{Tree, node_at}
use Rattle.nfs_spec.proofs.ModelLemmas.Handled.{handled, stamped_ok}
use Rattle.nfs_spec.specs.Procedures.Places.{dirent_at, file_at, named_file}
use Rattle.procs_files.specs.declared.dirent.SlotDirent.{SlotDirent}
use Rattle.procs_files.specs.declared.inode_attributes.InodeAttributes.{InodeAttributes}
use Rattle.procs_files.specs.Heads.{IsFileAt, IsFound, IsNamed, dirent_of, node_of}

module _ (tree : Tree) (number : ℕ) (stamp : Stamp) (handle : List ℕ)
    (is : handle ≡ handle_bytes number stamp)
    (small : number < 2 ^ 32) (boot : stamp.boot < 2 ^ 64) (transaction : stamp.transaction < 2 ^ 64)
    (some : 0 < number) (less : number < tree.geometry.inodes) where
  found_is : find_file tree handle ≡ stamped number stamp (node_at tree number)
  found_is = handled tree handle number stamp is small boot transaction some less

  pub stale_free : IsFileAt tree number None → IsNamed tree (find_file tree handle) (Err status.Stale)
  stale_free none = found_is ∙ ap (stamped number stamp) none

  other_stamp : (a b : Stamp) → (b ≡ a → ⊥) → same_stamp a b ≡ false
  other_stamp a b differs = elim (eqb_tells a.boot b.boot) [
    | inl boots ↦ (elim (eqb_tells a.transaction b.transaction) [
      | inl both ↦ absurd (differs (λ i. record { boot = sym boots.1 i; transaction = sym both.1 i }))
      | inr not ↦ ap (λ t. nat_eq a.boot b.boot && t) not.0 ∙ and_none (nat_eq a.boot b.boot)
    ])
    | inr not ↦ ap (λ t. t && nat_eq a.transaction b.transaction) not.0
  ]
    where
      and_none : (b : Bool) → (b && false) ≡ false
      and_none true = refl
      and_none false = refl

  module _ (inode_attributes : InodeAttributes) (at : IsFileAt tree number (Some inode_attributes)) where
    node : Node
    node = node_of inode_attributes at.1.0

    found_node : find_file tree handle ≡ stamped number stamp (Some (node_of inode_attributes at.1.0))
    found_node = found_is
        ∙ ap (stamped number stamp) (sym (ap (node_at tree) at.0) ∙ at.1.1.there)

    pub stale_stamp : (inode_attributes.stamp ≡ stamp → ⊥) → IsNamed tree (find_file tree handle) (Err status.Stale)
    stale_stamp differs = found_node
        ∙ ap (λ b. cond b (Ok (number, node_of inode_attributes at.1.0)) (Err status.Stale))
        (other_stamp stamp inode_attributes.stamp differs)

    pub found : inode_attributes.stamp ≡ stamp → IsNamed tree (find_file tree handle) (Ok inode_attributes)
    found e = (
      at.1.0,
      found_node
          ∙ stamped_ok number stamp (node_of inode_attributes at.1.0) (ap (λ (s : Stamp). s.boot) (sym e))
          (ap (λ (s : Stamp). s.transaction) (sym e))
          ∙ ap (λ n. Ok (n, node_of inode_attributes at.1.0)) (sym at.0),
      at.1.1,
    )

-- ---- the tests of the code

both_of : (a b : Bool) → not (a && b) ≡ false → (a ≡ true) × (b ≡ true)
both_of true true e = (refl, refl)
both_of true false e = cc
both_of false b e = cc

equal : (a b : ℕ) → nat_eq a b ≡ true → a ≡ b
equal a b e = elim (eqb_tells a b) [
  | inl is ↦ is.1
  | inr isnt ↦ absurd (let clash : true ≡ false = sym e ∙ isnt.0 in cc)
]

pub stamps_same : (a b : Stamp) → not (nat_eq a.boot b.boot && nat_eq a.transaction b.transaction) ≡ false
    → a ≡ b
stamps_same a b e =
    let both = both_of (nat_eq a.boot b.boot) (nat_eq a.transaction b.transaction) e in
    λ i. record {
      boot = equal a.boot b.boot both.0 i;
      transaction = equal a.transaction b.transaction both.1 i;
    }

pub stamps_differ : (a b : Stamp) → not (nat_eq a.boot b.boot && nat_eq a.transaction b.transaction) ≡ true
    → a ≡ b → ⊥
stamps_differ a b e is =
    let clash : false ≡ true =
    sym (ap (λ (s : Stamp). not (nat_eq s.boot b.boot && nat_eq s.transaction b.transaction)) is
    ∙ (λ i. not (eq-eqb b.boot b.boot refl i && eq-eqb b.transaction b.transaction refl i))) ∙ e in cc

-- ---- what a number and a name lead to

pub found_at : (tree : Tree) (number : ℕ) (found : Option InodeAttributes) → IsFileAt tree number found
    → IsFound tree (file_at tree number) found
found_at tree number None none = ap (option_map (λ node. (number, node))) none
found_at tree number (Some inode_attributes) at = (
  at.1.0,
  ap (option_map (λ node. (number, node))) (sym (ap (node_at tree) at.0) ∙ at.1.1.there)
      ∙ ap (λ n. Some (n, node_of inode_attributes at.1.0)) (sym at.0),
  at.1.1,
)

pub named_none : (tree : Tree) (directory : Node) (name : List ℕ) → None ≡ dirent_at directory.body name
    → IsFound tree (named_file tree directory name) None
named_none tree directory name none =
    ap (option_and_then (λ (dirent : DirentValue). file_at tree dirent.number)) (sym none)

pub named_some : (tree : Tree) (directory : Node) (name : List ℕ) (dirent : SlotDirent) (found : Option InodeAttributes)
    → Some (dirent_of dirent) ≡ dirent_at directory.body name → IsFileAt tree dirent.number found
    → IsFound tree (named_file tree directory name) found
named_some tree directory name dirent found is at =
    subst (λ file. IsFound tree file found)
    (ap (option_and_then (λ (e : DirentValue). file_at tree e.number)) is)
    (found_at tree dirent.number found at)
