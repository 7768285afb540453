-- One file is changed, with its inode, its blocks and its marks: the parts hold the tree with this file in the
-- place of what was there.
use Rattle.std.proofs.Common.{◌≡◌, ℕ, ◌<◌, inl, inr, sym, ap, ◌∙◌, refl, cond, Some, None, Err}
use Rattle.std.proofs.Common.{List, length, arith}
use Rattle.std.specs.Cmp.{nat_cmp_total}
use Rattle.std.specs.FinMap.{get-insert}
use Rattle.std.specs.Ordering.{nat_cmp, eq_by_cmp}
use Rattle.std.proofs.lemmas.Bool.{cases_eq, cases_lt, le-ltb}
use Rattle.base.specs.declared.TheConstants.{BLOCK_BYTES}
use Rattle.disk.specs.Crash.{Image}
use Rattle.nfs_types.specs.Fits.{AreBytes}
use Rattle.nfs_spec.specs.Model.Node.{Node}
use Rattle.nfs_spec.specs.Model.Tree.{Tree, node_at, with_node}
use Rattle.nfs_spec.proofs.ModelLemmas.Sets.{itself}
use Rattle.layout.specs.declared.fault.LayoutFault.TheVariants.{Range}
use Rattle.layout.specs.declared.geometry.Geometry.{Geometry}
use Rattle.layout.specs.Decode.{IsFile, file_of, inode_at}
use Rattle.layout.specs.Holds.{Holds, PartsHold}
use Rattle.layout.specs.Owners.{IsMarked}
use Rattle.layout.specs.Parts.{Parts, content_in, with_bytes}
use Rattle.layout.specs.Stands.{file_at}
use Rattle.layout.proofs.Frame.{ChangesOne, changed_files}
use Rattle.layout.proofs.FreshBytes.{IsBytes}
use Rattle.layout.proofs.FreshFiles.{not_equal}
use Rattle.layout.proofs.Written.{elsewhere, here}
use Rattle.layout.proofs.WrittenBytes.{spliced-bytes}
use Rattle.objects.proofs.Splices.{spliced-length}
use Rattle.std.proofs.Common.{subst, ◌+◌, ◌≤◌}

-- ---- the tree with a file

pub here_next : (tree : Tree) (n : ℕ) (node : Node) → node_at (with_node tree n node) n ≡ Some node
here_next tree n node = get-insert nat_cmp_total tree.nodes n node n
    ∙ ap (λ b. cond b (Some node) (node_at tree n)) (itself n)

pub there_next : (tree : Tree) (n : ℕ) (node : Node) (m : ℕ) → (m ≡ n → ⊥)
    → node_at (with_node tree n node) m ≡ node_at tree m
there_next tree n node m not = get-insert nat_cmp_total tree.nodes n node m
    ∙ ap (λ b. cond b (Some node) (node_at tree m)) (not_equal m n not (eq_by_cmp nat_cmp m n) refl)

-- a file's number is that of an inode, and not 0
pub numbered : (g : Geometry) (parts : Parts) (tree : Tree) (n : ℕ) (node : Node) → PartsHold g parts tree
    → node_at tree n ≡ Some node → 0 < n
numbered g parts tree n node holds was = elim (cases_eq n 0) [
  | inl is ↦ (let clash : None ≡ Some node = sym holds.unnumbered ∙ ap (node_at tree) (sym is) ∙ was in cc)
  | inr not ↦ some n not
]
  where
    some : (n : ℕ) → (n ≡ 0 → ⊥) → 0 < n
    some n not = omega (arith, not)

pub below_last : (g : Geometry) (blocks : Image) (tree : Tree) (n : ℕ) (node : Node) → Holds g blocks tree
    → node_at tree n ≡ Some node → n < g.inodes
below_last g blocks tree n node holds was = elim (cases_lt n g.inodes) [
  | inl less ↦ less
  | inr past ↦ (let clash : None ≡ Some node = sym (holds.parts.has.files n
      ∙ ap (λ b. file_of g.inodes (content_in g blocks) (cond b (inode_at g blocks n) (Err Range)))
      (le-ltb n g.inodes past)) ∙ was in cc)
]

-- ---- the parts

pub one_file : (g : Geometry) (old new : Parts) (n : ℕ) (tree : Tree) (node : Node) → ChangesOne old new n
    → PartsHold g old tree → 0 < n → IsFile g new.content (new.table n) → Some node ≡ file_at g new n
    → IsMarked g new → PartsHold g new (with_node tree n node)
one_file g old new n tree node one holds some rules file marked = record {
  geometry = holds.geometry;
  unnumbered = there_next tree n node 0 (λ is. omega (arith, some, is)) ∙ holds.unnumbered;
  has = changed_files g old new n one tree (with_node tree n node) holds.has (λ low. rules)
      (here_next tree n node ∙ file) (there_next tree n node);
  marked = marked;
}

-- ---- the blocks

abbrev pub IsBlock : List ℕ → Type 0
IsBlock bytes = (length bytes ≡ BLOCK_BYTES) × AreBytes bytes

-- blocks in one of which bytes were put are blocks
pub blocks_still : (blocks : Image) (at offset : ℕ) (bytes : List ℕ) (past : ℕ)
    → ((number : ℕ) → number < past → IsBlock (blocks number)) → IsBytes bytes
    → offset + length bytes ≤ BLOCK_BYTES
    → (number : ℕ) → number < past → IsBlock (with_bytes blocks at offset bytes number)
blocks_still blocks at offset bytes past are new has_space number less = elim (cases_eq number at) [
  | inl is ↦ subst (λ k. IsBlock (with_bytes blocks at offset bytes k)) (sym is)
      (let old = are at (subst (λ k. k < past) is less) in let long = old.0 in
      subst IsBlock (sym (here blocks at offset bytes)) (
        spliced-length (blocks at) bytes offset (omega (arith, long, has_space)) ∙ long,
        spliced-bytes (blocks at) bytes offset old.1 new,
      ))
  | inr not ↦ subst IsBlock (sym (elsewhere blocks at offset bytes number not)) (are number less)
]
