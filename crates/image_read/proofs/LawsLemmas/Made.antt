-- The files of an image are those of the tree that is made of them, and of no other tree.
use Rattle.std.proofs.Common.{◌≡◌, ℕ, zero, suc, ◌<◌, ◌≤◌, inl, inr, sym, ap, ◌∙◌, refl, cond}
use Rattle.std.proofs.Common.{Option, Some, None, arith, Err}
use Rattle.std.specs.Cmp.{nat_cmp_total}
use Rattle.std.specs.FinMap.{FinMap, get, get-empty, get-insert, nat_cmp-IsAntisymmetric, same_map}
use Rattle.std.specs.Ordering.{eq_by_cmp, nat_cmp}
use Rattle.std.proofs.lemmas.Bool.{cases_eq, cases_lt, le-ltb}
use Rattle.disk.specs.Crash.{Image}
use Rattle.nfs_spec.proofs.ModelLemmas.Sets.{itself}
use Rattle.nfs_spec.specs.Model.Node.{Node}
use Rattle.nfs_spec.specs.Model.Tree.{Tree, node_at}
use Rattle.layout.specs.declared.fault.LayoutFault.TheVariants.{Range}
use Rattle.layout.specs.declared.geometry.Geometry.{Geometry}
use Rattle.layout.specs.Decode.{IsFile, file_of, inode_at}
use Rattle.layout.specs.Parts.{content_in, parts_of}
use Rattle.layout.specs.Stands.{HasFiles, file_at, geometry_of}
use Rattle.layout.proofs.FreshFiles.{not_equal}
use Rattle.image_read.specs.Laws.TreeOf.{files_below, tree_of, with_file}

module _ (file : ℕ → Option Node) where
  -- under its own number a file is there, under another what was there
  own : (k : ℕ) (o : Option Node) (nodes : FinMap nat_cmp Node) → get nodes k ≡ None
      → get (with_file k o nodes) k ≡ o
  own k None nodes none = none
  own k (Some node) nodes none = get-insert nat_cmp_total nodes k node k
      ∙ ap (λ b. cond b (Some node) (get nodes k)) (itself k)

  other : (k q : ℕ) → (q ≡ k → ⊥) → (o : Option Node) (nodes : FinMap nat_cmp Node)
      → get (with_file k o nodes) q ≡ get nodes q
  other k q not None nodes = refl
  other k q not (Some node) nodes = get-insert nat_cmp_total nodes k node q
      ∙ ap (λ b. cond b (Some node) (get nodes q)) (not_equal q k not (eq_by_cmp nat_cmp q k) refl)

  past : (n q : ℕ) → n ≤ q → get (files_below file n) q ≡ None
  unfolding files_below
  past zero q more = get-empty nat_cmp q
  past (suc n) q more =
      other n q (λ is. omega (arith, is, more)) (file n) (files_below file n) ∙ past n q (omega (arith, more))

  pub below : (n q : ℕ) → q < n → get (files_below file n) q ≡ file q
  unfolding files_below
  below zero q less = absurd (omega (arith, less))
  below (suc n) q less = elim (cases_eq q n) [
    | inl is ↦ ap (get (files_below file (suc n))) is ∙ own n (file n) (files_below file n) (past n n (omega arith))
        ∙ ap file (sym is)
    | inr not ↦ other n q not (file n) (files_below file n) ∙ below n q (under q n less not)
  ]
    where
      under : (q n : ℕ) → q < suc n → (q ≡ n → ⊥) → q < n
      under q n less not = omega (arith, less, not)

module _ (g : Geometry) (blocks : Image) where
  -- past the last inode there is no file
  pub none_past : (number : ℕ) → g.inodes ≤ number → file_at g (parts_of g blocks) number ≡ None
  none_past number more =
      ap (λ b. file_of g.inodes (content_in g blocks) (cond b (inode_at g blocks number) (Err Range)))
      (le-ltb number g.inodes more)

  pub files_are : (number : ℕ) → node_at (tree_of g blocks) number ≡ file_at g (parts_of g blocks) number
  files_are number = elim (cases_lt number g.inodes) [
    | inl less ↦ below (file_at g (parts_of g blocks)) g.inodes number less
    | inr more ↦ past (file_at g (parts_of g blocks)) g.inodes number more ∙ sym (none_past number more)
  ]

  -- where each inode is a file's, it has the files
  pub made_has : ((number : ℕ) → number < g.inodes
      → IsFile g (content_in g blocks) ((parts_of g blocks).table number))
      → HasFiles g (parts_of g blocks) (tree_of g blocks)
  made_has each = record { inodes = each; files = files_are }

  -- no other tree has them
  pub one_made : (tree : Tree) → tree.geometry ≡ geometry_of g → HasFiles g (parts_of g blocks) tree
      → tree ≡ tree_of g blocks
  one_made tree geometry has =
      let nodes : tree.nodes ≡ (tree_of g blocks).nodes =
      same_map nat_cmp_total nat_cmp-IsAntisymmetric tree.nodes (tree_of g blocks).nodes
      (λ (number : ℕ). has.files number ∙ sym (files_are number)) in
      λ i. record { geometry = geometry i; nodes = nodes i }
