-- How many files an image has.
use Rattle.std.proofs.Common.{◌≡◌, ℕ, zero, suc, ◌+◌, ◌<◌, ◌≤◌, sym, ap, ◌∙◌, refl, cond, List, [], ◌∷◌, ◌++◌}
use Rattle.std.proofs.Common.{count_by, length, take, get_or, is_some, Option, Some, None, Ok, add-one, arith}
use Rattle.std.specs.Cmp.{nat_cmp_total}
use Rattle.std.specs.FinMap.{FinMap, get, get-empty, get-insert, len, len-empty, len-insert}
use Rattle.std.specs.Ordering.{eq_by_cmp, nat_cmp}
use Rattle.std.proofs.lemmas.List.{take_all, take_more}
use Rattle.std.proofs.lemmas.List.Sums.{sum_by-append, sum_by-cons}
use Rattle.disk.specs.Crash.{Image}
use Rattle.nfs_spec.specs.Model.Node.{Node}
use Rattle.layout.specs.declared.geometry.Geometry.{Geometry}
use Rattle.layout.specs.declared.inode.Inode.{Inode}
use Rattle.layout.specs.Decode.{file_of}
use Rattle.layout.specs.Parts.{content_in, parts_of, table_of}
use Rattle.layout.specs.Stands.{file_at}
use Rattle.layout.proofs.FreshFiles.{not_equal}
use Rattle.bitmap.proofs.Ranges.{one_if}
use Rattle.image_read.specs.Laws.TreeOf.{files_below, tree_of, with_file}

module _ (file : ℕ → Option Node) where
  is_preserved : (k q : ℕ) → k < q → (o : Option Node) (nodes : FinMap nat_cmp Node) → get nodes q ≡ None
      → get (with_file k o nodes) q ≡ None
  is_preserved k q less None nodes none = none
  is_preserved k q less (Some node) nodes none =
      get-insert nat_cmp_total nodes k node q
      ∙ ap (λ b. cond b (Some node) (get nodes q))
      (not_equal q k (λ is. omega (arith, is, less)) (eq_by_cmp nat_cmp q k) refl) ∙ none

  none_there : (n q : ℕ) → n ≤ q → get (files_below file n) q ≡ None
  unfolding files_below
  none_there zero q more = get-empty nat_cmp q
  none_there (suc n) q more =
      is_preserved n q (omega (arith, more)) (file n) (files_below file n) (none_there n q (omega (arith, more)))

  one_more : (k : ℕ) (o : Option Node) (nodes : FinMap nat_cmp Node) → get nodes k ≡ None
      → len (with_file k o nodes) ≡ len nodes + one_if (is_some o)
  one_more k None nodes none = omega arith
  one_more k (Some node) nodes none =
      len-insert nat_cmp_total nodes k node
      ∙ ap (λ b. cond b (len nodes) (len nodes + 1)) (ap is_some none)

  module _ (table : List (Option Inode))
      (same : (n : ℕ) → n < length table → is_some (file n) ≡ is_some (get_or table n None)) where
    pub len_below : (n : ℕ) → n ≤ length table
        → len (files_below file n) ≡ count_by (λ (o : Option Inode). is_some o) (take n table)
    unfolding files_below
    len_below zero less = len-empty nat_cmp Node
    len_below (suc n) less =
        let before = len_below n (omega (arith, less)) in
        let here = one_more n (file n) (files_below file n) (none_there n n (omega arith)) in
        let is = ap one_if (same n (omega (arith, less))) in
        let more : take (suc n) table ≡ take n table ++ get_or table n None ∷ [] =
        ap (λ k. take k table) (sym (add-one n)) ∙ take_more table n None (omega (arith, less)) in
        let all = ap (count_by (λ (o : Option Inode). is_some o)) more in
        let both = sum_by-append (λ (o : Option Inode). one_if (is_some o)) (take n table) (get_or table n None ∷ []) in
        let one = sum_by-cons (λ (o : Option Inode). one_if (is_some o)) (get_or table n None) [] in
        omega (arith, before, here, is, all, both, one)

module _ (g : Geometry) (blocks : Image) (table : List (Option Inode)) (long : length table ≡ g.inodes)
    (are : (number : ℕ) → number < g.inodes → table_of g blocks number ≡ Ok (get_or table number None)) where
  is_there : (o : Option Inode) → is_some (file_of g.inodes (content_in g blocks) (Ok o)) ≡ is_some o
  is_there (Some inode) = refl
  is_there None = refl

  pub files_are_counted : len (tree_of g blocks).nodes ≡ count_by (λ (o : Option Inode). is_some o) table
  files_are_counted =
      len_below (file_at g (parts_of g blocks)) table
      (λ n less. ap (λ r. is_some (file_of g.inodes (content_in g blocks) r)) (are n (omega (arith, less, long)))
      ∙ is_there (get_or table n None)) g.inodes (omega (arith, long))
      ∙ ap (count_by (λ (o : Option Inode). is_some o)) (take_all g.inodes table (omega (arith, long)))
