-- What was found in all files of an image.
use Rattle.std.proofs.Common.{◌≡◌, ℕ, ◌+◌, ◌<◌, ◌≤◌, inl, inr, sym, ap, ◌∙◌, refl, subst, cond, ◌&&◌}
use Rattle.std.proofs.Common.{List, [], ◌∷◌, count_by, get_or, length, min, nat_eq, sum_by, Option, Some, None, Result}
use Rattle.std.proofs.Common.{Ok, Err, arith}
use Rattle.std.specs.List.{flat_map, range_with_len}
use Rattle.std.proofs.lemmas.Bool.{cases_lt, le-ltb}
use Rattle.std.proofs.lemmas.Bool.Decides.{nat_tests}
use Rattle.std.proofs.lemmas.List.{get_or_past}
use Rattle.std.proofs.lemmas.List.Sums.{sum_by-cons}
use Rattle.base.specs.declared.TheConstants.{MOST_LINKS}
use Rattle.disk.specs.Crash.{Image}
use Rattle.nfs_spec.specs.Model.Names.{is_directory, is_directory_at}
use Rattle.nfs_spec.specs.Model.Node.{DirentValue}
use Rattle.nfs_spec.specs.Model.Tree.{node_at}
use Rattle.layout.specs.declared.fault.LayoutFault.{LayoutFault}
use Rattle.layout.specs.declared.fault.LayoutFault.TheVariants.{Range}
use Rattle.layout.specs.declared.geometry.Geometry.{Geometry}
use Rattle.layout.specs.declared.inode.Inode.{Inode}
use Rattle.layout.specs.declared.inode.InodeKind.{InodeKind}
use Rattle.layout.specs.declared.inode.InodeKind.TheVariants.{Directory, Link, Regular}
use Rattle.layout.specs.Decode.{body_of, file_of, inode_at, named_in}
use Rattle.layout.specs.Owners.{owned, owned_by}
use Rattle.layout.specs.Parts.{content_in, parts_of, table_of}
use Rattle.layout.proofs.Frame.{counts}
use Rattle.bitmap.proofs.Ranges.{one_if, same_sums}
use Rattle.image_read.specs.ImageCounts.Tally.{AreCounts, IsOwned, times}
use Rattle.image_read.specs.Counts.Linked.{is_directory_in, is_directory_kind}
use Rattle.image_read.specs.Laws.TreeOf.{all_named, named_numbers, named_of, numbers_named, tree_of}
use Rattle.image_read.proofs.LawsLemmas.Made.{files_are}
use Rattle.image_contents.specs.Found.Counted.{IsCounted}
use Rattle.image_read.specs.Counts.Adds.{for_directories, is_child_in, named_children}
use Rattle.image_contents.specs.declared.bodies.found.Found.{Found}
use Rattle.image_contents.specs.Bodies.Bodies.{FitsFound, IsFound, all_owned, names_at}
use Rattle.image_contents.proofs.FoundLemmas.Sums.{none_past, one_at, passing, same_flat, standing_for}

module _ (g : Geometry) (blocks : Image) (table : List (Option Inode))
    (are : (number : ℕ) → number < g.inodes → table_of g blocks number ≡ Ok (get_or table number None)) where
  abbrev content : Image
  content = content_in g blocks

  abbrev names : ℕ → List ℕ
  names = names_at g.inodes content table

  pub owned_are : owned g (parts_of g blocks) ≡ all_owned content table g.inodes
  unfolding owned
  owned_are = same_flat (λ n. owned_by content (table_of g blocks n))
      (λ n. owned_by content (Ok (get_or table n None))) 0
      g.inodes (λ n less. ap (owned_by content) (are n (omega (arith, less))))

  named_are : all_named g (parts_of g blocks) ≡ flat_map names (range_with_len 0 g.inodes)
  unfolding all_named
  named_are = same_flat (λ n. named_of g.inodes content (table_of g blocks n)) names 0 g.inodes
      (λ n less. ap (named_of g.inodes content) (are n (omega (arith, less))))

  past_end : (number : ℕ) → g.inodes ≤ number → table_of g blocks number ≡ Err Range
  past_end number past = ap (λ b. cond b (inode_at g blocks number) (Err Range)) (le-ltb number g.inodes past)

  pub is_owned : (found : Found) → IsFound g content table g.inodes found
      → IsOwned (owned g (parts_of g blocks)) found.owners
  is_owned found is = subst (λ l. IsOwned l found.owners) (sym owned_are) is.owned

  module _ (long : length table ≡ g.inodes) where
    entry_is : (number : ℕ) (inode : Inode) → table_of g blocks number ≡ Ok (Some inode)
        → (number < g.inodes) × (get_or table number None ≡ Some inode)
    entry_is number inode is = elim (cases_lt number g.inodes) [
      | inl less ↦ (less, same_option (get_or table number None) (Some inode) (sym (are number less) ∙ is))
      | inr past ↦ absurd (clash (sym (past_end number past) ∙ is))
    ]
      where
        same_option : (one other : Option Inode) → ◌≡◌ {A = Result (Option Inode) LayoutFault} (Ok one) (Ok other)
            → one ≡ other
        same_option one other e = cc

        clash : ◌≡◌ {A = Result (Option Inode) LayoutFault} (Err Range) (Ok (Some inode)) → ⊥
        clash e = cc

    -- ---- names by parents

    child_of : (number : ℕ) (inode : Inode) → get_or table number None ≡ Some inode → inode.kind ≡ Directory → (n : ℕ)
        → is_child_in n (get_or table number None) ≡ nat_eq inode.parent n
    child_of number inode is kind n =
        ap (is_child_in n) is ∙ ap (λ k. is_directory_kind k && nat_eq inode.parent n) kind

    by_parents : (number : ℕ) (inode : Inode) → get_or table number None ≡ Some inode → inode.kind ≡ Directory
        → times (flat_map (λ n. named_children table n (names n)) (range_with_len 0 g.inodes)) number
        ≡ sum_by (λ n. cond (nat_eq inode.parent n) (times (names n) number) 0) (range_with_len 0 g.inodes)
    by_parents number inode is kind =
        counts (λ one. nat_eq one number) (λ n. named_children table n (names n)) (range_with_len 0 g.inodes)
        ∙ same_sums (λ n. times (named_children table n (names n)) number)
        (λ n. cond (nat_eq inode.parent n) (times (names n) number) 0) 0 g.inodes
        (λ n from to. passing (λ m. is_child_in n (get_or table m None)) (names n) number
        ∙ ap (λ b. cond b (times (names n) number) 0) (child_of number inode is kind n))

    parent_names : (number : ℕ) (inode : Inode) → get_or table number None ≡ Some inode → inode.kind ≡ Directory
        → times (flat_map (λ n. named_children table n (names n)) (range_with_len 0 g.inodes)) number
        ≡ times (named_of g.inodes content (table_of g blocks inode.parent)) number
    parent_names number inode is kind =
        let sum : sum_by (λ n. cond (nat_eq inode.parent n) (times (names n) number) 0) (range_with_len 0 g.inodes)
        ≡ times (named_of g.inodes content (table_of g blocks inode.parent)) number =
        elim (cases_lt inode.parent g.inodes) [
          | inl less ↦
              one_at inode.parent (λ n. times (names n) number) 0 g.inodes (omega arith) (omega (arith, less))
              ∙ ap (λ r. times (named_of g.inodes content r) number) (sym (are inode.parent less))
          | inr past ↦
              none_past inode.parent (λ n. times (names n) number) 0 g.inodes (omega (arith, past))
              ∙ ap (λ r. times (named_of g.inodes content r) number) (sym (past_end inode.parent past))
        ] in
        by_parents number inode is kind ∙ sum

    -- ---- directories that name directories

    by_kind : (kind : InodeKind) (inode : Inode)
        → is_directory (body_of g.inodes content kind inode) ≡ is_directory_kind kind
    by_kind Directory inode = refl
    by_kind Regular inode = refl
    by_kind Link inode = refl

    by_inode : (o : Option Inode) → is_directory_at (file_of g.inodes content (Ok o)) ≡ is_directory_in o
    by_inode (Some inode) = by_kind inode.kind inode
    by_inode None = refl

    directory_is : (number : ℕ)
        → is_directory_at (node_at (tree_of g blocks) number) ≡ is_directory_in (get_or table number None)
    directory_is number =
        let file : is_directory_at (file_of g.inodes content (table_of g blocks number))
        ≡ is_directory_in (get_or table number None) =
        elim (cases_lt number g.inodes) [
          | inl less ↦
              ap (λ r. is_directory_at (file_of g.inodes content r)) (are number less)
              ∙ by_inode (get_or table number None)
          | inr past ↦
              ap (λ r. is_directory_at (file_of g.inodes content r)) (past_end number past)
              ∙ sym (ap is_directory_in (get_or_past table number None (omega (arith, past, long))))
        ] in
        ap is_directory_at (files_are g blocks number) ∙ file

    children_are : (es : List (List ℕ × DirentValue))
        → count_by (λ m. is_directory_in (get_or table m None)) (numbers_named es)
        ≡ count_by (λ (e : List ℕ × DirentValue). is_directory_at (node_at (tree_of g blocks) e.1.number)) es
    children_are [] = refl
    children_are (e ∷ es) =
        let rest = children_are es in
        let one = sum_by-cons (λ m. one_if (is_directory_in (get_or table m None))) e.1.number (numbers_named es) in
        let other = sum_by-cons (λ (x : List ℕ × DirentValue). one_if (is_directory_at (node_at (tree_of g blocks)
        x.1.number))) e es in
        let here = ap one_if (directory_is e.1.number) in
        omega (arith, rest, one, other, here)

    in_directory : (kind : InodeKind) (inode : Inode) → kind ≡ Directory
        → named_numbers g.inodes content kind inode ≡ numbers_named (named_in g.inodes content inode)
    in_directory Directory inode is = refl
    in_directory Regular inode is = absurd (let clash : Regular ≡ Directory = is in cc)
    in_directory Link inode is = absurd (let clash : Link ≡ Directory = is in cc)

    naming : (number : ℕ) (inode : Inode) → number < g.inodes → get_or table number None ≡ Some inode
        → inode.kind ≡ Directory
        → times (flat_map (λ n. for_directories table n (names n)) (range_with_len 0 g.inodes)) number
        ≡ count_by (λ (e : List ℕ × DirentValue). is_directory_at (node_at (tree_of g blocks) e.1.number))
        (named_in g.inodes content inode)
    naming number inode less is kind =
        counts (λ one. nat_eq one number) (λ n. for_directories table n (names n)) (range_with_len 0 g.inodes)
        ∙ same_sums (λ n. times (for_directories table n (names n)) number)
        (λ n. cond (nat_eq number n) (count_by (λ m. is_directory_in (get_or table m None)) (names n)) 0) 0 g.inodes
        (λ n from to. standing_for (λ m. is_directory_in (get_or table m None)) n (names n) number
        ∙ ap (λ b. cond b (count_by (λ m. is_directory_in (get_or table m None)) (names n)) 0) (turned n number))
        ∙ one_at number (λ n. count_by (λ m. is_directory_in (get_or table m None)) (names n)) 0 g.inodes (omega arith)
        (omega (arith, less))
        ∙ ap (λ o. count_by (λ m. is_directory_in (get_or table m None)) (named_of g.inodes content (Ok o))) is
        ∙ ap (count_by (λ m. is_directory_in (get_or table m None))) (in_directory inode.kind inode kind)
        ∙ children_are (named_in g.inodes content inode)
      where
        turned : (a b : ℕ) → nat_eq a b ≡ nat_eq b a
        turned a b = grind (arith, nat_tests)

    pub is_counted : (found : Found) → FitsFound g found → IsFound g content table g.inodes found
        → IsCounted g blocks table found.links
    is_counted found fits is = record {
      long = long;
      inodes = are;
      sizes = fits.links;
      names = subst (λ l. AreCounts l found.links.names) (sym named_are) is.named.names;
      by_parent = λ number inode there kind.
          let entry = entry_is number inode there in
          let size = fits.links.by_parent in
          let less = entry.0 in
          is.named.by_parent number (omega (arith, less, size))
          ∙ ap (λ k. min k (MOST_LINKS + 1)) (parent_names number inode entry.1 kind);
      children = λ number inode there kind.
          let entry = entry_is number inode there in
          let size = fits.links.children in
          let less = entry.0 in
          is.named.children number (omega (arith, less, size))
          ∙ ap (λ k. min k (MOST_LINKS + 1)) (naming number inode entry.0 entry.1 kind);
    }
