-- What is whole is linked.
use Rattle.std.proofs.Common.{◌≡◌, ℕ, ◌+◌, ◌<◌, ◌≤◌, inl, inr, sym, ap, ◌∙◌, refl, subst, true, false, List, length}
use Rattle.std.proofs.Common.{get_or}
use Rattle.std.proofs.Common.{Option, Some, None, Ok, min, arith}
use Rattle.std.proofs.lemmas.Bool.{cases_lt}
use Rattle.base.specs.declared.TheConstants.{BLOCK_BYTES, MOST_LINKS, ROOT}
use Rattle.disk.specs.Crash.{Image}
use Rattle.nfs_types.specs.Fits.{AreBytes}
use Rattle.layout.specs.declared.geometry.Geometry.{Geometry}
use Rattle.layout.specs.declared.inode.Inode.{Inode}
use Rattle.layout.specs.declared.inode.InodeKind.{InodeKind}
use Rattle.layout.specs.declared.inode.InodeKind.TheVariants.{Directory, Link, Regular}
use Rattle.layout.specs.Owners.{is_used}
use Rattle.layout.specs.Parts.{content_in, table_of}
use Rattle.image_read.specs.ImageCounts.Iterated.{iterated}
use Rattle.image_read.specs.ImageCounts.Tally.{times}
use Rattle.image_read.specs.Laws.TreeOf.{named_of}
use Rattle.image_read.specs.Laws.Whole.{IsWhole, named}
use Rattle.image_read.specs.declared.counts.links.Links.{Links}
use Rattle.image_read.specs.Counts.Linked.{AreLinked, IsLinked, IsLinkedDirectory, IsLinkedFile, IsRoot}
use Rattle.image_read.specs.Counts.Linked.{is_directory_in, is_directory_kind}
use Rattle.image_read.proofs.CountsLemmas.Parents.{up}
use Rattle.image_contents.specs.Found.Counted.{IsCounted}
use Rattle.image_contents.proofs.FoundLemmas.Facts.{ancestor_is, entry, few_links, names_at, parent_within, same_option}

is_kind : (kind : InodeKind) → is_directory_kind kind ≡ true → kind ≡ Directory
is_kind Directory e = refl
is_kind Regular e = cc
is_kind Link e = cc

module _ (g : Geometry) (blocks : Image) (table : List (Option Inode)) (links : Links)
    (bytes : (n : ℕ) → n < g.blocks → (length (blocks n) ≡ BLOCK_BYTES) × AreBytes (blocks n))
    (counted : IsCounted g blocks table links) (whole : IsWhole g blocks) where
  names_are : (number : ℕ) → number < g.inodes
      → get_or links.names number 0 ≡ min (named g blocks number) (MOST_LINKS + 1)
  names_are = names_at g blocks table links bytes counted

  unnamed : (number : ℕ) → table_of g blocks number ≡ Ok None → named g blocks number ≡ 0
  unnamed number is = elim (cases_lt 0 (named g blocks number)) [
    | inl some ↦ absurd (clash (ap is_used (sym is) ∙ whole.there number some))
    | inr none ↦ omega (arith, none)
  ]
    where
      clash : false ≡ true → ⊥
      clash e = cc

  module _ (number : ℕ) (less : number < g.inodes) (inode : Inode)
      (is : table_of g blocks number ≡ Ok (Some inode)) where
    few : inode.nlink ≤ MOST_LINKS
    few = few_links g blocks bytes number inode is

    file : (inode.kind ≡ Directory → ⊥) → inode.nlink ≡ get_or links.names number 0
    file other =
        let all = whole.files number inode is other in
        let count = names_are number less in
        let most = few in
        omega (arith, all, count, most)

    directory : inode.kind ≡ Directory → IsLinkedDirectory (length table) links number inode
    directory kind =
        let mine = whole.directories number inode is kind in
        let long = counted.long in
        let count = names_are number less in
        let inside = parent_within g blocks bytes number inode is kind in
        let most = few in
        let all = mine.counted in
        let children = counted.children number inode is kind in
        record {
          within = omega (arith, inside, long);
          counted = omega (arith, all, children, most);
          root = λ at.
              let none : named g blocks number ≡ 0 = ap (named g blocks) at ∙ (mine.root at).0 in
              (omega (arith, count, none), (mine.root at).1);
          once = λ other.
              let one = mine.once other in
              let parent = mine.parent other in
              let by = counted.by_parent number inode is kind in
              let same : times (named_of g.inodes (content_in g blocks) (table_of g blocks inode.parent)) number ≡ 1 =
              ap (λ r. times (named_of g.inodes (content_in g blocks) r) number) parent.1 ∙ parent.2 in
              (omega (arith, count, one), omega (arith, by, same));
        }

    by_kind : (kind : InodeKind) → inode.kind ≡ kind → IsLinkedFile (length table) links number inode kind
    by_kind Directory k = directory k
    by_kind Regular k = file (λ d. let clash : Regular ≡ Directory = sym k ∙ d in cc)
    by_kind Link k = file (λ d. let clash : Link ≡ Directory = sym k ∙ d in cc)

  at : (number : ℕ) → number < g.inodes → (o : Option Inode) → table_of g blocks number ≡ Ok o
      → IsLinked (length table) links number o
  at number less (Some inode) is = by_kind number less inode is inode.kind refl
  at number less None is =
      let none = unnamed number is in
      let count = names_are number less in
      omega (arith, none, count)

  leads : (number : ℕ) → number < g.inodes → (o : Option Inode) → table_of g blocks number ≡ Ok o
      → is_directory_in o ≡ true → (steps : ℕ) × (iterated (up table) steps number ≡ ROOT)
  leads number less (Some inode) is directory =
      let found = (whole.directories number inode is (is_kind inode.kind directory)).reached in
      (found.0, sym (ancestor_is g blocks table links bytes counted found.0 number less) ∙ found.1)
  leads number less None is directory = absurd (let clash : false ≡ true = directory in cc)

  pub are_linked : AreLinked table links
  are_linked =
      let some = g.lawful.1.0 in
      let long = counted.long in
      record {
        zero = same_option (get_or table 0 None) None (sym (counted.inodes 0 (omega (arith, some))) ∙ whole.zero);
        root = subst IsRoot (sym (entry g blocks table links bytes counted ROOT whole.root whole.root_is))
            (whole.root_directory, whole.root_stamp);
        each = λ number inside.
            let less : number < g.inodes = omega (arith, inside, long) in
            at number less (get_or table number None) (counted.inodes number less);
        reached = λ number inside directory.
            let less : number < g.inodes = omega (arith, inside, long) in
            leads number less (get_or table number None) (counted.inodes number less) directory;
      }
