-- What is linked is whole.
use Rattle.std.proofs.Common.{◌≡◌, ℕ, ◌+◌, ◌<◌, ◌≤◌, inl, inr, sym, ap, ◌∙◌, refl, subst, true, List, length, get_or}
use Rattle.std.proofs.Common.{Option, Some, None, Result, Ok, Err, count_by, min, arith}
use Rattle.std.proofs.lemmas.Bool.{cases_lt}
use Rattle.base.specs.declared.TheConstants.{BLOCK_BYTES, MOST_LINKS, ROOT}
use Rattle.disk.specs.Crash.{Image}
use Rattle.nfs_types.specs.Fits.{AreBytes}
use Rattle.nfs_spec.specs.Model.Names.{ancestor, is_directory_at}
use Rattle.nfs_spec.specs.Model.Node.{DirentValue}
use Rattle.nfs_spec.specs.Model.Tree.{node_at}
use Rattle.layout.specs.declared.fault.LayoutFault.{LayoutFault}
use Rattle.layout.specs.declared.geometry.Geometry.{Geometry}
use Rattle.layout.specs.declared.inode.Inode.{Inode}
use Rattle.layout.specs.declared.inode.InodeKind.{InodeKind}
use Rattle.layout.specs.declared.inode.InodeKind.TheVariants.{Directory, Link, Regular}
use Rattle.layout.specs.Decode.{IsFile, named_in}
use Rattle.layout.specs.Owners.{is_used}
use Rattle.layout.specs.Parts.{content_in, parts_of, table_of}
use Rattle.image_read.specs.ImageCounts.Tally.{times}
use Rattle.image_read.specs.Laws.TreeOf.{HasNames, named_numbers, named_of, tree_of}
use Rattle.image_read.specs.Laws.Whole as whole
use Rattle.image_read.specs.Laws.Whole.{IsWhole, named}
use Rattle.image_read.specs.declared.counts.links.Links.{Links}
use Rattle.image_read.specs.Counts.Linked.{AreLinked, IsLinked, IsLinkedDirectory, IsLinkedFile, IsRoot, is_directory_in}
use Rattle.image_contents.specs.Found.Counted.{IsCounted}
use Rattle.image_contents.proofs.FoundLemmas.Below.{none_named}
use Rattle.image_contents.proofs.FoundLemmas.Facts.{ancestor_is, below, entry, exact, few_links, names_at}

-- the root of a table
root_in : (o : Option Inode) → IsRoot o
    → (root : Inode) × (o ≡ Some root) × (root.kind ≡ Directory) × (root.stamp ≡ record { boot = 0; transaction = 0 })
root_in (Some root) is = (root, refl, is.0, is.1)
root_in None is = absurd is

-- a directory that names a number is there
named_there : (inodes number : ℕ) (content : Image) (r : Result (Option Inode) LayoutFault)
    → times (named_of inodes content r) number ≡ 1
    → (parent : Inode) × (r ≡ Ok (Some parent)) × (times (named_numbers inodes content parent.kind parent) number ≡ 1)
named_there inodes number content (Ok (Some parent)) once = (parent, refl, once)
named_there inodes number content (Ok None) once = absurd (let clash : 0 ≡ 1 = once in cc)
named_there inodes number content (Err fault) once = absurd (let clash : 0 ≡ 1 = once in cc)

is_directory_by : (inode : Inode) (kind : InodeKind) → kind ≡ Directory → inode.kind ≡ kind
    → is_directory_in (Some inode) ≡ true
is_directory_by inode Directory is of = ap (λ k. is_directory_in (Some (record inode { kind = k }))) of
is_directory_by inode Regular is of = cc
is_directory_by inode Link is of = cc

module _ (g : Geometry) (blocks : Image) (table : List (Option Inode)) (links : Links)
    (bytes : (n : ℕ) → n < g.blocks → (length (blocks n) ≡ BLOCK_BYTES) × AreBytes (blocks n))
    (each : (n : ℕ) → n < g.inodes → IsFile g (content_in g blocks) (table_of g blocks n))
    (names : (n : ℕ) (inode : Inode) → table_of g blocks n ≡ Ok (Some inode) → inode.kind ≡ Directory
    → HasNames g (content_in g blocks) inode)
    (counted : IsCounted g blocks table links) (linked : AreLinked table links) where
  names_are : (number : ℕ) → number < g.inodes
      → get_or links.names number 0 ≡ min (named g blocks number) (MOST_LINKS + 1)
  names_are = names_at g blocks table links bytes counted

  linked_at : (number : ℕ) → number < g.inodes → (o : Option Inode) → table_of g blocks number ≡ Ok o
      → IsLinked (length table) links number o
  linked_at number less o is =
      let long = counted.long in
      let same : get_or table number None ≡ o = option_is (sym (counted.inodes number less) ∙ is) in
      subst (IsLinked (length table) links number) same (linked.each number (omega (arith, less, long)))
    where
      option_is : ◌≡◌ {A = Result (Option Inode) LayoutFault} (Ok (get_or table number None)) (Ok o)
          → get_or table number None ≡ o
      option_is e = cc

  used_by : (number : ℕ) → number < g.inodes → 0 < named g blocks number → (r : Result (Option Inode) LayoutFault)
      → table_of g blocks number ≡ r → is_used r ≡ true
  used_by number less some (Ok (Some inode)) is = refl
  used_by number less some (Ok None) is =
      let none = linked_at number less None is in
      let count = names_are number less in
      absurd (omega (arith, some, none, count))
  used_by number less some (Err fault) is = absurd (subst (IsFile g (content_in g blocks)) is (each number less))

  there : (number : ℕ) → 0 < named g blocks number → is_used (table_of g blocks number) ≡ true
  there number some = elim (cases_lt number g.inodes) [
    | inl less ↦ used_by number less some (table_of g blocks number) refl
    | inr past ↦ (let none = none_named g (parts_of g blocks) number past in absurd (omega (arith, some, none)))
  ]

  module _ (number : ℕ) (inode : Inode) (is : table_of g blocks number ≡ Ok (Some inode)) where
    less : number < g.inodes
    less = below g blocks number inode is

    few : inode.nlink ≤ MOST_LINKS
    few = few_links g blocks bytes number inode is

    file_by : (kind : InodeKind) → (kind ≡ Directory → ⊥) → IsLinkedFile (length table) links number inode kind
        → inode.nlink ≡ get_or links.names number 0
    file_by Directory other links_are = absurd (other refl)
    file_by Regular other links_are = links_are
    file_by Link other links_are = links_are

    file : (inode.kind ≡ Directory → ⊥) → inode.nlink ≡ named g blocks number
    file other =
        let mine : inode.nlink ≡ get_or links.names number 0 =
        file_by inode.kind other (linked_at number less (Some inode) is) in
        sym (exact inode.nlink (named g blocks number) few (mine ∙ names_are number less))

    module _ (kind : inode.kind ≡ Directory) where
      mine : IsLinkedDirectory (length table) links number inode
      mine = subst (IsLinkedFile (length table) links number inode) kind (linked_at number less (Some inode) is)

      abbrev children : ℕ
      children = count_by (λ (e : List ℕ × DirentValue). is_directory_at (node_at (tree_of g blocks) e.1.number))
          (named_in g.inodes (content_in g blocks) inode)

      children_are : inode.nlink ≡ 2 + children
      children_are =
          let own = mine.counted in
          let count = counted.children number inode is kind in
          let most = few in
          omega (arith, own, count, most)

      once : (count known : ℕ) → known ≡ min count (MOST_LINKS + 1) → known ≡ 1 → count ≡ 1
      once count known is one = omega (arith, is, one)

      none : (count known : ℕ) → known ≡ min count (MOST_LINKS + 1) → known ≡ 0 → count ≡ 0
      none count known is zero = omega (arith, is, zero)

      reached : (steps : ℕ) × (ancestor (tree_of g blocks) steps number ≡ ROOT)
      reached =
          let long = counted.long in
          let inside = less in
          let directory : is_directory_in (get_or table number None) ≡ true =
          ap is_directory_in (entry g blocks table links bytes counted number inode is)
          ∙ is_directory_by inode Directory refl kind in
          let found = linked.reached number (omega (arith, inside, long)) directory in
          (found.0, ancestor_is g blocks table links bytes counted found.0 number less ∙ found.1)

      directory : whole.IsLinkedDirectory g blocks number inode
      directory = record {
        counted = children_are;
        root = λ at. (
          subst (λ n. named g blocks n ≡ 0) at
              (none (named g blocks number) (get_or links.names number 0) (names_are number less) (mine.root at).0),
          (mine.root at).1,
        );
        once = λ other.
            once (named g blocks number) (get_or links.names number 0) (names_are number less) (mine.once other).0;
        parent = λ other.
            named_there g.inodes number (content_in g blocks) (table_of g blocks inode.parent)
            (once (times (named_of g.inodes (content_in g blocks) (table_of g blocks inode.parent)) number)
            (get_or links.by_parent number 0) (counted.by_parent number inode is kind) (mine.once other).1);
        reached = reached;
      }

  pub is_whole : IsWhole g blocks
  is_whole =
      let root = root_in (get_or table ROOT None) linked.root in
      let some = g.lawful.1.0 in
      record {
        zero = counted.inodes 0 (omega (arith, some)) ∙ ap Ok linked.zero;
        root = root.0;
        root_is = counted.inodes ROOT (omega (arith, some)) ∙ ap Ok root.1;
        root_directory = root.2;
        root_stamp = root.3;
        names = names;
        there = there;
        files = λ number inode is other. file number inode is other;
        directories = λ number inode is kind. directory number inode is kind;
      }
