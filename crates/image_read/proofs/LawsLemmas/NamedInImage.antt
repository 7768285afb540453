-- How often a number is named in the tree of an image, by the slots of its directories.
use Rattle.std.proofs.Common.{◌≡◌, ℕ, ap, ◌∙◌, refl, cond, Bool, List, nat_eq, count_by}
use Rattle.std.proofs.Common.{Option, Some, None, Result, Ok, Err}
use Rattle.std.specs.FinMap as map
use Rattle.disk.specs.Crash.{Image}
use Rattle.nfs_spec.specs.Model.Names.{names_in, names_of}
use Rattle.nfs_spec.specs.Model.Node.{DirentValue}
use Rattle.nfs_spec.specs.Model.Tree.{Tree}
use Rattle.layout.specs.declared.fault.LayoutFault.{LayoutFault}
use Rattle.layout.specs.declared.geometry.Geometry.{Geometry}
use Rattle.layout.specs.declared.inode.Inode.{Inode}
use Rattle.layout.specs.declared.inode.InodeKind.{InodeKind}
use Rattle.layout.specs.declared.inode.InodeKind.TheVariants.{Directory, Link, Regular}
use Rattle.layout.specs.Decode.{IsDirectory, IsFile, IsOfKind, body_of, entries_in, file_of, named_in}
use Rattle.layout.specs.Parts.{content_in, parts_of}
use Rattle.layout.specs.Stands.{HasFiles}
use Rattle.image_read.specs.ImageCounts.Tally.{times}
use Rattle.std.specs.Cmp.Lexicographic.{nat_list_cmp_total}
use Rattle.nfs_spec.proofs.ProceduresLemmas.NameChanges.{names_apart}
use Rattle.image_read.specs.Laws.TreeOf.{all_named, named_numbers, named_of}
use Rattle.image_read.proofs.LawsLemmas.Made.{none_past}
use Rattle.image_read.proofs.LawsLemmas.Named.{count_named, names_are, names_at, sum_once}

module _ (g : Geometry) (content : Image) where
  -- what passes a test of a directory's entries passes it of its slots
  pub counted_once : (inode : Inode) → IsDirectory g content inode → (p : List ℕ × DirentValue → Bool)
      → count_by p (map.entries (entries_in g.inodes content inode)) ≡ count_by p (named_in g.inodes content inode)
  counted_once inode is p =
      sum_once nat_list_cmp_total names_apart (λ (e : List ℕ × DirentValue). cond (p e) 1 0)
      (named_in g.inodes content inode) is.once

  pub of_kind : (number : ℕ) (inode : Inode) (kind : InodeKind) → IsOfKind g content kind inode
      → names_in number (body_of g.inodes content kind inode)
      ≡ times (named_numbers g.inodes content kind inode) number
  of_kind number inode Regular is = refl
  of_kind number inode Directory is =
      counted_once inode is (λ (e : List ℕ × DirentValue). nat_eq e.1.number number)
      ∙ count_named number (named_in g.inodes content inode)
  of_kind number inode Link is = refl

  of_result : (number : ℕ) (r : Result (Option Inode) LayoutFault) → IsFile g content r
      → names_at number (file_of g.inodes content r) ≡ times (named_of g.inodes content r) number
  of_result number (Ok (Some inode)) is = of_kind number inode inode.kind is
  of_result number (Ok None) is = refl
  of_result number (Err fault) is = refl

-- as often as the slots of all directories name a number, so often the tree does
pub names_in_image : (g : Geometry) (blocks : Image) (tree : Tree) → HasFiles g (parts_of g blocks) tree
    → (number : ℕ) → names_of tree number ≡ times (all_named g (parts_of g blocks)) number
unfolding all_named
names_in_image g blocks tree has number =
    names_are tree g.inodes (λ n. named_of g.inodes (content_in g blocks) ((parts_of g blocks).table n))
    (λ n past. has.files n ∙ none_past g blocks n past) number
    (λ n less. ap (names_at number) (has.files n)
    ∙ of_result g (content_in g blocks) number ((parts_of g blocks).table n) (has.inodes n less))
