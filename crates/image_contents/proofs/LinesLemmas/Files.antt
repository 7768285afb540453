-- The files that a table has, and their lines.
use Rattle.std.proofs.Common.{◌≡◌, ℕ, zero, suc, ◌<◌, ◌≤◌, sym, ap, ◌∙◌, refl, subst, List, [], ◌∷◌, ◌++◌, length, map}
use Rattle.std.proofs.Common.{get_or, Option, Some, None, Result, Ok, Err, IsOk, arith}
use Rattle.std.proofs.lemmas.List.{map-append}
use Rattle.std.specs.FinMap.{entries}
use Rattle.disk.specs.Crash.{Image}
use Rattle.nfs_spec.specs.Model.Attributes.{size_of}
use Rattle.nfs_spec.specs.Model.Node.{Node}
use Rattle.nfs_spec.specs.Model.Tree.{Tree}
use Rattle.layout.specs.declared.fault.LayoutFault.{LayoutFault}
use Rattle.layout.specs.declared.geometry.Geometry.{Geometry}
use Rattle.layout.specs.declared.inode.Inode.{Inode}
use Rattle.layout.specs.declared.inode.InodeKind.{InodeKind}
use Rattle.layout.specs.declared.inode.InodeKind.TheVariants.{Directory, Link, Regular}
use Rattle.layout.specs.Decode.{IsFile, IsOfKind, body_of, file_of, inode_at, node_with, numbers_of}
use Rattle.layout.specs.Holds.{Holds}
use Rattle.layout.specs.InodeForm.{SoundInode}
use Rattle.layout.specs.Parts.{content_in, parts_of}
use Rattle.layout.specs.Stands.{Stands, file_at}
use Rattle.layout.proofs.Holding.{holds_of}
use Rattle.layout.proofs.Mapped.{mapped-len}
use Rattle.inode.specs.Shown.{IsShown}
use Rattle.inode.proofs.BodyThere.{has_body}
use Rattle.inode.proofs.InodeThere.{is_of_kind, is_read, is_sound, long}
use Rattle.inode.proofs.UsedBlocks.{counted}
use Rattle.image_read.specs.Parts.Table.{HasRefusedInode, IsTable}
use Rattle.image_read.proofs.FilesLemmas.AtHome.{homes, in_table, same_content, same_inode}
use Rattle.image_read.specs.Laws.TreeOf.{files_below, with_file}
use Rattle.image_read.proofs.LawsLemmas.Made.{one_made}
use Rattle.image_contents.specs.Lines.Lines.{IsCounted, IsCountedIfAny, blocks_in, line_in, lines_below, with_line}
use Rattle.image_contents.specs.Lines.Shown.{line_of, lines_of, shown_blocks, shown_kind}
use Rattle.image_contents.proofs.LinesLemmas.Rising.{more_files, no_files}

-- a file's inode is read
not_refused : (g : Geometry) (content : Image) (found : Result (Option Inode) LayoutFault) → IsFile g content found
    → (IsOk found → ⊥) → ⊥
not_refused g content (Ok (Some inode)) file none = none refl
not_refused g content (Ok None) file none = none refl
not_refused g content (Err fault) file none = file

kind_is : (inodes : ℕ) (content : Image) (inode : Inode) (kind : InodeKind)
    → shown_kind (body_of inodes content kind inode) ≡ kind
kind_is inodes content inode Regular = refl
kind_is inodes content inode Directory = refl
kind_is inodes content inode Link = refl

blocks_are : (inodes : ℕ) (content : Image) (inode : Inode) (kind : InodeKind)
    → shown_blocks (body_of inodes content kind inode) ≡ blocks_in content kind inode
blocks_are inodes content inode Regular = mapped-len (numbers_of content inode)
blocks_are inodes content inode Directory = refl
blocks_are inodes content inode Link = refl

module _ (g : Geometry) (image : Image) (tree : Tree) (stands : Stands g (homes g image) tree) where
  abbrev content : Image
  content = content_in g (homes g image)

  abbrev file : ℕ → Option Node
  file = file_at g (parts_of g (homes g image))

  holds : Holds g (homes g image) tree
  holds = holds_of g (homes g image) tree stands

  -- none is refused
  pub none_refused : HasRefusedInode g image → ⊥
  none_refused refused = not_refused g content (inode_at g image refused.0)
      (subst (IsFile g content) (in_table g image refused.0 refused.1) (holds.parts.has.inodes refused.0 refused.1))
      refused.2

  module _ (number : ℕ) (inode : Inode) (less : number < g.inodes)
      (there : inode_at g image number ≡ Ok (Some inode)) where
    read : inode_at g (homes g image) number ≡ Ok (Some inode)
    read = same_inode g image number less ∙ there

    sound : SoundInode g inode
    sound = is_read g (homes g image) tree number inode holds less read

    of_kind : IsOfKind g content inode.kind inode
    of_kind = is_of_kind g (homes g image) tree number inode holds less read

    is_counted : IsCounted g (content_in g image) inode.kind inode
    is_counted = by_kind inode.kind
        (subst (λ c. IsOfKind g c inode.kind inode) (same_content g image) of_kind)
      where
        by_kind : (kind : InodeKind) → IsOfKind g (content_in g image) kind inode
            → IsCounted g (content_in g image) kind inode
        by_kind Regular is = (sound, is.mapped)
        by_kind Directory is = tt
        by_kind Link is = tt

    shows : IsShown inode (counted content inode) (body_of g.inodes content inode.kind inode)
    shows = has_body g content inode (counted content inode)
        (long g (homes g image) tree number inode holds less read) sound.fits.count refl inode.kind refl
        (is_sound g (homes g image) tree number inode holds less read) of_kind

    -- the line of a file is that of its inode
    line_is : line_of (number, node_with inode (body_of g.inodes content inode.kind inode))
        ≡ line_in (content_in g image) number inode
    line_is =
        let kind : shown_kind (body_of g.inodes content inode.kind inode) ≡ inode.kind =
        kind_is g.inodes content inode inode.kind in
        let size : size_of (body_of g.inodes content inode.kind inode) ≡ inode.size = shows.size in
        let blocks : shown_blocks (body_of g.inodes content inode.kind inode)
        ≡ blocks_in (content_in g image) inode.kind inode =
        blocks_are g.inodes content inode inode.kind
        ∙ ap (λ c. blocks_in c inode.kind inode) (same_content g image) in
        λ i. record {
          number = number;
          kind = kind i;
          mode = inode.mode;
          uid = inode.uid;
          gid = inode.gid;
          nlink = inode.nlink;
          size = size i;
          blocks = blocks i;
        }

  module _ (table : List (Option Inode)) (is : IsTable g image g.inodes table) where
    -- the blocks of each can be counted
    pub each_counted : (number : ℕ) → number < length table
        → IsCountedIfAny g (content_in g image) (get_or table number None)
    each_counted number inside = by_inode (get_or table number None) (is.each number less)
      where
        less : number < g.inodes
        less = let count = is.long in omega (arith, inside, count)

        by_inode : (one : Option Inode) → inode_at g image number ≡ Ok one → IsCountedIfAny g (content_in g image) one
        by_inode None there = tt
        by_inode (Some inode) there = is_counted number inode less there

    by_inode : (number : ℕ) → number < g.inodes
        → map line_of (entries (files_below file number)) ≡ lines_below (content_in g image) table number
        → (one : Option Inode) → inode_at g image number ≡ Ok one
        → map line_of (entries (with_file number (file_of g.inodes content (Ok one)) (files_below file number)))
        ≡ with_line (content_in g image) number one (lines_below (content_in g image) table number)
    by_inode number less before None there = before
    by_inode number less before (Some inode) there =
        let node : Node = node_with inode (body_of g.inodes content inode.kind inode) in
        let line = line_is number inode less there in
        ap (map line_of) (more_files file number node)
        ∙ map-append line_of (entries (files_below file number)) ((number, node) ∷ [])
        ∙ (λ i. before i ++ line i ∷ [])

    below : (bound : ℕ) → bound ≤ g.inodes
        → map line_of (entries (files_below file bound)) ≡ lines_below (content_in g image) table bound
    unfolding files_below lines_below
    below zero some = ap (map line_of) (no_files file)
    below (suc number) some =
        let less : number < g.inodes = omega (arith, some) in
        ap (λ found. map line_of (entries (with_file number found (files_below file number))))
        (ap (file_of g.inodes content) (in_table g image number less ∙ is.each number less))
        ∙ by_inode number less (below number (omega (arith, some))) (get_or table number None) (is.each number less)

    -- the lines of the table are those of the tree
    pub lines_are : lines_below (content_in g image) table (length table) ≡ lines_of tree
    lines_are =
        let count = is.long in
        ap (lines_below (content_in g image) table) count
        ∙ sym (below g.inodes (omega arith))
        ∙ ap lines_of (sym (one_made g (homes g image) tree stands.parts.geometry stands.parts.has))
