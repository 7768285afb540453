-- What is in the file of an inode of a kind.
use Rattle.std.proofs.Common.{◌≡◌, ℕ, zero, suc, ◌*◌, refl, sym, ap, ◌∙◌, subst, List, [], take, drop, min, Option, Some, None, Ok}
use Rattle.std.proofs.Common.{Bool, true, not}
use Rattle.std.specs.FinMap.{get}
use Rattle.std.specs.Option.{option_map}
use Rattle.base.specs.declared.TheConstants.{SLOTS_PER_BLOCK, TRANSFER_BYTES}
use Rattle.disk.specs.Crash.{Image}
use Rattle.nfs_spec.specs.Model.Node.{DirentValue}
use Rattle.nfs_spec.specs.Model.Tree.{Tree}
use Rattle.layout.specs.declared.geometry.Geometry.{Geometry}
use Rattle.layout.specs.declared.inode.Inode.{Inode}
use Rattle.layout.specs.declared.inode.InodeKind.{InodeKind}
use Rattle.layout.specs.declared.inode.InodeKind.TheVariants as kinds
use Rattle.layout.specs.Decode.{body_of, entries_in, span_of}
use Rattle.layout.specs.Decode as decode
use Rattle.layout.specs.Parts.{content_in}
use Rattle.nfs_spec.specs.Procedures.Places.{dirent_at, least_free_slot}
use Rattle.nfs_spec.specs.Procedures.Read.{bytes_of, piece}
use Rattle.nfs_spec.specs.Procedures.ReadLink.{target_of}
use Rattle.nfs_spec.specs.Procedures.RmDir.{has_names}
use Rattle.procs_files.specs.declared.dirent.SlotDirent.{SlotDirent}
use Rattle.procs_files.specs.declared.dirent.SlotName.{SlotName}
use Rattle.procs_files.specs.Heads.{IsNextName, dirent_of}
use Rattle.inode.specs.declared.snap.Snap.{Snap}
use Rattle.inode.specs.Over.{all_bytes}
use Rattle.inode.specs.Shown.{body_in}
use Rattle.dir.specs.Slots.{IsDirectoryOf, IsNext, slot_at}
use Rattle.dir.proofs.NextIn.{next_names, no_names}
use Rattle.dir.proofs.SlotBlocks.{of_directory}

module _ (g : Geometry) (blocks : Image) (inode : Inode) where
  abbrev content : Image
  content = content_in g blocks

  pub directory_dirent : (name : List ℕ) (found : Option SlotDirent) → inode.kind ≡ kinds.Directory
      → option_map dirent_of found ≡ get (entries_in g.inodes content inode) name
      → option_map dirent_of found ≡ dirent_at (body_in g blocks inode) name
  directory_dirent name found is found_is =
      found_is ∙ ap (λ kind. dirent_at (body_of g.inodes content kind inode) name) (sym is)

  pub regular_dirent : (name : List ℕ) → inode.kind ≡ kinds.Regular
      → ◌≡◌ {A = Option DirentValue} None (dirent_at (body_in g blocks inode) name)
  regular_dirent name is = ap (λ kind. dirent_at (body_of g.inodes content kind inode) name) (sym is)

  pub link_dirent : (name : List ℕ) → inode.kind ≡ kinds.Link
      → ◌≡◌ {A = Option DirentValue} None (dirent_at (body_in g blocks inode) name)
  link_dirent name is = ap (λ kind. dirent_at (body_of g.inodes content kind inode) name) (sym is)

  pub regular_names : (from : ℕ) → inode.kind ≡ kinds.Regular → IsNextName (body_in g blocks inode) from None
  regular_names from is =
      subst (λ kind. IsNextName (body_of g.inodes content kind inode) from None) (sym is) refl

  pub link_names : (from : ℕ) → inode.kind ≡ kinds.Link → IsNextName (body_in g blocks inode) from None
  link_names from is =
      subst (λ kind. IsNextName (body_of g.inodes content kind inode) from None) (sym is) refl

  pub regular_bytes : (offset count few : ℕ) (bytes : List ℕ) → inode.kind ≡ kinds.Regular
      → few ≡ min count TRANSFER_BYTES
      → bytes ≡ take few (drop offset (take inode.size (all_bytes g blocks inode)))
      → bytes ≡ piece offset count (bytes_of (body_in g blocks inode))
  regular_bytes offset count few bytes is few_is bytes_are =
      bytes_are ∙ ap (λ n. take n (drop offset (take inode.size (all_bytes g blocks inode)))) few_is
      ∙ ap (λ kind. piece offset count (bytes_of (body_of g.inodes content kind inode))) (sym is)

  pub directory_filled : (empty : Bool) → inode.kind ≡ kinds.Directory
      → empty ≡ not (has_names (decode.directory_in g.inodes content inode))
      → empty ≡ not (has_names (body_in g blocks inode))
  directory_filled empty is so = so ∙ ap (λ kind. not (has_names (body_of g.inodes content kind inode))) (sym is)

  pub regular_filled : inode.kind ≡ kinds.Regular → true ≡ not (has_names (body_in g blocks inode))
  regular_filled is = ap (λ kind. not (has_names (body_of g.inodes content kind inode))) (sym is)

  pub link_filled : inode.kind ≡ kinds.Link → true ≡ not (has_names (body_in g blocks inode))
  link_filled is = ap (λ kind. not (has_names (body_of g.inodes content kind inode))) (sym is)

  pub directory_vacant : (free : Option ℕ) → inode.kind ≡ kinds.Directory
      → free ≡ least_free_slot (decode.directory_in g.inodes content inode)
      → free ≡ least_free_slot (body_in g blocks inode)
  directory_vacant free is so = so ∙ ap (λ kind. least_free_slot (body_of g.inodes content kind inode)) (sym is)

  pub regular_vacant : inode.kind ≡ kinds.Regular → Some 0 ≡ least_free_slot (body_in g blocks inode)
  regular_vacant is = ap (λ kind. least_free_slot (body_of g.inodes content kind inode)) (sym is)

  pub link_vacant : inode.kind ≡ kinds.Link → Some 0 ≡ least_free_slot (body_in g blocks inode)
  link_vacant is = ap (λ kind. least_free_slot (body_of g.inodes content kind inode)) (sym is)

  nothing : (k : ℕ) → ◌≡◌ {A = List ℕ} (take k []) []
  nothing zero = refl
  nothing (suc k) = refl

  none_left : (k : ℕ) → ◌≡◌ {A = List ℕ} (drop k []) []
  none_left zero = refl
  none_left (suc k) = refl

  no_piece : (offset count : ℕ) → ◌≡◌ {A = List ℕ} [] (piece offset count [])
  no_piece offset count =
      sym (ap (take (min count TRANSFER_BYTES)) (none_left offset) ∙ nothing (min count TRANSFER_BYTES))

  pub directory_bytes : (offset count : ℕ) → inode.kind ≡ kinds.Directory
      → [] ≡ piece offset count (bytes_of (body_in g blocks inode))
  directory_bytes offset count is =
      no_piece offset count
      ∙ ap (λ kind. piece offset count (bytes_of (body_of g.inodes content kind inode))) (sym is)

  pub link_bytes : (offset count : ℕ) → inode.kind ≡ kinds.Link
      → [] ≡ piece offset count (bytes_of (body_in g blocks inode))
  link_bytes offset count is =
      no_piece offset count
      ∙ ap (λ kind. piece offset count (bytes_of (body_of g.inodes content kind inode))) (sym is)

  pub link_target : (bytes : List ℕ) → inode.kind ≡ kinds.Link
      → bytes ≡ take inode.size (decode.bytes_of content (take 1 inode.direct))
      → target_of (body_in g blocks inode) ≡ Ok bytes
  link_target bytes is bytes_are =
      ap (λ kind. target_of (body_of g.inodes content kind inode)) is ∙ ap Ok (sym bytes_are)

pub directory_no_link : (kind : InodeKind) → kind ≡ kinds.Directory → kind ≡ kinds.Link → ⊥
directory_no_link kind is link = let clash : kinds.Directory ≡ kinds.Link = sym is ∙ link in cc

pub regular_no_link : (kind : InodeKind) → kind ≡ kinds.Regular → kind ≡ kinds.Link → ⊥
regular_no_link kind is link = let clash : kinds.Regular ≡ kinds.Link = sym is ∙ link in cc

module _ (snap : Snap) (blocks : Image) (tree : Tree) (file : ℕ) (inode : Inode)
    (is : IsDirectoryOf snap blocks tree file inode) where
  abbrev g : Geometry
  g = snap.geometry

  by_found : (from : ℕ) (found : Option SlotName)
      → IsNext (slot_at g.inodes (content_in g blocks) inode) from (SLOTS_PER_BLOCK * span_of inode) found
      → IsNextName (decode.directory_in g.inodes (content_in g blocks) inode) from found
  by_found from None next =
      no_names g (content_in g blocks) inode (of_directory snap blocks tree file inode is) from next
  by_found from (Some named) next =
      next_names g (content_in g blocks) inode (of_directory snap blocks tree file inode is) from named next

  pub directory_names : (from : ℕ) (found : Option SlotName)
      → IsNext (slot_at g.inodes (content_in g blocks) inode) from (SLOTS_PER_BLOCK * span_of inode) found
      → IsNextName (body_in g blocks inode) from found
  directory_names from found next =
      subst (λ kind. IsNextName (body_of g.inodes (content_in g blocks) kind inode) from found) (sym is.kind)
      (by_found from found next)
