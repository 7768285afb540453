-- Blocks in which the slot of a name became zeros hold the tree without the name.
use Rattle.std.proofs.Common.{◌≡◌, ℕ, ◌*◌, ◌<◌, sym, ap, ◌∙◌, refl, List, replicate, Some, None, Ok, arith}
use Rattle.std.specs.FinMap.{remove}
use Rattle.base.specs.declared.TheConstants.{SLOTS_PER_BLOCK}
use Rattle.disk.specs.Crash.{Image}
use Rattle.nfs_spec.specs.Model.Node.{Body, Entries, Node}
use Rattle.nfs_spec.specs.Model.Node as nodes
use Rattle.nfs_spec.specs.Model.Tree.{Tree, node_at, with_node}
use Rattle.nfs_spec.specs.Procedures.Changes.{without_dirent}
use Rattle.layout.specs.declared.geometry.Geometry.{Geometry}
use Rattle.layout.specs.declared.inode.Inode.{Inode}
use Rattle.layout.specs.declared.inode.InodeKind.{InodeKind}
use Rattle.layout.specs.declared.inode.InodeKind.TheVariants as kinds
use Rattle.layout.specs.declared.slot.TheConstants.{SLOT_BYTES}
use Rattle.layout.specs.Decode.{body_of, entries_in, node_with, span_of}
use Rattle.layout.specs.Holds.{Holds}
use Rattle.layout.specs.Parts.{content_in, with_bytes}
use Rattle.layout.specs.SlotForm.{number_under}
use Rattle.layout.proofs.SlotBytes.{free_read}
use Rattle.inode.specs.declared.snap.Snap.{Snap}
use Rattle.dir.specs.Slots.{IsDirectoryOf, Lying, slot_at}
use Rattle.dir_writes.specs.Clearing.{cleared_bytes, slot_block, without_name}
use Rattle.dir_writes.proofs.Lost.{loses, removed}
use Rattle.dir_writes.proofs.SlotHolds as slots
use Rattle.dir_writes.proofs.UsedBytes.{zero_bytes}

module _ (snap : Snap) (old : Image) (tree : Tree) (n : ℕ) (inode : Inode) (name : List ℕ) (s number : ℕ)
    (is : IsDirectoryOf snap old tree n inode) (less : s < SLOTS_PER_BLOCK * span_of inode)
    (named : number_under name (slot_at snap.geometry.inodes (content_in snap.geometry old) inode s)
    ≡ Ok (Some number)) where
  abbrev g : Geometry
  g = snap.geometry

  abbrev content : Image
  content = content_in g old

  abbrev lies : Lying
  lies = slot_at g.inodes content inode

  abbrev end : ℕ
  end = SLOTS_PER_BLOCK * span_of inode

  abbrev zeros : List ℕ
  zeros = replicate SLOT_BYTES 0

  abbrev new_body : Body
  new_body = nodes.Directory (remove (entries_in g.inodes content inode) name) (span_of inode) inode.parent

  pub lost_holds : (last : Image)
      → last ≡ with_bytes old (slot_block content inode s) 0 (cleared_bytes content inode s)
      → Holds g last (with_node tree n (node_with inode new_body))
  lost_holds =
      let once = slots.was_once snap old tree n inode s zeros None refl (zero_bytes SLOT_BYTES) (free_read g.inodes) is
      less in
      slots.slot_holds snap old tree n inode s zeros None refl (zero_bytes SLOT_BYTES) (free_read g.inodes) is less
      (remove (entries_in g.inodes content inode) name)
      (loses lies name s number named 0 end (omega arith) (omega (arith, less)) once).0
      (removed lies name s number named end less once
      ∙ ap (λ (es : Entries). remove es name) (sym (slots.was_made snap old tree n inode s zeros None refl
      (zero_bytes SLOT_BYTES) (free_read g.inodes) is less)))

  same_body : (kind : InodeKind) → kind ≡ kinds.Directory
      → new_body ≡ without_dirent name (body_of g.inodes content kind inode)
  same_body kinds.Directory e = refl
  same_body kinds.Regular e = cc
  same_body kinds.Link e = cc

  -- the file is that of the tree, without the name
  pub lost_file : (node : Node) → node_at tree n ≡ Some node
      → with_node tree n (node_with inode new_body) ≡ with_node tree n (without_name name node)
  lost_file node there_is =
      ap (with_node tree n)
      (slots.slot_file snap old tree n inode s zeros None refl (zero_bytes SLOT_BYTES) (free_read g.inodes) is less
      node there_is new_body
      ∙ ap (λ (b : Body). record node { body = b })
      (same_body inode.kind is.kind ∙ ap (without_dirent name) (sym (slots.was_file snap old tree n inode s zeros None
      refl (zero_bytes SLOT_BYTES) (free_read g.inodes) is less node there_is))))
