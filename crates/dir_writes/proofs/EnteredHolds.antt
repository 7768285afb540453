-- Blocks in which a slot of a directory got a name hold the tree with the name.
use Rattle.std.proofs.Common.{◌≡◌, ℕ, suc, ◌*◌, ◌/◌, ◌<◌, inl, inr, sym, ap, ◌∙◌, refl, subst}
use Rattle.std.proofs.Common.{true, false, not, max, List, length, Option, Some, None, Result, Ok, Err, arith}
use Rattle.std.specs.Cmp.Lexicographic.{nat_list_cmp_total, slice_cmp}
use Rattle.std.specs.FinMap.{find, from_entries, get, get-from_entries, insert}
use Rattle.std.specs.Ordering.{nat_cmp}
use Rattle.base.specs.declared.TheConstants.{SLOTS_PER_BLOCK}
use Rattle.disk.specs.Crash.{Image}
use Rattle.nfs_spec.specs.Model.Node.{Body, DirentValue, Entries, Node}
use Rattle.nfs_spec.specs.Model.Node as nodes
use Rattle.nfs_spec.specs.Model.Tree.{Tree, node_at, with_node}
use Rattle.nfs_spec.specs.Model.Tree as trees
use Rattle.nfs_spec.specs.Procedures.Changes.{with_dirent}
use Rattle.nfs_spec.specs.Procedures.Places.{dirent_at, is_taken_slot}
use Rattle.procs_files.specs.Writable.{CanEnter, IsOwnSlot}
use Rattle.procs_files.specs.declared.dirent.SlotDirent.{SlotDirent}
use Rattle.layout.specs.declared.fault.LayoutFault.{LayoutFault}
use Rattle.layout.specs.declared.geometry.Geometry.{Geometry}
use Rattle.layout.specs.declared.inode.Inode.{Inode}
use Rattle.layout.specs.declared.inode.InodeKind.{InodeKind}
use Rattle.layout.specs.declared.inode.InodeKind.TheVariants as kinds
use Rattle.layout.specs.declared.slot.Slot.{Slot}
use Rattle.layout.specs.declared.slot.TheConstants.{SLOT_BYTES}
use Rattle.layout.specs.Decode.{body_of, directory_in, entries_in, inode_at, span_of}
use Rattle.layout.specs.Holds.{Holds}
use Rattle.layout.specs.Parts.{content_in, with_bytes}
use Rattle.layout.specs.SlotForm.{SoundSlot, number_under, read_slot, used_bytes}
use Rattle.inode.specs.declared.snap.Snap.{Snap}
use Rattle.dir.specs.Slots.{IsDirectoryOf, Lying, slot_at}
use Rattle.dir.specs.Vacant.{is_free}
use Rattle.dir.proofs.FoundIn.{entries}
use Rattle.dir.proofs.SlotBlocks.{none_refused, small}
use Rattle.dir.proofs.VacantIn.{as_read}
use Rattle.dir_writes.specs.Clearing.{slot_block}
use Rattle.dir_writes.specs.SlotWrites.{slotted_block}
use Rattle.dir_writes.proofs.EnteredName.{entered, gains, replaced, replaced_once}
use Rattle.dir_writes.proofs.Lost.{IsOnce}
use Rattle.dir_writes.proofs.Places.{lies_at}
use Rattle.dir_writes.proofs.SlotHolds as slots
use Rattle.dir_writes.proofs.SlotNames.{relaid}
use Rattle.dir_writes.proofs.UsedBytes.{used_are, used_long, used_read}

abbrev Read : Type 0
Read = Result (Option Slot) LayoutFault

free_is : (read : Read) → is_free read ≡ true → read ≡ Ok None
free_is (Ok None) e = refl
free_is (Ok (Some slot)) e = cc
free_is (Err fault) e = cc

-- the body of a directory's inode
directory_body : (g : Geometry) (content : Image) (inode : Inode) (kind : InodeKind) → kind ≡ kinds.Directory
    → body_of g.inodes content kind inode ≡ directory_in g.inodes content inode
directory_body g content inode kinds.Directory e = refl
directory_body g content inode kinds.Regular e = cc
directory_body g content inode kinds.Link e = cc

module _ (snap : Snap) (old : Image) (tree : Tree) (n : ℕ) (inode : Inode) (name : List ℕ) (number s : ℕ)
    (is : IsDirectoryOf snap old tree n inode) (node : Node) (was : node_at tree n ≡ Some node)
    (can : CanEnter tree node.body name (record { number = number; slot = s }))
    (less : s < SLOTS_PER_BLOCK * span_of inode) where
  abbrev g : Geometry
  g = snap.geometry

  abbrev content : Image
  content = content_in g old

  abbrev lies : Lying
  lies = slot_at g.inodes content inode

  abbrev end : ℕ
  end = SLOTS_PER_BLOCK * span_of inode

  abbrev slot : Slot
  slot = record { number = number; name = name }

  abbrev dirent : DirentValue
  dirent = record { number = number; slot = s }

  abbrev bytes : List ℕ
  bytes = used_bytes slot

  abbrev held : Entries
  held = entries_in g.inodes content inode

  sound : SoundSlot g.inodes slot
  sound =
      let within = can.within in
      let same = ap (λ (k : trees.Geometry). k.inodes) is.has.over.holds.parts.geometry in
      let few = g.lawful.1.1 in
      let some = can.some in
      let one = can.lawful.some in
      let short = can.lawful.short in
      record {
        number = (some, omega (arith, within, same), omega (arith, within, same, few));
        name = (omega (arith, one), short);
      }

  count : length bytes ≡ SLOT_BYTES
  count = used_long slot can.lawful.short

  reads : read_slot g.inodes bytes ≡ Ok (Some slot)
  reads = used_read g.inodes slot sound

  was_body : node.body ≡ directory_in g.inodes content inode
  was_body = slots.was_file snap old tree n inode s bytes (Some slot) count (used_are slot can.lawful.bytes) reads is
      less node was
      ∙ directory_body g content inode inode.kind is.kind

  once : IsOnce (entries lies 0 end)
  once = slots.was_once snap old tree n inode s bytes (Some slot) count (used_are slot can.lawful.bytes) reads is less

  made : held ≡ from_entries {R = slice_cmp nat_cmp} (entries lies 0 end)
  made = slots.was_made snap old tree n inode s bytes (Some slot) count (used_are slot can.lawful.bytes) reads is less

  -- what the slots are then
  abbrev Enters : Type 0
  Enters = IsOnce (entries (relaid lies s (Some slot)) 0 end)
      × (from_entries {R = slice_cmp nat_cmp} (entries (relaid lies s (Some slot)) 0 end) ≡ insert held name dirent)

  new_name : dirent_at (directory_in g.inodes content inode) name ≡ None
      → is_taken_slot (directory_in g.inodes content inode) s ≡ false → Enters
  new_name none untaken =
      let few = small snap old tree n inode is in
      let free : lies s ≡ Ok None = free_is (lies s)
      (sym (as_read g content inode (slots.was_read snap old tree n inode s bytes (Some slot) count
      (used_are slot can.lawful.bytes) reads is less) (none_refused snap old tree n inode is) (omega (arith, few)) s
      less) ∙ ap not untaken) in
      let absent : find (slice_cmp nat_cmp) name (entries lies 0 end) ≡ None =
      sym (get-from_entries nat_list_cmp_total (entries lies 0 end) name)
      ∙ ap (λ (m : Entries). get m name) (sym made) ∙ none in (
        (gains lies name s number free 0 end (omega arith) (omega (arith, less)) once absent).0,
        entered lies name s number free end less once absent
            ∙ ap (λ (m : Entries). insert m name dirent) (sym made),
      )

  old_name : (one : DirentValue) → dirent_at (directory_in g.inodes content inode) name ≡ Some one
      → one.slot ≡ s → Enters
  old_name one there here =
      let search_hit : SlotDirent = record { number = one.number; slot = one.slot } in
      let lying = lies_at g.inodes content inode name search_hit (sym there) in
      let under : number_under name (lies s) ≡ Ok (Some one.number) =
      ap (λ k. number_under name (lies k)) (sym here) ∙ lying.is in (
        replaced_once lies name s number one.number end less under once,
        replaced lies name s number one.number end less under once
            ∙ ap (λ (m : Entries). insert m name dirent) (sym made),
      )

  by_own : IsOwnSlot (directory_in g.inodes content inode) name dirent → Enters
  by_own (inl new) = new_name new.0 new.1
  by_own (inr old) = old_name old.0 old.1 old.2

  enters : Enters
  enters = by_own (subst (λ (b : Body). IsOwnSlot b name dirent) was_body can.own)

  abbrev new_body : Body
  new_body = nodes.Directory (insert held name dirent) (span_of inode) inode.parent

  as_entered : new_body ≡ with_dirent name dirent node.body
  as_entered =
      ap (λ k. nodes.Directory (insert held name dirent) k inode.parent) wide
      ∙ ap (with_dirent name dirent) (sym was_body)
    where
      wide : span_of inode ≡ max (span_of inode) (suc (s / SLOTS_PER_BLOCK))
      wide = omega (arith, less)

  pub entered_holds : (last : Image)
      → last ≡ with_bytes old (slot_block content inode s) 0 (slotted_block content inode s bytes)
      → Holds g last (with_node tree n (record node { body = with_dirent name dirent node.body }))
  entered_holds last written =
      subst (λ (k : Node). Holds g last (with_node tree n k))
      (slots.slot_file snap old tree n inode s bytes (Some slot) count (used_are slot can.lawful.bytes) reads is less
      node was new_body ∙ ap (λ (b : Body). record node { body = b }) as_entered)
      (slots.slot_holds snap old tree n inode s bytes (Some slot) count (used_are slot can.lawful.bytes) reads is less
      (insert held name dirent) enters.0 enters.1 last written)

  pub entered_inode : (last : Image)
      → last ≡ with_bytes old (slot_block content inode s) 0 (slotted_block content inode s bytes)
      → inode_at g last n ≡ Ok (Some inode)
  entered_inode last written =
      slots.slot_inode snap old tree n inode s bytes (Some slot) count (used_are slot can.lawful.bytes) reads is less
      last written
