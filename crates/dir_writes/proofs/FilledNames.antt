-- A directory of which a slot got a name.
use Rattle.std.proofs.Common.{◌≡◌, ℕ, ◌*◌, ◌<◌, ◌≤◌, inl, inr, sym, ap, ◌∙◌, List, length, Some, None, Ok, arith}
use Rattle.std.specs.Cmp.Lexicographic.{nat_list_cmp_total, slice_cmp}
use Rattle.std.specs.FinMap.{find, from_entries, get, get-from_entries, insert}
use Rattle.std.specs.Ordering.{nat_cmp}
use Rattle.base.specs.declared.TheConstants.{BLOCK_BYTES, SLOTS_PER_BLOCK}
use Rattle.disk.specs.Crash.{Image}
use Rattle.nfs_spec.specs.Model.Node.{Entries}
use Rattle.layout.specs.declared.geometry.Geometry.{Geometry}
use Rattle.layout.specs.declared.inode.Inode.{Inode}
use Rattle.layout.specs.declared.slot.Slot.{Slot}
use Rattle.layout.specs.declared.slot.TheConstants.{SLOT_BYTES}
use Rattle.layout.specs.Decode.{IsDirectory, entries_in, numbers_of, span_of}
use Rattle.layout.specs.SlotForm.{SoundSlot, number_under, read_slot, used_bytes}
use Rattle.dir.specs.Slots.{Lying, slot_at}
use Rattle.dir.proofs.FoundIn.{entries}
use Rattle.dir_writes.specs.Clearing.{HasOnce, slot_block}
use Rattle.dir_writes.specs.NameInsertion.{dirent_in}
use Rattle.dir_writes.specs.SlotWrites.{IsVacant, slotted}
use Rattle.dir_writes.proofs.EnteredName.{entered, gains, replaced, replaced_once}
use Rattle.dir_writes.proofs.Lost.{IsOnce}
use Rattle.dir_writes.proofs.SlotNames as slots
use Rattle.dir_writes.proofs.UsedBytes.{used_long, used_read}

module _ (g : Geometry) (content : Image) (inode : Inode) (s : ℕ) (slot : Slot)
    (long : (block : ℕ) → length (content block) ≡ BLOCK_BYTES)
    (spans : span_of inode ≤ length (numbers_of content inode)) (dir : IsDirectory g content inode)
    (less : s < SLOTS_PER_BLOCK * span_of inode) (once : HasOnce content inode (slot_block content inode s))
    (sound : SoundSlot g.inodes slot) where
  abbrev bytes : List ℕ
  bytes = used_bytes slot

  abbrev lies : Lying
  lies = slot_at g.inodes content inode

  abbrev end : ℕ
  end = SLOTS_PER_BLOCK * span_of inode

  count : length bytes ≡ SLOT_BYTES
  count = used_long slot sound.name.1

  reads : read_slot g.inodes bytes ≡ Ok (Some slot)
  reads = used_read g.inodes slot sound

  was_once : IsOnce (entries lies 0 end)
  was_once = slots.was_once g content inode s bytes (Some slot) count reads long spans dir less once

  was_made : entries_in g.inodes content inode ≡ from_entries {R = slice_cmp nat_cmp} (entries lies 0 end)
  was_made = slots.was_made g content inode s bytes (Some slot) count reads long spans dir less once

  abbrev Fills : Type 0
  Fills = IsDirectory g (slotted content inode s bytes) inode
      × (entries_in g.inodes (slotted content inode s bytes) inode
      ≡ insert (entries_in g.inodes content inode) slot.name (dirent_in slot.number s))

  -- a new name in a free slot
  new_name : lies s ≡ Ok None → get (entries_in g.inodes content inode) slot.name ≡ None → Fills
  new_name free none =
      let absent : find (slice_cmp nat_cmp) slot.name (entries lies 0 end) ≡ None =
      sym (get-from_entries nat_list_cmp_total (entries lies 0 end) slot.name)
      ∙ ap (λ (m : Entries). get m slot.name) (sym was_made) ∙ none in (
        slots.rules g content inode s bytes (Some slot) count reads long spans dir less once
            (gains lies slot.name s slot.number free 0 end (omega arith) (omega (arith, less)) was_once absent).0,
        slots.made_of g content inode s bytes (Some slot) count reads long spans dir less once
            ∙ entered lies slot.name s slot.number free end less was_once absent
            ∙ ap (λ (m : Entries). insert m slot.name (dirent_in slot.number s)) (sym was_made),
      )

  -- another number under a name that lies there
  old_name : (old : ℕ) → number_under slot.name (lies s) ≡ Ok (Some old) → Fills
  old_name old is = (
    slots.rules g content inode s bytes (Some slot) count reads long spans dir less once
        (replaced_once lies slot.name s slot.number old end less is was_once),
    slots.made_of g content inode s bytes (Some slot) count reads long spans dir less once
        ∙ replaced lies slot.name s slot.number old end less is was_once
        ∙ ap (λ (m : Entries). insert m slot.name (dirent_in slot.number s)) (sym was_made),
  )

  pub filled : IsVacant g content inode s slot.name → Fills
  filled (inl new) = new_name new.0 new.1
  filled (inr old) = old_name old.0 old.1
