-- A directory of which a slot became zeros.
use Rattle.std.proofs.Common.{◌≡◌, ℕ, ◌*◌, ◌<◌, ◌≤◌, refl, ◌∙◌, List, length, replicate, Some, None, Ok, arith}
use Rattle.std.specs.FinMap as map
use Rattle.base.specs.declared.TheConstants.{BLOCK_BYTES, SLOTS_PER_BLOCK}
use Rattle.disk.specs.Crash.{Image}
use Rattle.layout.specs.declared.geometry.Geometry.{Geometry}
use Rattle.layout.specs.declared.inode.Inode.{Inode}
use Rattle.layout.specs.declared.slot.TheConstants.{SLOT_BYTES}
use Rattle.layout.specs.Decode.{IsDirectory, entries_in, named_in, numbers_of, span_of}
use Rattle.layout.specs.SlotForm.{number_under}
use Rattle.layout.proofs.SlotBytes.{free_read}
use Rattle.dir.specs.Slots.{Lying, slot_at}
use Rattle.dir_writes.specs.Clearing.{HasOnce, cleared, slot_block}
use Rattle.dir_writes.proofs.Lost.{loses, removed}
use Rattle.dir_writes.proofs.SlotNames as slots

module _ (g : Geometry) (content : Image) (inode : Inode) (name : List ℕ) (s number : ℕ)
    (long : (block : ℕ) → length (content block) ≡ BLOCK_BYTES)
    (spans : span_of inode ≤ length (numbers_of content inode)) (dir : IsDirectory g content inode)
    (less : s < SLOTS_PER_BLOCK * span_of inode) (once : HasOnce content inode (slot_block content inode s))
    (is : number_under name (slot_at g.inodes content inode s) ≡ Ok (Some number)) where
  abbrev zeros : List ℕ
  zeros = replicate SLOT_BYTES 0

  abbrev lies : Lying
  lies = slot_at g.inodes content inode

  abbrev end : ℕ
  end = SLOTS_PER_BLOCK * span_of inode

  pub names : entries_in g.inodes (cleared content inode s) inode
      ≡ map.remove (entries_in g.inodes content inode) name
  unfolding named_in
  names =
      slots.made_of g content inode s zeros None refl (free_read g.inodes) long spans dir less once
      ∙ removed lies name s number is end less
      (slots.was_once g content inode s zeros None refl (free_read g.inodes) long spans dir less once)

  pub rules : IsDirectory g (cleared content inode s) inode
  rules =
      slots.rules g content inode s zeros None refl (free_read g.inodes) long spans dir less once
      (loses lies name s number is 0 end (omega arith) (omega (arith, less))
      (slots.was_once g content inode s zeros None refl (free_read g.inodes) long spans dir less once)).0
