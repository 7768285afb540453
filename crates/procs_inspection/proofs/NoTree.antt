-- Blocks in which the layout refuses something that was read hold the files of no tree.
use Rattle.std.proofs.Common.{◌≡◌, ℕ, ◌+◌, ◌-◌, ◌*◌, ◌<◌, sym, ap, ◌∙◌, true, false, cond, take}
use Rattle.std.proofs.Common.{subst, get_or, drop, replicate, Ok, Err, IsOk, Result, nat_eq, arith}
use Rattle.std.proofs.lemmas.Bool.Decides.{nat_tests}
use Rattle.std.specs.List.{list_all}
use Rattle.base.specs.declared.TheConstants.{BLOCK_BYTES, DIRECT_INDEXES, INDIRECT_INDEXES, SLOTS_PER_BLOCK}
use Rattle.disk.specs.Crash.{Image}
use Rattle.nfs_spec.specs.Model.Tree.{Tree}
use Rattle.layout.specs.declared.geometry.Geometry.{Geometry}
use Rattle.layout.specs.declared.inode.Inode.{Inode}
use Rattle.layout.specs.declared.slot.TheConstants.{SLOT_BYTES}
use Rattle.layout.specs.Decode.{span_of}
use Rattle.layout.specs.Fields.{numbers_at}
use Rattle.layout.specs.Holds.{Holds}
use Rattle.layout.specs.InodeForm.{is_data_block_or_none}
use Rattle.layout.specs.Parts.{content_in}
use Rattle.layout.specs.Places.{is_data}
use Rattle.layout.specs.SlotForm.{read_slot}
use Rattle.layout.proofs.OnGrid.{data_within}
use Rattle.inode.specs.declared.snap.Snap.{Snap}
use Rattle.inode.specs.Over.{HasInode, are_pointers_placed, pointer_number_at, number_at}
use Rattle.inode.specs.Read.{Saw}
use Rattle.inode.proofs.HeldThere.{indirect_part_placed}
use Rattle.inode.proofs.Pieces.{direct}
use Rattle.inode.proofs.Placed.{direct_at, double_part_placed, indirect_there, inner_part_placed, inner_placed, some_indirect}
use Rattle.inode.proofs.ReadThere.{no_fault}
use Rattle.dir.specs.Slots.{IsDirectoryOf, slot_at}
use Rattle.dir.proofs.SlotBlocks as slots
use Rattle.procs_inspection.specs.Refused.{HasRefusedBlock, HasRefusedPointer, IsRefused, IsRefusedAt, IsRefusedPointer, Names}
use Rattle.procs_inspection.specs.Refused.{indirect_part, direct_part, refused_block, refused_double, refused_indirect, refused_inner}
use Rattle.procs_inspection.specs.Refused.{refused_inode, refused_numbers, refused_slots}

differs : (a b : ℕ) → (a ≡ b → ⊥) → nat_eq a b ≡ false
differs a b other = grind (arith, nat_tests)

-- the number of a data block isn't 0
pub some_data : (g : Geometry) (number : ℕ) → is_data g number ≡ true → nat_eq number 0 ≡ false
some_data g number lies =
    let past = (data_within g number lies).0 in differs number 0 (λ is. omega (arith, past, is))

pub content_is : (g : Geometry) (blocks : Image) (number : ℕ) → is_data g number ≡ true
    → blocks number ≡ content_in g blocks number
content_is g blocks number lies = sym (ap (λ b. cond b (blocks number) (replicate BLOCK_BYTES 0)) lies)

module _ (snap : Snap) (blocks : Image) (tree : Tree) (number : ℕ) (inode : Inode)
    (has : HasInode snap blocks tree number inode) where
  abbrev g : Geometry
  g = snap.geometry

  abbrev content : Image
  content = content_in g blocks

  named_there : (index named : ℕ) → Names snap blocks inode index named → named ≡ number_at g blocks inode index
  named_there index named (direct_part less is) =
      is ∙ direct_at g blocks inode index (direct snap blocks tree number inode has) less
  named_there index named (indirect_part more within read is) =
      is
      ∙ some_indirect content inode.indirect (index - DIRECT_INDEXES) (blocks inode.indirect)
      (some_data g inode.indirect read.lies) (content_is g blocks inode.indirect read.lies)
      ∙ indirect_there g blocks inode index (direct snap blocks tree number inode has) more
      (omega (arith, within))

  no_fault_at : {A B : Type 0} (r : Result A B) (fault : B) → r ≡ Err fault → IsOk r → ⊥
  no_fault_at (Ok a) fault e ok = cc
  no_fault_at (Err b) fault e ok = let clash : false ≡ true = ok in cc

  no_slot : IsDirectoryOf snap blocks tree number inode → (index : ℕ) → index < span_of inode
      → IsRefusedAt snap blocks inode index → ⊥
  no_slot is index less at =
      let low = at.slot.less in
      let lies = at.read.lies in
      let there = slots.slot_there snap blocks tree number inode is at.number index
      (SLOTS_PER_BLOCK * index + at.slot.slot) (blocks at.number) less (named_there index at.number at.named)
      (content_is g blocks at.number lies) (omega arith) (omega (arith, low)) in
      let offsets_agree : SLOTS_PER_BLOCK * index + at.slot.slot - SLOTS_PER_BLOCK * index ≡ at.slot.slot = omega arith in
      no_fault_at (slot_at g.inodes content inode (SLOTS_PER_BLOCK * index + at.slot.slot)) at.slot.fault
      (there
      ∙ ap (λ k. read_slot g.inodes (take SLOT_BYTES (drop (SLOT_BYTES * k) (blocks at.number)))) offsets_agree
      ∙ at.slot.is)
      (slots.none_refused snap blocks tree number inode is (SLOTS_PER_BLOCK * index + at.slot.slot)
      (omega (arith, low, less)))

  -- a pointer block whose numbers are those of data blocks isn't refused
  no_pointer : (pointer : ℕ) → are_pointers_placed g blocks pointer → IsRefusedPointer snap blocks pointer → ⊥
  no_pointer pointer placed refused =
      let clash : true ≡ false =
      sym (ap (λ l. list_all (is_data_block_or_none g) (numbers_at INDIRECT_INDEXES 0 l))
      (content_is g blocks pointer refused.read.lies) ∙ placed (some_data g pointer refused.read.lies))
      ∙ refused.names in cc

  -- the number of an inner block, as its double indirect block has it
  inner_named : (inner : ℕ) → is_data g inode.double ≡ true
      → get_or (numbers_at INDIRECT_INDEXES 0 (blocks inode.double)) inner 0 ≡ pointer_number_at content inode.double inner
  inner_named inner lies =
      some_indirect content inode.double inner (blocks inode.double) (some_data g inode.double lies)
      (content_is g blocks inode.double lies)

  no_pointers : HasRefusedPointer snap blocks inode → ⊥
  no_pointers (refused_indirect one) =
      no_pointer inode.indirect (indirect_part_placed snap blocks tree number inode has) one
  no_pointers (refused_double one) =
      no_pointer inode.double (double_part_placed snap blocks tree number inode has) one
  no_pointers (refused_inner below) =
      no_pointer (pointer_number_at content inode.double below.inner)
      (inner_part_placed g blocks inode.double (inner_placed snap blocks tree number inode has) below.inner)
      (subst (IsRefusedPointer snap blocks) (inner_named below.inner below.read.lies) below.is)

  no_block : HasRefusedBlock snap blocks inode → ⊥
  no_block (refused_numbers pointer) = no_pointers pointer
  no_block (refused_slots kind index less at) = no_slot (record { has = has; kind = kind }) index less at

pub no_refused : (snap : Snap) (blocks : Image) (tree : Tree) → Saw blocks snap → Holds snap.geometry blocks tree
    → IsRefused snap blocks → ⊥
no_refused snap blocks tree saw holds refused = elim refused.file [
  | refused_inode fault is ↦
      no_fault snap.geometry blocks tree refused.number fault refused.at.less holds is
  | refused_block one is block ↦ no_block snap blocks tree refused.number one (record {
    over = record { holds = holds; saw = saw };
    less = refused.at.less;
    there = is;
  }) block
]
