-- The blocks of a file that were read.
use Rattle.std.proofs.Common.{◌≡◌, ℕ, ◌+◌, ◌-◌, ◌*◌, ◌<◌, ◌≤◌, ◌∙◌, sym, ap, subst, get_or, take, drop, Option, Some}
use Rattle.std.proofs.Common.{None, Result, Ok, Err, IsOk, true, false, arith}
use Rattle.base.specs.declared.TheConstants.{DIRECT_INDEXES, MOST_SPAN, SLOTS_PER_BLOCK}
use Rattle.disk.specs.Crash.{Image}
use Rattle.layout.specs.declared.fault.LayoutFault.{LayoutFault}
use Rattle.layout.specs.declared.inode.Inode.{Inode}
use Rattle.layout.specs.declared.slot.Slot.{Slot}
use Rattle.layout.specs.declared.slot.TheConstants.{SLOT_BYTES}
use Rattle.layout.specs.Decode.{inode_at}
use Rattle.layout.specs.SlotForm.{read_slot}
use Rattle.inode.specs.declared.snap.Snap.{Snap}
use Rattle.dir.specs.Slots.{HasBlockAt, block_slot}
use Rattle.dir.specs.Slots.HasBlockAt.{direct_part as has_direct, indirect_part as has_indirect}
use Rattle.dir.specs.SearchCursor.{IsValidAt}
use Rattle.procs_inspection.specs.Refused.{HasRefusedBlock, IsRefusedAt, IsRefusedFile, Names, WasReadBlock, indirect_part, direct_part}
use Rattle.procs_inspection.specs.Refused.{indirect_row, refused_block, refused_inode}

module _ (snap : Snap) (blocks : Image) (inode : Inode) (index : ℕ) where
  -- below the first number of an indirect block, and from it on
  pub named_direct : (number : ℕ) → index < DIRECT_INDEXES → Names snap blocks inode index number
      → number ≡ get_or inode.direct index 0
  named_direct number less (direct_part low is) = is
  named_direct number less (indirect_part more within read is) = absurd (omega (arith, less, more))

  pub named_indirect : (number : ℕ) → DIRECT_INDEXES ≤ index → Names snap blocks inode index number
      → number ≡ get_or (indirect_row blocks inode) (index - DIRECT_INDEXES) 0
  named_indirect number more (direct_part less is) = absurd (omega (arith, less, more))
  named_indirect number more (indirect_part past within read is) = is

  pub indirect_read : (number : ℕ) → DIRECT_INDEXES ≤ index → Names snap blocks inode index number
      → WasReadBlock snap blocks inode.indirect
  indirect_read number more (direct_part less is) = absurd (omega (arith, less, more))
  indirect_read number more (indirect_part past within read is) = read

  -- no directory has a block past its greatest span
  pub named_within : (number : ℕ) → Names snap blocks inode index number → index < MOST_SPAN
  named_within number (direct_part less is) = omega (arith, less)
  named_within number (indirect_part more within read is) = within

abbrev Read : Type 0
Read = Result (Option Inode) LayoutFault

some_one : (one other : Inode) → ◌≡◌ {A = Read} (Ok (Some one)) (Ok (Some other)) → other ≡ one
some_one one other same = ap (λ (r : Read). of r) (sym same)
  where
    of : Read → Inode
    of (Ok (Some inode)) = inode
    of (Ok None) = one
    of (Err fault) = one

-- what is refused of a file by its inode
pub of_some : (snap : Snap) (blocks : Image) (number : ℕ) (inode : Inode)
    → inode_at snap.geometry blocks number ≡ Ok (Some inode) → IsRefusedFile snap blocks number
    → HasRefusedBlock snap blocks inode
of_some snap blocks number inode is (refused_inode fault fails) =
    let clash : ◌≡◌ {A = Read} (Ok (Some inode)) (Err fault) = sym is ∙ fails in cc
of_some snap blocks number inode is (refused_block one was block) =
    subst (HasRefusedBlock snap blocks) (some_one inode one (sym is ∙ was)) block

pub of_none : (snap : Snap) (blocks : Image) (number : ℕ)
    → inode_at snap.geometry blocks number ≡ Ok None → IsRefusedFile snap blocks number → ⊥
of_none snap blocks number is (refused_inode fault fails) =
    let clash : ◌≡◌ {A = Read} (Ok None) (Err fault) = sym is ∙ fails in cc
of_none snap blocks number is (refused_block one was block) =
    let clash : ◌≡◌ {A = Read} (Ok None) (Ok (Some one)) = sym is ∙ was in cc

-- what is refused of a file is told by its inode alone
pub same_file : (snap : Snap) (blocks : Image) (number other : ℕ)
    → inode_at snap.geometry blocks number ≡ inode_at snap.geometry blocks other → IsRefusedFile snap blocks number
    → IsRefusedFile snap blocks other
same_file snap blocks number other same (refused_inode fault fails) = refused_inode fault (sym same ∙ fails)
same_file snap blocks number other same (refused_block one was block) = refused_block one (sym same ∙ was) block

-- ---- blocks that are known to be clear

module _ (snap : Snap) (blocks : Image) (inode : Inode) (index : ℕ) where
  has_block : (number : ℕ) → Names snap blocks inode index number → HasBlockAt blocks inode index number
  has_block number (direct_part less is) = has_direct less is
  has_block number (indirect_part past within read is) = has_indirect past read.whole is

  no_fault : (read : Result (Option Slot) LayoutFault) (fault : LayoutFault) → IsOk read → read ≡ Err fault → ⊥
  no_fault (Ok one) fault ok is = cc
  no_fault (Err other) fault ok is = let clash : false ≡ true = ok in cc

  pub none_refused : IsValidAt snap blocks inode index → IsRefusedAt snap blocks inode index → ⊥
  none_refused valid_blocks at =
      let less = at.slot.less in
      let first = SLOTS_PER_BLOCK * index in
      let offsets_agree : first + at.slot.slot - first ≡ at.slot.slot = omega arith in
      no_fault (block_slot snap.geometry.inodes first (blocks at.number) (first + at.slot.slot)) at.slot.fault
      (valid_blocks at.number (has_block at.number at.named) at.read.whole (first + at.slot.slot) (omega arith)
      (omega (arith, less)))
      (ap (λ k. read_slot snap.geometry.inodes (take SLOT_BYTES (drop (SLOT_BYTES * k) (blocks at.number)))) offsets_agree
      ∙ at.slot.is)
