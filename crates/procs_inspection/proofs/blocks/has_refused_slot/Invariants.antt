-- no slot so far is refused
use Rattle.std.proofs.Common.{◌≡◌, ℕ, ◌*◌, ◌<◌, take, drop, Err}
use Rattle.layout.specs.declared.fault.LayoutFault.{LayoutFault}
use Rattle.layout.specs.declared.slot.TheConstants.{SLOT_BYTES}
use Rattle.layout.specs.SlotForm.{read_slot}
use Rattle.procs_inspection.proofs.blocks.has_refused_slot.Given as goal

abbrev pub invariant-slots : goal.invariant-slots
invariant-slots l = (k : ℕ) (fault : LayoutFault) → k < l.slot
    → read_slot l.inodes (take SLOT_BYTES (drop (SLOT_BYTES * k) l.block)) ≡ Err fault → ⊥
