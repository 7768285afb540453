use Rattle.std.proofs.Common.{◌≡◌, ◌*◌, ◌∙◌, sym, ap, inl, inr, take, drop, Option, Result, Ok, Err, IsOk, true, false, arith}
use Rattle.std.proofs.lemmas.Bool.{cases_lt}
use Rattle.layout.specs.declared.fault.LayoutFault.{LayoutFault}
use Rattle.layout.specs.declared.fault.LayoutFault.TheVariants.{Range}
use Rattle.layout.specs.declared.slot.Slot.{Slot}
use Rattle.layout.specs.declared.slot.TheConstants.{SLOT_BYTES}
use Rattle.layout.specs.SlotForm.{read_slot}
use Rattle.procs_inspection.proofs.blocks.has_refused_slot.Goals as goal

no_fault : (read : Result (Option Slot) LayoutFault) (fault : LayoutFault) → IsOk read → read ≡ Err fault → ⊥
no_fault (Ok one) fault ok is = cc
no_fault (Err other) fault ok is = let clash : false ≡ true = ok in cc

pub returns-then-is_refused-clause-some : goal.returns-then-is_refused-clause-some
returns-then-is_refused-clause-some c = λ is.
    let less = c.slots-test.true in record {
      slot = c.slots.slot;
      less = omega (arith, less);
      fault = Range;
      is = ap (read_slot c.args.inodes) (sym c.bytes_in.ensures.bytes) ∙ c.is_refused.ensures.some c.if-is_refused.true;
    }

pub slots-preserved : goal.slots-preserved
slots-preserved c = λ k fault less is. elim (cases_lt k c.slots.slot) [
  | inl before ↦ c.slots.invariant k fault before is
  | inr past ↦
      let same : c.slots.slot ≡ k = omega (arith, past, less) in
      no_fault (read_slot c.args.inodes c.bytes_in.result.now) fault (c.is_refused.ensures.none c.if-is_refused.false)
      (ap (read_slot c.args.inodes) (c.bytes_in.ensures.bytes
      ∙ ap (λ n. take SLOT_BYTES (drop (SLOT_BYTES * n) c.args.block.now)) same) ∙ is)
]
