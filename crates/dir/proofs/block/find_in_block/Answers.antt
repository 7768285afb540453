use Rattle.std.proofs.Common.{◌≡◌, ℕ, ◌-◌, ◌*◌, sym, ap, ◌∙◌, List, take, drop, None, Ok, true, false, arith}
use Rattle.layout.specs.declared.fault.LayoutFault.TheVariants.{Range}
use Rattle.layout.specs.declared.slot.TheConstants.{SLOT_BYTES}
use Rattle.layout.proofs.Fits.{part-length}
use Rattle.layout.specs.SlotForm.{number_under, read_slot}
use Rattle.dir.specs.Slots.{block_slot}
use Rattle.dir.proofs.ValidBlocks.{one_valid}
use Rattle.dir.proofs.FoundIn.{no_number, one_more}
use Rattle.dir.proofs.Looks.{refused_none, under_ok}
use Rattle.dir.proofs.block.find_in_block.Goals as goal
use Rattle.dir.proofs.block.find_in_block.Goals.{in-Refused, in-Other}

pub slots-preserved : goal.slots-preserved
slots-preserved c =
    let name = c.args.name.now in
    let lies = block_slot c.args.inodes c.args.first c.args.block.now in
    let read = ap (read_slot c.args.inodes) (sym c.bytes_in-bytes.ensures.bytes) in
    let here = c.in-Some.ensures.some in
    let Nothing : Type 0 = number_under c.in-Some.pattern (lies c.slots.slot) ≡ Ok None in (
      one_more lies name c.args.first c.slots.slot c.slots.invariant.0 (λ number is. elim c.match-compare.branch [
        | in-Refused w ↦ refused_none name (lies c.slots.slot) Range (read ∙ w.in-Refused.ensures.probe) number is
        | in-Other w ↦ (let none : Nothing = ap (number_under c.in-Some.pattern) read ∙ w.in-Other.ensures.probe in
            no_number number (sym none ∙ ap (λ (n : List ℕ). number_under n (lies c.slots.slot)) here ∙ is))
      ]),
      (λ is_valid. elim c.match-compare.branch [
        | in-Refused w ↦ (let clash : false ≡ true = sym w.is_valid-is ∙ is_valid in cc)
        | in-Other w ↦
            one_valid lies c.args.first c.slots.slot (c.slots.invariant.1 (sym w.is_valid-is ∙ is_valid))
            (let none : Nothing = ap (number_under c.in-Some.pattern) read ∙ w.in-Other.ensures.probe in under_ok c.in-Some.pattern (lies c.slots.slot) None none)
      ]),
      (let was = c.slots.invariant.2 in let one = c.compare.ensures.one in omega (arith, was, one)),
    )

pub returns-in-None-clause-found : goal.returns-in-None-clause-found
returns-in-None-clause-found c = λ slot number low less is.
    c.in-None.ensures.none c.args.inodes number
    (take SLOT_BYTES (drop (SLOT_BYTES * (slot - c.args.first)) c.args.block.now))
    (part-length SLOT_BYTES (SLOT_BYTES * (slot - c.args.first)) c.args.block.now
    (let all = c.requires.len in omega (arith, low, less, all))) is
