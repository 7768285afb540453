use Rattle.std.proofs.Common.{rules, ◌≡◌, ◌⊎◌, sym, subst, inl, inr, IfErr, Err, alloc_error}
use Rattle.base.specs.declared.TheConstants.{SLOTS_PER_BLOCK}
use Rattle.image_read.specs.declared.parts.fault.PartFault.TheVariants.{NoMemory, Range}
use Rattle.image_read.specs.Files.Slots.{AreSlots}
use Rattle.image_read.proofs.FilesLemmas.SlotBlocks.{none_pushed, one_pushed, refused_there}
use Rattle.image_read.proofs.files.slots.push_slots.Goals as goal

pub places-init : goal.places-init
places-init c = none_pushed c.args.inodes c.args.block.now c.args.slots.now.items

pub returns-in_err-push_slot-clause-refused : goal.returns-in_err-push_slot-clause-refused
returns-in_err-push_slot-clause-refused c =
    let fault = c.in_err-push_slot.field-0.0 in
    let is : c.from_residual.result ≡ Err fault = search rules in
    let refused : (fault ≡ NoMemory alloc_error)
    ⊎ ((fault ≡ Range) × (AreSlots c.args.inodes c.args.block.now SLOTS_PER_BLOCK → ⊥)) =
    elim c.in_err-push_slot.ensures.refused [
      | inl memory ↦ inl memory
      | inr refused ↦ inr (
        refused.0,
        refused_there c.args.inodes c.args.block.now SLOTS_PER_BLOCK c.places.index_within
            c.bytes_in.result.now c.places-test.true c.bytes_in.ensures.bytes refused.1,
      )
    ] in
    subst (λ r. IfErr r (λ one. (one ≡ NoMemory alloc_error)
    ⊎ ((one ≡ Range) × (AreSlots c.args.inodes c.args.block.now SLOTS_PER_BLOCK → ⊥)))) (sym is) refused

pub places-preserved : goal.places-preserved
places-preserved c =
    one_pushed c.args.inodes c.args.block.now c.places.index_within c.args.slots.now.items c.places.slots.items
    c.push_slot.new.slots.items c.bytes_in.result.now c.places.invariant c.bytes_in.ensures.bytes
    c.in_ok-push_slot.ensures.pushed
