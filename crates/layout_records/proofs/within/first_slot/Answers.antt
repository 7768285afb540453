use Rattle.std.proofs.Common.{rules, ◌≡◌, ◌-◌, ◌++◌, ◌∙◌, replicate}
use Rattle.base.specs.declared.TheConstants.{BLOCK_BYTES}
use Rattle.layout.specs.declared.slot.TheConstants.{SLOT_BYTES}
use Rattle.layout_records.proofs.within.first_slot.Goals as goal

pub returns-clause-bytes : goal.returns-clause-bytes
returns-clause-bytes c =
    let zeros : c.deref.result.now ≡ replicate (BLOCK_BYTES - SLOT_BYTES) 0 = search rules in
    c.in_ok-extend_from_slice.ensures.items ∙ (λ i. c.in_ok-bytes.ensures.bytes i ++ zeros i)
