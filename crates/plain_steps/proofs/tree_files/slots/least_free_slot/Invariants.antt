use Rattle.std.proofs.Common.{◌≡◌, ◌-◌, not}
use Rattle.plain_tree.specs.Tree.Plain.{body_of}
use Rattle.nfs_spec.specs.Procedures.Places.{is_taken_slot, least_free_slot}
use Rattle.plain_steps.proofs.Ranges.{first_in}
use Rattle.plain_steps.proofs.tree_files.slots.least_free_slot.Given as goal

abbrev pub invariant-slots : goal.invariant-slots
invariant-slots l =
    least_free_slot (body_of l.body) ≡ first_in (λ slot. not (is_taken_slot (body_of l.body) slot)) l.slot 33024

abbrev pub decreases-slots : goal.decreases-slots
decreases-slots l = 33024 - l.slot
