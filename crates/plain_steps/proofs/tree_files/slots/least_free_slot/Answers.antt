use Rattle.std.proofs.Common.{sym, ap, ◌∙◌, not, ◌≤◌, rules}
use Rattle.plain_tree.specs.Tree.Plain.{body_of}
use Rattle.nfs_spec.specs.Procedures.Places.{is_taken_slot}
use Rattle.plain_steps.proofs.Ranges.{fails, none_behind, passes}
use Rattle.plain_steps.proofs.tree_files.slots.least_free_slot.Goals as goal

pub returns-then-not-is_taken_slot : goal.returns-then-not-is_taken_slot
returns-then-not-is_taken_slot c =
    sym (c.slots.invariant
    ∙ passes (λ s. not (is_taken_slot (body_of c.args.body.now) s)) c.slots.slot 33024 c.slots-test.true
    (ap not (sym c.is_taken_slot.ensures) ∙ ap not c.if-not-is_taken_slot.true))

pub slots-preserved : goal.slots-preserved
slots-preserved c =
    c.slots.invariant
    ∙ fails (λ s. not (is_taken_slot (body_of c.args.body.now) s)) c.slots.slot 33024 c.slots-test.true
    (ap not (sym c.is_taken_slot.ensures) ∙ ap not c.if-not-is_taken_slot.false)

pub returns : goal.returns
returns c =
    let end : 33024 ≤ c.slots.slot = search rules in
    sym (c.slots.invariant
    ∙ none_behind (λ s. not (is_taken_slot (body_of c.args.body.now) s)) c.slots.slot 33024 end)
