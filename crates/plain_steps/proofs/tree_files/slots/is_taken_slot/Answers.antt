use Rattle.std.proofs.Common.{sym, ap, ◌∙◌, nat_eq}
use Rattle.std.specs.List.{list_any}
use Rattle.plain_tree.specs.Tree.Plain.{body_of}
use Rattle.nfs_spec.specs.Procedures.Places.{is_taken_slot}
use Rattle.plain_steps.proofs.Ranges.{any_slot}
use Rattle.plain_steps.proofs.tree_files.slots.is_taken_slot.Goals as goal

pub returns-in-Directory : goal.returns-in-Directory
returns-in-Directory c =
    c.has_slot.ensures ∙ any_slot c.args.slot c.as_slice.result.now
    ∙ ap (list_any (λ e. nat_eq e.1.slot c.args.slot)) c.as_slice.ensures
    ∙ ap (λ b. is_taken_slot (body_of b) c.args.slot) (sym c.in-Directory.is)
