use Rattle.std.proofs.Common.{set, ap, ◌∙◌}
use Rattle.objects.specs.declared.present.Present.{Present}
use Rattle.objects.proofs.Indexed.{position_is, position_within, renewed_at, renewed_nowhere}
use Rattle.objects.proofs.Residents.{is_of}
use Rattle.objects.proofs.blocks.renew_in.Goals as goal

pub returns-in_default : goal.returns-in_default
returns-in_default c = renewed_nowhere c.args.block c.args.content c.args.list.now c.in_default.ensures

pub returns : goal.returns
returns c =
    ap (λ (resident : Present). set c.args.list.now c.in-Some.i resident)
    c.renew.ensures
    ∙ renewed_at c.args.block c.args.content c.args.list.now c.in-Some.i c.index-list-i.result c.requires.once
    (position_within (is_of c.args.block) c.args.list.now c.in-Some.i c.in-Some.ensures)
    (position_is c.args.list.now c.args.block c.in-Some.i c.in-Some.ensures)
