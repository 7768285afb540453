use Rattle.std.proofs.Common.{Option, ◌∙◌, ap}
use Rattle.std.proofs.lemmas.Result.{IfOk-weaker}
use Rattle.objects.specs.Present.{bytes_in, content_in}
use Rattle.objects.specs.declared.present.Present.{Present}
use Rattle.objects.proofs.Indexed.{find_at, find_nowhere}
use Rattle.objects.proofs.Residents.{is_of}
use Rattle.objects.proofs.blocks.bytes_in.Goals as goal

pub returns-in_default-clause-bytes : goal.returns-in_default-clause-bytes
returns-in_default-clause-bytes c =
    ap (λ (found : Option Present). bytes_in (content_in found) c.args.addr.offset c.args.addr.len)
    (find_nowhere (is_of c.args.addr.block) c.args.list.now c.in_default.ensures)

pub returns-clause-bytes : goal.returns-clause-bytes
returns-clause-bytes c =
    IfOk-weaker c.bytes_of.result _ _ (λ found is.
    is
    ∙ ap (λ (resident : Option Present). bytes_in (content_in resident) c.args.addr.offset c.args.addr.len)
    (find_at (is_of c.args.addr.block) c.args.list.now c.in-Some.i c.index-list-i.result c.in-Some.ensures))
    c.bytes_of.ensures.bytes
