use Rattle.std.proofs.Common.{◌≡◌, length, All, sym, ap, subst, ◌∙◌}
use Rattle.std.proofs.lemmas.List.{take_all}
use Rattle.std.proofs.lemmas.List.Elements.{All-more}
use Rattle.objects.specs.Object.{ObjectBytes}
use Rattle.txn_groups.proofs.group.are_sized.Goals as goal

pub loop-object-preserved : goal.loop-object-preserved
loop-object-preserved c =
    All-more (λ (object : ObjectBytes). length object.bytes ≡ object.addr.len) c.args.objects.now
    c.loop-object.object-index c.object-item.result c.loop-object-test.true c.loop-object.invariant
    (subst (λ (object : ObjectBytes). length object.bytes ≡ object.addr.len) c.object-item.is
    (sym (ap length c.bytes.ensures.bytes) ∙ c.bytes.ensures.len))

pub returns : goal.returns
returns c = subst (All (λ (object : ObjectBytes). length object.bytes ≡ object.addr.len))
    (take_all c.loop-object.object-index c.args.objects.now c.loop-object-test.false) c.loop-object.invariant
