use Rattle.std.proofs.Common.{◌∙◌, ◌++◌, ◌∷◌, [], List, ap, append_assoc, sym}
use Rattle.std.specs.Vec.Iter.{into_iter_items}
use Rattle.disk.specs.Device.{Content}
use Rattle.disk.specs.declared.block.BlockNo.{BlockNo}
use Rattle.objects.specs.Pins.{Residents}
use Rattle.objects.specs.Present.{renewed}
use Rattle.objects.specs.declared.present.Present.{Present}
use Rattle.txn.proofs.Renewing.{one_more}
use Rattle.txn.proofs.refresh.refresh.Goals as goal

pub loop-block-preserved : goal.loop-block-preserved
loop-block-preserved c =
    let first : Residents = c.args.present.now in
    let old = c.loop-block.invariant in
    let e = c.in-Some.ensures.steps.0 in
    let x : BlockNo × Content = (c.in-Some.block, c.in-Some.content) in
    let rest : List (BlockNo × Content) = into_iter_items c.next.new.self in
    record {
      group = old.group ∙ ap (λ (xs : List (BlockNo × Content)). c.loop-block.yielded ++ xs) e
          ∙ sym (append_assoc c.loop-block.yielded (x ∷ []) rest);
      renewed = c.renew.ensures
          ∙ ap (λ (r : Residents). record r { blocks = renewed r.blocks c.in-Some.block c.in-Some.content })
          old.renewed
          ∙ ap (λ (blocks : List Present). record first { blocks = blocks })
          (sym (one_more first.blocks c.loop-block.yielded c.in-Some.block c.in-Some.content));
    }
