use Rattle.std.proofs.Common.{sym, subst}
use Rattle.nfs_spec.specs.Model.Format.{format_tree}
use Rattle.layout.specs.Stands.{geometry_of}
use Rattle.store_promise.specs.GoodImage.{IsGoodImage}
use Rattle.store_promise.proofs.fresh.a_made_image_may_run.Goals as goal

pub returns : goal.returns
returns c = λ before later g moment events lawful now sound rest made. record {
  model = tt;
  rest = made.rest rest;
  good = λ image crash. subst (λ size. IsGoodImage size image (format_tree (geometry_of g) moment) 0)
      (sym made.making.size)
      (c.a_fresh_image_is_good.ensures g moment image lawful now (made.fresh image crash));
  sound = sound;
}
