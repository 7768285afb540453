use Rattle.std.proofs.Common.{rules, Bool, ◌||◌, not, nat_eq}
use Rattle.std.specs.Prelude.{is_none}
use Rattle.std.proofs.lemmas.Fn.{filter_same}
use Rattle.objects.specs.declared.present.Present.{Present}
use Rattle.objects.proofs.blocks.Blocks.unpin.Goals as goal

pub returns : goal.returns
returns c =
    let keep : Present → Bool = λ (resident : Present). not (nat_eq resident.block.0 c.args.block.0) || is_none resident.content in
    filter_same _ keep _ (λ x b f r. search rules) _ _ c.keep_only.ensures
