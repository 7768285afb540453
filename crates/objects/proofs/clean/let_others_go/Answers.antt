use Rattle.std.proofs.Common.{rules, ◌||◌, Bool}
use Rattle.std.proofs.lemmas.Fn.{filter_same}
use Rattle.objects.specs.Pins.{count_in, is_wanted}
use Rattle.objects.specs.Recent.{is_tracked}
use Rattle.objects.specs.declared.present.Present.{Present}
use Rattle.objects.proofs.clean.let_others_go.Goals as goal

pub returns : goal.returns
returns c =
    let keep : Present → Bool = λ (resident : Present).
    is_tracked c.args.recent.now resident.block || is_wanted (count_in c.args.pins.now.entries) resident in
    filter_same _ keep _ (λ x b f r. search rules) _ _ c.keep_only.ensures
