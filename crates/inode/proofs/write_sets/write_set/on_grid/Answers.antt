use Rattle.std.proofs.Common.{rules, ◌≡◌, ap, ◌∙◌, filter}
use Rattle.std.specs.List.{each_same}
use Rattle.std.proofs.lemmas.Fn.{filter_same}
use Rattle.objects.specs.Object.{ObjectBytes}
use Rattle.layout_records.specs.OnGrid.{is_on_grid}
use Rattle.inode.proofs.write_sets.write_set.on_grid.Goals as goal

pub returns : goal.returns
returns c =
    let same : c.in_ok-kept.kept.items ≡ c.args.objects.now.items = each_same _ _ c.in_ok-kept.ensures.cases.0 in
    filter_same _ (λ (object : ObjectBytes). is_on_grid c.args.geometry.now object.addr) _
    (λ x b f r. search rules) _ _ c.retain.ensures.filtered
    ∙ ap (filter (λ (object : ObjectBytes). is_on_grid c.args.geometry.now object.addr)) same
