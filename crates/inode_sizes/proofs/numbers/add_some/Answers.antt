use Rattle.std.proofs.Common.{rules, ap, ◌∙◌, ℕ, List, ◌++◌, filter}
use Rattle.std.proofs.lemmas.Fn.{filter_same}
use Rattle.inode_sizes.specs.Cut.{is_some}
use Rattle.inode_sizes.proofs.numbers.add_some.Goals as goal

pub returns : goal.returns
returns c =
    c.in_ok-extend_from_slice.ensures.items
    ∙ ap (λ (l : List ℕ). c.args.gone.now.items ++ l)
    (c.deref.ensures.value
    ∙ filter_same _ is_some _ (λ x b f r. search rules) _ _ c.retain.ensures.filtered
    ∙ ap (filter is_some) c.in_ok-some.ensures.items)
