use Rattle.std.proofs.Common.{ap, ◌∙◌, ℕ, List, ◌++◌}
use Rattle.bitmap.proofs.inodes.numbers.add_inner.Goals as goal

pub returns-clause-ok : goal.returns-clause-ok
returns-clause-ok c = λ blocks tree over.
    c.in_ok-extend_from_slice.ensures.items
    ∙ ap (λ (l : List ℕ). c.args.numbers.now.items ++ l)
    (c.deref.ensures.value ∙ c.in_ok-named.ensures.ok blocks tree over)
