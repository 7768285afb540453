use Rattle.std.proofs.Common.{◌++◌, ◌∷◌, [], ap, cond, subst, sym, ◌∙◌}
use Rattle.std.proofs.lemmas.List.{append-nil}
use Rattle.image_read.specs.ImageCounts.Tally.{AreCounts}
use Rattle.image_read.proofs.counts.name_counts.name_if.Goals as goal

pub returns-then-is-clause-named : goal.returns-then-is-clause-named
returns-then-is-clause-named c = λ met counts.
    subst (λ l. AreCounts l c.name.new.self)
    (sym (ap (λ b. met ++ cond b (c.args.number ∷ []) []) c.if-is.true)) (c.name.ensures.named met counts)

pub returns-else-is-clause-named : goal.returns-else-is-clause-named
returns-else-is-clause-named c = λ met counts.
    subst (λ l. AreCounts l c.args.named.now)
    (sym (ap (λ b. met ++ cond b (c.args.number ∷ []) []) c.if-is.false ∙ append-nil met)) counts
