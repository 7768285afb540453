use Rattle.std.proofs.Common.{◌≡◌, ◌<◌, [], refl, false, get_or, length, sym, subst, ◌∙◌, arith}
use Rattle.std.proofs.lemmas.List.{get_or_read_under}
use Rattle.image_read.specs.ImageCounts.Tally.{IsOwned, Owned}
use Rattle.image_read.proofs.ImageCountsLemmas.Counted.{less_set, met_again, met_first}
use Rattle.image_read.proofs.image_counts.owners.Owners.meet.Goals as goal

pub overflow_add-self : goal.overflow_add-self
overflow_add-self c =
    let has = c.self.inside.has.items in
    let n = c.args.number in
    let less : n < length has = subst (λ (o : Owned). n < length o.has) (sym c.self.view_is) c.requires in
    let read : get_or has n false ≡ false =
    sym (get_or_read_under has n (length has) c.index.result.now false c.index.ensures less refl) ∙ c.if-index.false in
    let more = less_set has c.self.inside.count c.self.inside.shared [] n less read c.self.invariant.0 in
    let most = more.1 in
    let small = c.self.invariant.1 in
    omega (arith, most, small)

pub returns-then-index-clause-met : goal.returns-then-index-clause-met
returns-then-index-clause-met c = λ met owned.
    let has = c.self.inside.has.items in
    let n = c.args.number in
    let less : n < length has = subst (λ (o : Owned). n < length o.has) (sym c.self.view_is) c.requires in
    met_again has c.self.inside.count c.self.inside.shared met n less
    (sym (get_or_read_under has n (length has) c.index.result.now false c.index.ensures less refl) ∙ c.if-index.true)
    (subst (IsOwned met) (sym c.self.view_is) owned)

pub returns-else-index-clause-met : goal.returns-else-index-clause-met
returns-else-index-clause-met c = λ met owned.
    let has = c.self.inside.has.items in
    let n = c.args.number in
    let less : n < length has = subst (λ (o : Owned). n < length o.has) (sym c.self.view_is) c.requires in
    met_first has c.self.inside.count c.self.inside.shared met n less
    (sym (get_or_read_under has n (length has) c.index.result.now false c.index.ensures less refl) ∙ c.if-index.false)
    (subst (IsOwned met) (sym c.self.view_is) owned)
