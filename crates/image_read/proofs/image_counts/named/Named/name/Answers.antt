use Rattle.std.proofs.Common.{◌≡◌, ◌<◌, ◌≤◌, ◌+◌, List, [], ◌∷◌, ◌++◌, ℕ, get_or, length, refl, sym, subst, arith}
use Rattle.std.proofs.lemmas.List.{get_or_read_under}
use Rattle.std.proofs.Math.ListN.{set}
use Rattle.base.specs.declared.TheConstants.{MOST_LINKS}
use Rattle.image_read.specs.ImageCounts.Tally.{AreCounts}
use Rattle.image_read.proofs.ImageCountsLemmas.Counted.{one_named}
use Rattle.image_read.proofs.image_counts.named.Named.name.Goals as goal

pub returns-then-index-le-MOST_LINKS-clause-named :
    goal.returns-then-index-le-MOST_LINKS-clause-named
returns-then-index-le-MOST_LINKS-clause-named c = λ met are.
    let counts = c.self.inside.counts.items in
    let n = c.args.number in
    let less : n < length counts = subst (λ (o : List ℕ). n < length o) (sym c.self.view_is) c.requires in
    let read : c.index.result.now ≡ get_or counts n 0 =
    get_or_read_under counts n (length counts) c.index.result.now 0 c.index.ensures less refl in
    let write : c.index_mut.result.now ≡ get_or counts n 0 =
    get_or_read_under counts n (length counts) c.index_mut.result.now 0 c.index_mut.ensures.value less refl in
    let few : get_or counts n 0 ≤ MOST_LINKS = (let test = c.if-index-le-MOST_LINKS.true in omega (arith, test, read)) in
    subst (λ k. AreCounts (met ++ n ∷ []) (set counts n (k + 1))) (sym write)
    (one_named counts met n less (subst (AreCounts met) (sym c.self.view_is) are) few)
