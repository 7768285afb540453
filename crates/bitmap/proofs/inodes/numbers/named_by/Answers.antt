use Rattle.std.proofs.Common.{rules, sym, ap, ◌∙◌, ◌≡◌, [], filter, nat_eq, true}
use Rattle.std.proofs.lemmas.Fn.{filter_same}
use Rattle.layout.specs.Parts.{content_in}
use Rattle.layout.proofs.NumbersIn.{none_left}
use Rattle.bitmap.specs.Inodes.Frees.{is_some}
use Rattle.bitmap.proofs.inodes.numbers.named_by.Goals as goal

pub returns-then-pointer-eq0-clause-ok : goal.returns-then-pointer-eq0-clause-ok
returns-then-pointer-eq0-clause-ok c = λ blocks tree over.
    let none : nat_eq c.args.pointer 0 ≡ true = (let h = c.if-pointer-eq0.true in search rules) in
    let empty : c.new.result.items ≡ [] = search rules in
    empty ∙ sym (none_left (content_in c.args.snap.now.geometry blocks) c.args.pointer none)

pub returns-clause-ok : goal.returns-clause-ok
returns-clause-ok c = λ blocks tree over.
    filter_same _ is_some _ (λ x b f r. search rules) _ _ c.retain.ensures.filtered
    ∙ ap (filter is_some) (c.in_ok-named.ensures.ok blocks tree over)
