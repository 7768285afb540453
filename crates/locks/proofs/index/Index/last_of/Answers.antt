use Rattle.std.proofs.Common.{sym, ◌∙◌}
use Rattle.std.proofs.lemmas.Bool.{true≢false}
use Rattle.locks.specs.Index.{numbers}
use Rattle.locks.proofs.IndexLemmas.{is_last, is_none}
use Rattle.locks.proofs.index.Index.last_of.Goals as goal

pub returns-then-is_of : goal.returns-then-is_of
returns-then-is_of c =
    let of = c.is_of.ensures.0 c.if-is_of.true in
    is_last (numbers c.args.holds.now) c.args.self.now.last.items c.args.self.now.before.items c.args.block.0
    c.tracked-name.result c.requires c.tracked-name.ensures of.some of.within of.there

pub returns-else-is_of : goal.returns-else-is_of
returns-else-is_of c =
    is_none (numbers c.args.holds.now) c.args.self.now.last.items c.args.self.now.before.items c.args.block.0
    c.tracked-name.result c.requires c.tracked-name.ensures
    (λ some within there. true≢false (sym (c.is_of.ensures.1 (record { some = some; within = within; there = there }))
    ∙ c.if-is_of.false))
