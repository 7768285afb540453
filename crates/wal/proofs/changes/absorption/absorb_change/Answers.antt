use Rattle.std.proofs.Common.{◌+◌, ℕ, List, ap, ◌∙◌, arith, subst, sym}
use Rattle.std.proofs.lemmas.Bool.{le-ltb}
use Rattle.wal.specs.Changes.Index.{IsIndex, numbers}
use Rattle.wal.proofs.ChangesLemmas.AbsorbingChanges.{has_is, absorbed_behind, absorbed_there, numbers-replaced}
use Rattle.wal.proofs.changes.absorption.absorb_change.Goals as goal

pub track-requires-clause-has_space : goal.track-requires-clause-has_space
track-requires-clause-has_space c =
    (c.requires.has_space (sym (has_is c.args.index.now.start c.args.list.now.items c.args.index.now.newest.items
    c.args.index.now.behind.items c.args.block c.args.preceding c.name_of-name.result c.requires.index c.requires.preceding
    c.name_of-name.ensures)
    ∙ le-ltb (c.args.index.now.start + c.args.preceding) c.name_of-name.result (omega (arith, c.if-index-preceding.false)))).1

pub track-requires-clause-position : goal.track-requires-clause-position
track-requires-clause-position c =
    (c.requires.has_space (sym (has_is c.args.index.now.start c.args.list.now.items c.args.index.now.newest.items
    c.args.index.now.behind.items c.args.block c.args.preceding c.name_of-name.result c.requires.index c.requires.preceding
    c.name_of-name.ensures)
    ∙ le-ltb (c.args.index.now.start + c.args.preceding) c.name_of-name.result (omega (arith, c.if-index-preceding.false)))).2

pub push_back_reserved-requires : goal.push_back_reserved-requires
push_back_reserved-requires c =
    let all =
    c.requires.has_space (sym (has_is c.args.index.now.start c.args.list.now.items c.args.index.now.newest.items
    c.args.index.now.behind.items c.args.block c.args.preceding c.name_of-name.result c.requires.index c.requires.preceding
    c.name_of-name.ensures)
    ∙ le-ltb (c.args.index.now.start + c.args.preceding) c.name_of-name.result (omega (arith, c.if-index-preceding.false))) in
    let has_space = all.0 in
    omega (arith, has_space)

pub returns-then-index-preceding-clause-list : goal.returns-then-index-preceding-clause-list
returns-then-index-preceding-clause-list c =
    c.replace.ensures.list
    ∙ absorbed_there c.args.index.now.start c.args.list.now.items c.args.index.now.newest.items
    c.args.index.now.behind.items c.args.preceding c.args.place c.args.block c.args.content c.name_of-name.result
    c.requires.index c.requires.preceding c.name_of-name.ensures (omega (arith, c.if-index-preceding.true))

pub returns-then-index-preceding-clause-index : goal.returns-then-index-preceding-clause-index
returns-then-index-preceding-clause-index c =
    subst (λ (ns : List ℕ). IsIndex c.args.index.now.start ns c.args.index.now.newest.items
    c.args.index.now.behind.items)
    (sym (ap numbers c.replace.ensures.list ∙ numbers-replaced c.args.list.now.items _ c.args.content))
    c.requires.index

pub returns-else-index-preceding-clause-list : goal.returns-else-index-preceding-clause-list
returns-else-index-preceding-clause-list c =
    c.push_back_reserved.ensures.items
    ∙ absorbed_behind c.args.index.now.start c.args.list.now.items c.args.index.now.newest.items
    c.args.index.now.behind.items c.args.preceding c.args.place c.args.block c.args.content c.name_of-name.result
    c.requires.index c.requires.preceding c.name_of-name.ensures (omega (arith, c.if-index-preceding.false))
