use Rattle.std.proofs.Common.{◌+◌, sym, ap, ◌∙◌, drop, position, nat_eq, true, false, is_some}
use Rattle.plain_tree.specs.declared.tree.tree.NumberedNode.{NumberedNode}
use Rattle.plain_steps.proofs.Numbered.{count_known, got_none, is_got}
use Rattle.plain_steps.proofs.tree_files.space.count_with.Goals as goal

pub returns-in-Some-clause-counted : goal.returns-in-Some-clause-counted
returns-in-Some-clause-counted c =
    let file : NumberedNode = c.index-files-index.result in
    let rest = drop (c.args.index + 1) c.args.files.now in
    let found = ap (position (λ n. nat_eq file.number n.number)) (sym c.behind.ensures)
    ∙ sym c.position_of.ensures ∙ c.in-Some.is in
    c.requires.counted
    ∙ sym (count_known c.args.files.now c.args.index file c.requires.inside c.index-files-index.is true
    (is_got rest file.number c.in-Some.field-0 found))

pub returns-in-None-clause-counted : goal.returns-in-None-clause-counted
returns-in-None-clause-counted c =
    let file : NumberedNode = c.index-files-index.result in
    let rest = drop (c.args.index + 1) c.args.files.now in
    let absent = ap (position (λ n. nat_eq file.number n.number)) (sym c.behind.ensures)
    ∙ sym c.position_of.ensures ∙ c.in-None.is in
    ap (λ n. n + 1) c.requires.counted
    ∙ sym (count_known c.args.files.now c.args.index file c.requires.inside c.index-files-index.is false
    (ap is_some (got_none rest file.number absent)))
