use Rattle.std.proofs.Common.{sym, ap, ◌∙◌, map, true, false, position}
use Rattle.std.specs.Ordering.{is_le}
use Rattle.plain_tree.specs.Tree.Named.{plain_dirent_of}
use Rattle.plain_tree.proofs.TreeLemmas.Placed.{eq, order, put_last, put_placed}
use Rattle.plain_tree.proofs.tree.plain_names.put_dirent.Goals as goal

pub returns-then-is_same-clause-ok : goal.returns-then-is_same-clause-ok
returns-then-is_same-clause-ok c =
    put_placed c.args.entries.now.items c.in-Some.index c.args.dirent c.index.result.now true
    ((λ i. position (λ e. is_le (order (sym c.as_slice.ensures i) e.name)) (sym c.deref.ensures.value i))
    ∙ sym c.position_from.ensures ∙ c.in-Some.is) c.index.ensures
    (sym c.if-is_same.true ∙ c.is_same.ensures
    ∙ (λ i. eq (c.as_slice-in-Some.ensures i) (c.as_slice-in-Some-2.ensures i)))

pub returns-in_ok-insert-in-Some-clause-ok : goal.returns-in_ok-insert-in-Some-clause-ok
returns-in_ok-insert-in-Some-clause-ok c =
    ap (map plain_dirent_of) c.in_ok-insert-in-Some.ensures.items
    ∙ put_placed c.args.entries.now.items c.in-Some.index c.args.dirent c.index.result.now false
    ((λ i. position (λ e. is_le (order (sym c.as_slice.ensures i) e.name)) (sym c.deref.ensures.value i))
    ∙ sym c.position_from.ensures ∙ c.in-Some.is) c.index.ensures
    (sym c.if-is_same.false ∙ c.is_same.ensures
    ∙ (λ i. eq (c.as_slice-in-Some.ensures i) (c.as_slice-in-Some-2.ensures i)))

pub returns-in_ok-push-in-None-clause-ok : goal.returns-in_ok-push-in-None-clause-ok
returns-in_ok-push-in-None-clause-ok c =
    ap (map plain_dirent_of) c.in_ok-push-in-None.ensures.items
    ∙ put_last c.args.entries.now.items c.args.dirent
    ((λ i. position (λ e. is_le (order (sym c.as_slice.ensures i) e.name)) (sym c.deref.ensures.value i))
    ∙ sym c.position_from.ensures ∙ c.in-None.is)
