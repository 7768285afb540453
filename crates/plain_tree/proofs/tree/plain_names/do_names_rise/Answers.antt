use Rattle.std.proofs.Common.{rules, ◌≡◌, sym, subst, Bool, true, false, List, get_or, add-one, arith}
use Rattle.std.proofs.lemmas.List.Sorted.{answers_always}
use Rattle.std.specs.List.{IsAllAdjacentAnswer}
use Rattle.plain_tree.specs.Tree.Named.{are_sorted}
use Rattle.plain_tree.specs.declared.tree.plain_names.PlainDirent.{PlainDirent}
use Rattle.plain_tree.proofs.TreeLemmas.Rising.{falling, is_under, rising}
use Rattle.plain_tree.proofs.tree.plain_names.do_names_rise.Goals as goal

sorted_answer : (xs : List PlainDirent) (r : Bool) → IsAllAdjacentAnswer (λ x y b. b ≡ is_under x y) xs r
    → r ≡ are_sorted xs
sorted_answer xs true all =
    sym (rising xs (λ k below d.
    subst (λ i. is_under (get_or xs k d) (get_or xs i d) ≡ true) (add-one k) (sym (all k d (omega arith)))))
sorted_answer xs false (k, below, at) =
    sym (falling xs k (omega arith) (λ d.
    subst (λ i. is_under (get_or xs k d) (get_or xs i d) ≡ false) (add-one k) (sym (at d))))

pub returns : goal.returns
returns c =
    sorted_answer c.args.entries.now c.is_sorted_by.result
    (c.is_sorted_by.ensures.cases is_under (answers_always _ _ _ (λ f a r f' called. search rules)))
