-- What a change needs covers what it adds, so that the blocks reach where NOSPC isn't answered.
use Rattle.std.proofs.Common.{◌≡◌, ℕ, suc, ◌+◌, ◌-◌, ◌<◌, ◌≤◌, ap, ◌∙◌, refl, Bool, true, false, cond, T}
use Rattle.std.proofs.Common.{List, []}
use Rattle.std.proofs.Common.{◌∷◌, length, get_or, Option, Some, None, sum_by, arith}
use Rattle.std.proofs.lemmas.Bool.Decides.{nat_tests}
use Rattle.std.proofs.lemmas.List.Sums.{sum_by-cons}
use Rattle.std.specs.Cmp.{nat_cmp_total}
use Rattle.std.specs.FinMap.{FinMap, entries, entries_sorted, get, get-remove, is_sorted}
use Rattle.std.specs.FinMap.{nat_cmp-IsAntisymmetric}
use Rattle.std.specs.FinMap.{remove}
use Rattle.std.specs.Ordering.{eq_by_cmp, nat_cmp}
use Rattle.nfs_spec.specs.Model.Cost.{cost}
use Rattle.nfs_spec.specs.Model.Node.{Node}
use Rattle.nfs_spec.specs.Model.Tree.{Tree, cost_at, free, need, node_at, used}
use Rattle.nfs_spec.proofs.ProceduresLemmas.Parts.{part, sum_remove}
use Rattle.nfs_spec.proofs.ProceduresLemmas.Sums.{and_first, and_second, apart, below_at}
use Rattle.nfs_spec.specs.Procedures.Changes.{lacks_space}

-- where each item counts no more than in two other sums, neither does the whole
sum_within : {A : Type 0} (f g h : A → ℕ) (xs : List A) → ((x : A) → f x ≤ g x + h x)
    → sum_by f xs ≤ sum_by g xs + sum_by h xs
sum_within f g h [] each = omega arith
sum_within f g h (x ∷ xs) each =
    let first = each x in
    let rest = sum_within f g h xs each in
    omega (arith, first, rest, sum_by-cons f x xs, sum_by-cons g x xs, sum_by-cons h x xs)

sum_alike : {A : Type 0} (f g : A → ℕ) (xs : List A)
    → ((index : ℕ) (d : A) → index < length xs → f (get_or xs index d) ≡ g (get_or xs index d))
    → sum_by f xs ≡ sum_by g xs
sum_alike f g [] each = refl
sum_alike f g (x ∷ xs) each =
    let first = each 0 x (omega arith) in
    let rest = sum_alike f g xs (λ index d inside. each (suc index) d (omega (arith, inside))) in
    omega (arith, first, rest, sum_by-cons f x xs, sum_by-cons g x xs)

part_is : (k : ℕ) (o : Option Node) → part (λ dirent. cost dirent.1.body) k o ≡ cost_at o
part_is k None = refl
part_is k (Some node) = refl

other_stays : (b : Bool) (o : Option Node) → b ≡ false → cost_at (cond b None o) ≡ cost_at o
other_stays true o e = cc
other_stays false o e = refl

-- what keys that are all different lead to costs no more than all that a map has
covered : (es : List (ℕ × Node)) (nodes : FinMap nat_cmp Node) → T (is_sorted nat_cmp es)
    → sum_by (λ dirent. cost_at (get nodes dirent.0)) es ≤ sum_by (λ dirent. cost dirent.1.body) (entries nodes)
covered [] nodes sorted = omega arith
covered (e ∷ es) nodes sorted =
    let rest = covered es (remove nodes e.0) (and_second _ _ sorted) in
    let same = sum_alike (λ dirent. cost_at (get (remove nodes e.0) dirent.0)) (λ dirent. cost_at
    (get nodes dirent.0)) es
    (λ index d inside.
    let key = (get_or es index d).0 in
    ap cost_at (get-remove nat_cmp_total nodes e.0 key)
    ∙ other_stays (eq_by_cmp nat_cmp key e.0) (get nodes key)
    (apart e.0 key (below_at e.0 es d index inside (and_first _ _ sorted)) _ refl)) in
    let sum = sum_remove nat_cmp_total nat_cmp-IsAntisymmetric (λ dirent. cost dirent.1.body) nodes e.0 in
    let first = part_is e.0 (get nodes e.0) in
    omega (arith, rest, same, sum, first, sum_by-cons (λ dirent. cost_at (get nodes dirent.0)) e es)

more_or_less : (a b : ℕ) → a ≤ a - b + b
more_or_less a b = omega arith

-- A tree uses no more than the one before it and what the change needs.
pub used_within : (tree next : Tree) → used next ≤ used tree + need tree next
used_within tree next =
    let es = entries next.nodes in
    let both = sum_within (λ dirent. cost dirent.1.body)
    (λ dirent. cost dirent.1.body - cost_at (node_at tree dirent.0)) (λ dirent. cost_at (node_at tree dirent.0)) es
    (λ dirent. more_or_less (cost dirent.1.body) (cost_at (node_at tree dirent.0))) in
    let old = covered es tree.nodes (entries_sorted next.nodes) in
    omega (arith, both, old)

-- Where there is room for a change, the blocks reach.
pub space_after : (tree next : Tree) → used tree ≤ tree.geometry.data_blocks → lacks_space tree next ≡ false
    → used next ≤ tree.geometry.data_blocks
space_after tree next has_space enough =
    let within = used_within tree next in
    let reaches : need tree next ≤ free tree = grind (arith, nat_tests, enough) in
    omega (arith, within, reaches, has_space)
