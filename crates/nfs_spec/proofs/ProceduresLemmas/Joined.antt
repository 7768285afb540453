-- On histories one after the other.
use Rattle.std.proofs.Common.{subst, refl, List, [], ◌∷◌, ◌++◌}
use Rattle.nfs_spec.specs.Model.Entry.{Entry}
use Rattle.nfs_spec.specs.Model.Tree.{Tree}
use Rattle.nfs_spec.specs.Procedures.After.{after}
use Rattle.nfs_spec.specs.Procedures.Step.{step}

pub join : (tree middle next : Tree) (first second : List Entry) → after tree first middle
    → after middle second next → after tree (first ++ second) next
join tree middle next [] second a b = subst (λ t. after t second next) a b
join tree middle next (entry ∷ first) second a b = (a.0, a.1, join a.0 middle next first second a.2 b)

-- one entry more
pub push : (tree middle next : Tree) (first : List Entry) (entry : Entry) → after tree first middle
    → step middle entry.ctx entry.call entry.reply next → after tree (first ++ entry ∷ []) next
push tree middle next first entry a b = join tree middle next first (entry ∷ []) a (next, b, refl)

pub split : (tree next : Tree) (first second : List Entry) → after tree (first ++ second) next
    → (middle : Tree) × after tree first middle × after middle second next
split tree next [] second a = (tree, refl, a)
split tree next (entry ∷ first) second a =
    let rest = split a.0 next first second a.2 in
    (rest.0, (a.0, a.1, rest.1), rest.2)
