-- Each tree of a life is reached, with its births.
use Rattle.std.proofs.Common.{◌≡◌, ℕ, zero, suc, ◌+◌, ◌≤◌, sym, ap, subst, ◌∙◌, refl, arith}
use Rattle.std.proofs.Common.{List, [], ◌∷◌, length, take, slice_get, Some}
use Rattle.std.proofs.lemmas.List.{length-take-le}
use Rattle.nfs_spec.specs.Model.Entry.{Entry}
use Rattle.nfs_spec.specs.Model.Tree.{Tree}
use Rattle.nfs_spec.specs.Procedures.After.{after}
use Rattle.nfs_spec.proofs.LivesLemmas.Order.{one_before}
use Rattle.nfs_spec.specs.Lives.Lives.{Birth, CountedRun, Crashed, First, HasTree, IsLife, More}

abbrev pub Known : List CountedRun → ℕ → ℕ → Tree → Type 0
Known life at place tree = (births : ℕ → Birth) × HasTree life at place tree births

-- the rest of a run's entries lead on
walk : (life : List CountedRun) (at : ℕ) (run : CountedRun) → slice_get life at ≡ Some run
    → (rest : List Entry) (place : ℕ) (tree next : Tree)
    → ((index : ℕ) (e : Entry) → slice_get rest index ≡ Some e → slice_get run.entries (place + index) ≡ Some e)
    → Known life at place tree → after tree rest next → Known life at (place + length rest) next
walk life at run there [] place tree next are known transition =
    subst (λ p. Known life at p next) (omega arith)
    (subst (Known life at place) (sym transition) known)
walk life at run there (entry ∷ rest) place tree next are known transition =
    let here : slice_get run.entries place ≡ Some entry =
    ap (slice_get run.entries) (omega arith) ∙ are 0 entry refl in
    let then : Known life at (suc place) transition.0 =
    (_, More known.1 run entry transition.0 there here transition.1) in
    subst (λ p. Known life at p next) (omega arith)
    (walk life at run there rest (suc place) transition.0 next
    (λ index e is. ap (slice_get run.entries) (omega arith) ∙ are (suc index) e is) then transition.2)

-- what is taken is there
taken : (xs : List Entry) (count index : ℕ) (e : Entry) → slice_get (take count xs) index ≡ Some e
    → slice_get xs index ≡ Some e
taken xs zero index e is = cc
taken [] (suc count) index e is = is
taken (x ∷ xs) (suc count) zero e is = is
taken (x ∷ xs) (suc count) (suc index) e is = taken xs count index e is

-- the trees behind a run's first entries, where its own is known
behind : (life : List CountedRun) (at : ℕ) (run : CountedRun) → slice_get life at ≡ Some run
    → Known life at 0 run.tree → (place : ℕ) (tree : Tree) → place ≤ length run.entries
    → after run.tree (take place run.entries) tree → Known life at place tree
behind life at run there known place tree few transition =
    let count = length-take-le place run.entries few in
    subst (λ p. Known life at p tree) (omega (arith, count))
    (walk life at run there (take place run.entries) 0 run.tree tree
    (λ index e is. ap (slice_get run.entries) (omega arith) ∙ taken run.entries place index e is) known transition)

first : (life : List CountedRun) → IsLife life → (at : ℕ) (run : CountedRun) → slice_get life at ≡ Some run
    → Known life at 0 run.tree
first life is zero run there = (_, First run there)
first life is (suc at) run there =
    let before = one_before life at run there in
    let left = is.left at before.0 run before.1 there in
    let known = behind life at before.0 before.1 (first life is at before.0 before.1) left.kept run.tree left.few
    left.prefix in
    (known.0, Crashed known.1 run there refl)

pub reached : (life : List CountedRun) (at place : ℕ) (run : CountedRun) (tree : Tree)
    → IsLife life → slice_get life at ≡ Some run → place ≤ length run.entries
    → after run.tree (take place run.entries) tree → Known life at place tree
reached life at place run tree is there few transition =
    behind life at run there (first life is at run there) place tree few transition
