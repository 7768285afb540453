-- The first ancestors of a directory, and numbers of a range of which one passes a test.
use Rattle.std.proofs.Common.{◌≡◌, ℕ, zero, suc, ◌+◌, ◌-◌, ◌<◌, ◌≤◌, sym, ap, ◌∙◌, refl, Bool, true, false, ◌||◌}
use Rattle.std.proofs.Common.{arith, rules, nat_eq}
use Rattle.std.specs.List.{list_any, range_with_len}
use Rattle.nfs_spec.specs.Model.Names.{ancestor, parent_in}
use Rattle.nfs_spec.specs.Model.Tree.{Tree, node_at}

-- one step more leads to the parent of where the others lead
pub next_ancestor : (tree : Tree) (steps number : ℕ)
    → ancestor tree (steps + 1) number ≡ parent_in (node_at tree (ancestor tree steps number))
next_ancestor tree zero number = refl
next_ancestor tree (suc steps) number =
    let further : suc steps + 1 ≡ suc (steps + 1) = omega arith in
    ap (λ n. ancestor tree n number) further
    ∙ next_ancestor tree steps (parent_in (node_at tree number))

-- what is its own parent is every further ancestor
pub stays : (tree : Tree) (number steps at more : ℕ) → ancestor tree steps number ≡ at
    → parent_in (node_at tree at) ≡ at → ancestor tree (steps + more) number ≡ at
stays tree number steps at zero here own =
    let same : steps + 0 ≡ steps = omega arith in ap (λ n. ancestor tree n number) same ∙ here
stays tree number steps at (suc more) here own =
    let further : steps + suc more ≡ steps + more + 1 = omega arith in
    ap (λ n. ancestor tree n number) further
    ∙ next_ancestor tree (steps + more) number
    ∙ ap (λ n. parent_in (node_at tree n)) (stays tree number steps at more here own)
    ∙ own

module _ (test : ℕ → Bool) where
  -- some number from one on and below an end passes
  abbrev pub any_in : ℕ → ℕ → Bool
  any_in from end = list_any test (range_with_len from (end - from))

  split : (from end : ℕ) → from < end → any_in from end ≡ (test from || any_in (from + 1) end)
  split from end below =
      let count : end - from ≡ suc (end - (from + 1)) = omega (arith, below) in
      ap (λ n. list_any test (range_with_len from n)) count

  pub passes : (from end : ℕ) → from < end → test from ≡ true → any_in from end ≡ true
  passes from end below is = split from end below ∙ ap (λ b. b || any_in (from + 1) end) is

  pub fails : (from end : ℕ) → from < end → test from ≡ false → any_in from end ≡ any_in (from + 1) end
  fails from end below is = split from end below ∙ ap (λ b. b || any_in (from + 1) end) is

  pub none_behind : (from end : ℕ) → end ≤ from → any_in from end ≡ false
  none_behind from end order =
      let count : end - from ≡ 0 = omega (arith, order) in
      ap (λ n. list_any test (range_with_len from n)) count

  none_counted : (from count : ℕ) → ((more : ℕ) → test (from + more) ≡ false)
      → list_any test (range_with_len from count) ≡ false
  none_counted from zero each = refl
  none_counted from (suc count) each =
      let here : from + 0 ≡ from = omega arith in
      ap (λ b. b || list_any test (range_with_len (from + 1) count)) (ap test (sym here) ∙ each 0)
      ∙ none_counted (from + 1) count (λ more.
      let further : from + 1 + more ≡ from + suc more = omega arith in
      ap test further ∙ each (suc more))

  pub none_passes : (from end : ℕ) → ((more : ℕ) → test (from + more) ≡ false) → any_in from end ≡ false
  none_passes from end each = none_counted from (end - from) each

pub other : (a b : ℕ) → (a ≡ b → ⊥) → nat_eq a b ≡ false
other a b different = search rules
