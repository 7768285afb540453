-- Where many steps lead.
use Rattle.std.specs.Prelude.{◌≡◌, ℕ, zero, suc, ◌<◌, ◌≤◌, List, get_or, length}

-- the number that so many steps of a function lead to
unfoldable pub iterated : (ℕ → ℕ) → ℕ → ℕ → ℕ
iterated next zero number = number
iterated next (suc steps) number = iterated next steps (next number)

-- the number that stands in a list at a place, 0 past its end
abbrev pub in_list : List ℕ → ℕ → ℕ
in_list numbers index_within = get_or numbers index_within 0

-- where so many steps lead from each place of a list, if one leads to what stands there
abbrev pub AreIterated : ℕ → List ℕ → List ℕ → Type 0
AreIterated steps next furthest = (index_within : ℕ) → index_within < length next → in_list furthest index_within ≡ iterated (in_list next) steps index_within

-- where as many steps lead as the list is long, or more
abbrev pub AreFurthest : List ℕ → List ℕ → Type 0
AreFurthest next furthest = (steps : ℕ) × (length next ≤ steps) × AreIterated steps next furthest
