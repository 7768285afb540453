-- What was told before an event stays so.
use Rattle.std.proofs.Common.{◌≡◌, ℕ, zero, suc, ◌≤◌, refl, ap, arith, List, [], ◌∷◌, ◌++◌, Option, length}
use Rattle.std.proofs.Common.{take}
use Rattle.std.specs.List.{zip}
use Rattle.store_promise.specs.declared.events.Event.{Event}
use Rattle.store_promise.specs.declared.events.Step.{Step}
use Rattle.store_promise.specs.Schedule.{Schedule, at_first, state_along, state_before}

same_pairs : (events : List Event) (steps more : List (Option Step)) (index : ℕ) → index ≤ length steps
    → take index (zip events (steps ++ more)) ≡ take index (zip events steps)
same_pairs [] steps more index within = refl
same_pairs (event ∷ events) steps more zero within = refl
same_pairs (event ∷ events) [] more (suc index) within = absurd (omega (arith, within))
same_pairs (event ∷ events) (step ∷ steps) more (suc index) within =
    ap (λ (pairs : List (Event × Option Step)). (event, step) ∷ pairs)
    (same_pairs events steps more index (omega (arith, within)))

pub state_stays : (events : Schedule) (steps more : List (Option Step)) (index : ℕ) → index ≤ length steps
    → state_before events (steps ++ more) index ≡ state_before events steps index
state_stays events steps more index within =
    ap (λ (pairs : List (Event × Option Step)). state_along at_first pairs)
    (same_pairs events steps more index within)
