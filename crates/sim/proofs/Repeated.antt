-- Events that come again and again.
use Rattle.std.proofs.Common.{arith, ◌≡◌, ◌∙◌, ℕ, zero, suc, ◌+◌, List, [], ◌∷◌, ◌++◌, ap, sym, append_assoc, append-nil}
use Rattle.store_promise.specs.declared.events.Event.{Event}
use Rattle.sim.specs.Events.{repeated}

-- once more is once more behind them, too
repeated_suc : (times : ℕ) (events : List Event) → repeated (suc times) events ≡ repeated times events ++ events
unfolding repeated
repeated_suc zero events = append-nil events
repeated_suc (suc times) events = ap (λ (more : List Event). events ++ more) (repeated_suc times events)
    ∙ sym (append_assoc events (repeated times events) events)

pub repeated_more : (times : ℕ) (events : List Event) → repeated (times + 1) events ≡ repeated times events ++ events
repeated_more times events =
    let next : times + 1 ≡ suc times = omega arith in
    ap (λ (n : ℕ). repeated n events) next ∙ repeated_suc times events

-- and none are none
pub repeated_none : (old events : List Event) → old ++ repeated zero events ≡ old
unfolding repeated
repeated_none old events = append-nil old

-- two events more, pushed one by one
pub two_more : (items old : List Event) (times : ℕ) (a b : Event) → items ≡ old ++ repeated times (a ∷ b ∷ [])
    → items ++ a ∷ [] ++ b ∷ [] ≡ old ++ repeated (times + 1) (a ∷ b ∷ [])
two_more items old times a b is = ap (λ (leading : List Event). leading ++ a ∷ [] ++ b ∷ []) is
    ∙ append_assoc (old ++ repeated times (a ∷ b ∷ [])) (a ∷ []) (b ∷ [])
    ∙ append_assoc old (repeated times (a ∷ b ∷ [])) (a ∷ b ∷ [])
    ∙ ap (λ (more : List Event). old ++ more) (sym (repeated_more times (a ∷ b ∷ [])))

-- and three
pub three_more : (items old : List Event) (times : ℕ) (a b c : Event)
    → items ≡ old ++ repeated times (a ∷ b ∷ c ∷ [])
    → items ++ a ∷ [] ++ b ∷ [] ++ c ∷ [] ≡ old ++ repeated (times + 1) (a ∷ b ∷ c ∷ [])
three_more items old times a b c is = ap (λ (leading : List Event). leading ++ a ∷ [] ++ b ∷ [] ++ c ∷ []) is
    ∙ ap (λ (leading : List Event). leading ++ c ∷ [])
    (append_assoc (old ++ repeated times (a ∷ b ∷ c ∷ [])) (a ∷ []) (b ∷ []))
    ∙ append_assoc (old ++ repeated times (a ∷ b ∷ c ∷ [])) (a ∷ b ∷ []) (c ∷ [])
    ∙ append_assoc old (repeated times (a ∷ b ∷ c ∷ [])) (a ∷ b ∷ c ∷ [])
    ∙ ap (λ (more : List Event). old ++ more) (sym (repeated_more times (a ∷ b ∷ c ∷ [])))
