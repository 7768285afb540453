-- Lemma: a transaction that is out alone is out.
use Rattle.std.proofs.Common.{◌≡◌, ℕ, ◌||◌, nat_eq, List, [], ◌∷◌, ap, false, ◌∙◌}
use Rattle.std.specs.List.{list_any}
use Rattle.std.proofs.lemmas.Bool.{eq-eqb}
use Rattle.std.proofs.Common.{refl}
use Rattle.txn_law.specs.Core.{CoreState, IsOut}

pub single_is_out : (core : CoreState) (tx : ℕ) → core.out ≡ tx ∷ [] → IsOut core tx
single_is_out core tx exclusive_hold =
    ap (λ (out : List ℕ). list_any (λ other. nat_eq other tx) out) exclusive_hold
    ∙ ap (λ b. b || false) (eq-eqb tx tx refl)
