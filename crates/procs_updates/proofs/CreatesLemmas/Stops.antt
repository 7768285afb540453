-- What a call that stopped, or one that didn't, ensures.
use Rattle.std.proofs.Common.{◌≡◌, sym, subst, IfErr, IfOk, Result, Ok, Err}

-- of why it stopped
pub stopped_so : {X Y : Type 0} (r : Result X Y) (why : Y) (P : Y → Type 0) → r ≡ Err why → P why → IfErr r P
stopped_so r why P is holds = subst (λ r. IfErr r P) (sym is) holds

-- both of what it ensures of its value
pub both_ok : {X Y : Type 0} (r : Result X Y) (P Q : X → Type 0) → IfOk r P → IfOk r Q
    → IfOk r (λ x. P x × Q x)
both_ok (Ok x) P Q p q = (p, q)
both_ok (Err y) P Q p q = p
