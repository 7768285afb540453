-- What holds of a result that is passed on.
use Rattle.std.proofs.Common.{◌≡◌, sym, subst, Result, Ok, Err, IfErr, IfOk}

pub at_err : {T E : Type 0} (r : Result T E) (e : E) (P : E → Type 0) → r ≡ Err e → P e → IfErr r P
at_err {T} {E} r e P is p = subst (λ (one : Result T E). IfErr one P) (sym is) p

pub ok_more : {T E : Type 0} {P Q : T → Type 0} (r : Result T E) → ((one : T) → P one → Q one) → IfOk r P
    → IfOk r Q
ok_more (Ok one) more is = more one is
ok_more (Err e) more is = tt
