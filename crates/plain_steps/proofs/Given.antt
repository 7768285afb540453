-- What holds of what is given, if anything is.
use Rattle.std.proofs.Common.{◌≡◌, subst, Option, Some, None, Result, Ok, Err, IfOk, IfSome}

some_then : {A : Type 0} (given : Option A) (P Q : A → Type 0) → IfSome given P → ((x : A) → P x → Q x)
    → IfSome given Q
some_then (Some x) P Q holds then = then x holds
some_then None P Q holds then = tt

pub ok_some_then : {A E : Type 0} (r : Result (Option A) E) (P Q : A → Type 0) → IfOk r (λ given. IfSome given P)
    → ((x : A) → P x → Q x) → IfOk r (λ given. IfSome given Q)
ok_some_then (Ok given) P Q holds then = some_then given P Q holds then
ok_some_then (Err e) P Q holds then = tt

pub value_is : {A : Type 0} (given : Option A) (x : A) (P : A → Type 0) → given ≡ Some x → IfSome given P → P x
value_is given x P is all = subst (λ o. IfSome o P) is all
