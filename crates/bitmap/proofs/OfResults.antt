-- What holds of a result.
use Rattle.std.proofs.Common.{IfOk, OnOk, Result, Ok, Err}

-- what holds of a result that is there, something else does too
pub mapped : {A E : Type 0} (P Q : A → Type 0) → ((x : A) → P x → Q x) → (r : Result A E)
    → IfOk r P → IfOk r Q
mapped P Q so (Ok x) is = so x is
mapped P Q so (Err e) is = is

-- two facts of one make a third
pub marked_one : {A E : Type 0} {Q : Type 0} {P R : A → Type 0} (r : Result A E)
    → ((x : A) → P x → Q → R x) → IfOk r P → OnOk r Q → IfOk r R
marked_one (Ok x) so p q = so x p q
marked_one (Err e) so p q = p
