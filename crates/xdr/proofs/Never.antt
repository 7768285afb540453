-- No reading ends for want of memory.
use Rattle.std.proofs.Common.{◌≡◌, ℕ, zero, suc, Bool, true, false, cond, List, [], ◌∷◌, Result, Ok, Err}
use Rattle.std.specs.Int.{Width, w32}
use Rattle.xdr.specs.declared.fault.XdrFault.{XdrFault}
use Rattle.xdr.specs.declared.fault.XdrFault.TheVariants.{Short, Padding, Value, Length, Left, NoMemory}
use Rattle.std.specs.Prelude.{alloc_error}
use Rattle.xdr.specs.Reading.{◌>>=◌, number_at, flag_of, flag_at, opaque_at, eight_at, optional_at, end_at}

abbrev pub Never : {A : Type 0} → Result A XdrFault → Type 0
Never r = r ≡ Err (NoMemory alloc_error) → ⊥

pub bind : {A B : Type 0} (r : Result A XdrFault) (f : A → Result B XdrFault) → Never r
    → ((x : A) → Never (f x)) → Never (r >>= f)
bind (Ok x) f h g e = g x e
bind (Err d) f h g e = h cc

pub if_never : {A : Type 0} (b : Bool) (x y : Result A XdrFault) → Never x → Never y → Never (cond b x y)
if_never true x y h k e = h e
if_never false x y h k e = k e

pub ok_never : {A : Type 0} (x : A) → Never (Ok x)
ok_never x e = cc

pub short : {A : Type 0} → Never {A = A} (Err Short)
short e = cc

pub nonzero : {A : Type 0} → Never {A = A} (Err Padding)
nonzero e = cc

pub value : {A : Type 0} → Never {A = A} (Err Value)
value e = cc

pub long : {A : Type 0} → Never {A = A} (Err Length)
long e = cc

pub left : {A : Type 0} → Never {A = A} (Err Left)
left e = cc

pub number : (w : Width) (bytes : List ℕ) → Never (number_at w bytes)
number w bytes = if_never _ _ _ short (ok_never _)

of_flag : (n : ℕ) (rest : List ℕ) → Never (flag_of n rest)
of_flag zero rest = ok_never _
of_flag (suc zero) rest = ok_never _
of_flag (suc (suc n)) rest = value

pub flag : (bytes : List ℕ) → Never (flag_at bytes)
unfolding flag_at
flag bytes = bind (number_at w32 bytes) _ (number w32 bytes) (λ n. of_flag n.0 n.1)

pub opaque : (bound : ℕ) (bytes : List ℕ) → Never (opaque_at bound bytes)
unfolding opaque_at
opaque bound bytes =
    bind (number_at w32 bytes) _ (number w32 bytes)
    (λ n. if_never _ _ _ long (if_never _ _ _ short (if_never _ _ _ (ok_never _) nonzero)))

pub eight : (bytes : List ℕ) → Never (eight_at bytes)
unfolding eight_at
eight bytes = if_never _ _ _ short (ok_never _)

pub end : (bytes : List ℕ) → Never (end_at bytes)
end [] = ok_never _
end (b ∷ bytes) = left

pub optional : {A : Type 0} (item : List ℕ → Result (A × List ℕ) XdrFault)
    → ((bytes : List ℕ) → Never (item bytes)) → (bytes : List ℕ) → Never (optional_at item bytes)
optional item h bytes =
    bind (flag_at bytes) _ (flag bytes)
    (λ b. if_never _ _ _ (bind (item b.1) _ (h b.1) (λ x. ok_never _)) (ok_never _))
