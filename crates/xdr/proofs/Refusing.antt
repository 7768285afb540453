-- Why reading refuses: what each step of a reader made of a refusal, both ways.
use Rattle.std.proofs.Common.{◌≡◌, ◌⊎◌, inl, inr, ℕ, zero, suc, ◌+◌, ◌<◌, Bool, true, false, cond, ltb}
use Rattle.std.proofs.Common.{List, [], ◌∷◌, length, take, drop, Result, Ok, Err, refl, sym, ap}
use Rattle.std.proofs.Common.{arith}
use Rattle.std.specs.Prelude.{◌==◌}
use Rattle.std.specs.Int.{Width, byte_len, from_be_bytes}
use Rattle.std.specs.List.{list_all}
use Rattle.std.proofs.lemmas.Bool.{ltb-true, ltb-false, lt-ltb, le-ltb}
use Rattle.xdr.specs.declared.fault.XdrFault.{XdrFault}
use Rattle.xdr.specs.declared.fault.XdrFault.TheVariants.{Short, Padding, Value, Length, Left}
use Rattle.xdr.specs.Items.{padding}
use Rattle.xdr.specs.Reading.{◌>>=◌, number_at, flag_of, eight_at, end_at}
use Rattle.xdr.specs.Codes.{fewer_than, string_refused, made_of}

abbrev failed : {A : Type 0} → XdrFault → Result A XdrFault
failed e = Err e

pub err_is : {A : Type 0} (d e : XdrFault) → failed {A = A} d ≡ failed e → e ≡ d
err_is d e h = cc

-- a step that failed, or what came behind it did
pub bind_err : {A B : Type 0} (r : Result A XdrFault) (f : A → Result B XdrFault) (e : XdrFault)
    → (r >>= f) ≡ Err e
    → (r ≡ Err e) ⊎ ((x : A) × (r ≡ Ok x) × (f x ≡ Err e))
bind_err (Ok x) f e h = inr (x, refl, h)
bind_err {A} {B} (Err d) f e h = inl (ap (λ (t : XdrFault). failed {A = A} t) (sym (err_is {A = B} d e h)))

pub made_err : {A B : Type 0} (r : Result (A × List ℕ) XdrFault) (f : A → B) (e : XdrFault)
    → (r >>= made_of f) ≡ Err e
    → r ≡ Err e
made_err (Ok x) f e h = absurd cc
made_err {A} {B} (Err d) f e h = ap (λ (t : XdrFault). failed {A = A × List ℕ} t)
    (sym (err_is {A = B × List ℕ} d e h))

-- a test that failed, or what came behind it did
pub guard_err : {A : Type 0} (b : Bool) (d : XdrFault) (r : Result A XdrFault) (e : XdrFault)
    → cond b (Err d) r ≡ Err e
    → ((b ≡ true) × (e ≡ d)) ⊎ ((b ≡ false) × (r ≡ Err e))
guard_err {A} true d r e h = inl (refl, err_is {A = A} d e h)
guard_err false d r e h = inr (refl, h)

-- the same of a condition that has to hold
pub holds_err : {A : Type 0} (b : Bool) (d : XdrFault) (r : Result A XdrFault) (e : XdrFault)
    → cond b r (Err d) ≡ Err e
    → ((b ≡ true) × (r ≡ Err e)) ⊎ ((b ≡ false) × (e ≡ d))
holds_err true d r e h = inl (refl, h)
holds_err {A} false d r e h = inr (refl, err_is {A = A} d e h)

pub no_err : {A : Type 0} (x : A) (e : XdrFault) → Ok x ≡ failed {A = A} e → ⊥
no_err x e h = cc

-- ---- items

pub number_refuses : (w : Width) (bytes : List ℕ) (e : XdrFault) → number_at w bytes ≡ Err e
    → fewer_than (byte_len w) bytes e
number_refuses w bytes e h =
    elim (guard_err (ltb (length bytes) (byte_len w)) Short
    (Ok (from_be_bytes w (take (byte_len w) bytes), drop (byte_len w) bytes)) e h) [
      | inl short ↦ (ltb-true _ _ short.0, short.1)
      | inr long ↦ absurd (no_err _ e long.1)
    ]

pub number_refused : (w : Width) (bytes : List ℕ) (e : XdrFault) → fewer_than (byte_len w) bytes e
    → number_at w bytes ≡ Err e
number_refused w bytes e r = rw (lt-ltb (length bytes) (byte_len w) r.0, r.1) refl

pub flag_refuses : (n : ℕ) (rest : List ℕ) (e : XdrFault) → flag_of n rest ≡ Err e → (1 < n) × (e ≡ Value)
flag_refuses zero rest e h = absurd (no_err _ e h)
flag_refuses (suc zero) rest e h = absurd (no_err _ e h)
flag_refuses (suc (suc n)) rest e h = (omega arith, err_is {A = Bool × List ℕ} Value e h)

pub flag_refused : (n : ℕ) (rest : List ℕ) (e : XdrFault) → (1 < n) × (e ≡ Value) → flag_of n rest ≡ Err e
flag_refused zero rest e r = absurd (omega (arith, r.0))
flag_refused (suc zero) rest e r = absurd (omega (arith, r.0))
flag_refused (suc (suc n)) rest e r = rw r.1 refl

pub eight_refuses : (bytes : List ℕ) (e : XdrFault) → eight_at bytes ≡ Err e → fewer_than 8 bytes e
unfolding eight_at
eight_refuses bytes e h =
    elim (guard_err (ltb (length bytes) 8) Short (Ok (take 8 bytes, drop 8 bytes)) e h) [
      | inl short ↦ (ltb-true _ _ short.0, short.1)
      | inr long ↦ absurd (no_err _ e long.1)
    ]

pub eight_refused : (bytes : List ℕ) (e : XdrFault) → fewer_than 8 bytes e → eight_at bytes ≡ Err e
unfolding eight_at
eight_refused bytes e r = rw (lt-ltb (length bytes) 8 r.0, r.1) refl

-- a string behind its length
abbrev pub string_of : ℕ → ℕ → List ℕ → Result (List ℕ × List ℕ) XdrFault
string_of bound n rest =
    cond (ltb bound n) (Err Length) (cond (ltb (length rest) (n + padding n)) (Err Short)
    (cond (list_all (λ b. b == 0) (take (padding n) (drop n rest)))
    (Ok (take n rest, drop (padding n) (drop n rest))) (Err Padding)))

pub string_refuses : (bound n : ℕ) (rest : List ℕ) (e : XdrFault) → string_of bound n rest ≡ Err e
    → string_refused bound n rest e
string_refuses bound n rest e h =
    let zeros = list_all (λ b. b == 0) (take (padding n) (drop n rest)) in
    let made : Result (List ℕ × List ℕ) XdrFault = Ok (take n rest, drop (padding n) (drop n rest)) in
    elim (guard_err (ltb bound n) Length (cond (ltb (length rest) (n + padding n)) (Err Short)
    (cond zeros made (Err Padding))) e h) [
      | inl long ↦ inl (ltb-true _ _ long.0, long.1)
      | inr bounded ↦ elim (guard_err (ltb (length rest) (n + padding n)) Short
          (cond zeros made (Err Padding)) e bounded.1) [
            | inl short ↦ inr (inl (ltb-false _ _ bounded.0, ltb-true _ _ short.0, short.1))
            | inr there ↦ elim (holds_err zeros Padding made e there.1) [
              | inl held ↦ absurd (no_err _ e held.1)
              | inr not ↦ inr (inr (ltb-false _ _ bounded.0, ltb-false _ _ there.0, not.0, not.1))
            ]
          ]
    ]

pub string_refused_so : (bound n : ℕ) (rest : List ℕ) (e : XdrFault) → string_refused bound n rest e
    → string_of bound n rest ≡ Err e
string_refused_so bound n rest e (inl long) = rw (lt-ltb bound n long.0, long.1) refl
string_refused_so bound n rest e (inr (inl short)) =
    rw (le-ltb bound n short.0, lt-ltb (length rest) (n + padding n) short.1, short.2) refl
string_refused_so bound n rest e (inr (inr not)) =
    rw (le-ltb bound n not.0, le-ltb (length rest) (n + padding n) not.1, not.2, not.3) refl

pub end_refuses : (rest : List ℕ) (e : XdrFault) → end_at rest ≡ Err e → (0 < length rest) × (e ≡ Left)
end_refuses [] e h = absurd (no_err _ e h)
end_refuses (b ∷ rest) e h = (omega arith, err_is {A = Unit {0}} Left e h)

pub end_refused : (rest : List ℕ) (e : XdrFault) → (0 < length rest) × (e ≡ Left) → end_at rest ≡ Err e
end_refused [] e r = absurd (omega (arith, r.0))
end_refused (b ∷ rest) e r = rw r.1 refl
