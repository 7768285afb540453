-- An item that is read is the item that was spelled, and what was spelled is read again.
use Rattle.std.proofs.Common.{◌≡◌, ℕ, zero, suc, ◌+◌, ◌^◌, ◌<◌, ◌≤◌, Bool, true, false, cond, ltb, List, []}
use Rattle.std.proofs.Common.{◌∷◌, ◌++◌, length, get_or, take, drop, replicate, Option, Some, None, Result}
use Rattle.std.proofs.Common.{Ok, Err, refl, sym, ap, subst, ◌∙◌, append_assoc, arith, inl, inr}
use Rattle.std.proofs.Common.{length-append}
use Rattle.std.specs.Prelude.{IfSome, ◌==◌, ◌&&◌}
use Rattle.std.specs.Int.{Width, w32, w64, byte_len, from_be_bytes, to_be_bytes}
use Rattle.std.specs.List.{list_all}
use Rattle.std.proofs.lemmas.Bool.{cases_lt, ltb-false, le-ltb, eqb-true}
use Rattle.std.proofs.lemmas.List.{length-replicate, take_at, drop_at, take-append-drop, length-take}
use Rattle.std.proofs.lemmas.List.{length-drop, get_or-drop, get_or-take, get_or_past}
use Rattle.std.proofs.lemmas.List.{get_or_append_left, get_or-append-add}
use Rattle.std.proofs.lemmas.Nat.{be_bytes_4, be_bytes_8, from_be_bytes-to_be_bytes_4}
use Rattle.std.proofs.lemmas.Nat.{from_be_bytes-to_be_bytes_8}
use Rattle.xdr.specs.declared.fault.XdrFault.{XdrFault}
use Rattle.xdr.specs.declared.fault.XdrFault.TheVariants.{Short, Padding, Length}
use Rattle.xdr.specs.Items.{word, double, flag, padding, opaque, optional}
use Rattle.xdr.specs.Reading.{◌>>=◌, number_at, flag_of, flag_at, opaque_at, eight_at, optional_at}

abbrev pub IsBytes : List ℕ → Type 0
IsBytes bytes = (i : ℕ) → get_or bytes i 0 < 256

pub IsBytes-drop : (n : ℕ) (bytes : List ℕ) → IsBytes bytes → IsBytes (drop n bytes)
IsBytes-drop n bytes h i = rw get_or-drop (h (n + i))

IsBytes-take : (n : ℕ) (bytes : List ℕ) → IsBytes bytes → IsBytes (take n bytes)
IsBytes-take n bytes h i =
    elim (cases_lt i n) [
      | inl lt ↦ rw (get_or-take n bytes i 0 lt) (h i)
      | inr le ↦ rw (get_or_past (take n bytes) i 0 (omega (arith, length-take n bytes))) (omega arith)
    ]

-- the value of a step that did not fail
pub bind_ok : {A B : Type 0} (r : Result A XdrFault) (f : A → Result B XdrFault) (y : B) → (r >>= f) ≡ Ok y
    → (x : A) × (r ≡ Ok x) × (f x ≡ Ok y)
bind_ok (Ok x) f y e = (x, refl, e)
bind_ok (Err d) f y e = absurd cc

-- a test that did not fail
pub guard_ok : {A : Type 0} (b : Bool) (d : XdrFault) (r : Result A XdrFault) (y : A)
    → cond b (Err d) r ≡ Ok y → (b ≡ false) × (r ≡ Ok y)
guard_ok true d r y e = absurd cc
guard_ok false d r y e = (refl, e)

-- a condition that held
pub holds_ok : {A : Type 0} (b : Bool) (d : XdrFault) (r : Result A XdrFault) (y : A)
    → cond b r (Err d) ≡ Ok y → (b ≡ true) × (r ≡ Ok y)
holds_ok true d r y e = (refl, e)
holds_ok false d r y e = absurd cc

abbrev done : {A : Type 0} → A → Result A XdrFault
done x = Ok x

pub ok_is : {A : Type 0} (x y : A) → done x ≡ done y → x ≡ y
ok_is x y e = cc

-- what a reader took from the front
pub record Takes (bytes text rest : List ℕ) : Type 0 where
  pub parts : bytes ≡ text ++ rest
  pub rest_fits : IsBytes rest

pub Takes-then : (a x b y c : List ℕ) → Takes a x b → Takes b y c → Takes a (x ++ y) c
Takes-then a x b y c p q = record {
  parts = p.parts ∙ ap (λ (t : List ℕ). x ++ t) q.parts ∙ sym (append_assoc x y c);
  rest_fits = q.rest_fits;
}

-- reading and spelling fit each other, for values that fit
pub record Coded {A : Type 0} (spelled : A → List ℕ) (Fits : A → Type 0)
    (read : List ℕ → Result (A × List ℕ) XdrFault) : Type 0 where
  pub takes : (bytes : List ℕ) (x : A) (rest : List ℕ) → IsBytes bytes → read bytes ≡ Ok (x, rest)
      → Takes bytes (spelled x) rest × Fits x
  pub again : (x : A) (rest : List ℕ) → Fits x → read (spelled x ++ rest) ≡ Ok (x, rest)

-- two values that are spelled alike are one, whatever follows them
pub alike : {A : Type 0} (spelled : A → List ℕ) (Fits : A → Type 0)
    (read : List ℕ → Result (A × List ℕ) XdrFault) → Coded spelled Fits read
    → (x y : A) (a b : List ℕ) → Fits x → Fits y → spelled x ++ a ≡ spelled y ++ b → (x ≡ y) × (a ≡ b)
alike spelled Fits read coded x y a b p q e =
    let both : done (x, a) ≡ done (y, b) = sym (coded.again x a p) ∙ ap read e ∙ coded.again y b q in
    let one = ok_is (x, a) (y, b) both in
    (ap (λ (t : _ × List ℕ). t.0) one, ap (λ (t : _ × List ℕ). t.1) one)

-- ---- numbers

record IsWide (w : Width) (limit : ℕ) : Type 0 where
  len : (n : ℕ) → length (to_be_bytes w n) ≡ byte_len w
  back : (bytes : List ℕ) → length bytes ≡ byte_len w → IsBytes bytes
      → to_be_bytes w (from_be_bytes w bytes) ≡ bytes
  again : (n : ℕ) → n < limit → from_be_bytes w (to_be_bytes w n) ≡ n
  below : (bytes : List ℕ) → IsBytes bytes → from_be_bytes w bytes < limit

wide32 : IsWide w32 (2 ^ 32)
wide32 = record {
  len = λ n. refl;
  back = λ bytes len fits. be_bytes_4 bytes _ len fits refl;
  again = λ n lt. from_be_bytes-to_be_bytes_4 n lt;
  below = λ bytes fits. omega (arith, fits 0, fits 1, fits 2, fits 3);
}

wide64 : IsWide w64 (2 ^ 64)
wide64 = record {
  len = λ n. refl;
  back = λ bytes len fits. be_bytes_8 bytes _ len fits refl;
  again = λ n lt. from_be_bytes-to_be_bytes_8 n lt;
  below = λ bytes fits. omega (arith, fits 0, fits 1, fits 2, fits 3, fits 4, fits 5, fits 6, fits 7);
}

number_takes : (w : Width) (limit : ℕ) (wide : IsWide w limit) (bytes : List ℕ) (n : ℕ) (rest : List ℕ)
    → IsBytes bytes → number_at w bytes ≡ Ok (n, rest) → Takes bytes (to_be_bytes w n) rest × (n < limit)
number_takes w limit wide bytes n rest fits e =
    let g = guard_ok (ltb (length bytes) (byte_len w)) Short
    (Ok (from_be_bytes w (take (byte_len w) bytes), drop (byte_len w) bytes)) (n, rest) e in
    let long : byte_len w ≤ length bytes = ltb-false _ _ g.0 in
    let is = ok_is (from_be_bytes w (take (byte_len w) bytes), drop (byte_len w) bytes) (n, rest) g.1 in
    let n-is : from_be_bytes w (take (byte_len w) bytes) ≡ n = ap (λ (p : ℕ × List ℕ). p.0) is in
    let rest-is : drop (byte_len w) bytes ≡ rest = ap (λ (p : ℕ × List ℕ). p.1) is in
    let leading : to_be_bytes w n ≡ take (byte_len w) bytes =
    rw (← n-is) (wide.back (take (byte_len w) bytes) (omega (arith, length-take (byte_len w) bytes))
    (IsBytes-take (byte_len w) bytes fits)) in (
      record {
        parts = rw (leading, ← rest-is) (sym (take-append-drop (byte_len w) bytes));
        rest_fits = rw (← rest-is) (IsBytes-drop (byte_len w) bytes fits);
      },
      rw (← n-is) (wide.below (take (byte_len w) bytes) (IsBytes-take (byte_len w) bytes fits)),
    )

number_again : (w : Width) (limit : ℕ) (wide : IsWide w limit) (n : ℕ) (rest : List ℕ) → n < limit
    → number_at w (to_be_bytes w n ++ rest) ≡ Ok (n, rest)
number_again w limit wide n rest lt =
    let len = wide.len n in
    let long : ltb (length (to_be_bytes w n ++ rest)) (byte_len w) ≡ false =
    le-ltb _ _ (omega (arith, length-append (to_be_bytes w n) rest)) in
    rw (
      long,
      take_at (to_be_bytes w n) rest (byte_len w) len,
      drop_at (to_be_bytes w n) rest (byte_len w) len,
      wide.again n lt,
    ) refl

pub words : Coded word (λ n. n < 2 ^ 32) (number_at w32)
unfolding word
words = record { takes = number_takes w32 (2 ^ 32) wide32; again = number_again w32 (2 ^ 32) wide32 }

pub doubles : Coded double (λ n. n < 2 ^ 64) (number_at w64)
unfolding double
doubles = record { takes = number_takes w64 (2 ^ 64) wide64; again = number_again w64 (2 ^ 64) wide64 }

-- ---- flags

flag_is : (n : ℕ) (rest : List ℕ) (y : Bool × List ℕ) → flag_of n rest ≡ Ok y
    → (word n ≡ flag y.0) × (rest ≡ y.1)
unfolding flag
flag_is zero rest y e =
    subst (λ (y : Bool × List ℕ). (word 0 ≡ flag y.0) × (rest ≡ y.1)) (ok_is (false, rest) y e) (refl, refl)
flag_is (suc zero) rest y e =
    subst (λ (y : Bool × List ℕ). (word 1 ≡ flag y.0) × (rest ≡ y.1)) (ok_is (true, rest) y e) (refl, refl)
flag_is (suc (suc n)) rest y e = absurd cc

flag_takes : (bytes : List ℕ) (b : Bool) (rest : List ℕ) → IsBytes bytes → flag_at bytes ≡ Ok (b, rest)
    → Takes bytes (flag b) rest × Unit {0}
unfolding flag_at
flag_takes bytes b rest fits e =
    let a = bind_ok (number_at w32 bytes) (λ n. flag_of n.0 n.1) (b, rest) e in
    let t = words.takes bytes a.0.0 a.0.1 fits a.1 in
    let is = flag_is a.0.0 a.0.1 (b, rest) a.2 in (
      subst (λ (s : List ℕ). Takes bytes s rest) is.0
          (subst (λ (r : List ℕ). Takes bytes (word a.0.0) r) is.1 t.0),
      tt,
    )

flag_again : (b : Bool) (rest : List ℕ) → Unit {0} → flag_at (flag b ++ rest) ≡ Ok (b, rest)
unfolding flag_at flag
flag_again false rest u = rw (words.again 0 rest (omega arith)) refl
flag_again true rest u = rw (words.again 1 rest (omega arith)) refl

pub flags : Coded flag (λ b. Unit {0}) flag_at
flags = record { takes = flag_takes; again = flag_again }

-- ---- strings

both_true : (p q : Bool) → (p && q) ≡ true → (p ≡ true) × (q ≡ true)
both_true true q e = (refl, e)
both_true false q e = absurd cc

zeros_are : (xs : List ℕ) → list_all (λ b. b == 0) xs ≡ true → xs ≡ replicate (length xs) 0
zeros_are [] e = refl
zeros_are (x ∷ xs) e =
    let both = both_true (x == 0) (list_all (λ b. b == 0) xs) e in
    let first : x ≡ 0 = eqb-true x 0 both.0 in
    let others = zeros_are xs both.1 in
    cc (first, others)

zeros_pass : (n : ℕ) → list_all (λ b. b == 0) (replicate n 0) ≡ true
zeros_pass zero = refl
zeros_pass (suc n) = zeros_pass n

opaque_takes : (bound : ℕ) (bytes text rest : List ℕ) → IsBytes bytes
    → opaque_at bound bytes ≡ Ok (text, rest) → Takes bytes (opaque text) rest × (length text ≤ bound)
unfolding opaque_at opaque
opaque_takes bound bytes text rest fits e =
    let a = bind_ok (number_at w32 bytes) _ (text, rest) e in
    let n = a.0.0 in
    let r = a.0.1 in
    let t = words.takes bytes n r fits a.1 in
    let bounded = guard_ok (ltb bound n) Length _ (text, rest) a.2 in
    let there = guard_ok (ltb (length r) (n + padding n)) Short _ (text, rest) bounded.1 in
    let zeros = holds_ok (list_all (λ b. b == 0) (take (padding n) (drop n r))) Padding
    (Ok (take n r, drop (padding n) (drop n r))) (text, rest) there.1 in
    let small : n ≤ bound = ltb-false _ _ bounded.0 in
    let long : n + padding n ≤ length r = ltb-false _ _ there.0 in
    let len : length (take n r) ≡ n = omega (arith, length-take n r) in
    let pad_len : length (take (padding n) (drop n r)) ≡ padding n =
    omega (arith, length-take (padding n) (drop n r), length-drop n r) in
    let pad_is : take (padding n) (drop n r) ≡ replicate (padding n) 0 =
    rw (zeros_are (take (padding n) (drop n r)) zeros.0, pad_len) refl in
    let second : Takes r (take n r) (drop n r) =
    record { parts = sym (take-append-drop n r); rest_fits = IsBytes-drop n r t.0.rest_fits } in
    let third : Takes (drop n r) (replicate (padding n) 0) (drop (padding n) (drop n r)) =
    record {
      parts = rw (← pad_is) (sym (take-append-drop (padding n) (drop n r)));
      rest_fits = IsBytes-drop (padding n) (drop n r) second.rest_fits;
    } in
    let both = Takes-then _ _ _ _ _ (Takes-then bytes (word n) r (take n r) (drop n r) t.0 second) third in
    let whole : Takes bytes (word (length (take n r)) ++ take n r
    ++ replicate (padding (length (take n r))) 0) (drop (padding n) (drop n r)) = rw len both in
    subst (λ (p : List ℕ × List ℕ). Takes bytes (word (length p.0) ++ p.0
    ++ replicate (padding (length p.0)) 0) p.1
    × (length p.0 ≤ bound)) (ok_is (take n r, drop (padding n) (drop n r)) (text, rest) zeros.1) (
      whole,
      omega (arith, len, small),
    )

opaque_again : (bound : ℕ) → bound < 2 ^ 32 → (text rest : List ℕ) → length text ≤ bound
    → opaque_at bound (opaque text ++ rest) ≡ Ok (text, rest)
unfolding opaque_at opaque
opaque_again bound small text rest le =
    let n = length text in
    let zeros = replicate (padding n) 0 in
    let zeros_len : length zeros ≡ padding n = length-replicate (padding n) 0 in
    let regrouped : word n ++ text ++ zeros ++ rest ≡ word n ++ (text ++ (zeros ++ rest)) =
    simp append_assoc refl in
    let bounded : ltb bound n ≡ false = le-ltb bound n le in
    let there : ltb (length (text ++ (zeros ++ rest))) (n + padding n) ≡ false =
    le-ltb _ _ (omega (arith, length-append text (zeros ++ rest), length-append zeros rest, zeros_len)) in
    let leading : take n (text ++ (zeros ++ rest)) ≡ text = take_at text (zeros ++ rest) n refl in
    let behind : drop n (text ++ (zeros ++ rest)) ≡ zeros ++ rest = drop_at text (zeros ++ rest) n refl in
    let pads : take (padding n) (zeros ++ rest) ≡ zeros = take_at zeros rest (padding n) zeros_len in
    let after : drop (padding n) (zeros ++ rest) ≡ rest = drop_at zeros rest (padding n) zeros_len in
    ap (opaque_at bound) regrouped
    ∙ rw (
      words.again n (text ++ (zeros ++ rest)) (omega (arith, le, small)),
      bounded,
      there,
      behind,
      leading,
      pads,
      zeros_pass (padding n),
      after,
    ) refl

pub strings : (bound : ℕ) → bound < 2 ^ 32 → Coded opaque (λ text. length text ≤ bound) (opaque_at bound)
strings bound small = record { takes = opaque_takes bound; again = opaque_again bound small }

-- ---- what may be absent

by_flag : {A : Type 0} (spelled : A → List ℕ) (Fits : A → Type 0)
    (read : List ℕ → Result (A × List ℕ) XdrFault) → Coded spelled Fits read
    → (bytes : List ℕ) (y : Option A × List ℕ) (b : Bool) (r : List ℕ) → Takes bytes (flag b) r
    → cond b (read r >>= λ x. Ok (Some x.0, x.1)) (Ok (None, r)) ≡ Ok y
    → Takes bytes (optional spelled y.0) y.1 × IfSome y.0 Fits
by_flag {A} spelled Fits read coded bytes y true r t h =
    let a = bind_ok (read r) (λ x. Ok (Some x.0, x.1)) y h in
    let u = coded.takes r a.0.0 a.0.1 t.rest_fits a.1 in
    let both = Takes-then bytes (flag true) r (spelled a.0.0) a.0.1 t u.0 in
    let made : Option A × List ℕ = (Some a.0.0, a.0.1) in
    subst (λ (z : Option A × List ℕ). Takes bytes (optional spelled z.0) z.1
    × IfSome z.0 Fits) (ok_is made y a.2) (both, u.1)
by_flag {A} spelled Fits read coded bytes y false r t h =
    let made : Option A × List ℕ = (None, r) in
    subst (λ (z : Option A × List ℕ). Takes bytes (optional spelled z.0) z.1
    × IfSome z.0 Fits) (ok_is made y h) (t, tt)

optional_takes : {A : Type 0} (spelled : A → List ℕ) (Fits : A → Type 0)
    (read : List ℕ → Result (A × List ℕ) XdrFault) → Coded spelled Fits read
    → (bytes : List ℕ) (o : Option A) (rest : List ℕ) → IsBytes bytes → optional_at read bytes ≡ Ok (o, rest)
    → Takes bytes (optional spelled o) rest × IfSome o Fits
optional_takes spelled Fits read coded bytes o rest fits e =
    let a = bind_ok (flag_at bytes) _ (o, rest) e in
    let t = flags.takes bytes a.0.0 a.0.1 fits a.1 in
    by_flag spelled Fits read coded bytes (o, rest) a.0.0 a.0.1 t.0 a.2

optional_again : {A : Type 0} (spelled : A → List ℕ) (Fits : A → Type 0)
    (read : List ℕ → Result (A × List ℕ) XdrFault) → Coded spelled Fits read
    → (o : Option A) (rest : List ℕ) → IfSome o Fits
    → optional_at read (optional spelled o ++ rest) ≡ Ok (o, rest)
optional_again spelled Fits read coded None rest h = rw (flags.again false rest tt) refl
optional_again spelled Fits read coded (Some x) rest h =
    ap (optional_at read) (append_assoc (flag true) (spelled x) rest)
    ∙ rw (flags.again true (spelled x ++ rest) tt, coded.again x rest h) refl

pub optionals : {A : Type 0} (spelled : A → List ℕ) (Fits : A → Type 0)
    (read : List ℕ → Result (A × List ℕ) XdrFault) → Coded spelled Fits read
    → Coded (optional spelled) (λ o. IfSome o Fits) (optional_at read)
optionals spelled Fits read coded = record {
  takes = optional_takes spelled Fits read coded;
  again = optional_again spelled Fits read coded;
}

-- ---- bytes as they came

-- the parts of bytes are bytes
pub leading_bytes : (a b : List ℕ) → IsBytes (a ++ b) → IsBytes a
leading_bytes a b h i =
    elim (cases_lt i (length a)) [
      | inl lt ↦ subst (λ (n : ℕ). n < 256) (get_or_append_left a b 0 i lt) (h i)
      | inr le ↦ rw (get_or_past a i 0 le) (omega arith)
    ]

pub back_bytes : (a b : List ℕ) → IsBytes (a ++ b) → IsBytes b
back_bytes a b h i = subst (λ (n : ℕ). n < 256) (get_or-append-add a b i 0) (h (length a + i))

-- a string that was read is of bytes
pub string_bytes : (bytes text rest : List ℕ) → IsBytes bytes → Takes bytes (opaque text) rest → IsBytes text
unfolding opaque
string_bytes bytes text rest fits t =
    let all : IsBytes (opaque text ++ rest) = subst IsBytes t.parts fits in
    back_bytes (word (length text)) text
    (leading_bytes (word (length text) ++ text) (replicate (padding (length text)) 0)
    (leading_bytes (opaque text) rest all))

eight_takes : (bytes text rest : List ℕ) → IsBytes bytes → eight_at bytes ≡ Ok (text, rest)
    → Takes bytes text rest × ((length text ≡ 8) × IsBytes text)
unfolding eight_at
eight_takes bytes text rest fits e =
    let g = guard_ok (ltb (length bytes) 8) Short (Ok (take 8 bytes, drop 8 bytes)) (text, rest) e in
    let long : 8 ≤ length bytes = ltb-false _ _ g.0 in
    let is = ok_is (take 8 bytes, drop 8 bytes) (text, rest) g.1 in
    let leading : take 8 bytes ≡ text = ap (λ (p : List ℕ × List ℕ). p.0) is in
    let behind : drop 8 bytes ≡ rest = ap (λ (p : List ℕ × List ℕ). p.1) is in (
      record {
        parts = rw (← leading, ← behind) (sym (take-append-drop 8 bytes));
        rest_fits = rw (← behind) (IsBytes-drop 8 bytes fits);
      },
      (rw (← leading) (omega (arith, length-take 8 bytes)), rw (← leading) (IsBytes-take 8 bytes fits)),
    )

eight_again : (text rest : List ℕ) → (length text ≡ 8) × IsBytes text
    → eight_at (text ++ rest) ≡ Ok (text, rest)
unfolding eight_at
eight_again text rest fits =
    let long : ltb (length (text ++ rest)) 8 ≡ false =
    le-ltb _ _ (omega (arith, length-append text rest, fits.0)) in
    rw (long, take_at text rest 8 fits.0, drop_at text rest 8 fits.0) refl

pub eights : Coded (λ text. text) (λ text. (length text ≡ 8) × IsBytes text) eight_at
eights = record { takes = eight_takes; again = eight_again }
