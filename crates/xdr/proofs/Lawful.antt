-- What is read is what was spelled, and what was spelled is read again: a law for each way to make a code.
use Rattle.std.proofs.Common.{◌≡◌, ℕ, zero, suc, ◌+◌, ◌^◌, ◌<◌, ◌≤◌, Bool, true, false, cond, ltb, List, []}
use Rattle.std.proofs.Common.{◌∷◌, ◌++◌, length, take, drop, Option, Some, None, Result, Ok, Err, refl, sym}
use Rattle.std.proofs.Common.{ap, subst, ◌∙◌, append_assoc, arith, ◌⊎◌, inl, inr, length-append}
use Rattle.std.specs.Prelude.{◌==◌}
use Rattle.std.specs.Int.{Width, w32, w64, byte_len}
use Rattle.std.specs.List.{list_all, AllByRecursion}
use Rattle.std.proofs.lemmas.Bool.{cases_Bool, eq-eqb, eqb-true, ltb-true, ltb-false, lt-ltb, le-ltb}
use Rattle.std.proofs.lemmas.List.{append-nil, length-drop}
use Rattle.xdr.specs.declared.fault.XdrFault.{XdrFault}
use Rattle.xdr.specs.declared.fault.XdrFault.TheVariants.{Short, Padding, Length, Value, Left}
use Rattle.xdr.specs.Items as items
use Rattle.xdr.specs.Items.{padding}
use Rattle.xdr.specs.Reading.{◌>>=◌, number_at, flag_of, flag_at, opaque_at, eight_at, end_at}
use Rattle.xdr.proofs.Never as never
use Rattle.xdr.proofs.Never.{Never}
use Rattle.xdr.proofs.Refusing.{err_is, no_err, bind_err, made_err, guard_err, holds_err, number_refuses}
use Rattle.xdr.proofs.Refusing.{number_refused, flag_refuses, flag_refused}
use Rattle.xdr.proofs.Refusing.{eight_refuses, eight_refused, string_of, string_refuses, string_refused_so}
use Rattle.xdr.proofs.Refusing.{end_refuses, end_refused}
use Rattle.xdr.proofs.Coded.{IsBytes, Takes, Takes-then, words as word_items, doubles as double_items}
use Rattle.xdr.proofs.Coded.{flags as flag_items, strings, string_bytes, eights as eight_items}
use Rattle.xdr.proofs.Coded.{optionals as optional_items, bind_ok, guard_ok, holds_ok, ok_is}
use Rattle.xdr.specs.Codes.{Code, word, double, flag, opaque, eight, nothing, ◌then◌, made_of, viewed}
use Rattle.xdr.specs.Codes.{fitting, optional, items_bytes, items_at, counted, chain_bytes, chain_at, chain}
use Rattle.xdr.specs.Codes.{Arms, arm, arm_or, numbered, on_listed, arms, union, one_of, whole, Behind}
use Rattle.xdr.specs.Codes.{here_or_behind, string_refused, link_refused, item_refused, is_some}
use Rattle.xdr.specs.Codes.{refused_whole}

pub record IsCode {A : Type 0} (F : Code A) : Type 0 where
  pub takes : (bytes : List ℕ) (x : A) (rest : List ℕ) → IsBytes bytes → F.read bytes ≡ Ok (x, rest)
      → Takes bytes (F.spell x) rest × F.Fits x
  pub again : (x : A) (rest : List ℕ) → F.Fits x → F.read (F.spell x ++ rest) ≡ Ok (x, rest)
  pub shrinks : (bytes : List ℕ) (x : A) (rest : List ℕ) → F.read bytes ≡ Ok (x, rest)
      → length rest ≤ length bytes
  pub never : (bytes : List ℕ) → Never (F.read bytes)
  pub refuses : (bytes : List ℕ) (e : XdrFault) → IsBytes bytes → F.read bytes ≡ Err e → F.Refuses bytes e
  pub refused : (bytes : List ℕ) (e : XdrFault) → F.Refuses bytes e → F.read bytes ≡ Err e

-- what is read first is refused, or what is read behind it
behind_refuses : {A B : Type 0} (F : Code A) → IsCode F
    → (f : A × List ℕ → Result B XdrFault) (Holds : A → List ℕ → Type 0) (bytes : List ℕ) (e : XdrFault)
    → IsBytes bytes
    → ((x : A) (rest : List ℕ) → IsBytes rest → f (x, rest) ≡ Err e → Holds x rest)
    → (F.read bytes >>= f) ≡ Err e → here_or_behind F Holds bytes e
behind_refuses F is f Holds bytes e fits tail h =
    elim (bind_err (F.read bytes) f e h) [
      | inl r ↦ inl (is.refuses bytes e fits r)
      | inr m ↦
          let t = is.takes bytes m.0.0 m.0.1 fits m.1 in
          inr (record {
            value = m.0.0;
            rest = m.0.1;
            fits = t.1;
            parts = t.0.parts;
            holds = tail m.0.0 m.0.1 t.0.rest_fits m.2;
          })
    ]

read_so : {A : Type 0} (F : Code A) → IsCode F → (Holds : A → List ℕ → Type 0) (bytes : List ℕ)
    → (b : Behind F Holds bytes) → F.read bytes ≡ Ok (b.value, b.rest)
read_so F is Holds bytes b = ap F.read b.parts ∙ is.again b.value b.rest b.fits

behind_refused : {A B : Type 0} (F : Code A) → IsCode F
    → (f : A × List ℕ → Result B XdrFault) (Holds : A → List ℕ → Type 0) (bytes : List ℕ) (e : XdrFault)
    → ((x : A) (rest : List ℕ) → Holds x rest → f (x, rest) ≡ Err e) → here_or_behind F Holds bytes e
    → (F.read bytes >>= f) ≡ Err e
behind_refused F is f Holds bytes e tail (inl r) = rw (is.refused bytes e r) refl
behind_refused F is f Holds bytes e tail (inr b) = rw (read_so F is Holds bytes b) (tail b.value b.rest b.holds)

-- what a step made of what was read
pub map_ok : {A B : Type 0} (r : Result (A × List ℕ) XdrFault) (f : A → B) (y : B) (rest : List ℕ)
    → (r >>= made_of f) ≡ Ok (y, rest) → (x : A) × (r ≡ Ok (x, rest)) × (f x ≡ y)
map_ok {A} {B} (Ok x) f y rest e =
    let pair : B × List ℕ = (f x.0, x.1) in
    let p = ok_is pair (y, rest) e in
    let one : x.1 ≡ rest = ap (λ (q : B × List ℕ). q.1) p in
    (x.0, ap (λ (t : List ℕ). Ok (x.0, t)) one, ap (λ (q : B × List ℕ). q.0) p)
map_ok (Err d) f y rest e = absurd cc

chosen : {X : Type 0} (b : Bool) (x y z : X) → cond b x y ≡ z → ((b ≡ true) × (x ≡ z)) ⊎ ((b ≡ false) × (y ≡ z))
chosen true x y z e = inl (refl, e)
chosen false x y z e = inr (refl, e)

-- ---- items

number_shrinks : (w : Width) (bytes : List ℕ) (n : ℕ) (rest : List ℕ) → number_at w bytes ≡ Ok (n, rest)
    → length rest + byte_len w ≤ length bytes
number_shrinks w bytes n rest e =
    let g = guard_ok (ltb (length bytes) (byte_len w)) Short _ (n, rest) e in
    let p = ok_is _ (n, rest) g.1 in
    let one : drop (byte_len w) bytes ≡ rest = ap (λ (q : ℕ × List ℕ). q.1) p in
    omega (arith, ltb-false _ _ g.0, ap length one, length-drop (byte_len w) bytes)

pub words : IsCode word
words = record {
  takes = word_items.takes;
  again = word_items.again;
  shrinks = λ bytes n rest e. omega (arith, number_shrinks w32 bytes n rest e);
  never = never.number w32;
  refuses = λ bytes e fits h. number_refuses w32 bytes e h;
  refused = number_refused w32;
}

pub doubles : IsCode double
doubles = record {
  takes = double_items.takes;
  again = double_items.again;
  shrinks = λ bytes n rest e. omega (arith, number_shrinks w64 bytes n rest e);
  never = never.number w64;
  refuses = λ bytes e fits h. number_refuses w64 bytes e h;
  refused = number_refused w64;
}

flag_of_shrinks : (n : ℕ) (bytes : List ℕ) (b : Bool) (rest : List ℕ) → flag_of n bytes ≡ Ok (b, rest)
    → bytes ≡ rest
flag_of_shrinks zero bytes b rest e = ap (λ (q : Bool × List ℕ). q.1) (ok_is (false, bytes) (b, rest) e)
flag_of_shrinks (suc zero) bytes b rest e = ap (λ (q : Bool × List ℕ). q.1) (ok_is (true, bytes) (b, rest) e)
flag_of_shrinks (suc (suc n)) bytes b rest e = absurd cc

pub flag_shrinks : (bytes : List ℕ) (b : Bool) (rest : List ℕ) → flag_at bytes ≡ Ok (b, rest)
    → length rest < length bytes
unfolding flag_at
flag_shrinks bytes b rest e =
    let a = bind_ok (number_at w32 bytes) (λ n. flag_of n.0 n.1) (b, rest) e in
    omega (arith, number_shrinks w32 bytes a.0.0 a.0.1 a.1, ap length (flag_of_shrinks a.0.0 a.0.1 b rest a.2))

flags_refuse : (bytes : List ℕ) (e : XdrFault) → IsBytes bytes → flag_at bytes ≡ Err e → flag.Refuses bytes e
unfolding flag_at
flags_refuse bytes e fits h = behind_refuses word words (λ n. flag_of n.0 n.1)
    (λ n rest. (1 < n) × (e ≡ Value)) bytes e fits (λ n rest g k. flag_refuses n rest e k) h

flags_refused : (bytes : List ℕ) (e : XdrFault) → flag.Refuses bytes e → flag_at bytes ≡ Err e
unfolding flag_at
flags_refused bytes e r = behind_refused word words (λ n. flag_of n.0 n.1) (λ n rest. (1 < n) × (e ≡ Value))
    bytes e (λ n rest k. flag_refused n rest e k) r

pub flags : IsCode flag
flags = record {
  takes = flag_items.takes;
  again = flag_items.again;
  shrinks = λ bytes b rest e. omega (arith, flag_shrinks bytes b rest e);
  never = never.flag;
  refuses =
      flags_refuse;
  refused = flags_refused;
}

opaque_shrinks : (bound : ℕ) (bytes text rest : List ℕ) → opaque_at bound bytes ≡ Ok (text, rest)
    → length rest ≤ length bytes
unfolding opaque_at
opaque_shrinks bound bytes text rest e =
    let a = bind_ok (number_at w32 bytes) _ (text, rest) e in
    let n = a.0.0 in
    let r = a.0.1 in
    let bounded = guard_ok (ltb bound n) Length _ (text, rest) a.2 in
    let there = guard_ok (ltb (length r) (n + padding n)) Short _ (text, rest) bounded.1 in
    let zeros = holds_ok (list_all (λ b. b == 0) (take (padding n) (drop n r))) Padding
    (Ok (take n r, drop (padding n) (drop n r))) (text, rest) there.1 in
    let one : drop (padding n) (drop n r) ≡ rest =
    ap (λ (q : List ℕ × List ℕ). q.1) (ok_is (take n r, drop (padding n) (drop n r))
    (text, rest) zeros.1) in
    omega (
      arith,
      number_shrinks w32 bytes n r a.1,
      ap length one,
      length-drop (padding n) (drop n r),
      length-drop n r,
    )

opaques_refuse : (bound : ℕ) (bytes : List ℕ) (e : XdrFault) → IsBytes bytes → opaque_at bound bytes ≡ Err e
    → (opaque bound).Refuses bytes e
unfolding opaque_at
opaques_refuse bound bytes e fits h = behind_refuses word words (λ n. string_of bound n.0 n.1)
    (λ n rest. string_refused bound n rest e) bytes e fits (λ n rest g k. string_refuses bound n rest e k) h

opaques_refused : (bound : ℕ) (bytes : List ℕ) (e : XdrFault) → (opaque bound).Refuses bytes e
    → opaque_at bound bytes ≡ Err e
unfolding opaque_at
opaques_refused bound bytes e r = behind_refused word words (λ n. string_of bound n.0 n.1)
    (λ n rest. string_refused bound n rest e) bytes e (λ n rest k. string_refused_so bound n rest e k) r

pub opaques : (bound : ℕ) → bound < 2 ^ 32 → IsCode (opaque bound)
opaques bound small =
    let s = strings bound small in
    record {
      takes = λ bytes text rest fits e.
          let t = s.takes bytes text rest fits e in
          (t.0, (t.1, string_bytes bytes text rest fits t.0));
      again = λ text rest fits. s.again text rest fits.0;
      shrinks = opaque_shrinks bound;
      never = never.opaque bound;
      refuses = opaques_refuse bound;
      refused = opaques_refused bound;
    }

eight_shrinks : (bytes text rest : List ℕ) → eight_at bytes ≡ Ok (text, rest) → length rest ≤ length bytes
unfolding eight_at
eight_shrinks bytes text rest e =
    let g = guard_ok (ltb (length bytes) 8) Short (Ok (take 8 bytes, drop 8 bytes)) (text, rest) e in
    let is = ok_is (take 8 bytes, drop 8 bytes) (text, rest) g.1 in
    let behind : drop 8 bytes ≡ rest = ap (λ (p : List ℕ × List ℕ). p.1) is in
    omega (arith, ap length behind, length-drop 8 bytes)

pub eights : IsCode eight
eights = record {
  takes = eight_items.takes;
  again = eight_items.again;
  shrinks = eight_shrinks;
  never = never.eight;
  refuses = λ bytes e fits h. eight_refuses bytes e h;
  refused = eight_refused;
}

pub nothings : IsCode nothing
nothings = record {
  takes = λ bytes x rest fits e.
      let one : bytes ≡ rest = ap (λ (q : Unit {0} × List ℕ). q.1) (ok_is (tt, bytes) (x, rest) e) in
      (record { parts = one; rest_fits = subst IsBytes one fits }, tt);
  again = λ x rest fits. refl;
  shrinks = λ bytes x rest e. omega (
    arith,
    ap length (ap (λ (q : Unit {0} × List ℕ). q.1) (ok_is (tt, bytes) (x, rest) e)),
  );
  never = λ bytes. never.ok_never _;
  refuses = λ bytes e fits h. no_err _ e h;
  refused = λ bytes e r. absurd r;
}

-- ---- one after another, a view, what may be absent

then_ok : {A B : Type 0} (F : Code A) (G : Code B) (bytes : List ℕ) (x : A × B) (rest : List ℕ)
    → (F then G).read bytes ≡ Ok (x, rest) → (middle : List ℕ) × (F.read bytes ≡ Ok (x.0, middle))
    × (G.read middle ≡ Ok (x.1, rest))
then_ok {A} {B} F G bytes x rest e =
    let a = bind_ok (F.read bytes) (λ x. G.read x.1 >>= made_of (λ y. (x.0, y))) (x, rest) e in
    let b = map_ok (G.read a.0.1) (λ (y : B). (a.0.0, y)) x rest a.2 in
    let first : a.0.0 ≡ x.0 = ap (λ (q : A × B). q.0) b.2 in
    let second : b.0 ≡ x.1 = ap (λ (q : A × B). q.1) b.2 in (
      a.0.1,
      subst (λ (t : A). F.read bytes ≡ Ok (t, a.0.1)) first a.1,
      subst (λ (t : B). G.read a.0.1 ≡ Ok (t, rest)) second b.1,
    )

pub thens : {A B : Type 0} (F : Code A) (G : Code B) → IsCode F → IsCode G → IsCode (F then G)
thens F G f g = record {
  takes = λ bytes x rest fits e.
      let m = then_ok F G bytes x rest e in
      let t = f.takes bytes x.0 m.0 fits m.1 in
      let u = g.takes m.0 x.1 rest t.0.rest_fits m.2 in
      (Takes-then bytes (F.spell x.0) m.0 (G.spell x.1) rest t.0 u.0, (t.1, u.1));
  again = λ x rest fits. ap (F then G).read (append_assoc (F.spell x.0) (G.spell x.1) rest)
      ∙ rw (f.again x.0 (G.spell x.1 ++ rest) fits.0, g.again x.1 rest fits.1) refl;
  shrinks = λ bytes x rest e.
      let m = then_ok F G bytes x rest e in
      omega (arith, f.shrinks bytes x.0 m.0 m.1, g.shrinks m.0 x.1 rest m.2);
  never = λ bytes.
      never.bind (F.read bytes) _ (f.never bytes)
      (λ x. never.bind (G.read x.1) _ (g.never x.1) (λ y. never.ok_never _));
  refuses = λ bytes e fits h.
      behind_refuses F f (λ x. G.read x.1 >>= made_of (λ y. (x.0, y))) (λ x rest. G.Refuses rest e) bytes e fits
      (λ x rest p k. g.refuses rest e p (made_err (G.read rest) (λ y. (x, y)) e k)) h;
  refused = λ bytes e r.
      behind_refused F f (λ x. G.read x.1 >>= made_of (λ y. (x.0, y))) (λ x rest. G.Refuses rest e) bytes e
      (λ x rest k. rw (g.refused rest e k) refl) r;
}

pub vieweds : {A B : Type 0} (make : B → A) (parts : A → B) (F : Code B) → ((b : B) → parts (make b) ≡ b)
    → ((a : A) → make (parts a) ≡ a) → IsCode F → IsCode (viewed make parts F)
vieweds make parts F back forth f = record {
  takes = λ bytes a rest fits e.
      let m = map_ok (F.read bytes) make a rest e in
      let is : m.0 ≡ parts a = sym (back m.0) ∙ ap parts m.2 in
      f.takes bytes (parts a) rest fits (rw (← is) m.1);
  again = λ a rest fits. rw (f.again (parts a) rest fits, forth a) refl;
  shrinks = λ bytes a rest e.
      let m = map_ok (F.read bytes) make a rest e in
      f.shrinks bytes m.0 rest m.1;
  never = λ bytes. never.bind (F.read bytes) _ (f.never bytes) (λ x. never.ok_never _);
  refuses = λ bytes e fits h. f.refuses bytes e fits (made_err (F.read bytes) make e h);
  refused = λ bytes e r. rw (f.refused bytes e r) refl;
}

pub fittings : {A : Type 0} (Fits : A → Type 0) (F : Code A) → ((x : A) → F.Fits x → Fits x)
    → ((x : A) → Fits x → F.Fits x) → IsCode F → IsCode (fitting Fits F)
fittings Fits F back forth f = record {
  takes = λ bytes x rest fits e. let t = f.takes bytes x rest fits e in (t.0, back x t.1);
  again = λ x rest fits. f.again x rest (forth x fits);
  shrinks = f.shrinks;
  never = f.never;
  refuses = f.refuses;
  refused = f.refused;
}

by_flag_shrinks : {A : Type 0} (F : Code A) → IsCode F
    → (b : Bool) (bytes : List ℕ) (o : Option A) (rest : List ℕ)
    → cond b (F.read bytes >>= made_of (λ x. Some x)) (Ok (None, bytes)) ≡ Ok (o, rest)
    → length rest ≤ length bytes
by_flag_shrinks F f true bytes o rest e =
    let m = map_ok (F.read bytes) (λ x. Some x) o rest e in
    f.shrinks bytes m.0 rest m.1
by_flag_shrinks {A} F f false bytes o rest e =
    let pair : Option A × List ℕ = (None, bytes) in
    omega (arith, ap length (ap (λ (q : Option A × List ℕ). q.1) (ok_is pair (o, rest) e)))

by_flag_refuses : {A : Type 0} (F : Code A) → IsCode F → (e : XdrFault) (b : Bool) (bytes : List ℕ)
    → IsBytes bytes → cond b (F.read bytes >>= made_of (λ x. Some x)) (Ok (None, bytes)) ≡ Err e → (b ≡ true)
    × F.Refuses bytes e
by_flag_refuses F f e true bytes fits h =
    (refl, f.refuses bytes e fits (made_err (F.read bytes) (λ x. Some x) e h))
by_flag_refuses F f e false bytes fits h = absurd (no_err _ e h)

pub optionals : {A : Type 0} (F : Code A) → IsCode F → IsCode (optional F)
optionals {A} F f =
    let o = optional_items F.spell F.Fits F.read (record { takes = f.takes; again = f.again }) in
    record {
      takes = o.takes;
      again = o.again;
      shrinks = λ bytes o rest e.
          let a = bind_ok (flag_at bytes) _ (o, rest) e in
          omega (arith, flag_shrinks bytes a.0.0 a.0.1 a.1, by_flag_shrinks F f a.0.0 a.0.1 o rest a.2);
      never = never.optional F.read f.never;
      refuses = λ bytes e fits h.
          behind_refuses flag flags (λ b. cond b.0 (F.read b.1 >>= made_of (λ x. Some x)) (Ok (None, b.1)))
          (λ b rest. (b ≡ true) × F.Refuses rest e) bytes e fits
          (λ b rest p k. by_flag_refuses F f e b rest p k) h;
      refused = λ bytes e r.
          behind_refused flag flags (λ b. cond b.0 (F.read b.1 >>= made_of (λ x. Some x)) (Ok (None, b.1)))
          (λ b rest. (b ≡ true) × F.Refuses rest e) bytes e (λ b rest k. rw (k.0, f.refused rest e k.1) refl) r;
    }

-- ---- unions

pub record AreArms {A : Type 0} (G : Arms A) : Type 0 where
  pub takes : (n : ℕ) (bytes : List ℕ) (x : A) (rest : List ℕ) → IsBytes bytes → G.read n bytes ≡ Ok (x, rest)
      → (n ≡ G.number x) × Takes bytes (G.spell x) rest × G.Fits x
  pub again : (x : A) (rest : List ℕ) → G.Fits x → G.read (G.number x) (G.spell x ++ rest) ≡ Ok (x, rest)
  pub shrinks : (n : ℕ) (bytes : List ℕ) (x : A) (rest : List ℕ) → G.read n bytes ≡ Ok (x, rest)
      → length rest ≤ length bytes
  pub small : (x : A) → G.number x < 2 ^ 32
  pub has : (x : A) → G.has (G.number x) ≡ true
  pub never : (n : ℕ) (bytes : List ℕ) → Never (G.read n bytes)
  pub refuses : (n : ℕ) (bytes : List ℕ) (e : XdrFault) → IsBytes bytes → G.read n bytes ≡ Err e
      → G.Refuses n bytes e
  pub refused : (n : ℕ) (bytes : List ℕ) (e : XdrFault) → G.Refuses n bytes e → G.read n bytes ≡ Err e

same : (k : ℕ) → (k == k) ≡ true
same k = eq-eqb k k refl

apart : (has : ℕ → Bool) (n k : ℕ) → has n ≡ true → has k ≡ false → (n == k) ≡ false
apart has n k held missing =
    elim (cases_Bool (n == k)) [
      | inl e ↦ let h : has n ≡ has k = ap has (eqb-true n k e) in absurd cc
      | inr e ↦ e
    ]

arm_refuses : {A : Type 0} (k : ℕ) (F : Code A) → IsCode F → (n : ℕ) (bytes : List ℕ) (e : XdrFault)
    → IsBytes bytes → (arm k F).read n bytes ≡ Err e → (arm k F).Refuses n bytes e
arm_refuses k F f n bytes e fits h =
    elim (holds_err (n == k) Value (F.read bytes) e h) [
      | inl r ↦ inl (r.0, f.refuses bytes e fits r.1)
      | inr r ↦ inr r
    ]

arm_refused : {A : Type 0} (k : ℕ) (F : Code A) → IsCode F → (n : ℕ) (bytes : List ℕ) (e : XdrFault)
    → (arm k F).Refuses n bytes e → (arm k F).read n bytes ≡ Err e
arm_refused k F f n bytes e (inl r) = rw r.0 (f.refused bytes e r.1)
arm_refused k F f n bytes e (inr r) = rw (r.0, r.1) refl

pub arm_is : {A : Type 0} (k : ℕ) (F : Code A) → k < 2 ^ 32 → IsCode F → AreArms (arm k F)
arm_is k F small f = record {
  takes = λ n bytes x rest fits e.
      let h = holds_ok (n == k) Value (F.read bytes) (x, rest) e in
      let t = f.takes bytes x rest fits h.1 in
      (eqb-true n k h.0, t.0, t.1);
  again = λ x rest fits. rw (same k) (f.again x rest fits);
  shrinks = λ n bytes x rest e. f.shrinks bytes x rest (holds_ok (n == k) Value (F.read bytes) (x, rest) e).1;
  small = λ x. small;
  has = λ x. same k;
  never = λ n bytes. never.if_never (n == k) _ _ (f.never bytes) never.value;
  refuses = arm_refuses k F f;
  refused = arm_refused k F f;
}

record Took {A : Type 0} (G : Arms A) (n : ℕ) (bytes : List ℕ) (x : A) (rest : List ℕ) : Type 0 where
  number : n ≡ G.number x
  takes : Takes bytes (G.spell x) rest
  fits : G.Fits x

or_takes : {A B : Type 0} (k : ℕ) (F : Code A) (G : Arms B) → IsCode F → AreArms G
    → (n : ℕ) (bytes : List ℕ) (x : A ⊎ B) (rest : List ℕ) → IsBytes bytes
    → (arm_or k F G).read n bytes ≡ Ok (x, rest) → Took (arm_or k F G) n bytes x rest
or_takes k F G f g n bytes x rest fits e =
    elim (chosen (n == k) (F.read bytes >>= made_of inl) (G.read n bytes >>= made_of inr) (Ok (x, rest)) e) [
      | inl h ↦
          let m = map_ok (F.read bytes) inl x rest h.1 in
          let t = f.takes bytes m.0 rest fits m.1 in
          subst (λ (y : _ ⊎ _). Took (arm_or k F G) n bytes y rest) m.2
          (record { number = eqb-true n k h.0; takes = t.0; fits = t.1 })
      | inr h ↦
          let m = map_ok (G.read n bytes) inr x rest h.1 in
          let t = g.takes n bytes m.0 rest fits m.1 in
          subst (λ (y : _ ⊎ _). Took (arm_or k F G) n bytes y rest) m.2
          (record { number = t.0; takes = t.1; fits = t.2 })
    ]

or_again : {A B : Type 0} (k : ℕ) (F : Code A) (G : Arms B) → IsCode F → AreArms G → G.has k ≡ false
    → (x : A ⊎ B) (rest : List ℕ) → (arm_or k F G).Fits x
    → (arm_or k F G).read ((arm_or k F G).number x) ((arm_or k F G).spell x ++ rest) ≡ Ok (x, rest)
or_again k F G f g missing (inl x) rest fits = rw (same k, f.again x rest fits) refl
or_again k F G f g missing (inr y) rest fits =
    rw (apart G.has (G.number y) k (g.has y) missing, g.again y rest fits) refl

or_shrinks : {A B : Type 0} (k : ℕ) (F : Code A) (G : Arms B) → IsCode F → AreArms G
    → (n : ℕ) (bytes : List ℕ) (x : A ⊎ B) (rest : List ℕ) → (arm_or k F G).read n bytes ≡ Ok (x, rest)
    → length rest ≤ length bytes
or_shrinks k F G f g n bytes x rest e =
    elim (chosen (n == k) (F.read bytes >>= made_of inl) (G.read n bytes >>= made_of inr) (Ok (x, rest)) e) [
      | inl h ↦ let m = map_ok (F.read bytes) inl x rest h.1 in f.shrinks bytes m.0 rest m.1
      | inr h ↦ let m = map_ok (G.read n bytes) inr x rest h.1 in g.shrinks n bytes m.0 rest m.1
    ]

or_small : {A B : Type 0} (k : ℕ) (F : Code A) (G : Arms B) → k < 2 ^ 32 → AreArms G → (x : A ⊎ B)
    → (arm_or k F G).number x < 2 ^ 32
or_small k F G small g (inl x) = small
or_small k F G small g (inr y) = g.small y

or_has : {A B : Type 0} (k : ℕ) (F : Code A) (G : Arms B) → AreArms G → G.has k ≡ false → (x : A ⊎ B)
    → (arm_or k F G).has ((arm_or k F G).number x) ≡ true
or_has k F G g missing (inl x) = rw (same k) refl
or_has k F G g missing (inr y) = rw (apart G.has (G.number y) k (g.has y) missing) (g.has y)

or_refuses : {A B : Type 0} (k : ℕ) (F : Code A) (G : Arms B) → IsCode F → AreArms G
    → (n : ℕ) (bytes : List ℕ) (e : XdrFault) → IsBytes bytes → (arm_or k F G).read n bytes ≡ Err e
    → (arm_or k F G).Refuses n bytes e
or_refuses k F G f g n bytes e fits h =
    elim (chosen (n == k) (F.read bytes >>= made_of inl) (G.read n bytes >>= made_of inr) (Err e) h) [
      | inl r ↦ inl (r.0, f.refuses bytes e fits (made_err (F.read bytes) inl e r.1))
      | inr r ↦ inr (r.0, g.refuses n bytes e fits (made_err (G.read n bytes) inr e r.1))
    ]

or_refused : {A B : Type 0} (k : ℕ) (F : Code A) (G : Arms B) → IsCode F → AreArms G
    → (n : ℕ) (bytes : List ℕ) (e : XdrFault) → (arm_or k F G).Refuses n bytes e
    → (arm_or k F G).read n bytes ≡ Err e
or_refused k F G f g n bytes e (inl r) = rw (r.0, f.refused bytes e r.1) refl
or_refused k F G f g n bytes e (inr r) = rw (r.0, g.refused n bytes e r.1) refl

pub or_is : {A B : Type 0} (k : ℕ) (F : Code A) (G : Arms B) → k < 2 ^ 32 → G.has k ≡ false → IsCode F
    → AreArms G → AreArms (arm_or k F G)
or_is k F G small missing f g = record {
  takes = λ n bytes x rest fits e. let t = or_takes k F G f g n bytes x rest fits e in
      (t.number, t.takes, t.fits);
  again = or_again k F G f g missing;
  shrinks = or_shrinks k F G f g;
  small = or_small k F G small g;
  has = or_has k F G g missing;
  never = λ n bytes.
      never.if_never (n == k) _ _ (never.bind (F.read bytes) _ (f.never bytes) (λ x. never.ok_never _))
      (never.bind (G.read n bytes) _ (g.never n bytes) (λ x. never.ok_never _));
  refuses = or_refuses k F G f g;
  refused = or_refused k F G f g;
}

-- each of these has a number of its own
pub record HasNumbers {S : Type 0} (number : S → ℕ) (all : List S) (s : S) : Type 0 where
  pub found : numbered number all (number s) ≡ Some s
  pub small : number s < 2 ^ 32

numbered_is : {S : Type 0} (number : S → ℕ) (all : List S) (n : ℕ) (s : S) → numbered number all n ≡ Some s
    → n ≡ number s
numbered_is number [] n s e = absurd cc
numbered_is number (t ∷ ts) n s e =
    elim (chosen (n == number t) (Some t) (numbered number ts n) (Some s) e) [
      | inl h ↦ let is : t ≡ s = cc in eqb-true n (number t) h.0 ∙ ap number is
      | inr h ↦ numbered_is number ts n s h.1
    ]

on_listed_ok : {S B : Type 0} (o : Option S) (r : Result (B × List ℕ) XdrFault) (x : S × B) (rest : List ℕ)
    → on_listed o r ≡ Ok (x, rest) → (o ≡ Some x.0) × (r ≡ Ok (x.1, rest))
on_listed_ok {S} {B} (Some s) r x rest e =
    let m = map_ok r (λ (b : B). (s, b)) x rest e in
    let first : s ≡ x.0 = ap (λ (q : S × B). q.0) m.2 in
    let second : m.0 ≡ x.1 = ap (λ (q : S × B). q.1) m.2 in
    (ap (λ (t : S). Some t) first, rw (← second) m.1)
on_listed_ok None r x rest e = absurd cc

on_listed_never : {S B : Type 0} (o : Option S) (r : Result (B × List ℕ) XdrFault) → Never r
    → Never (on_listed o r)
on_listed_never (Some s) r h = never.bind r _ h (λ x. never.ok_never _)
on_listed_never None r h = never.value

on_listed_refuses : {S B : Type 0} (F : Code B) → IsCode F → (o : Option S) (bytes : List ℕ) (e : XdrFault)
    → IsBytes bytes → on_listed o (F.read bytes) ≡ Err e
    → ((is_some o ≡ true) × F.Refuses bytes e) ⊎ ((is_some o ≡ false) × (e ≡ Value))
on_listed_refuses {S} {B} F f (Some s) bytes e fits h =
    inl (refl, f.refuses bytes e fits (made_err (F.read bytes) (λ (b : B). (s, b)) e h))
on_listed_refuses {S} {B} F f None bytes e fits h = inr (refl, err_is {A = (S × B) × List ℕ} Value e h)

on_listed_refused : {S B : Type 0} (F : Code B) → IsCode F → (o : Option S) (bytes : List ℕ) (e : XdrFault)
    → ((is_some o ≡ true) × F.Refuses bytes e) ⊎ ((is_some o ≡ false) × (e ≡ Value))
    → on_listed o (F.read bytes) ≡ Err e
on_listed_refused F f (Some s) bytes e (inl r) = rw (f.refused bytes e r.1) refl
on_listed_refused F f (Some s) bytes e (inr r) = absurd cc
on_listed_refused F f None bytes e (inl r) = absurd cc
on_listed_refused F f None bytes e (inr r) = rw r.1 refl

pub arms_are : {S B : Type 0} (number : S → ℕ) (all : List S) (F : Code B)
    → ((s : S) → HasNumbers number all s) → IsCode F → AreArms (arms number all F)
arms_are number all F numbers f = record {
  takes = λ n bytes x rest fits e.
      let h = on_listed_ok (numbered number all n) (F.read bytes) x rest e in
      let t = f.takes bytes x.1 rest fits h.1 in
      (numbered_is number all n x.0 h.0, t.0, t.1);
  again = λ x rest fits. rw ((numbers x.0).found, f.again x.1 rest fits) refl;
  shrinks = λ n bytes x rest e. f.shrinks bytes x.1 rest
      (on_listed_ok (numbered number all n) (F.read bytes) x rest e).1;
  small = λ x. (numbers x.0).small;
  has = λ x. rw (numbers x.0).found refl;
  never = λ n bytes. on_listed_never (numbered number all n) (F.read bytes) (f.never bytes);
  refuses = λ n bytes e fits h. on_listed_refuses F f (numbered number all n) bytes e fits h;
  refused = λ n bytes e r. on_listed_refused F f (numbered number all n) bytes e r;
}

pub unions : {A : Type 0} (G : Arms A) → AreArms G → IsCode (union G)
unions G g = record {
  takes = λ bytes x rest fits e.
      let a = bind_ok (number_at w32 bytes) (λ n. G.read n.0 n.1) (x, rest) e in
      let t = words.takes bytes a.0.0 a.0.1 fits a.1 in
      let u = g.takes a.0.0 a.0.1 x rest t.0.rest_fits a.2 in
      let leading : Takes bytes (items.word (G.number x)) a.0.1 =
      subst (λ (n : ℕ). Takes bytes (items.word n) a.0.1) u.0 t.0 in
      (Takes-then bytes (items.word (G.number x)) a.0.1 (G.spell x) rest leading u.1, u.2);
  again = λ x rest fits. ap (union G).read (append_assoc (items.word (G.number x)) (G.spell x) rest)
      ∙ rw (words.again (G.number x) (G.spell x ++ rest) (g.small x), g.again x rest fits) refl;
  shrinks = λ bytes x rest e.
      let a = bind_ok (number_at w32 bytes) (λ n. G.read n.0 n.1) (x, rest) e in
      omega (arith, number_shrinks w32 bytes a.0.0 a.0.1 a.1, g.shrinks a.0.0 a.0.1 x rest a.2);
  never = λ bytes. never.bind (number_at w32 bytes) _ (never.number w32 bytes) (λ n. g.never n.0 n.1);
  refuses = λ bytes e fits h.
      behind_refuses word words (λ n. G.read n.0 n.1) (λ n rest. G.Refuses n rest e) bytes e fits
      (λ n rest p k. g.refuses n rest e p k) h;
  refused = λ bytes e r.
      behind_refused word words (λ n. G.read n.0 n.1) (λ n rest. G.Refuses n rest e) bytes e
      (λ n rest k. g.refused n rest e k) r;
}

pub one_ofs : {S : Type 0} (number : S → ℕ) (all : List S) → ((s : S) → HasNumbers number all s)
    → IsCode (one_of number all)
one_ofs number all numbers = vieweds (λ x. x.0) (λ s. (s, tt)) (union (arms number all nothing)) (λ b. refl)
    (λ s. refl) (unions _ (arms_are number all nothing numbers nothings))

-- ---- chains

-- what a link and the links behind it made
linked_ok : {A : Type 0} (r : Result (A × List ℕ) XdrFault)
    (behind : List ℕ → Result (List A × List ℕ) XdrFault) (xs : List A) (rest : List ℕ)
    → (r >>= λ x. behind x.1 >>= made_of (λ ys. x.0 ∷ ys)) ≡ Ok (xs, rest)
    → (x : A) × (middle : List ℕ) × (ys : List A) × (r ≡ Ok (x, middle)) × (behind middle ≡ Ok (ys, rest))
    × (x ∷ ys ≡ xs)
linked_ok {A} r behind xs rest e =
    let a = bind_ok r (λ x. behind x.1 >>= made_of (λ ys. x.0 ∷ ys)) (xs, rest) e in
    let b = map_ok (behind a.0.1) (λ (ys : List A). a.0.0 ∷ ys) xs rest a.2 in
    (a.0.0, a.0.1, b.0, a.1, b.1, b.2)

record TookLinks {A : Type 0} (F : Code A) (bytes : List ℕ) (xs : List A) (rest : List ℕ) : Type 0 where
  takes : Takes bytes (chain_bytes F xs) rest
  fits : AllByRecursion F.Fits xs

abbrev TakesLinks : {A : Type 0} → Code A → ℕ → Type 0
TakesLinks {A} F links = (bytes : List ℕ) (xs : List A) (rest : List ℕ) → IsBytes bytes
    → chain_at F links bytes ≡ Ok (xs, rest) → TookLinks F bytes xs rest

link_takes : {A : Type 0} (F : Code A) → IsCode F → (links : ℕ) → TakesLinks F links
    → (more : Bool) (bytes middle : List ℕ) (xs : List A) (rest : List ℕ) → Takes bytes (items.flag more) middle
    → cond more (F.read middle >>= λ x. chain_at F links x.1 >>= made_of (λ ys. x.0 ∷ ys))
    (Ok ([], middle)) ≡ Ok (xs, rest) → TookLinks F bytes xs rest
link_takes {A} F f links ih true bytes middle xs rest t e =
    let m = linked_ok (F.read middle) (chain_at F links) xs rest e in
    let u = f.takes middle m.0 m.1 t.rest_fits m.3 in
    let v = ih m.1 m.2 rest u.0.rest_fits m.4 in
    let w = Takes-then bytes (items.flag true) middle (F.spell m.0 ++ chain_bytes F m.2) rest t
    (Takes-then middle (F.spell m.0) m.1 (chain_bytes F m.2) rest u.0 v.takes) in
    subst (λ (ys : List A). TookLinks F bytes ys rest) m.5 (record { takes = w; fits = (u.1, v.fits) })
link_takes {A} F f links ih false bytes middle xs rest t e =
    let pair : List A × List ℕ = ([], middle) in
    subst (λ (q : List A × List ℕ). TookLinks F bytes q.0 q.1) (ok_is pair (xs, rest) e)
    (record { takes = t; fits = tt })

links_take : {A : Type 0} (F : Code A) → IsCode F → (links : ℕ) → TakesLinks F links
links_take F f zero bytes xs rest fits e = absurd cc
links_take F f (suc links) bytes xs rest fits e =
    let a = bind_ok (flag_at bytes) _ (xs, rest) e in
    let t = flags.takes bytes a.0.0 a.0.1 fits a.1 in
    link_takes F f links (links_take F f links) a.0.0 bytes a.0.1 xs rest t.0 a.2

links_again : {A : Type 0} (F : Code A) → IsCode F → (links : ℕ) (xs : List A) (rest : List ℕ)
    → length xs < links → AllByRecursion F.Fits xs → chain_at F links (chain_bytes F xs ++ rest) ≡ Ok (xs, rest)
links_again F f zero xs rest lt fits = absurd (omega arith)
links_again F f (suc links) [] rest lt fits = rw (flags.again false rest tt) refl
links_again F f (suc links) (x ∷ xs) rest lt fits =
    let regrouped : chain_bytes F (x ∷ xs) ++ rest ≡ items.flag true
    ++ (F.spell x ++ (chain_bytes F xs ++ rest)) = simp append_assoc refl in
    ap (chain_at F (suc links)) regrouped ∙ rw (
      flags.again true (F.spell x ++ (chain_bytes F xs ++ rest)) tt,
      f.again x (chain_bytes F xs ++ rest) fits.0,
      links_again F f links xs rest (omega arith) fits.1,
    ) refl

links_shrink : {A : Type 0} (F : Code A) → IsCode F
    → (links : ℕ) (bytes : List ℕ) (xs : List A) (rest : List ℕ) → chain_at F links bytes ≡ Ok (xs, rest)
    → length rest ≤ length bytes
links_shrink F f zero bytes xs rest e = absurd cc
links_shrink {A} F f (suc links) bytes xs rest e =
    let a = bind_ok (flag_at bytes) _ (xs, rest) e in
    let less = flag_shrinks bytes a.0.0 a.0.1 a.1 in
    let pair : List A × List ℕ = ([], a.0.1) in
    elim (chosen a.0.0 (F.read a.0.1 >>= λ x. chain_at F links x.1 >>= made_of (λ ys. x.0 ∷ ys)) (Ok pair)
    (Ok (xs, rest)) a.2) [
      | inl h ↦
          let m = linked_ok (F.read a.0.1) (chain_at F links) xs rest h.1 in
          omega (arith, less, f.shrinks a.0.1 m.0 m.1 m.3, links_shrink F f links m.1 m.2 rest m.4)
      | inr h ↦ omega (arith, less, ap length (ap (λ (q : List A × List ℕ). q.1) (ok_is pair (xs, rest) h.1)))
    ]

flag-length : (b : Bool) → length (items.flag b) ≡ 4
unfolding items.flag items.word
flag-length false = refl
flag-length true = refl

chain-length : {A : Type 0} (F : Code A) (xs : List A) → length xs < length (chain_bytes F xs)
chain-length F [] = omega (arith, flag-length false)
chain-length F (x ∷ xs) = omega (
  arith,
  length-append (items.flag true) (F.spell x ++ chain_bytes F xs),
  length-append (F.spell x) (chain_bytes F xs),
  flag-length true,
  chain-length F xs,
)

links_never : {A : Type 0} (F : Code A) → IsCode F → (links : ℕ) (bytes : List ℕ)
    → Never (chain_at F links bytes)
links_never F f zero bytes = never.short
links_never F f (suc links) bytes =
    never.bind (flag_at bytes) _ (never.flag bytes)
    (λ more. never.if_never more.0 _ _
    (never.bind (F.read more.1) _ (f.never more.1)
    (λ x. never.bind (chain_at F links x.1) _ (links_never F f links x.1) (λ xs. never.ok_never _)))
    (never.ok_never _))

links_refuse : {A : Type 0} (F : Code A) → IsCode F → (links : ℕ) (bytes : List ℕ) (e : XdrFault)
    → IsBytes bytes → length bytes < links → chain_at F links bytes ≡ Err e
    → (k : ℕ) × link_refused F k bytes e
links_refuse F f zero bytes e fits lt h = absurd (omega (arith, lt))
links_refuse {A} F f (suc links) bytes e fits lt h =
    elim (bind_err (flag_at bytes) _ e h) [
      | inl r ↦ (0, inl (flags.refuses bytes e fits r))
      | inr m ↦
          let t = flags.takes bytes m.0.0 m.0.1 fits m.1 in
          let less = flag_shrinks bytes m.0.0 m.0.1 m.1 in
          let pair : List A × List ℕ = ([], m.0.1) in
          elim (chosen m.0.0 (F.read m.0.1 >>= λ x. chain_at F links x.1 >>= made_of (λ ys. x.0 ∷ ys))
          (Ok pair) (Err e) m.2) [
            | inl c ↦ elim (bind_err (F.read m.0.1)
                (λ x. chain_at F links x.1 >>= made_of (λ ys. x.0 ∷ ys)) e c.1) [
                  | inl r ↦ (
                    0,
                    inr (record {
                      value = m.0.0;
                      rest = m.0.1;
                      fits = tt;
                      parts = t.0.parts;
                      holds = (c.0, f.refuses m.0.1 e t.0.rest_fits r);
                    }),
                  )
                  | inr x ↦
                      let u = f.takes m.0.1 x.0.0 x.0.1 t.0.rest_fits x.1 in
                      let next = links_refuse F f links x.0.1 e u.0.rest_fits
                      (omega (arith, lt, less, f.shrinks m.0.1 x.0.0 x.0.1 x.1))
                      (made_err (chain_at F links x.0.1) (λ ys. x.0.0 ∷ ys) e x.2) in (
                        suc next.0,
                        record {
                          value = m.0.0;
                          rest = m.0.1;
                          fits = tt;
                          parts = t.0.parts;
                          holds = (
                            c.0,
                            record {
                              value = x.0.0;
                              rest = x.0.1;
                              fits = u.1;
                              parts = u.0.parts;
                              holds = next.1;
                            },
                          );
                        },
                      )
                ]
            | inr c ↦ absurd (no_err pair e c.1)
          ]
    ]

links_refused : {A : Type 0} (F : Code A) → IsCode F → (k links : ℕ) (bytes : List ℕ) (e : XdrFault)
    → length bytes < links → link_refused F k bytes e → chain_at F links bytes ≡ Err e
links_refused F f zero zero bytes e lt r = absurd (omega (arith, lt))
links_refused F f (suc k) zero bytes e lt r = absurd (omega (arith, lt))
links_refused F f zero (suc links) bytes e lt (inl r) = rw (flags.refused bytes e r) refl
links_refused F f zero (suc links) bytes e lt (inr b) =
    rw (read_so flag flags _ bytes b, b.holds.0, f.refused b.rest e b.holds.1) refl
links_refused F f (suc k) (suc links) bytes e lt b =
    let more = read_so flag flags _ bytes b in
    let i = b.holds.1 in
    let item = read_so F f _ b.rest i in
    let fewer : length i.rest < links = omega (
      arith,
      lt,
      flag_shrinks bytes b.value b.rest more,
      f.shrinks b.rest i.value i.rest item,
    ) in
    rw (more, b.holds.0, item, links_refused F f k links i.rest e fewer i.holds) refl

pub chains : {A : Type 0} (F : Code A) → IsCode F → IsCode (chain F)
chains F f = record {
  takes = λ bytes xs rest fits e. let t = links_take F f (suc (length bytes)) bytes xs rest fits e in
      (t.takes, t.fits);
  again = λ xs rest fits. links_again F f (suc (length (chain_bytes F xs ++ rest))) xs rest
      (omega (arith, chain-length F xs, length-append (chain_bytes F xs) rest)) fits;
  shrinks = λ bytes xs rest e. links_shrink F f (suc (length bytes)) bytes xs rest e;
  never = λ bytes. links_never F f (suc (length bytes)) bytes;
  refuses = λ bytes e fits h. links_refuse F f (suc (length bytes)) bytes e fits (omega arith) h;
  refused = λ bytes e r. links_refused F f r.0 (suc (length bytes)) bytes e (omega arith) r.1;
}

-- ---- counted items

record TookItems {A : Type 0} (F : Code A) (n : ℕ) (bytes : List ℕ) (xs : List A) (rest : List ℕ) : Type 0 where
  count : length xs ≡ n
  takes : Takes bytes (items_bytes F xs) rest
  fits : AllByRecursion F.Fits xs

items_take : {A : Type 0} (F : Code A) → IsCode F → (n : ℕ) (bytes : List ℕ) (xs : List A) (rest : List ℕ)
    → IsBytes bytes → items_at F n bytes ≡ Ok (xs, rest) → TookItems F n bytes xs rest
items_take {A} F f zero bytes xs rest fits e =
    let pair : List A × List ℕ = ([], bytes) in
    subst (λ (q : List A × List ℕ). TookItems F 0 bytes q.0 q.1) (ok_is pair (xs, rest) e)
    (record { count = refl; takes = record { parts = refl; rest_fits = fits }; fits = tt })
items_take {A} F f (suc n) bytes xs rest fits e =
    let m = linked_ok (F.read bytes) (items_at F n) xs rest e in
    let u = f.takes bytes m.0 m.1 fits m.3 in
    let v = items_take F f n m.1 m.2 rest u.0.rest_fits m.4 in
    let w = Takes-then bytes (F.spell m.0) m.1 (items_bytes F m.2) rest u.0 v.takes in
    subst (λ (ys : List A). TookItems F (suc n) bytes ys rest) m.5
    (record { count = ap suc v.count; takes = w; fits = (u.1, v.fits) })

items_again : {A : Type 0} (F : Code A) → IsCode F → (xs : List A) (rest : List ℕ) → AllByRecursion F.Fits xs
    → items_at F (length xs) (items_bytes F xs ++ rest) ≡ Ok (xs, rest)
items_again F f [] rest fits = refl
items_again F f (x ∷ xs) rest fits =
    ap (items_at F (suc (length xs))) (append_assoc (F.spell x) (items_bytes F xs) rest)
    ∙ rw (f.again x (items_bytes F xs ++ rest) fits.0, items_again F f xs rest fits.1) refl

items_shrink : {A : Type 0} (F : Code A) → IsCode F → (n : ℕ) (bytes : List ℕ) (xs : List A) (rest : List ℕ)
    → items_at F n bytes ≡ Ok (xs, rest) → length rest ≤ length bytes
items_shrink {A} F f zero bytes xs rest e =
    let pair : List A × List ℕ = ([], bytes) in
    omega (arith, ap length (ap (λ (q : List A × List ℕ). q.1) (ok_is pair (xs, rest) e)))
items_shrink F f (suc n) bytes xs rest e =
    let m = linked_ok (F.read bytes) (items_at F n) xs rest e in
    omega (arith, f.shrinks bytes m.0 m.1 m.3, items_shrink F f n m.1 m.2 rest m.4)

items_never : {A : Type 0} (F : Code A) → IsCode F → (n : ℕ) (bytes : List ℕ) → Never (items_at F n bytes)
items_never F f zero bytes = never.ok_never _
items_never F f (suc n) bytes =
    never.bind (F.read bytes) _ (f.never bytes)
    (λ x. never.bind (items_at F n x.1) _ (items_never F f n x.1) (λ xs. never.ok_never _))

items_refuse : {A : Type 0} (F : Code A) → IsCode F → (n : ℕ) (bytes : List ℕ) (e : XdrFault) → IsBytes bytes
    → items_at F n bytes ≡ Err e → item_refused F n bytes e
items_refuse F f zero bytes e fits h = absurd (no_err _ e h)
items_refuse F f (suc n) bytes e fits h =
    behind_refuses F f (λ x. items_at F n x.1 >>= made_of (λ xs. x.0 ∷ xs))
    (λ x rest. item_refused F n rest e) bytes e fits
    (λ x rest p k. items_refuse F f n rest e p (made_err (items_at F n rest) (λ xs. x ∷ xs) e k)) h

items_refused : {A : Type 0} (F : Code A) → IsCode F → (n : ℕ) (bytes : List ℕ) (e : XdrFault)
    → item_refused F n bytes e → items_at F n bytes ≡ Err e
items_refused F f zero bytes e r = absurd r
items_refused F f (suc n) bytes e r =
    behind_refused F f (λ x. items_at F n x.1 >>= made_of (λ xs. x.0 ∷ xs))
    (λ x rest. item_refused F n rest e) bytes e
    (λ x rest k. rw (items_refused F f n rest e k) refl) r

count_refuses : {A : Type 0} (bound : ℕ) (F : Code A) → IsCode F → (n : ℕ) (rest : List ℕ) (e : XdrFault)
    → IsBytes rest → cond (ltb bound n) (Err Length) (items_at F n rest) ≡ Err e
    → ((bound < n) × (e ≡ Length)) ⊎ ((n ≤ bound) × item_refused F n rest e)
count_refuses bound F f n rest e fits h =
    elim (guard_err (ltb bound n) Length (items_at F n rest) e h) [
      | inl long ↦ inl (ltb-true _ _ long.0, long.1)
      | inr few ↦ inr (ltb-false _ _ few.0, items_refuse F f n rest e fits few.1)
    ]

count_refused : {A : Type 0} (bound : ℕ) (F : Code A) → IsCode F → (n : ℕ) (rest : List ℕ) (e : XdrFault)
    → ((bound < n) × (e ≡ Length)) ⊎ ((n ≤ bound) × item_refused F n rest e)
    → cond (ltb bound n) (Err Length) (items_at F n rest) ≡ Err e
count_refused bound F f n rest e (inl long) = rw (lt-ltb bound n long.0, long.1) refl
count_refused bound F f n rest e (inr few) = rw (le-ltb bound n few.0) (items_refused F f n rest e few.1)

pub counteds : {A : Type 0} (bound : ℕ) (F : Code A) → bound < 2 ^ 32 → IsCode F → IsCode (counted bound F)
counteds bound F small f = record {
  takes = λ bytes xs rest fits e.
      let a = bind_ok (number_at w32 bytes) (λ n. cond (ltb bound n.0) (Err Length) (items_at F n.0 n.1))
      (xs, rest) e in
      let g = guard_ok (ltb bound a.0.0) Length (items_at F a.0.0 a.0.1) (xs, rest) a.2 in
      let t = words.takes bytes a.0.0 a.0.1 fits a.1 in
      let u = items_take F f a.0.0 a.0.1 xs rest t.0.rest_fits g.1 in
      let leading : Takes bytes (items.word (length xs)) a.0.1 =
      subst (λ (n : ℕ). Takes bytes (items.word n) a.0.1) (sym u.count) t.0 in
      let le : a.0.0 ≤ bound = ltb-false _ _ g.0 in (
        Takes-then bytes (items.word (length xs)) a.0.1 (items_bytes F xs) rest leading u.takes,
        (omega (arith, le, u.count), u.fits),
      );
  again = λ xs rest fits.
      let fewer : ltb bound (length xs) ≡ false = le-ltb bound (length xs) fits.0 in
      ap (counted bound F).read (append_assoc (items.word (length xs)) (items_bytes F xs) rest)
      ∙ rw (
        words.again (length xs) (items_bytes F xs ++ rest) (omega (arith, fits.0, small)),
        fewer,
        items_again F f xs rest fits.1,
      ) refl;
  shrinks = λ bytes xs rest e.
      let a = bind_ok (number_at w32 bytes) (λ n. cond (ltb bound n.0) (Err Length) (items_at F n.0 n.1))
      (xs, rest) e in
      let g = guard_ok (ltb bound a.0.0) Length (items_at F a.0.0 a.0.1) (xs, rest) a.2 in
      omega (arith, number_shrinks w32 bytes a.0.0 a.0.1 a.1, items_shrink F f a.0.0 a.0.1 xs rest g.1);
  never = λ bytes.
      never.bind (number_at w32 bytes) _ (never.number w32 bytes)
      (λ n. never.if_never (ltb bound n.0) _ _ never.long (items_never F f n.0 n.1));
  refuses = λ bytes e fits h.
      behind_refuses word words (λ n. cond (ltb bound n.0) (Err Length) (items_at F n.0 n.1))
      (λ n rest. ((bound < n) × (e ≡ Length)) ⊎ ((n ≤ bound) × item_refused F n rest e)) bytes e fits
      (λ n rest p k. count_refuses bound F f n rest e p k) h;
  refused = λ bytes e r.
      behind_refused word words (λ n. cond (ltb bound n.0) (Err Length) (items_at F n.0 n.1))
      (λ n rest. ((bound < n) × (e ≡ Length)) ⊎ ((n ≤ bound) × item_refused F n rest e)) bytes e
      (λ n rest k. count_refused bound F f n rest e k) r;
}

-- ---- what the law gives

pub end_is : (rest : List ℕ) (u : Unit {0}) → end_at rest ≡ Ok u → rest ≡ []
end_is [] u e = refl
end_is (b ∷ rest) u e = absurd cc

-- a value that fits has a spelling of its own, whatever follows it
pub alike : {A : Type 0} (F : Code A) → IsCode F → (x y : A) (a b : List ℕ) → F.Fits x → F.Fits y
    → F.spell x ++ a ≡ F.spell y ++ b → (x ≡ y) × (a ≡ b)
alike {A} F f x y a b p q e =
    let first : A × List ℕ = (x, a) in
    let one = ok_is first (y, b) (sym (f.again x a p) ∙ ap F.read e ∙ f.again y b q) in
    (ap (λ (t : A × List ℕ). t.0) one, ap (λ (t : A × List ℕ). t.1) one)

-- all of the bytes that were read are the spelling of a value that fits
pub whole_takes : {A : Type 0} (F : Code A) → IsCode F → (bytes : List ℕ) (x : A) → IsBytes bytes
    → whole (F.read bytes) ≡ Ok x → F.Fits x × (bytes ≡ F.spell x)
whole_takes {A} F f bytes x fits e =
    let a = bind_ok (F.read bytes) _ x e in
    let b = bind_ok (end_at a.0.1) (λ (u : Unit {0}). Ok a.0.0) x a.2 in
    let same : a.0.0 ≡ x = ok_is a.0.0 x b.2 in
    let t = f.takes bytes a.0.0 a.0.1 fits a.1 in
    let none : a.0.1 ≡ [] = end_is a.0.1 b.0 b.1 in
    subst (λ (y : A). F.Fits y × (bytes ≡ F.spell y)) same
    (t.1, t.0.parts ∙ ap (λ (r : List ℕ). F.spell a.0.0 ++ r) none ∙ append-nil (F.spell a.0.0))

-- what a value that fits is spelled by is read whole
pub whole_again : {A : Type 0} (F : Code A) → IsCode F → (x : A) → F.Fits x → whole (F.read (F.spell x)) ≡ Ok x
whole_again {A} F f x fits =
    let again : F.read (F.spell x) ≡ Ok (x, []) =
    ap F.read (sym (append-nil (F.spell x))) ∙ f.again x [] fits in
    rw again refl

pub whole_never : {A : Type 0} (F : Code A) → IsCode F → (bytes : List ℕ) → Never (whole (F.read bytes))
whole_never F f bytes =
    never.bind (F.read bytes) _ (f.never bytes)
    (λ x. never.bind (end_at x.1) _ (never.end x.1) (λ e. never.ok_never _))

-- all of the bytes are refused just for a reason of theirs
pub whole_refuses : {A : Type 0} (F : Code A) → IsCode F → (bytes : List ℕ) (e : XdrFault) → IsBytes bytes
    → whole (F.read bytes) ≡ Err e → refused_whole F bytes e
whole_refuses F f bytes e fits h =
    behind_refuses F f (λ x. end_at x.1 >>= λ u. Ok x.0) (λ x rest. (0 < length rest) × (e ≡ Left)) bytes e fits
    (λ x rest p k. elim (bind_err (end_at rest) (λ u. Ok x) e k) [
      | inl r ↦ end_refuses rest e r
      | inr r ↦ absurd (no_err x e r.2)
    ]) h

pub whole_refused : {A : Type 0} (F : Code A) → IsCode F → (bytes : List ℕ) (e : XdrFault)
    → refused_whole F bytes e
    → whole (F.read bytes) ≡ Err e
whole_refused F f bytes e r =
    behind_refused F f (λ x. end_at x.1 >>= λ u. Ok x.0) (λ x rest. (0 < length rest) × (e ≡ Left)) bytes e
    (λ x rest k. rw (end_refused rest e k) refl) r
