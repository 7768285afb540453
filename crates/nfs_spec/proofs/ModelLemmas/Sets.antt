-- On finite sets of numbers as lists give them.
use Rattle.std.proofs.Common.{◌≡◌, ℕ, suc, ◌+◌, ◌≤◌, sym, ap, ◌∙◌, refl, Bool, true, false, cond, ◌&&◌, ◌||◌}
use Rattle.std.proofs.Common.{List, [], ◌∷◌, ◌++◌, length, length-append, filter, arith}
use Rattle.std.specs.List.{list_any}
use Rattle.std.specs.declared.cmp.Ordering.{Ordering}
use Rattle.std.specs.declared.cmp.Ordering.TheVariants.{Less, Equal, Greater}
use Rattle.std.specs.Ordering.{nat_cmp, is_eq, eq_by_cmp}
use Rattle.std.specs.Cmp.{nat_cmp_total, tied_itself}
use Rattle.std.specs.FinSet.{FinSet, contains, insert, retain, len, items, from_list, contains-items}
use Rattle.std.specs.FinSet.{contains-retain, contains-from_list, contains-insert, from_list_push, len-empty}
use Rattle.std.specs.FinSet.{len-insert, same_set, nat_cmp-IsAntisymmetric}

-- whether a list has a number
abbrev pub has : List ℕ → ℕ → Bool
has ks q = list_any (eq_by_cmp nat_cmp q) ks

tied : (q k : ℕ) (r : Ordering) → nat_cmp q k ≡ r → is_eq r ≡ true → q ≡ k
tied q k Less e t = cc
tied q k Equal e t = nat_cmp-IsAntisymmetric q k e
tied q k Greater e t = cc

-- numbers that the order ties are one
pub eq_by_cmp-is : (q k : ℕ) → eq_by_cmp nat_cmp q k ≡ true → q ≡ k
eq_by_cmp-is q k e = tied q k (nat_cmp q k) refl e

pub contains_retain : (s : FinSet nat_cmp) (p : ℕ → Bool) (q : ℕ)
    → contains (retain s p) q ≡ (contains s q && p q)
contains_retain s p q = contains-retain s p q (λ x e. ap p (sym (nat_cmp-IsAntisymmetric q x e)))

one_of : (passes is rest goal : Bool) → (is ≡ true → passes ≡ goal)
    → ((passes && is) || (rest && goal)) ≡ ((is || rest) && goal)
one_of true true true true h = refl
one_of true true true false h = h refl
one_of true true false true h = refl
one_of true true false false h = h refl
one_of false true true true h = refl
one_of false true true false h = refl
one_of false true false true h = h refl
one_of false true false false h = refl
one_of true false rest goal h = refl
one_of false false rest goal h = refl

any_of_cond : (e : ℕ → Bool) (k : ℕ) (b : Bool) (xs : List ℕ)
    → list_any e (cond b (k ∷ xs) xs) ≡ ((b && e k) || list_any e xs)
any_of_cond e k true xs = refl
any_of_cond e k false xs = refl

pub has-filter : (p : ℕ → Bool) (ks : List ℕ) (q : ℕ) → has (filter p ks) q ≡ (has ks q && p q)
has-filter p [] q = refl
has-filter p (k ∷ ks) q =
    any_of_cond (eq_by_cmp nat_cmp q) k (p k) (filter p ks)
    ∙ ap (λ b. (p k && eq_by_cmp nat_cmp q k) || b) (has-filter p ks q)
    ∙ one_of (p k) (eq_by_cmp nat_cmp q k) (has ks q) (p q) (λ t. ap p (sym (eq_by_cmp-is q k t)))

-- a set is that of its items
pub from_items : (s : FinSet nat_cmp) → from_list (items s) ≡ s
from_items s =
    same_set nat_cmp_total nat_cmp-IsAntisymmetric _ _ (λ q. contains-from_list nat_cmp_total (items s) q
    ∙ sym (contains-items s q))

pub retain_listed : (p : ℕ → Bool) (ks : List ℕ)
    → retain (from_list {R = nat_cmp} ks) p ≡ from_list (filter p ks)
retain_listed p ks = same_set nat_cmp_total nat_cmp-IsAntisymmetric _ _ (λ q.
    contains_retain (from_list ks) p q
    ∙ ap (λ b. b && p q) (contains-from_list nat_cmp_total ks q)
    ∙ sym (has-filter p ks q)
    ∙ sym (contains-from_list nat_cmp_total (filter p ks) q))

-- how many there are with one more
grown : (b : Bool) (m n : ℕ) → m ≤ n → cond b m (m + 1) ≤ cond b n (n + 1)
grown true m n h = h
grown false m n h = omega arith

never_less : (b : Bool) (n : ℕ) → n ≤ cond b n (n + 1)
never_less true n = omega arith
never_less false n = omega arith

and-true : (a b : Bool) → b ≡ true → (a && b) ≡ a
and-true true b e = e
and-true false b e = refl

-- whether a number that passes is in the set is the same before and after
same_contains : (p : ℕ → Bool) (k : ℕ) (ks : List ℕ) → p k ≡ true
    → contains (from_list {R = nat_cmp} (filter p ks)) k ≡ contains (from_list {R = nat_cmp} ks) k
same_contains p k ks passes =
    contains-from_list nat_cmp_total (filter p ks) k ∙ has-filter p ks k ∙ and-true (has ks k) (p k) passes
    ∙ sym (contains-from_list nat_cmp_total ks k)

pub len-filter : (p : ℕ → Bool) (ks : List ℕ)
    → len (from_list {R = nat_cmp} (filter p ks)) ≤ len (from_list {R = nat_cmp} ks)
len-filter p [] = omega arith
len-filter p (k ∷ ks) =
    let here : len (insert (from_list {R = nat_cmp} ks) k)
    ≡ cond (contains (from_list {R = nat_cmp} ks) k) (len (from_list {R = nat_cmp} ks))
    (len (from_list {R = nat_cmp} ks) + 1) = len-insert nat_cmp_total (from_list ks) k in
    elim (p k) as (λ b. p k ≡ b → len (from_list {R = nat_cmp} (cond b (k ∷ filter p ks) (filter p ks)))
    ≤ len (insert (from_list {R = nat_cmp} ks) k)) [
      | true ↦ λ passes.
          let mapped = len-insert nat_cmp_total (from_list {R = nat_cmp} (filter p ks)) k
          ∙ ap (λ b. cond b (len (from_list {R = nat_cmp} (filter p ks)))
          (len (from_list {R = nat_cmp} (filter p ks)) + 1)) (same_contains p k ks passes) in
          omega (arith, mapped, here, grown (contains (from_list {R = nat_cmp} ks) k) _ _ (len-filter p ks))
      | false ↦ λ _. omega (
        arith,
        here,
        len-filter p ks,
        never_less (contains (from_list {R = nat_cmp} ks) k) (len (from_list {R = nat_cmp} ks)),
      )
    ] refl

pub len-retain : (s : FinSet nat_cmp) (p : ℕ → Bool) → len (retain s p) ≤ len s
len-retain s p =
    let mapped : len (retain s p) ≡ len (from_list {R = nat_cmp} (filter p (items s))) =
    ap (λ t. len (retain t p)) (sym (from_items s)) ∙ ap len (retain_listed p (items s)) in
    let all : len (from_list {R = nat_cmp} (items s)) ≡ len s = ap len (from_items s) in
    omega (arith, mapped, all, len-filter p (items s))

-- some number of the list that passes
record Passing (p : ℕ → Bool) (ks : List ℕ) : Type 0 where
  number : ℕ
  is_in : has ks number ≡ true
  passes : p number ≡ true

or-left : (a b : Bool) → a ≡ true → (a || b) ≡ true
or-left true b e = refl
or-left false b e = cc

or-right : (a b : Bool) → b ≡ true → (a || b) ≡ true
or-right true b e = refl
or-right false b e = e

pub itself : (k : ℕ) → eq_by_cmp nat_cmp k k ≡ true
itself k = ap is_eq (tied_itself nat_cmp_total k)

passing : (p : ℕ → Bool) (ks : List ℕ) → list_any p ks ≡ true → Passing p ks
passing p [] e = cc
passing p (k ∷ ks) e =
    elim (p k) as (λ b. p k ≡ b → (b || list_any p ks) ≡ true → Passing p (k ∷ ks)) [
      | true ↦ λ here _. record {
        number = k;
        is_in = or-left (eq_by_cmp nat_cmp k k) (has ks k) (itself k);
        passes = here;
      }
      | false ↦ λ _ later.
          let rest : Passing p ks = passing p ks later in
          record {
            number = rest.number;
            is_in = or-right (eq_by_cmp nat_cmp rest.number k) (has ks rest.number) rest.is_in;
            passes = rest.passes;
          }
    ] refl e

pub any_passes : (p : ℕ → Bool) (ks : List ℕ) (q : ℕ) → has ks q ≡ true → p q ≡ true → list_any p ks ≡ true
any_passes p [] q is passes = is
any_passes p (k ∷ ks) q is passes =
    elim (eq_by_cmp nat_cmp q k) as (λ b. eq_by_cmp nat_cmp q k ≡ b → (b || has ks q) ≡ true
    → (p k || list_any p ks) ≡ true) [
      | true ↦ λ here _. or-left (p k) (list_any p ks) (ap p (sym (eq_by_cmp-is q k here)) ∙ passes)
      | false ↦ λ _ later. or-right (p k) (list_any p ks) (any_passes p ks q later passes)
    ] refl is

-- what some number of a list passes, some number of a list with all of those passes
pub any_more : (p : ℕ → Bool) (ks ls : List ℕ) → ((q : ℕ) → has ks q ≡ true → has ls q ≡ true)
    → list_any p ks ≡ true → list_any p ls ≡ true
any_more p ks ls more e =
    let one : Passing p ks = passing p ks e in
    any_passes p ls one.number (more one.number one.is_in) one.passes

both_ways : (a b : Bool) → (a ≡ true → b ≡ true) → (b ≡ true → a ≡ true) → a ≡ b
both_ways true true f g = refl
both_ways true false f g = sym (f refl)
both_ways false true f g = g refl
both_ways false false f g = refl

-- lists of one set pass alike
pub any_items : (p : ℕ → Bool) (ks : List ℕ) → list_any p (items (from_list {R = nat_cmp} ks)) ≡ list_any p ks
any_items p ks =
    let same : (q : ℕ) → has (items (from_list {R = nat_cmp} ks)) q ≡ has ks q =
    λ q. sym (contains-items (from_list ks) q) ∙ contains-from_list nat_cmp_total ks q in
    both_ways _ _ (any_more p (items (from_list ks)) ks (λ q e. sym (same q) ∙ e))
    (any_more p ks (items (from_list ks)) (λ q e. same q ∙ e))

-- no number stands twice
pub record Distinct (ks : List ℕ) : Type 0 where
  pub count : len (from_list {R = nat_cmp} ks) ≡ length ks

fewer : (b : Bool) (n m : ℕ) → cond b n (n + 1) ≡ m → m ≤ n + 1
fewer true n m e = omega arith
fewer false n m e = omega arith

len-le : (ks : List ℕ) → len (from_list {R = nat_cmp} ks) ≤ length ks
len-le [] = let none = len-empty nat_cmp in omega arith
len-le (k ∷ ks) =
    omega (
      arith,
      len-le ks,
      fewer (contains (from_list {R = nat_cmp} ks) k) (len (from_list {R = nat_cmp} ks))
          (len (from_list {R = nat_cmp} (k ∷ ks))) (sym (len-insert nat_cmp_total (from_list ks) k)),
    )

record NewFirst (k : ℕ) (ks : List ℕ) : Type 0 where
  rest : len (from_list {R = nat_cmp} ks) ≡ length ks
  first : contains (from_list {R = nat_cmp} ks) k ≡ false

parted : (b : Bool) (n m : ℕ) → cond b n (n + 1) ≡ suc m → n ≤ m → (n ≡ m) × (b ≡ false)
parted true n m e h = absurd (omega arith)
parted false n m e h = (omega arith, refl)

new_first : (k : ℕ) (ks : List ℕ) → Distinct (k ∷ ks) → NewFirst k ks
new_first k ks d =
    let both = parted (contains (from_list {R = nat_cmp} ks) k) (len (from_list {R = nat_cmp} ks)) (length ks)
    (sym (len-insert nat_cmp_total (from_list ks) k) ∙ d.count) (len-le ks) in
    record { rest = both.0; first = both.1 }

-- with one more that wasn't there
more : (k : ℕ) (ks : List ℕ) → contains (from_list {R = nat_cmp} ks) k ≡ false
    → len (from_list {R = nat_cmp} ks) ≡ length ks
    → len (insert (from_list {R = nat_cmp} ks) k) ≡ length (k ∷ ks)
more k ks new d =
    let grows = len-insert nat_cmp_total (from_list {R = nat_cmp} ks) k
    ∙ ap (λ b. cond b (len (from_list {R = nat_cmp} ks)) (len (from_list {R = nat_cmp} ks) + 1)) new in
    omega (arith, grows)

pub distinct-filter : (p : ℕ → Bool) (ks : List ℕ) → Distinct ks → Distinct (filter p ks)
distinct-filter p [] d = d
distinct-filter p (k ∷ ks) d =
    let head = new_first k ks d in
    let rest = distinct-filter p ks (record { count = head.rest }) in
    elim (p k) as (λ b. p k ≡ b → Distinct (cond b (k ∷ filter p ks) (filter p ks))) [
      | true ↦ λ passes. record {
        count = more k (filter p ks) (same_contains p k ks passes
            ∙ head.first) rest.count;
      }
      | false ↦ λ _. rest
    ] refl

pub distinct-push : (ks : List ℕ) (k : ℕ) → contains (from_list {R = nat_cmp} ks) k ≡ false → Distinct ks
    → Distinct (ks ++ k ∷ [])
distinct-push ks k new d =
    let grows = ap len (from_list_push nat_cmp_total nat_cmp-IsAntisymmetric ks k) ∙ more k ks new d.count in
    record { count = omega (arith, grows, length-append ks (k ∷ [])) }

or-absorbs : (a b : Bool) → (a ≡ true → b ≡ true) → (a || b) ≡ b
or-absorbs true b h = sym (h refl)
or-absorbs false b h = refl

-- to put in what is there changes nothing
pub insert_again : (s : FinSet nat_cmp) (k : ℕ) → contains s k ≡ true → insert s k ≡ s
insert_again s k is = same_set nat_cmp_total nat_cmp-IsAntisymmetric _ _ (λ q.
    contains-insert nat_cmp_total s k q
    ∙ or-absorbs (eq_by_cmp nat_cmp q k) (contains s q) (λ e. ap (contains s) (eq_by_cmp-is q k e) ∙ is))
