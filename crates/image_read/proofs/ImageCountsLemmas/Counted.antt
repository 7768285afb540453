-- One number more is met.
use Rattle.std.proofs.Common.{◌≡◌, ℕ, ◌+◌, ◌<◌, ◌≤◌, sym, ap, ◌∙◌, refl, subst, Bool, true, false, cond, ◌||◌}
use Rattle.std.proofs.Common.{List, [], ◌∷◌, ◌++◌, length, get_or, count_by, nat_eq, min, arith, length-append}
use Rattle.std.proofs.Common.{get_or-set_same, get_or-set_other}
use Rattle.std.proofs.Math.ListN.{set, length-set}
use Rattle.std.proofs.lemmas.Bool.{eqb-false, eqb-true, eq-eqb, ne_eqb}
use Rattle.std.proofs.lemmas.List.Folds.{list_any-append}
use Rattle.std.proofs.lemmas.List.Sums.{count_by-le-length, sum_by-append, sum_by-cons, sum_by-set}
use Rattle.base.specs.declared.TheConstants.{MOST_LINKS}
use Rattle.image_read.specs.ImageCounts.Tally.{AreCounts, IsOwned, Owned, is_in, times}

abbrev pub one_if : Bool → ℕ
one_if b = cond b 1 0

same_is : (a b : ℕ) → a ≡ b → nat_eq a b ≡ true
same_is a b e = eq-eqb a b e

other_is : (a b : ℕ) → (a ≡ b → ⊥) → nat_eq a b ≡ false
other_is a b not = ne_eqb a b not

or_true : (b : Bool) → (b || true) ≡ true
or_true true = refl
or_true false = refl

or_false : (b : Bool) → (b || false) ≡ b
or_false true = refl
or_false false = refl

-- as often as before, and once more where it is the number
pub times_more : (met : List ℕ) (one number : ℕ)
    → times (met ++ one ∷ []) number ≡ times met number + one_if (nat_eq one number)
times_more met one number =
    let all = sum_by-append (λ n. one_if (nat_eq n number)) met (one ∷ []) in
    let last = sum_by-cons (λ n. one_if (nat_eq n number)) one [] in
    omega (arith, all, last)

pub is_in_more : (met : List ℕ) (one number : ℕ)
    → is_in (met ++ one ∷ []) number ≡ (is_in met number || nat_eq one number)
is_in_more met one number = list_any-append (λ n. nat_eq n number) met (one ∷ [])
    ∙ ap (λ b. is_in met number || b) (or_false (nat_eq one number))

-- a number that is in the list, is there once at least; one that isn't, no time
pub some_times : (met : List ℕ) (number : ℕ) → is_in met number ≡ true → 1 ≤ times met number
some_times [] number e = cc
some_times (x ∷ met) number e = by_first (nat_eq x number) refl (some_times met number) e
  where
    by_first : (b : Bool) → nat_eq x number ≡ b → (is_in met number ≡ true → 1 ≤ times met number)
        → (b || is_in met number) ≡ true → 1 ≤ times (x ∷ met) number
    by_first true is more e =
        let here = ap one_if is in
        let all = sum_by-cons (λ n. one_if (nat_eq n number)) x met in
        omega (arith, here, all)
    by_first false is more e =
        let rest = more e in
        let all = sum_by-cons (λ n. one_if (nat_eq n number)) x met in
        omega (arith, rest, all)

pub no_times : (met : List ℕ) (number : ℕ) → is_in met number ≡ false → times met number ≡ 0
no_times [] number e = refl
no_times (x ∷ met) number e = by_first (nat_eq x number) refl (no_times met number) e
  where
    by_first : (b : Bool) → nat_eq x number ≡ b → (is_in met number ≡ false → times met number ≡ 0)
        → (b || is_in met number) ≡ false → times (x ∷ met) number ≡ 0
    by_first true is more e = cc
    by_first false is more e =
        let rest = more e in
        let here = ap one_if is in
        let all = sum_by-cons (λ n. one_if (nat_eq n number)) x met in
        omega (arith, rest, here, all)

-- ---- owners

module _ (has : List Bool) (count : ℕ) (shared : Bool) (met : List ℕ) (one : ℕ) (less : one < length has) where
  abbrev before : Owned
  before = record { has = has; count = count; shared = shared }

  -- it was met before
  pub met_again : get_or has one false ≡ true → IsOwned met before
      → IsOwned (met ++ one ∷ []) (record { has = has; count = count; shared = true })
  met_again is owned = record {
    has = λ number inside. owned.has number inside ∙ sym (is_in_more met one number ∙ is_preserved number inside);
    once = λ e. cc;
    count = λ e. cc;
    twice = λ e. (
      one,
      let some = some_times met one (sym (owned.has one less) ∙ is) in
          let more = times_more met one one in
          let here = ap one_if (same_is one one refl) in
          omega (arith, some, more, here),
    );
  }
    where
      by_one : (number : ℕ) (b : Bool) → nat_eq one number ≡ b → is_in met one ≡ true
          → (is_in met number || b) ≡ is_in met number
      by_one number false e there = or_false (is_in met number)
      by_one number true e there =
          let same : is_in met number ≡ true = ap (is_in met) (sym (eqb-true one number e)) ∙ there in
          ap (λ b. b || true) same ∙ sym same

      is_preserved : (number : ℕ) → number < length has → (is_in met number || nat_eq one number) ≡ is_in met number
      is_preserved number inside = by_one number (nat_eq one number) refl (sym (owned.has one less) ∙ is)

  -- it is met for the first time
  pub met_first : get_or has one false ≡ false → IsOwned met before
      → IsOwned (met ++ one ∷ []) (record { has = set has one true; count = count + 1; shared = shared })
  met_first isnt owned =
      let new : is_in met one ≡ false = sym (owned.has one less) ∙ isnt in record {
        has = λ number inside. at number
            (let long = length-set has one true in omega (arith, long, inside)) (nat_eq one number) refl
            ∙ sym (is_in_more met one number);
        once = λ e number. once_more number (owned.once e number) new (nat_eq one number) refl;
        count = λ e.
            let was = owned.count e in
            let long = length-append met (one ∷ []) in
            omega (arith, was, long);
        twice = λ e.
            let two = owned.twice e in (
              two.0,
              let more = times_more met one two.0 in
                  let some = two.1 in
                  omega (arith, more, some),
            );
      }
    where
      at : (number : ℕ) → number < length has → (b : Bool) → nat_eq one number ≡ b
          → get_or (set has one true) number false ≡ (is_in met number || b)
      at number inside true e =
          let is : one ≡ number = eqb-true one number e in
          ap (λ n. get_or (set has one true) n false) (sym is) ∙ get_or-set_same has one true false less
          ∙ sym (or_true (is_in met number))
      at number inside false e =
          get_or-set_other has one number true false (λ is. eqb-false one number e (sym is))
          ∙ owned.has number inside ∙ sym (or_false (is_in met number))

      once_more : (number : ℕ) → times met number ≤ 1 → is_in met one ≡ false → (b : Bool) → nat_eq one number ≡ b
          → times (met ++ one ∷ []) number ≤ 1
      once_more number few new true e =
          let is : one ≡ number = eqb-true one number e in
          let none = no_times met number (ap (is_in met) (sym is) ∙ new) in
          let more = times_more met one number in
          let here = ap one_if e in
          omega (arith, none, more, here)
      once_more number few new false e =
          let more = times_more met one number in
          let here = ap one_if e in
          omega (arith, few, more, here)

  -- there is a bit more to set
  pub less_set : get_or has one false ≡ false → count ≡ count_by (λ b. b) has
      → (count + 1 ≡ count_by (λ b. b) (set has one true)) × (count + 1 ≤ length has)
  less_set isnt counted =
      let more = sum_by-set one_if has one true false less in
      let here = ap one_if isnt in
      let most = count_by-le-length (λ b. b) (set has one true) in
      let long = length-set has one true in
      (omega (arith, counted, more, here), omega (arith, counted, more, here, most, long))

-- ---- counts

module _ (counts met : List ℕ) (one : ℕ) (less : one < length counts) (are : AreCounts met counts) where
  -- it is counted
  pub one_named : get_or counts one 0 ≤ MOST_LINKS
      → AreCounts (met ++ one ∷ []) (set counts one (get_or counts one 0 + 1))
  one_named few number inside = at (length-inside inside) (nat_eq one number) refl
    where
      length-inside : number < length (set counts one (get_or counts one 0 + 1)) → number < length counts
      length-inside inside = let long = length-set counts one (get_or counts one 0 + 1) in omega (arith, long, inside)

      at : number < length counts → (b : Bool) → nat_eq one number ≡ b
          → get_or (set counts one (get_or counts one 0 + 1)) number 0
          ≡ min (times (met ++ one ∷ []) number) (MOST_LINKS + 1)
      at inside true e =
          let is : one ≡ number = eqb-true one number e in
          let was = are one less in
          let more = times_more met one one in
          let here = ap one_if (same_is one one refl) in
          subst (λ n. get_or (set counts one (get_or counts one 0 + 1)) n 0
          ≡ min (times (met ++ one ∷ []) n) (MOST_LINKS + 1)) is
          (get_or-set_same counts one (get_or counts one 0 + 1) 0 less ∙ omega (arith, was, more, here, few))
      at inside false e =
          let was = are number inside in
          let more = times_more met one number in
          let here = ap one_if e in
          get_or-set_other counts one number (get_or counts one 0 + 1) 0 (λ is. eqb-false one number e (sym is))
          ∙ omega (arith, was, more, here)

  -- it was met so often that it isn't counted any more
  pub many_named : MOST_LINKS < get_or counts one 0 → AreCounts (met ++ one ∷ []) counts
  many_named many number inside = at (nat_eq one number) refl
    where
      at : (b : Bool) → nat_eq one number ≡ b
          → get_or counts number 0 ≡ min (times (met ++ one ∷ []) number) (MOST_LINKS + 1)
      at true e =
          let is : one ≡ number = eqb-true one number e in
          let was = are one less in
          let more = times_more met one one in
          subst (λ n. get_or counts n 0 ≡ min (times (met ++ one ∷ []) n) (MOST_LINKS + 1)) is
          (omega (arith, was, more, many))
      at false e =
          let was = are number inside in
          let more = times_more met one number in
          let here = ap one_if e in
          omega (arith, was, more, here)
