-- What is in a list, by recursion.
use Rattle.std.proofs.Common.{◌≡◌, ℕ, zero, suc, ◌+◌, ◌<◌, ◌≤◌, ◌⊎◌, inl, inr, sym, ap, ◌∙◌, refl, Bool, true, false}
use Rattle.std.proofs.Common.{cond, List, [], ◌∷◌, Option, Some, None, arith}
use Rattle.std.proofs.lemmas.Bool.{cases_lt}
use Rattle.std.specs.List.{cons_option, filter_map, find, range_with_len}
use Rattle.std.specs.Option.{unwrap_or}

abbrev pub In : {A : Type 0} → A → List A → Type 0
In x [] = ⊥
In x (y ∷ ys) = (y ≡ x) ⊎ In x ys

pub none_some : {A : Type 0} (x : A) → ◌≡◌ {A = Option A} None (Some x) → ⊥
none_some x e = cc

pub same : {A : Type 0} (x y : A) → Some x ≡ Some y → x ≡ y
same x y e = ap (λ o. unwrap_or o x) e

pub at_or_past : (a i : ℕ) → a ≤ i → (i ≡ a) ⊎ (a + 1 ≤ i)
at_or_past a i low = elim (cases_lt a i) [ inl less ↦ inr (omega (arith, less)) | inr not ↦ inl (omega (arith, low, not)) ]

module _ {A : Type 0} where
  one_found : (p : A → Bool) (y x : A) (ys : List A) → (find p ys ≡ Some x → In x ys × (p x ≡ true)) → (b : Bool)
      → p y ≡ b → cond b (Some y) (find p ys) ≡ Some x → In x (y ∷ ys) × (p x ≡ true)
  one_found p y x ys rest true is e = let one = same y x e in (inl one, ap p (sym one) ∙ is)
  one_found p y x ys rest false is e = let found = rest e in (inr found.0, found.1)

  pub found_is : (p : A → Bool) (xs : List A) (x : A) → find p xs ≡ Some x → In x xs × (p x ≡ true)
  found_is p [] x e = absurd (none_some x e)
  found_is p (y ∷ ys) x e = one_found p y x ys (λ found. found_is p ys x found) (p y) refl e

  one_none : (p : A → Bool) (y x : A) (ys : List A) → (find p ys ≡ None → In x ys → p x ≡ false) → (b : Bool)
      → p y ≡ b → cond b (Some y) (find p ys) ≡ None → In x (y ∷ ys) → p x ≡ false
  one_none p y x ys rest true is e there = absurd (none_some y (sym e))
  one_none p y x ys rest false is e (inl one) = ap p (sym one) ∙ is
  one_none p y x ys rest false is e (inr there) = rest e there

  pub none_is : (p : A → Bool) (xs : List A) (x : A) → find p xs ≡ None → In x xs → p x ≡ false
  none_is p [] x e is = absurd is
  none_is p (y ∷ ys) x e is = one_none p y x ys (λ none there. none_is p ys x none there) (p y) refl e is

-- what a function gives over a range
module _ {A : Type 0} (f : ℕ → Option A) where
  -- the number that gives something
  abbrev pub Gives : ℕ → ℕ → A → Type 0
  Gives a end x = (i : ℕ) × (a ≤ i) × (i < end) × (f i ≡ Some x)

  later : (a n : ℕ) (x : A) → Gives (a + 1) (a + 1 + n) x → Gives a (a + suc n) x
  later a n x rest = (rest.0, omega (arith, rest.1), omega (arith, rest.2), rest.3)

  at_head : (a n : ℕ) (x : A) → (In x (filter_map f (range_with_len (a + 1) n)) → Gives (a + 1) (a + 1 + n) x)
      → (o : Option A) → f a ≡ o → In x (cons_option o (filter_map f (range_with_len (a + 1) n)))
      → Gives a (a + suc n) x
  at_head a n x rest None e is = later a n x (rest is)
  at_head a n x rest (Some y) e (inl one) = (a, omega arith, omega arith, e ∙ ap Some one)
  at_head a n x rest (Some y) e (inr is) = later a n x (rest is)

  pub from_range : (a n : ℕ) (x : A) → In x (filter_map f (range_with_len a n)) → Gives a (a + n) x
  from_range a zero x is = absurd is
  from_range a (suc n) x is = at_head a n x (λ rest. from_range (a + 1) n x rest) (f a) refl is

  by_index_within : (a n i : ℕ) (x : A) → f i ≡ Some x
      → (a + 1 ≤ i → In x (filter_map f (range_with_len (a + 1) n))) → (i ≡ a) ⊎ (a + 1 ≤ i)
      → (o : Option A) → f a ≡ o → In x (cons_option o (filter_map f (range_with_len (a + 1) n)))
  by_index_within a n i x is rest (inl one) None e = absurd (none_some x (sym e ∙ ap f (sym one) ∙ is))
  by_index_within a n i x is rest (inl one) (Some y) e = inl (same y x (sym e ∙ ap f (sym one) ∙ is))
  by_index_within a n i x is rest (inr more) None e = rest more
  by_index_within a n i x is rest (inr more) (Some y) e = inr (rest more)

  pub in_range : (a n i : ℕ) (x : A) → a ≤ i → i < a + n → f i ≡ Some x
      → In x (filter_map f (range_with_len a n))
  in_range a zero i x low less is = absurd (omega (arith, low, less))
  in_range a (suc n) i x low less is =
      by_index_within a n i x is (λ more. in_range (a + 1) n i x more (omega (arith, less)) is) (at_or_past a i low)
      (f a) refl
