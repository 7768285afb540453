-- Entries under names of which none stands twice.
use Rattle.std.proofs.Common.{◌≡◌, ℕ, suc, ◌+◌, ◌≤◌, inl, inr, sym, ap, ◌∙◌, refl, Bool, true, false, cond}
use Rattle.std.proofs.Common.{List, [], ◌∷◌, length, Option, Some, None, is_some, arith}
use Rattle.std.specs.Cmp.{IsTotalOrder, tied_itself}
use Rattle.std.specs.FinMap.{FinMap, IsAntisymmetric, contains_key, entries, find, from_entries, get, get-entries}
use Rattle.std.specs.FinMap.{get-from_entries, len, len-empty, len-entries, len-insert, same_map}
use Rattle.std.specs.Ordering.{eq_by_cmp, is_eq}
use Rattle.std.specs.declared.cmp.Ordering.{Ordering}
use Rattle.std.specs.declared.cmp.Ordering.TheVariants.{Less, Equal, Greater}
use Rattle.dir.proofs.Members.{In, none_some, same}

module _ {K : Type 0} {R : K → K → Ordering} where
  pub tied : IsAntisymmetric R → (a b : K) → eq_by_cmp R a b ≡ true → a ≡ b
  tied exact a b e = by_order exact a b (R a b) refl e
    where
      by_order : IsAntisymmetric R → (a b : K) → (r : Ordering) → R a b ≡ r → is_eq r ≡ true → a ≡ b
      by_order exact a b Less is e = cc
      by_order exact a b Equal is e = exact a b is
      by_order exact a b Greater is e = cc

  pub itself : IsTotalOrder R → (a : K) → eq_by_cmp R a a ≡ true
  itself o a = ap is_eq (tied_itself o a)

grown : (b : Bool) (n m : ℕ) → m ≡ cond b n (n + 1) → m ≤ n + 1
grown true n m e = omega (arith, e)
grown false n m e = omega (arith, e)

parted : (b : Bool) (n m : ℕ) → cond b n (n + 1) ≡ suc m → n ≤ m → (n ≡ m) × (b ≡ false)
parted true n m e less = absurd (omega (arith, e, less))
parted false n m e less = (omega (arith, e), refl)

module _ {K X : Type 0} {R : K → K → Ordering} (o : IsTotalOrder R) (exact : IsAntisymmetric R) where
  abbrev made : List (K × X) → FinMap R X
  made es = from_entries {R = R} es

  -- as many are in the map as in the list
  abbrev pub Once : List (K × X) → Type 0
  Once es = len (from_entries {R = R} es) ≡ length es

  pub len-le : (es : List (K × X)) → len (made es) ≤ length es
  len-le [] = let none = len-empty R X in omega (arith, none)
  len-le (e ∷ es) =
      let rest = len-le es in
      let one = grown (contains_key (made es) e.0) (len (made es)) (len (made (e ∷ es)))
      (len-insert o (made es) e.0 e.1) in
      omega (arith, rest, one)

  is_none : (v : Option X) → is_some v ≡ false → v ≡ None
  is_none None e = refl
  is_none (Some x) e = cc

  -- the first stands in none of the rest, of which none stands twice
  pub first_once : (e : K × X) (es : List (K × X)) → Once (e ∷ es) → Once es × (find R e.0 es ≡ None)
  first_once e es once =
      let both = parted (contains_key (made es) e.0) (len (made es)) (length es)
      (sym (len-insert o (made es) e.0 e.1) ∙ once) (len-le es) in
      (both.0, sym (get-from_entries o es e.0) ∙ is_none (get (made es) e.0) both.1)

  one_found : (x : K × X) (es : List (K × X)) (k : K) (v : X) → (find R k es ≡ Some v → In (k, v) es) → (b : Bool)
      → eq_by_cmp R k x.0 ≡ b → cond b (Some x.1) (find R k es) ≡ Some v → In (k, v) (x ∷ es)
  one_found x es k v rest true is e = inl (λ i. (sym (tied exact k x.0 is) i, same x.1 v e i))
  one_found x es k v rest false is e = inr (rest e)

  pub found_in : (es : List (K × X)) (k : K) (v : X) → find R k es ≡ Some v → In (k, v) es
  found_in [] k v e = absurd (none_some v e)
  found_in (x ∷ es) k v e = one_found x es k v (λ found. found_in es k v found) (eq_by_cmp R k x.0) refl e

  -- a name ties with its own
  no_clash : (k : K) (v : X) (x : K × X) → x ≡ (k, v) → eq_by_cmp R k x.0 ≡ false → ⊥
  no_clash k v x one t =
      let clash : true ≡ false = sym (itself o k) ∙ ap (λ (p : K × X). eq_by_cmp R k p.0) (sym one) ∙ t in cc

  one_missed : (x : K × X) (es : List (K × X)) (k : K) (v : X) → (In (k, v) es → find R k es ≡ None → ⊥)
      → (b : Bool) → eq_by_cmp R k x.0 ≡ b → In (k, v) (x ∷ es) → cond b (Some x.1) (find R k es) ≡ None → ⊥
  one_missed x es k v rest true t is e = none_some x.1 (sym e)
  one_missed x es k v rest false t (inl one) e = no_clash k v x one t
  one_missed x es k v rest false t (inr is) e = rest is e

  pub some_found : (es : List (K × X)) (k : K) (v : X) → In (k, v) es → find R k es ≡ None → ⊥
  some_found [] k v is e = is
  some_found (x ∷ es) k v is e =
      one_missed x es k v (λ there none. some_found es k v there none) (eq_by_cmp R k x.0) refl is e

  one_once : (x : K × X) (es : List (K × X)) (k : K) (v : X) → find R x.0 es ≡ None
      → (In (k, v) es → find R k es ≡ Some v) → (b : Bool) → eq_by_cmp R k x.0 ≡ b → In (k, v) (x ∷ es)
      → cond b (Some x.1) (find R k es) ≡ Some v
  one_once x es k v none rest true t (inl one) = ap (λ (p : K × X). Some p.1) one
  one_once x es k v none rest true t (inr is) =
      absurd (some_found es k v is (ap (λ q. find R q es) (tied exact k x.0 t) ∙ none))
  one_once x es k v none rest false t (inl one) = absurd (no_clash k v x one t)
  one_once x es k v none rest false t (inr is) = rest is

  pub found_once : (es : List (K × X)) → Once es → (k : K) (v : X) → In (k, v) es → find R k es ≡ Some v
  found_once [] once k v is = absurd is
  found_once (x ∷ es) once k v is =
      let both = first_once x es once in
      one_once x es k v both.1 (λ there. found_once es both.0 k v there) (eq_by_cmp R k x.0) refl is

  -- the entries of a map stand once
  pub entries_once : (m : FinMap R X) → Once (entries m)
  entries_once m =
      let one : made (entries m) ≡ m = same_map o exact (made (entries m)) m
      (λ q. get-from_entries o (entries m) q ∙ sym (get-entries m q)) in
      ap len one ∙ len-entries m
