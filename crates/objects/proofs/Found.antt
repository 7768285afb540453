-- Lemmas on the first of a list that passes a test.
use Rattle.std.proofs.Common.{◌≡◌, Bool, true, false, cond, List, [], ◌∷◌, ◌++◌, Some, None, refl, sym}
use Rattle.std.proofs.Common.{ap, ◌∙◌}
use Rattle.std.specs.List.{find, filter}

module _ {X : Type 0} (p : X → Bool) where
  -- it is the first still where it is kept
  pub find_retained : (q : X → Bool) (xs : List X) (x : X) → find p xs ≡ Some x → q x ≡ true
      → find p (filter q xs) ≡ Some x
  find_retained q [] x e preserves = absurd (cc)
  find_retained q (y ∷ ys) x e preserves = go (find_retained q ys x) (p y) refl (q y) refl e
    where
      go : (find p ys ≡ Some x → q x ≡ true → find p (filter q ys) ≡ Some x) → (t : Bool) → p y ≡ t
          → (u : Bool) → q y ≡ u → cond t (Some y) (find p ys) ≡ Some x
          → find p (cond u (y ∷ filter q ys) (filter q ys)) ≡ Some x
      go rest true is true kept e = ap (λ b. cond b (Some y) (find p (filter q ys))) is ∙ e
      go rest true is false kept e =
          let same : y ≡ x = cc in let no : true ≡ false = sym preserves ∙ ap q (sym same) ∙ kept in absurd (cc)
      go rest false is true kept e = ap (λ b. cond b (Some y) (find p (filter q ys))) is ∙ rest e preserves
      go rest false is false kept e = rest e preserves

  -- nothing comes by a filter
  pub find_none : (q : X → Bool) (xs : List X) → find p xs ≡ None → find p (filter q xs) ≡ None
  find_none q [] e = refl
  find_none q (y ∷ ys) e = go (find_none q ys) (p y) refl (q y) e
    where
      go : (find p ys ≡ None → find p (filter q ys) ≡ None) → (t : Bool) → p y ≡ t → (u : Bool)
          → cond t (Some y) (find p ys) ≡ None → find p (cond u (y ∷ filter q ys) (filter q ys)) ≡ None
      go rest true is u e = absurd (cc)
      go rest false is true e = ap (λ b. cond b (Some y) (find p (filter q ys))) is ∙ rest e
      go rest false is false e = rest e

  -- a filter that keeps all that passes changes nothing
  pub find_through : (q : X → Bool) (xs : List X) → ((x : X) → p x ≡ true → q x ≡ true)
      → find p (filter q xs) ≡ find p xs
  find_through q [] preserves = refl
  find_through q (y ∷ ys) preserves = go (find_through q ys preserves) (p y) refl (q y) refl
    where
      go : find p (filter q ys) ≡ find p ys → (t : Bool) → p y ≡ t → (u : Bool) → q y ≡ u
          → find p (cond u (y ∷ filter q ys) (filter q ys)) ≡ cond t (Some y) (find p ys)
      go rest true is true kept = ap (λ b. cond b (Some y) (find p (filter q ys))) is
      go rest true is false kept = absurd (let yes : q y ≡ true = preserves y is in cc)
      go rest false is true kept = ap (λ b. cond b (Some y) (find p (filter q ys))) is ∙ rest
      go rest false is false kept = rest

  -- one that is added behind is found where none was before
  pub find_push_some : (xs ys : List X) (x : X) → find p xs ≡ Some x → find p (xs ++ ys) ≡ Some x
  find_push_some [] ys x e = absurd (cc)
  find_push_some (y ∷ zs) ys x e = go (find_push_some zs ys x) (p y) e
    where
      go : (find p zs ≡ Some x → find p (zs ++ ys) ≡ Some x) → (t : Bool)
          → cond t (Some y) (find p zs) ≡ Some x → cond t (Some y) (find p (zs ++ ys)) ≡ Some x
      go rest true e = e
      go rest false e = rest e

  pub find_push_none : (xs ys : List X) → find p xs ≡ None → find p (xs ++ ys) ≡ find p ys
  find_push_none [] ys e = refl
  find_push_none (y ∷ zs) ys e = go (find_push_none zs ys) (p y) e
    where
      go : (find p zs ≡ None → find p (zs ++ ys) ≡ find p ys) → (t : Bool)
          → cond t (Some y) (find p zs) ≡ None → cond t (Some y) (find p (zs ++ ys)) ≡ find p ys
      go rest true e = absurd (cc)
      go rest false e = rest e

  pub find_push_other : (xs : List X) (y : X) → p y ≡ false → find p (xs ++ y ∷ []) ≡ find p xs
  find_push_other [] y e = ap (λ b. cond b (Some y) None) e
  find_push_other (z ∷ zs) y e = ap (λ o. cond (p z) (Some z) o) (find_push_other zs y e)

  -- none is found where none that passes is kept
  pub find_none_retained : (q : X → Bool) (xs : List X) → ((x : X) → p x ≡ true → q x ≡ false)
      → find p (filter q xs) ≡ None
  find_none_retained q [] away = refl
  find_none_retained q (y ∷ ys) away = go (find_none_retained q ys away) (q y) refl (p y) refl
    where
      go : find p (filter q ys) ≡ None → (u : Bool) → q y ≡ u → (t : Bool) → p y ≡ t
          → find p (cond u (y ∷ filter q ys) (filter q ys)) ≡ None
      go rest false kept t is = rest
      go rest true kept true is = absurd (let no : q y ≡ false = away y is in cc)
      go rest true kept false is = ap (λ b. cond b (Some y) (find p (filter q ys))) is ∙ rest
