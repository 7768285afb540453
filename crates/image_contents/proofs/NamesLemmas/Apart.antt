-- Names, one after another.
use Rattle.std.proofs.Common.{◌≡◌, ℕ, ◌+◌, ◌<◌, sym, ap, ◌∙◌, refl, subst, Bool, true, false, cond, not, ◌&&◌, ◌||◌}
use Rattle.std.proofs.Common.{List, [], ◌∷◌, ◌++◌, length, take, drop, get_or}
use Rattle.std.specs.Cmp.{IsEquivalence}
use Rattle.std.specs.Cmp.Lexicographic.{nat_list_cmp_total}
use Rattle.std.specs.List.{AllByRecursion, IsDistinct, list_all, list_any}
use Rattle.std.proofs.lemmas.Cmp.{eq_by_cmp_equiv}
use Rattle.std.proofs.lemmas.List.{append_assoc, take-append-drop, take_more}
use Rattle.std.proofs.lemmas.List.Folds.{list_all-append, list_any-append}
use Rattle.std.proofs.lemmas.Map.Keys.{IsDistinct-push, IsDistinct-head, IsDistinct-tail}
use Rattle.layout.specs.declared.slot.Slot.{Slot}
use Rattle.layout.proofs.Respelled.{all_two}
use Rattle.image_contents.specs.Names.Names.{AreNames, is_name, names_in, same_name}

pub laws : IsEquivalence same_name
laws = eq_by_cmp_equiv nat_list_cmp_total

pub none_apart : IsDistinct same_name []
unfolding IsDistinct
none_apart = tt

map_both : (xs ys : List Slot) → names_in (xs ++ ys) ≡ names_in xs ++ names_in ys
map_both [] ys = refl
map_both (x ∷ xs) ys = ap (λ l. x.name ∷ l) (map_both xs ys)

names_more : (slots : List Slot) (index_within : ℕ) (d : Slot) → index_within < length slots
    → names_in (take (index_within + 1) slots) ≡ names_in (take index_within slots) ++ (get_or slots index_within d).name ∷ []
names_more slots index_within d less =
    ap names_in (take_more slots index_within d less) ∙ map_both (take index_within slots) (get_or slots index_within d ∷ [])

both : (a b : Bool) → a ≡ true → b ≡ true → (a && b) ≡ true
both a b one other = λ i. one i && other i

pub not_false : (b : Bool) → not b ≡ false → b ≡ true
not_false true e = refl
not_false false e = cc

pub not_true : (b : Bool) → not b ≡ true → b ≡ false
not_true true e = cc
not_true false e = refl

-- a name that ties with another isn't apart from it
never : (x y : List ℕ) (zs ys : List (List ℕ)) → same_name y x ≡ true
    → AllByRecursion (λ z. same_name x z ≡ false) (zs ++ y ∷ ys) → ⊥
never x y [] ys tied all = let clash : true ≡ false = sym tied ∙ laws.symm y x ∙ all.0 in cc
never x y (z ∷ zs) ys tied all = never x y zs ys tied all.1

-- no two of a list are apart where one ties with another before it
split_apart : (xs : List (List ℕ)) (y : List ℕ) (ys : List (List ℕ)) → list_any (same_name y) xs ≡ true
    → IsDistinct same_name (xs ++ y ∷ ys) → ⊥
split_apart [] y ys is apart = cc
split_apart (x ∷ xs) y ys is apart =
    by_first (same_name y x) refl
    (λ there. split_apart xs y ys there (IsDistinct-tail same_name x (xs ++ y ∷ ys) apart)) is
  where
    by_first : (b : Bool) → same_name y x ≡ b → (list_any (same_name y) xs ≡ true → ⊥)
        → (b || list_any (same_name y) xs) ≡ true → ⊥
    by_first true tied rest is = never x y xs ys tied (IsDistinct-head same_name x (xs ++ y ∷ ys) apart)
    by_first false tied rest is = rest is

module _ (slots : List Slot) (index_within : ℕ) (d : Slot) (less : index_within < length slots) where
  abbrev name : List ℕ
  name = (get_or slots index_within d).name

  abbrev before : List (List ℕ)
  before = names_in (take index_within slots)

  all_names : names_in slots ≡ before ++ name ∷ names_in (drop (index_within + 1) slots)
  all_names =
      ap names_in (sym (take-append-drop (index_within + 1) slots))
      ∙ map_both (take (index_within + 1) slots) (drop (index_within + 1) slots)
      ∙ ap (λ l. l ++ names_in (drop (index_within + 1) slots)) (names_more slots index_within d less)
      ∙ append_assoc before (name ∷ []) (names_in (drop (index_within + 1) slots))

  -- no name that a file may be given
  pub unlawful : is_name name ≡ false → AreNames slots → ⊥
  unlawful not names =
      let rest = all_two (list_all is_name before) (list_all is_name (name ∷ names_in (drop (index_within + 1) slots)))
      (sym (list_all-append is_name before (name ∷ names_in (drop (index_within + 1) slots)))
      ∙ ap (list_all is_name) (sym all_names) ∙ names.lawful) in
      let clash : true ≡ false =
      sym (all_two (is_name name) (list_all is_name (names_in (drop (index_within + 1) slots))) rest.1).0 ∙ not in cc

  -- a name that stands before
  pub twice : list_any (same_name name) before ≡ true → AreNames slots → ⊥
  twice is names =
      split_apart before name (names_in (drop (index_within + 1) slots)) is
      (subst (λ l. IsDistinct same_name l) all_names names.apart)

  pub lawful_more : list_all is_name before ≡ true → is_name name ≡ true
      → list_all is_name (names_in (take (index_within + 1) slots)) ≡ true
  lawful_more are is =
      ap (list_all is_name) (names_more slots index_within d less) ∙ list_all-append is_name before (name ∷ [])
      ∙ both (list_all is_name before) (is_name name && true) are (both (is_name name) true is refl)

  pub apart_more : IsDistinct same_name before → list_any (same_name name) before ≡ false
      → IsDistinct same_name (names_in (take (index_within + 1) slots))
  apart_more apart new =
      subst (λ l. IsDistinct same_name l) (sym (names_more slots index_within d less))
      (IsDistinct-push laws before name apart new)

  -- what the set has with one name more
  pub has_more : (query : List ℕ) (had has : Bool) → had ≡ list_any (same_name query) before
      → has ≡ cond (same_name name query) true had
      → has ≡ list_any (same_name query) (names_in (take (index_within + 1) slots))
  has_more query had has was is =
      is ∙ ap (cond (same_name name query) true) was
      ∙ either (same_name name query) (list_any (same_name query) before)
      ∙ ap (λ b. list_any (same_name query) before || (b || false)) (laws.symm name query)
      ∙ sym (list_any-append (same_name query) before (name ∷ []))
      ∙ ap (list_any (same_name query)) (sym (names_more slots index_within d less))
    where
      either : (b rest : Bool) → cond b true rest ≡ (rest || (b || false))
      either true true = refl
      either true false = refl
      either false true = refl
      either false false = refl
