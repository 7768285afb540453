-- One number more, and all of them.
use Rattle.std.proofs.Common.{◌≡◌, ℕ, zero, suc, ◌+◌, ◌<◌, ◌≤◌, sym, ap, ◌∙◌, refl, subst, Bool, true, false, cond, not}
use Rattle.std.proofs.Common.{◌||◌}
use Rattle.std.proofs.Common.{List, [], ◌∷◌, ◌++◌, filter, length, map, take, get_or, nat_eq, nat_lt, Option, arith}
use Rattle.std.specs.List.{flat_map, list_all}
use Rattle.std.proofs.lemmas.Bool.{ltb-true}
use Rattle.std.proofs.lemmas.List.{append-nil, append_assoc, take_all, take_more}
use Rattle.std.proofs.lemmas.List.Concat.{flat_map-append}
use Rattle.std.proofs.lemmas.List.Elements.{filter-append}
use Rattle.layout.specs.declared.inode.Inode.{Inode}
use Rattle.layout.specs.declared.slot.Slot.{Slot}
use Rattle.image_read.specs.ImageCounts.Tally.{AreCounts, IsOwned, Owned}
use Rattle.image_read.specs.declared.counts.links.Links.{Links}
use Rattle.layout.proofs.Respelled.{all_two}
use Rattle.image_read.specs.Counts.Adds.{AreNamed, for_directories, is_none_or_below, is_some, named_children}

pub each_passes : {A : Type 0} (p : A → Bool) (xs : List A) (index_within : ℕ) (d : A) → list_all p xs ≡ true
    → index_within < length xs → p (get_or xs index_within d) ≡ true
each_passes p [] index_within d all less = absurd (omega (arith, less))
each_passes p (x ∷ xs) zero d all less = (all_two (p x) (list_all p xs) all).0
each_passes p (x ∷ xs) (suc index_within) d all less =
    each_passes p xs index_within d (all_two (p x) (list_all p xs) all).1 (omega (arith, less))

-- ---- blocks

pub is_below : (size number : ℕ) → is_none_or_below size number ≡ true → nat_eq number 0 ≡ false → number < size
is_below size number either some =
    ltb-true number size (sym (ap (λ b. b || nat_lt number size) some) ∙ either)

module _ (met : List ℕ) where
  pub no_block : (number : ℕ) (owners : Owned) → nat_eq number 0 ≡ true → IsOwned met owners
      → IsOwned (met ++ filter is_some (number ∷ [])) owners
  no_block number owners none owned =
      subst (λ l. IsOwned l owners)
      (sym (ap (λ b. met ++ cond (not b) (number ∷ []) []) none ∙ append-nil met)) owned

  pub one_block : (number : ℕ) (owners : Owned) → nat_eq number 0 ≡ false → IsOwned (met ++ number ∷ []) owners
      → IsOwned (met ++ filter is_some (number ∷ [])) owners
  one_block number owners some owned =
      subst (λ l. IsOwned l owners) (sym (ap (λ b. met ++ cond (not b) (number ∷ []) []) some)) owned

  module _ (indirect : ℕ) (numbers : List ℕ) (owners : Owned) where
    pub first_blocks : IsOwned (met ++ filter is_some (indirect ∷ [])) owners
        → IsOwned (met ++ filter is_some (indirect ∷ take 0 numbers)) owners
    first_blocks owned = owned

    pub more_blocks : (index_within : ℕ) → index_within < length numbers
        → IsOwned ((met ++ filter is_some (indirect ∷ take index_within numbers))
        ++ filter is_some (get_or numbers index_within 0 ∷ []))
        owners → IsOwned (met ++ filter is_some (indirect ∷ take (index_within + 1) numbers)) owners
    more_blocks index_within less owned =
        subst (λ l. IsOwned l owners)
        (append_assoc met (filter is_some (indirect ∷ take index_within numbers))
        (filter is_some (get_or numbers index_within 0 ∷ []))
        ∙ ap (λ l. met ++ l) (sym (filter-append is_some (indirect ∷ take index_within numbers) (get_or numbers index_within 0 ∷ [])))
        ∙ ap (λ l. met ++ filter is_some (indirect ∷ l)) (sym (take_more numbers index_within 0 less))) owned

    pub all_blocks : (index_within : ℕ) → length numbers ≤ index_within
        → IsOwned (met ++ filter is_some (indirect ∷ take index_within numbers)) owners
        → IsOwned (met ++ filter is_some (indirect ∷ numbers)) owners
    all_blocks index_within past owned =
        subst (λ l. IsOwned (met ++ filter is_some (indirect ∷ l)) owners) (take_all index_within numbers past) owned

-- ---- names

abbrev pub number_of : Slot → ℕ
number_of slot = slot.number

map_both : (xs ys : List Slot) → map number_of (xs ++ ys) ≡ map number_of xs ++ map number_of ys
map_both [] ys = refl
map_both (x ∷ xs) ys = ap (λ l. x.number ∷ l) (map_both xs ys)

module _ (names by_parent children : List ℕ) (table : List (Option Inode)) (directory : ℕ) where
  -- they are counted, with the names of these numbers in the directory
  abbrev pub AreNamedToo : List ℕ → Links → Type 0
  AreNamedToo numbers links = AreNamed (names ++ numbers) (by_parent ++ named_children table directory numbers)
      (children ++ for_directories table directory numbers) links

  pub none_named : (links : Links) → AreNamed names by_parent children links → AreNamedToo [] links
  none_named links named = record {
    names = subst (λ l. AreCounts l links.names) (sym (append-nil names)) named.names;
    by_parent = subst (λ l. AreCounts l links.by_parent) (sym (append-nil by_parent)) named.by_parent;
    children = subst (λ l. AreCounts l links.children) (sym (append-nil children)) named.children;
  }

  both : (f : ℕ → List ℕ) (before numbers : List ℕ) (number : ℕ)
      → (before ++ flat_map f numbers) ++ flat_map f (number ∷ []) ≡ before ++ flat_map f (numbers ++ number ∷ [])
  both f before numbers number =
      append_assoc before (flat_map f numbers) (flat_map f (number ∷ []))
      ∙ ap (λ l. before ++ l) (sym (flat_map-append f numbers (number ∷ [])))

  pub more_named : (numbers : List ℕ) (number : ℕ) (links : Links)
      → AreNamed ((names ++ numbers) ++ number ∷ [])
      ((by_parent ++ named_children table directory numbers) ++ named_children table directory (number ∷ []))
      ((children ++ for_directories table directory numbers) ++ for_directories table directory (number ∷ [])) links
      → AreNamedToo (numbers ++ number ∷ []) links
  more_named numbers number links named = record {
    names = subst (λ l. AreCounts l links.names) (append_assoc names numbers (number ∷ [])) named.names;
    by_parent = subst (λ l. AreCounts l links.by_parent) (both _ by_parent numbers number) named.by_parent;
    children = subst (λ l. AreCounts l links.children) (both _ children numbers number) named.children;
  }

  pub all_named : (slots : List Slot) (index_within : ℕ) (links : Links) → length slots ≤ index_within
      → AreNamedToo (map number_of (take index_within slots)) links → AreNamedToo (map number_of slots) links
  all_named slots index_within links past named =
      subst (λ l. AreNamedToo (map number_of l) links) (take_all index_within slots past) named

-- the numbers of the first slots, and of one more
pub numbers_more : (slots : List Slot) (index_within : ℕ) (d : Slot) → index_within < length slots
    → map number_of (take (index_within + 1) slots) ≡ map number_of (take index_within slots) ++ (get_or slots index_within d).number ∷ []
numbers_more slots index_within d less =
    ap (map number_of) (take_more slots index_within d less) ∙ map_both (take index_within slots) (get_or slots index_within d ∷ [])
