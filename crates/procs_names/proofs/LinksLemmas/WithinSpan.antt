-- The least slot of a directory in which no name lies is near those that it spans.
use Rattle.std.proofs.Common.{◌≡◌, ℕ, zero, suc, ◌+◌, ◌*◌, ◌<◌, ◌≤◌, ◌||◌, inl, inr, sym, ap, subst, ◌∙◌, refl, T, Bool, true}
use Rattle.std.proofs.Common.{false, cond, not, List, [], ◌∷◌, length, get_or, nat_eq, nat_lt, ◌⊎◌, Option, Some, arith}
use Rattle.std.proofs.lemmas.Bool.{cases_lt, le-ltb, lt-ltb}
use Rattle.std.specs.Cmp.{tied_itself}
use Rattle.std.specs.Cmp.Lexicographic.{nat_list_cmp_total, slice_cmp}
use Rattle.std.specs.FinMap.{FinMap, entries, entries_sorted, get, get-entries, is_sorted}
use Rattle.std.specs.FinMap as map
use Rattle.std.specs.FinMap.Entries.{below_all}
use Rattle.std.specs.List.{find, list_any, range_with_len}
use Rattle.std.specs.Ordering.{eq_by_cmp, is_eq, is_lt, nat_cmp}
use Rattle.std.specs.declared.cmp.Ordering.{Ordering}
use Rattle.base.specs.declared.TheConstants.{DIRECT_INDEXES, MOST_SPAN, SLOTS_PER_BLOCK}
use Rattle.nfs_spec.specs.Model.Cost.{cost}
use Rattle.nfs_spec.specs.Model.Names.{is_directory}
use Rattle.nfs_spec.specs.Model.Node.{Body, DirentValue, Regular, Directory, Link}
use Rattle.nfs_spec.specs.Model.Sound.{SoundBody}
use Rattle.nfs_spec.proofs.ProceduresLemmas.NameChanges.{FreeSlot, names_apart}
use Rattle.nfs_spec.proofs.ProceduresLemmas.Parts.{one_key}
use Rattle.nfs_spec.proofs.ProceduresLemmas.Sums.{and_first, and_second}
use Rattle.nfs_spec.proofs.ProceduresLemmas.Tests.{unequal}
use Rattle.nfs_spec.specs.Procedures.Places.{dirent_at, is_taken_slot, least_free_slot}
use Rattle.procs_files.specs.Writable.{spanned}

-- ---- names and the entries of a directory

abbrev order : List ℕ → List ℕ → Ordering
order = slice_cmp nat_cmp

above_not : (k q : List ℕ) → T (is_lt (order k q)) → (b : Bool) → eq_by_cmp order q k ≡ b → b ≡ false
above_not k q less false e = refl
above_not k q less true e =
    let same : q ≡ k = one_key names_apart q k e in
    absurd (subst (λ r. T (is_lt r)) (ap (order k) same ∙ tied_itself nat_list_cmp_total k) less)

taken_is : {X : Type 0} (b : Bool) (v : X) (o : Option X) → b ≡ true → cond b (Some v) o ≡ Some v
taken_is true v o e = refl
taken_is false v o e = cc

skipped_is : {X : Type 0} (b : Bool) (v : X) (o : Option X) → b ≡ false → cond b (Some v) o ≡ o
skipped_is true v o e = cc
skipped_is false v o e = refl

module _ {X : Type 0} where
  below_at : (k : List ℕ) (es : List (List ℕ × X)) (d : List ℕ × X) (index : ℕ) → index < length es
      → T (below_all order k es) → T (is_lt (order k (get_or es index d).0))
  below_at k [] d index inside below = absurd (omega arith)
  below_at k (e ∷ es) d zero inside below = and_first _ _ below
  below_at k (e ∷ es) d (suc index) inside below =
      below_at k es d index (omega arith) (and_second _ _ below)

  found_at : (es : List (List ℕ × X)) (d : List ℕ × X) (index : ℕ) → index < length es → T (is_sorted order es)
      → map.find order (get_or es index d).0 es ≡ Some (get_or es index d).1
  found_at [] d index inside sorted = absurd (omega arith)
  found_at (e ∷ es) d zero inside sorted =
      taken_is (eq_by_cmp order e.0 e.0) e.1 (map.find order e.0 es) (ap is_eq (tied_itself nat_list_cmp_total e.0))
  found_at (e ∷ es) d (suc index) inside sorted =
      let key = (get_or es index d).0 in
      skipped_is (eq_by_cmp order key e.0) e.1 (map.find order key es)
      (above_not e.0 key (below_at e.0 es d index (omega arith) (and_first _ _ sorted)) _ refl)
      ∙ found_at es d index (omega arith) (and_second _ _ sorted)

  got_at : (m : FinMap order X) (d : List ℕ × X) (index : ℕ) → index < length (entries m)
      → get m (get_or (entries m) index d).0 ≡ Some (get_or (entries m) index d).1
  got_at m d index inside =
      get-entries m _ ∙ found_at (entries m) d index inside (entries_sorted m)

none_passes : {A : Type 0} (p : A → Bool) (xs : List A) (d : A)
    → ((index : ℕ) → index < length xs → p (get_or xs index d) ≡ false) → list_any p xs ≡ false
none_passes p [] d each = refl
none_passes p (x ∷ xs) d each =
    ap (λ b. b || list_any p xs) (each 0 (omega arith))
    ∙ none_passes p xs d (λ index inside. each (suc index) (omega arith))

-- a slot in which no name lies isn't taken
pub slot_untaken : (body : Body) (slot : ℕ) → FreeSlot body slot → is_taken_slot body slot ≡ false
slot_untaken (Regular bytes mapped) slot free = refl
slot_untaken (Directory named span parent) slot free =
    let d : List ℕ × DirentValue = ([], record { number = 0; slot = 0 }) in
    none_passes (λ e. nat_eq e.1.slot slot) (entries named) d (λ index inside.
    let e = get_or (entries named) index d in
    unequal e.1.slot slot (free e.0 e.1 (got_at named d index inside)))
slot_untaken (Link target) slot free = refl

-- ---- the least one

module _ (p : ℕ → Bool) where
  -- what was passed over to what was found fails the test
  passed_over : (a n k x : ℕ) → a ≤ k → k < x → k < a + n → find p (range_with_len a n) ≡ Some x → p k ≡ false
  passed_over a zero k x low before less is = absurd (omega (arith, low, less))
  passed_over a (suc n) k x low before less is = by_test a n k x low before less (p a) refl is
      (λ more rest. passed_over (a + 1) n k x more before (omega (arith, less)) rest)
    where
      by_test : (a n k x : ℕ) → a ≤ k → k < x → k < a + suc n → (b : Bool) → p a ≡ b
          → cond b (Some a) (find p (range_with_len (a + 1) n)) ≡ Some x
          → (a + 1 ≤ k → find p (range_with_len (a + 1) n) ≡ Some x → p k ≡ false) → p k ≡ false
      by_test a n k x low before less true passes is rest =
          let same : a ≡ x = cc in absurd (omega (arith, same, low, before))
      by_test a n k x low before less false fails is rest = elim (cases_lt a k) [
        | inl more ↦ rest (omega (arith, more)) is
        | inr past ↦ (let same : k ≡ a = omega (arith, low, past) in ap p same ∙ fails)
      ]

-- no name lies in the first slot behind those that a directory spans
behind_free : (body : Body) → SoundBody body → FreeSlot body (SLOTS_PER_BLOCK * spanned body)
behind_free (Regular bytes mapped) good other dirent is = cc
behind_free (Directory named span parent) good other dirent is =
    let below = good.slots other dirent is in λ same. omega (arith, below, same)
behind_free (Link target) good other dirent is = cc

pub least_is_within_span : (body : Body) (slot : ℕ) → SoundBody body → slot < SLOTS_PER_BLOCK * MOST_SPAN
    → least_free_slot body ≡ Some slot → slot ≤ SLOTS_PER_BLOCK * spanned body
least_is_within_span body slot good small is = elim (cases_lt (SLOTS_PER_BLOCK * spanned body) slot) [
  | inl past ↦
      let passed = passed_over (λ s. not (is_taken_slot body s)) 0 (SLOTS_PER_BLOCK * MOST_SPAN)
      (SLOTS_PER_BLOCK * spanned body) slot (omega arith) past (omega (arith, past, small)) is in
      let free = slot_untaken body (SLOTS_PER_BLOCK * spanned body) (behind_free body good) in
      let clash : true ≡ false = sym (ap not free) ∙ passed in cc
  | inr within ↦ within
]

-- a name that a directory has lies in a slot that it spans
pub named_is_within_span : (body : Body) (name : List ℕ) (dirent : DirentValue) → SoundBody body
    → dirent_at body name ≡ Some dirent → dirent.slot ≤ SLOTS_PER_BLOCK * spanned body
named_is_within_span (Regular bytes mapped) name dirent good is = cc
named_is_within_span (Directory named span parent) name dirent good is =
    let below = good.slots name dirent is in omega (arith, below)
named_is_within_span (Link target) name dirent good is = cc

-- directories that use as many blocks span as many
pub same_span : (one other : Body) → is_directory one ≡ true → is_directory other ≡ true → cost one ≡ cost other
    → spanned one ≡ spanned other
same_span (Directory a s p) (Directory b t q) is too same = by_direct (cases_lt DIRECT_INDEXES s) (cases_lt DIRECT_INDEXES t)
  where
    past_direct_indexes : (n : ℕ) → DIRECT_INDEXES < n → n + cond (nat_lt DIRECT_INDEXES n) 1 0 ≡ n + 1
    past_direct_indexes n more = ap {B = ℕ} (λ (b : Bool). n + cond b 1 0) (lt-ltb DIRECT_INDEXES n more)

    within_span : (n : ℕ) → n ≤ DIRECT_INDEXES → n + cond (nat_lt DIRECT_INDEXES n) 1 0 ≡ n
    within_span n few = ap {B = ℕ} (λ (b : Bool). n + cond b 1 0) (le-ltb DIRECT_INDEXES n few) ∙ plus n
      where
        plus : (k : ℕ) → k + 0 ≡ k
        plus k = omega arith

    by_direct : (DIRECT_INDEXES < s) ⊎ (s ≤ DIRECT_INDEXES) → (DIRECT_INDEXES < t) ⊎ (t ≤ DIRECT_INDEXES) → s ≡ t
    by_direct (inl x) (inl y) = let one = past_direct_indexes s x in let two = past_direct_indexes t y in omega (arith, one, two, same)
    by_direct (inl x) (inr y) = let one = past_direct_indexes s x in let two = within_span t y in omega (arith, one, two, same, x, y)
    by_direct (inr x) (inl y) = let one = within_span s x in let two = past_direct_indexes t y in omega (arith, one, two, same, x, y)
    by_direct (inr x) (inr y) = let one = within_span s x in let two = within_span t y in omega (arith, one, two, same)
same_span (Regular a s) other is too same = cc
same_span (Link a) other is too same = cc
same_span (Directory a s p) (Regular b t) is too same = cc
same_span (Directory a s p) (Link b) is too same = cc
