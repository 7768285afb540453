-- Lemmas on the index over the blocks in memory.
use Rattle.std.proofs.Common.{◌≡◌, ◌≢◌, ℕ, zero, suc, ◌+◌, ◌<◌, ◌≤◌, Bool, true, false, not, cond, nat_eq, nat_lt}
use Rattle.std.proofs.Common.{List, [], ◌∷◌, ◌++◌, length, set, get_or, Some, None, inl, inr}
use Rattle.std.proofs.Common.{refl, sym, ap, ◌∙◌, arith, subst, one-add, slice_index}
use Rattle.std.specs.Prelude.{position, slice_set}
use Rattle.std.specs.List.{find, items_where_true, position_or_len}
use Rattle.std.proofs.lemmas.Bool.{true≢false, cases_lt, eq-eqb, ne_eqb, eqb-true, lt-ltb, le-ltb, ltb-true, ltb-false}
use Rattle.std.proofs.lemmas.List.{get_or_append_left, get_or_push, length_push, length-map}
use Rattle.std.proofs.lemmas.List.{get_or-set_same, get_or-set_other, map-append, length-set}
use Rattle.std.proofs.lemmas.List.Quantifiers.{position-Some}
use Rattle.disk.specs.Device.{Content}
use Rattle.disk.specs.declared.block.BlockNo.{BlockNo}
use Rattle.objects.specs.Indexed.{AreHomed, IsIndex, numbers}
use Rattle.objects.specs.Present.{IsOnce, filled, filled_in, present_of, renewed, renewed_resident}
use Rattle.objects.specs.declared.present.Present.{Present}
use Rattle.objects.proofs.Residents.{is_of}

-- where the search of a list comes to
at_first : (xs : List Present) (block : BlockNo) (i : ℕ) → i < length xs → slice_index (numbers xs) i ≡ block.0
    → ((j : ℕ) → j < i → slice_index (numbers xs) j ≡ block.0 → ⊥) → position_or_len (is_of block) xs ≡ i
at_first [] block i lt is none = absurd (omega (arith, lt))
at_first (x ∷ xs) block zero lt is none = ap (λ t. cond (not t) (1 + position_or_len (is_of block) xs) 0) (eq-eqb x.block.0 block.0 is)
at_first (x ∷ xs) block (suc i) lt is none =
    let rest : position_or_len (is_of block) xs ≡ i =
    at_first xs block i (omega (arith, lt)) is (λ j l e. none (suc j) (omega (arith, l)) e) in
    ap (λ t. cond (not t) (1 + position_or_len (is_of block) xs) 0)
    (ne_eqb x.block.0 block.0 (λ e. none zero (omega arith) e))
    ∙ omega (arith, rest)

at_none : (xs : List Present) (block : BlockNo)
    → ((j : ℕ) → j < length xs → slice_index (numbers xs) j ≡ block.0 → ⊥)
    → position_or_len (is_of block) xs ≡ length xs
at_none [] block none = refl
at_none (x ∷ xs) block none =
    let rest : position_or_len (is_of block) xs ≡ length xs =
    at_none xs block (λ j l e. none (suc j) (omega (arith, l)) e) in
    ap (λ t. cond (not t) (1 + position_or_len (is_of block) xs) 0)
    (ne_eqb x.block.0 block.0 (λ e. none zero (omega arith) e))
    ∙ omega (arith, rest)

-- what the index has is what a search of the list finds
pub found : (xs : List Present) (indices : List ℕ) (block : BlockNo) (i : ℕ) → IsIndex (numbers xs) indices
    → i ≡ slice_index indices block.0 → i < length xs → slice_index (numbers xs) i ≡ block.0
    → Some i ≡ position (is_of block) xs
found xs indices block i index tracked lt is =
    let size : length (numbers xs) ≡ length xs = length-map xs (λ (resident : Present). resident.block.0) in
    let at : position_or_len (is_of block) xs ≡ i =
    at_first xs block i lt is
    (λ j l e. (
    let k : slice_index indices block.0 ≡ j =
    subst (λ (n : ℕ). slice_index indices n ≡ j) e (index.there j (omega (arith, l, lt, size))) in
    absurd (omega (arith, k, tracked, l)))) in
    sym (ap (λ (n : ℕ). cond (nat_lt n (length xs)) (Some n) None) at
    ∙ ap (λ t. cond t (Some i) None) (lt-ltb i (length xs) lt))

pub not_found : (xs : List Present) (indices : List ℕ) (block : BlockNo) (i : ℕ) → IsIndex (numbers xs) indices
    → i ≡ slice_index indices block.0 → (i < length xs → slice_index (numbers xs) i ≡ block.0 → ⊥)
    → None ≡ position (is_of block) xs
not_found xs indices block i index tracked never =
    let size : length (numbers xs) ≡ length xs = length-map xs (λ (resident : Present). resident.block.0) in
    let at : position_or_len (is_of block) xs ≡ length xs =
    at_none xs block
    (λ j l e. (
    let k : slice_index indices block.0 ≡ j =
    subst (λ (n : ℕ). slice_index indices n ≡ j) e (index.there j (omega (arith, l, size))) in
    let same : i ≡ j = tracked ∙ k in
    never (omega (arith, same, l)) (subst (λ (n : ℕ). slice_index (numbers xs) n ≡ block.0) (sym same) e))) in
    sym (ap (λ (n : ℕ). cond (nat_lt n (length xs)) (Some n) None) at
    ∙ ap (λ t. cond t (Some (length xs)) None) (le-ltb (length xs) (length xs) (omega arith)))

-- the first that passes is found, by its index
find_there : {X : Type 0} (p : X → Bool) (xs : List X) (d : X) → position_or_len p xs < length xs
    → find p xs ≡ Some (get_or xs (position_or_len p xs) d)
find_there p [] d lt = absurd (omega (arith, lt))
find_there p (x ∷ xs) d lt = go (p x) (find_there p xs d) lt
  where
    go : (t : Bool) → (position_or_len p xs < length xs → find p xs ≡ Some (get_or xs (position_or_len p xs) d))
        → cond (not t) (1 + position_or_len p xs) 0 < length (x ∷ xs)
        → cond t (Some x) (find p xs) ≡ Some (get_or (x ∷ xs) (cond (not t) (1 + position_or_len p xs) 0) d)
    go true rest lt = refl
    go false rest lt = rw one-add (rest (omega (arith, lt)))

find_past : {X : Type 0} (p : X → Bool) (xs : List X) → length xs ≤ position_or_len p xs → find p xs ≡ None
find_past p [] le = refl
find_past p (x ∷ xs) le = go (p x) (find_past p xs) le
  where
    go : (t : Bool) → (length xs ≤ position_or_len p xs → find p xs ≡ None)
        → length (x ∷ xs) ≤ cond (not t) (1 + position_or_len p xs) 0 → cond t (Some x) (find p xs) ≡ None
    go true rest le = absurd (omega (arith, le))
    go false rest le = rest (omega (arith, le))

pub find_at : {X : Type 0} (p : X → Bool) (xs : List X) (i : ℕ) (d : X) → Some i ≡ position p xs
    → Some (get_or xs i d) ≡ find p xs
find_at p xs i d e = go (nat_lt (position_or_len p xs) (length xs)) refl e
  where
    go : (t : Bool) → nat_lt (position_or_len p xs) (length xs) ≡ t
        → Some i ≡ cond t (Some (position_or_len p xs)) None → Some (get_or xs i d) ≡ find p xs
    go true is e =
        let same : i ≡ position_or_len p xs = cc in
        ap (λ (k : ℕ). Some (get_or xs k d)) same
        ∙ sym (find_there p xs d (ltb-true (position_or_len p xs) (length xs) is))
    go false is e = absurd (cc)

pub find_nowhere : {X : Type 0} (p : X → Bool) (xs : List X) → None ≡ position p xs → None ≡ find p xs
find_nowhere p xs e = go (nat_lt (position_or_len p xs) (length xs)) refl e
  where
    go : (t : Bool) → nat_lt (position_or_len p xs) (length xs) ≡ t
        → None ≡ cond t (Some (position_or_len p xs)) None → None ≡ find p xs
    go true is e = absurd (cc)
    go false is e = sym (find_past p xs (ltb-false (position_or_len p xs) (length xs) is))

-- the number of one, by its index
pub numbers-at : (xs : List Present) (k : ℕ) (d : Present) → k < length xs
    → slice_index (numbers xs) k ≡ (get_or xs k d).block.0
numbers-at [] k d lt = absurd (omega (arith, lt))
numbers-at (x ∷ xs) zero d lt = refl
numbers-at (x ∷ xs) (suc k) d lt = numbers-at xs k d (omega (arith, lt))

pub position_within : {X : Type 0} (p : X → Bool) (xs : List X) (i : ℕ) → Some i ≡ position p xs → i < length xs
position_within p xs i e = go (nat_lt (position_or_len p xs) (length xs)) refl e
  where
    go : (t : Bool) → nat_lt (position_or_len p xs) (length xs) ≡ t
        → Some i ≡ cond t (Some (position_or_len p xs)) None → i < length xs
    go true is e =
        let same : i ≡ position_or_len p xs = cc in
        let lt = ltb-true (position_or_len p xs) (length xs) is in
        omega (arith, same, lt)
    go false is e = absurd (cc)

-- where a search comes to, the number is
pub position_is : (xs : List Present) (block : BlockNo) (i : ℕ) → Some i ≡ position (is_of block) xs
    → slice_index (numbers xs) i ≡ block.0
position_is xs block i e =
    let d : Present = record { block = block; content = None } in
    let lt = position_within (is_of block) xs i e in
    let at = position-Some (is_of block) xs i d (sym e) in
    numbers-at xs i d lt ∙ eqb-true (get_or xs i d).block.0 block.0 at.1

-- a block that isn't found is no resident's
pub absent_at : (xs : List Present) (block : BlockNo) (k : ℕ) → present_of xs block ≡ None → k < length xs
    → slice_index (numbers xs) k ≢ block.0
absent_at [] block k none lt e = absurd (omega (arith, lt))
absent_at (x ∷ xs) block k none lt e = go (λ j. absent_at xs block j) (nat_eq x.block.0 block.0) refl none k lt e
  where
    go : ((j : ℕ) → present_of xs block ≡ None → j < length xs → slice_index (numbers xs) j ≢ block.0) → (t : Bool)
        → nat_eq x.block.0 block.0 ≡ t → cond t (Some x) (present_of xs block) ≡ None → (k : ℕ)
        → k < length (x ∷ xs) → slice_index (numbers (x ∷ xs)) k ≢ block.0
    go rest true is none k lt e = absurd (cc)
    go rest false is none zero lt e = absurd (true≢false (sym (eq-eqb x.block.0 block.0 e) ∙ is))
    go rest false is none (suc k) lt e = rest k none (omega (arith, lt)) e

-- two residents are of two blocks
pub distinct : (xs : List Present) → IsOnce xs → (j k : ℕ) → j < k → k < length xs
    → slice_index (numbers xs) j ≢ slice_index (numbers xs) k
distinct [] once j k lt less e = absurd (omega (arith, less))
distinct (x ∷ xs) once j zero lt less e = absurd (omega (arith, lt))
distinct (x ∷ xs) once zero (suc k) lt less e = absent_at xs x.block k once.0 (omega (arith, less)) (sym e)
distinct (x ∷ xs) once (suc j) (suc k) lt less e = distinct xs once.1 j k (omega (arith, lt)) (omega (arith, less)) e

-- one that is tracked anew beside those before it
pub tracked_too : (list indices : List ℕ) (i block : ℕ) → block < length indices → slice_index list i ≡ block
    → ((k : ℕ) → k < i → slice_index list k ≢ block)
    → ((k : ℕ) → k < i → slice_index indices (slice_index list k) ≡ k)
    → (k : ℕ) → k < i + 1 → slice_index (slice_set indices block i) (slice_index list k) ≡ k
tracked_too list indices i block home is apart before k lt =
    elim (cases_lt k i) as (λ _. slice_index (slice_set indices block i) (slice_index list k) ≡ k) [
      | inl less ↦ get_or-set_other indices block (slice_index list k) i 0 (apart k less) ∙ before k less
      | inr last ↦
          let same : k ≡ i = omega (arith, lt, last) in
          rw (same, is) (get_or-set_same indices block i 0 home)
    ]

-- more indices, of which those that there were are the same
pub reached : (list indices other : List ℕ) → IsIndex list indices
    → ((number : ℕ) → slice_index other number ≡ slice_index indices number) → length indices ≤ length other
    → IsIndex list other
reached list indices other index same more = record {
  homed = λ k lt. (let h = index.homed k lt in omega (arith, h, more));
  there = λ k lt. same (slice_index list k) ∙ index.there k lt;
}

-- one resident more
pub pushed : (list indices : List ℕ) (block : ℕ) → IsIndex list indices
    → ((k : ℕ) → k < length list → slice_index list k ≢ block) → block < length indices
    → IsIndex (list ++ block ∷ []) (slice_set indices block (length list))
pushed list indices block index apart home =
    let len : length (list ++ block ∷ []) ≡ length list + 1 = length_push list block in
    let long : length (slice_set indices block (length list)) ≡ length indices = length-set indices block (length list) in
    let old : (k : ℕ) → k < length list → slice_index (list ++ block ∷ []) k ≡ slice_index list k =
    λ k lt. get_or_append_left list (block ∷ []) 0 k lt in
    let new : (k : ℕ) → k < length (list ++ block ∷ []) → length list ≤ k → slice_index (list ++ block ∷ []) k ≡ block =
    λ k lt le. get_or_push list block 0 k (omega (arith, lt, le, len)) in
    record {
      homed = λ k lt.
          elim (cases_lt k (length list)) as (λ _. slice_index (list ++ block ∷ []) k
          < length (slice_set indices block (length list))) [
            | inl less ↦ (let h = index.homed k less in let e = old k less in omega (arith, h, e, long))
            | inr last ↦ (let e = new k lt last in omega (arith, home, e, long))
          ];
      there = λ k lt.
          elim (cases_lt k (length list)) as (λ _. slice_index (slice_set indices block (length list))
          (slice_index (list ++ block ∷ []) k) ≡ k) [
            | inl less ↦
                rw (old k less)
                (get_or-set_other indices block (slice_index list k) (length list) 0 (apart k less)
                ∙ index.there k less)
            | inr last ↦
                let same : k ≡ length list = omega (arith, lt, last, len) in
                rw (new k lt last) (get_or-set_same indices block (length list) 0 home ∙ sym same)
          ];
    }

pub numbers-push : (xs : List Present) (x : Present) → numbers (xs ++ x ∷ []) ≡ numbers xs ++ x.block.0 ∷ []
numbers-push xs x = map-append (λ (resident : Present). resident.block.0) xs (x ∷ [])

-- fewer residents
pub homed_retained : (bs : List Bool) (count : ℕ) (xs : List Present) → AreHomed count (numbers xs)
    → AreHomed count (numbers (items_where_true bs xs))
homed_retained [] count xs h k lt = absurd (omega (arith, lt))
homed_retained (b ∷ bs) count [] h k lt = absurd (omega (arith, lt))
homed_retained (false ∷ bs) count (x ∷ xs) h k lt = homed_retained bs count xs (λ j l. h (suc j) (omega (arith, l))) k lt
homed_retained (true ∷ bs) count (x ∷ xs) h zero lt = h zero (omega arith)
homed_retained (true ∷ bs) count (x ∷ xs) h (suc k) lt =
    homed_retained bs count xs (λ j l. h (suc j) (omega (arith, l))) k (omega (arith, lt))

module _ (block : BlockNo) (content : Content) where
  pub numbers-filled : (xs : List Present) → numbers (filled xs block content) ≡ numbers xs
  numbers-filled [] = refl
  numbers-filled (x ∷ xs) = go (nat_eq x.block.0 block.0) (numbers-filled xs)
    where
      go : (t : Bool) → numbers (filled xs block content) ≡ numbers xs
          → numbers (cond t (record { block = x.block; content = filled_in x.content content } ∷ xs)
          (x ∷ filled xs block content))
          ≡ numbers (x ∷ xs)
      go true rest = refl
      go false rest = ap (λ (ns : List ℕ). x.block.0 ∷ ns) rest

  pub numbers-renewed : (xs : List Present) → numbers (renewed xs block content) ≡ numbers xs
  numbers-renewed [] = refl
  numbers-renewed (x ∷ xs) = ap (λ (ns : List ℕ). x.block.0 ∷ ns) (numbers-renewed xs)

  -- a resident of another block stays
  other_stays : (x : Present) → nat_eq x.block.0 block.0 ≡ false → renewed_resident block content x ≡ x
  other_stays x is = rw is refl

  renewed_absent : (xs : List Present) → present_of xs block ≡ None → xs ≡ renewed xs block content
  renewed_absent [] none = refl
  renewed_absent (x ∷ xs) none = go (renewed_absent xs) (nat_eq x.block.0 block.0) refl none
    where
      go : (present_of xs block ≡ None → xs ≡ renewed xs block content) → (t : Bool) → nat_eq x.block.0 block.0 ≡ t → cond t (Some x) (present_of xs block) ≡ None
          → x ∷ xs ≡ renewed_resident block content x ∷ renewed xs block content
      go rest true is none = absurd (cc)
      go rest false is none =
          ap (λ (y : Present). y ∷ xs) (sym (other_stays x is))
          ∙ ap (λ (ys : List Present). renewed_resident block content x ∷ ys) (rest none)

  pub renewed_nowhere : (xs : List Present) → None ≡ position (is_of block) xs → xs ≡ renewed xs block content
  renewed_nowhere xs e = renewed_absent xs (sym (find_nowhere (is_of block) xs e))

  pub renewed_at : (xs : List Present) (i : ℕ) (d : Present) → IsOnce xs → i < length xs
      → slice_index (numbers xs) i ≡ block.0
      → set xs i (renewed_resident block content (get_or xs i d)) ≡ renewed xs block content
  renewed_at [] i d once lt is = absurd (omega (arith, lt))
  renewed_at (x ∷ xs) zero d once lt is =
      let same : x.block ≡ block = (let f : ℕ → BlockNo = λ number. record { 0 = number } in ap f is) in
      ap (λ (ys : List Present). renewed_resident block content x ∷ ys)
      (renewed_absent xs (subst (λ (b : BlockNo). present_of xs b ≡ None) same once.0))
  renewed_at (x ∷ xs) (suc i) d once lt is =
      let apart : x.block.0 ≢ block.0 = λ e.
      distinct (x ∷ xs) once zero (suc i) (omega arith) lt (e ∙ sym is) in
      ap (λ (ys : List Present). x ∷ ys) (renewed_at xs i d once.1 (omega (arith, lt)) is)
      ∙ ap (λ (y : Present). y ∷ renewed xs block content)
      (sym (other_stays x (ne_eqb x.block.0 block.0 apart)))
