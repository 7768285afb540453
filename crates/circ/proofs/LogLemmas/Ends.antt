-- Lemmas on the ends of groups.
use Rattle.std.proofs.Common.{◌≡◌, ℕ, suc, ◌+◌, ◌-◌, ◌<◌, ◌≤◌, Bool, true, false, ◌&&◌, nat_eq, if◌then◌else◌}
use Rattle.std.proofs.Common.{List, [], ◌∷◌, ◌++◌, length, drop, All, Option, Some, None, refl, ap, ◌∙◌}
use Rattle.std.proofs.Common.{arith, ne_eqb}
use Rattle.std.proofs.lemmas.Bool.{eqb-true, eq-eqb}
use Rattle.std.proofs.lemmas.List.Elements.{All-head, All-tail}
use Rattle.disk.specs.Device.{Content}
use Rattle.disk.specs.Crash.{Image}
use Rattle.disk.specs.declared.block.BlockNo.{BlockNo}
use Rattle.circ.specs.declared.log.change.LogChange.{LogChange}
use Rattle.circ.specs.Log.Log.{IsRising, IsCommitted, newest_of, or_else, place_before}
use Rattle.circ.specs.Log.Log.{changes_of}
use Rattle.circ.proofs.LogLemmas.Newest.{place_before-all}
use Rattle.circ.proofs.LogLemmas.Places.{place_before-drop-le, rising-drop}
use Rattle.circ.specs.Log.Grows.{recovered}

-- images with the same contents are the same
pub same_image : (f g : Image) → ((block : ℕ) → f block ≡ g block) → f ≡ g
same_image f g same = λ i block. same block i

pub recovered-append : (xs ys : List LogChange) → recovered (xs ++ ys) ≡ recovered xs ++ recovered ys
recovered-append [] ys = refl
recovered-append (x ∷ xs) ys =
    elim (nat_eq x.place 0) as (λ t. (if t then x ∷ recovered (xs ++ ys) else recovered (xs ++ ys))
    ≡ (if t then x ∷ recovered xs else recovered xs) ++ recovered ys) [
      | true ↦ ap (λ zs. x ∷ zs) (recovered-append xs ys)
      | false ↦ recovered-append xs ys
    ]

pub recovered-committed : (xs : List LogChange) → All IsCommitted xs → recovered xs ≡ []
recovered-committed [] h = refl
recovered-committed (x ∷ xs) h =
    let here : 0 < x.place = All-head IsCommitted x xs h in
    let no : nat_eq x.place 0 ≡ false = ne_eqb x.place 0 (λ e. absurd (omega arith)) in
    ap (λ (t : Bool). if t then x ∷ recovered xs else recovered xs) no
    ∙ recovered-committed xs (All-tail IsCommitted x xs h)

pub recovered-group : (place : ℕ) (group : List (BlockNo × Content))
    → recovered (changes_of (place + 1) group) ≡ []
recovered-group place [] = refl
recovered-group place (change ∷ group) =
    let no : nat_eq (place + 1) 0 ≡ false = ne_eqb (place + 1) 0 (λ e. absurd (omega arith)) in
    ap (λ (t : Bool). if t then record { place = place + 1; block = change.0; content = change.1 }
    ∷ recovered (changes_of (place + 1) group) else recovered (changes_of (place + 1) group)) no
    ∙ recovered-group place group

pub append_nothing : {X : Type 0} (xs ys : List X) → ys ≡ [] → xs ++ ys ≡ xs
append_nothing [] ys h = h
append_nothing (x ∷ xs) ys h = ap (λ zs. x ∷ zs) (append_nothing xs ys h)

-- changes that have no block are none
pub no_changes : (xs : List LogChange) → ((block : ℕ) → newest_of xs block ≡ None) → xs ≡ []
no_changes [] h = refl
no_changes (x ∷ xs) h =
    absurd (there (newest_of xs x.block.0) (nat_eq x.block.0 x.block.0) (eq-eqb x.block.0 x.block.0 refl)
    (h x.block.0))
  where
    there : (later : Option Content) (t : Bool) → t ≡ true
        → or_else later (if t then Some x.content else None) ≡ None → ⊥
    there (Some c) t e h = absurd (cc)
    there None true e h = absurd (cc)
    there None false e h = absurd (cc)

pub empty_list : {X : Type 0} (xs : List X) → nat_eq (length xs) 0 ≡ true → xs ≡ []
empty_list [] h = refl
empty_list (x ∷ xs) h = absurd (let e : length (x ∷ xs) ≡ 0 = eqb-true (length (x ∷ xs)) 0 h in omega arith)

-- the place before an end is between that of the first change and the last place
pub place_le : (changes : List LogChange) (places n : ℕ) → IsRising changes places
    → place_before (drop n changes) places ≤ places
place_le changes places n h =
    let m : ℕ = length (drop n changes) in
    let a : place_before (drop n changes) places ≤ place_before (drop m (drop n changes)) places =
    place_before-drop-le (drop n changes) places m (rising-drop changes places n h) in
    let b : place_before (drop m (drop n changes)) places ≡ places =
    place_before-all (drop n changes) m places (omega arith) in
    omega arith

not_empty : (n : ℕ) → nat_eq (suc n) 0 ≡ false
not_empty n = ne_eqb (suc n) 0 (λ h. absurd (omega arith))

pub place_before-append : (xs : List LogChange) (places : ℕ) (group : List (BlockNo × Content))
    → place_before (xs ++ changes_of (places + 1) group) (places + 1)
    ≡ (if nat_eq (length xs) 0 && nat_eq (length group) 0 then places + 1 else place_before xs places)
place_before-append [] places [] = refl
place_before-append [] places (change ∷ group) = let e : places + 1 - 1 ≡ places = omega arith in
    rw (not_empty (length group)) e
place_before-append (x ∷ xs) places group = rw (not_empty (length xs)) refl

pub newest_of-group : (p q : ℕ) (group : List (BlockNo × Content)) (block : ℕ)
    → newest_of (changes_of p group) block ≡ newest_of (changes_of q group) block
newest_of-group p q [] block = refl
newest_of-group p q (change ∷ group) block =
    ap (λ o. or_else o (if nat_eq change.0.0 block then Some change.1 else None))
    (newest_of-group p q group block)
