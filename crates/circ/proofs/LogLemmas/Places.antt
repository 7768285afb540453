-- Lemmas on the places of changes.
use Rattle.std.proofs.Common.{ℕ, ◌+◌, ◌<◌, ◌≤◌, List, [], ◌∷◌, ◌++◌, drop, All, zero, suc, arith}
use Rattle.std.proofs.lemmas.List.Elements.{All-nil, All-cons}
use Rattle.disk.specs.Device.{Content}
use Rattle.disk.specs.declared.block.BlockNo.{BlockNo}
use Rattle.circ.specs.declared.log.change.LogChange.{LogChange}
use Rattle.circ.specs.Log.Log.{place_before, first_place, IsRising, IsCommitted, changes_of}

pub rising-drop : (changes : List LogChange) (places n : ℕ) → IsRising changes places
    → IsRising (drop n changes) places
rising-drop changes places zero h = h
rising-drop [] places (suc n) h = h
rising-drop (change ∷ later) places (suc n) h = rising-drop later places n h.1

-- the place before the first change is at most that before the second
next_place : (change : LogChange) (later : List LogChange) (places : ℕ)
    → change.place ≤ first_place later places
    → place_before (change ∷ later) places ≤ place_before later places
next_place change [] places h = omega arith
next_place change (next ∷ later) places h = omega arith

pub place_before-drop-le : (changes : List LogChange) (places n : ℕ) → IsRising changes places
    → place_before changes places ≤ place_before (drop n changes) places
place_before-drop-le changes places zero h = omega arith
place_before-drop-le [] places (suc n) h = omega arith
place_before-drop-le (change ∷ later) places (suc n) h =
    let a = next_place change later places h.0 in
    let b = place_before-drop-le later places n h.1 in
    omega (arith, a, b)

pub rising-group : (place : ℕ) (group : List (BlockNo × Content)) → IsRising (changes_of place group) place
rising-group place [] = tt
rising-group place (change ∷ []) = (omega arith, tt)
rising-group place (change ∷ next ∷ group) = (omega arith, rising-group place (next ∷ group))

pub rising-append : (changes : List LogChange) (places : ℕ) (group : List (BlockNo × Content))
    → IsRising changes places → IsRising (changes ++ changes_of (places + 1) group) (places + 1)
rising-append [] places group h = rising-group (places + 1) group
rising-append (change ∷ []) places [] h = (omega (arith, h.0), tt)
rising-append (change ∷ []) places (first ∷ group) h =
    (omega (arith, h.0), rising-group (places + 1) (first ∷ group))
rising-append (change ∷ next ∷ later) places group h = (h.0, rising-append (next ∷ later) places group h.1)

pub committed-group : (place : ℕ) (group : List (BlockNo × Content)) → 0 < place
    → All IsCommitted (changes_of place group)
committed-group place [] h = All-nil IsCommitted
committed-group place (change ∷ group) h =
    All-cons IsCommitted (record { place = place; block = change.0; content = change.1 })
    (changes_of place group) h (committed-group place group h)
