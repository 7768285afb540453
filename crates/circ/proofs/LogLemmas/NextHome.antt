-- Lemmas: the changes that the installer passes over, and the next that it brings home.
use Rattle.std.proofs.Common.{◌≡◌, ℕ, suc, ◌+◌, ◌<◌, ◌≤◌, Bool, true, false, List, [], ◌∷◌, length, take}
use Rattle.std.proofs.Common.{drop, slice_get, Option, Some, None, refl, sym, ap, ◌∙◌, arith, nat_eq}
use Rattle.std.proofs.Common.{if◌then◌else◌}
use Rattle.std.specs.Prelude.{is_some}
use Rattle.std.proofs.lemmas.Bool.{eqb-true, eq-eqb}
use Rattle.std.proofs.lemmas.List.{length-take-le, length-drop, drop-drop}
use Rattle.disk.specs.Device.{Content}
use Rattle.circ.specs.declared.log.change.LogChange.{LogChange}
use Rattle.circ.specs.Log.Log.{newest_of, or_else}
use Rattle.circ.specs.Log.Installer.{passed_over, next_home}
use Rattle.circ.proofs.LogLemmas.Lists.{slice_get-into_take, slice_get-into_drop}
use Rattle.circ.proofs.LogLemmas.Newest.{newest_of-later}

passed_within : (xs : List LogChange) → passed_over xs ≤ length xs
passed_within [] = omega arith
passed_within (x ∷ xs) =
    let h = passed_within xs in
    elim (is_some (newest_of xs x.block.0)) as (λ later. (if later then 1 + passed_over xs else 0)
    ≤ suc (length xs)) [ true ↦ omega (arith, h) | false ↦ omega arith ]

-- to pass over a change loses no newest content
or_else_later : (later : Option Content) (here : Option Content) → is_some later ≡ true
    → or_else later here ≡ later
or_else_later (Some c) here h = refl
or_else_later None here h = absurd (cc)

or_else_nothing : (later : Option Content) → or_else later None ≡ later
or_else_nothing (Some c) = refl
or_else_nothing None = refl

here_lost : (later : ℕ → Option Content) (x : LogChange) (block : ℕ) → is_some (later x.block.0) ≡ true
    → or_else (later block) (if nat_eq x.block.0 block then Some x.content else None) ≡ later block
here_lost later x block h = go (nat_eq x.block.0 block) refl
  where
    go : (t : Bool) → nat_eq x.block.0 block ≡ t
        → or_else (later block) (if t then Some x.content else None) ≡ later block
    go true e = or_else_later (later block) (Some x.content)
        (ap (λ n. is_some (later n)) (sym (eqb-true x.block.0 block e)) ∙ h)
    go false e = or_else_nothing (later block)

passed_preserves : (xs : List LogChange) (block : ℕ)
    → newest_of (drop (passed_over xs) xs) block ≡ newest_of xs block
passed_preserves [] block = refl
passed_preserves (x ∷ xs) block = go (passed_preserves xs block) (is_some (newest_of xs x.block.0)) refl
  where
    go : newest_of (drop (passed_over xs) xs) block ≡ newest_of xs block → (later : Bool)
        → is_some (newest_of xs x.block.0) ≡ later
        → newest_of (drop (if later then 1 + passed_over xs else 0) (x ∷ xs)) block ≡ newest_of (x ∷ xs) block
    go ih true e =
        let n : 1 + passed_over xs ≡ suc (passed_over xs) = omega arith in
        ap (λ k. newest_of (drop k (x ∷ xs)) block) n ∙ ih ∙ sym (here_lost (newest_of xs) x block e)
    go ih false e = refl

-- the change at which the passing over ends is the newest of its block
passed_newest : (xs : List LogChange) (x : LogChange) → slice_get xs (passed_over xs) ≡ Some x
    → newest_of xs x.block.0 ≡ Some x.content
passed_newest [] x is = absurd (cc)
passed_newest (y ∷ xs) x is = go (passed_newest xs x) (is_some (newest_of xs y.block.0)) refl is
  where
    none : (o : Option Content) → is_some o ≡ false → o ≡ None
    none (Some c) e = absurd (cc)
    none None e = refl

    go : (slice_get xs (passed_over xs) ≡ Some x → newest_of xs x.block.0 ≡ Some x.content) → (later : Bool)
        → is_some (newest_of xs y.block.0) ≡ later
        → slice_get (y ∷ xs) (if later then 1 + passed_over xs else 0) ≡ Some x
        → newest_of (y ∷ xs) x.block.0 ≡ Some x.content
    go ih true e h =
        let n : 1 + passed_over xs ≡ suc (passed_over xs) = omega arith in
        let there : newest_of xs x.block.0 ≡ Some x.content = ih (ap (slice_get (y ∷ xs)) (sym n) ∙ h) in
        ap (λ o. or_else o (if nat_eq y.block.0 x.block.0 then Some y.content else None)) there
    go ih false e h =
        let it : y ≡ x = cc in
        let same : nat_eq x.block.0 x.block.0 ≡ true = eq-eqb x.block.0 x.block.0 refl in
        ap (λ (c : LogChange). newest_of (c ∷ xs) x.block.0) it
        ∙ ap (λ (t : Bool). or_else (newest_of xs x.block.0) (if t then Some x.content else None)) same
        ∙ ap (λ o. or_else o (Some x.content)) (ap (λ (c : LogChange). newest_of xs c.block.0) (sym it)
        ∙ none (newest_of xs y.block.0) e)

-- the next home among the first so many changes
module _ (changes : List LogChange) (count from : ℕ) (within : count ≤ length changes) (le : from ≤ count)
  where
    abbrev some : List LogChange
    some = take count changes

    pub next_within : next_home changes count from ≤ count
    next_within =
        omega (
          arith,
          passed_within (drop from some),
          length-drop from some,
          length-take-le count changes within,
        )

    pub next_preserves : (block : ℕ)
        → newest_of (drop (next_home changes count from) some) block ≡ newest_of (drop from some) block
    next_preserves block = ap (λ xs. newest_of xs block) (sym (drop-drop (passed_over (drop from some)) from some))
        ∙ passed_preserves (drop from some) block

    pub next_newest : (change : LogChange) → next_home changes count from < count
        → slice_get changes (next_home changes count from) ≡ Some change
        → newest_of some change.block.0 ≡ Some change.content
    next_newest change lt is =
        let there : slice_get some (from + passed_over (drop from some)) ≡ Some change =
        slice_get-into_take changes count (next_home changes count from) change lt is in
        newest_of-later some 0 from change.block.0 change.content (omega arith)
        (passed_newest (drop from some) change
        (slice_get-into_drop some from (passed_over (drop from some)) change there))
