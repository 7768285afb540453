-- Lemmas on the newest content of a block among changes.
use Rattle.std.proofs.Common.{◌≡◌, ℕ, ◌+◌, ◌-◌, ◌<◌, ◌≤◌, List, [], ◌∷◌, ◌++◌, length, take, drop, get_or}
use Rattle.std.proofs.Common.{Option, Some, None, refl, sym, ap, ◌∙◌, arith, nat_eq, if◌then◌else◌, true}
use Rattle.std.proofs.Common.{false}
use Rattle.std.proofs.lemmas.List.{drop_more, take-append-drop, drop-drop, drop_all, get_or-take}
use Rattle.std.proofs.lemmas.List.{length-take-le}
use Rattle.std.specs.Option.{is_some}
use Rattle.std.specs.Prelude.{MatchOption}
use Rattle.disk.specs.Device.{Content}
use Rattle.circ.specs.declared.log.change.LogChange.{LogChange}
use Rattle.circ.specs.Log.Log.{newest_of, or_else, place_before}
use Rattle.circ.specs.Log.Installer.{passed_over}

pub or_else-none : (a : Option Content) → or_else a None ≡ a
or_else-none (Some content) = refl
or_else-none None = refl

pub or_else-assoc : (a b c : Option Content) → or_else a (or_else b c) ≡ or_else (or_else a b) c
or_else-assoc (Some content) b c = refl
or_else-assoc None b c = refl

-- the later changes come first
pub newest_of-append : (xs ys : List LogChange) (block : ℕ)
    → newest_of (xs ++ ys) block ≡ or_else (newest_of ys block) (newest_of xs block)
newest_of-append [] ys block = sym (or_else-none (newest_of ys block))
newest_of-append (x ∷ xs) ys block =
    rw (newest_of-append xs ys block)
    (sym (or_else-assoc (newest_of ys block) (newest_of xs block) (if nat_eq x.block.0 block
    then Some x.content else None)))

-- one change more, at the front
pub newest_of-drop : (xs : List LogChange) (i : ℕ) (x : LogChange) (block : ℕ) → i < length xs
    → get_or xs i x ≡ x
    → newest_of (drop i xs) block ≡ or_else (newest_of (drop (i + 1) xs) block) (if nat_eq x.block.0 block
    then Some x.content else None)
newest_of-drop xs i x block h e = rw (drop_more xs i x h, e) refl

-- what later changes have is the newest of all
pub newest_of-later : (xs : List LogChange) (from i : ℕ) (block : ℕ) (content : Content) → from ≤ i
    → newest_of (drop i xs) block ≡ Some content → newest_of (drop from xs) block ≡ Some content
newest_of-later xs from i block content h e =
    let j : ℕ = i - from in
    let m : from + j ≡ i = omega arith in
    let d : drop j (drop from xs) ≡ drop i xs = drop-drop j from xs ∙ ap (λ n. drop n xs) m in
    ap (λ ys. newest_of ys block) (sym (take-append-drop j (drop from xs)))
    ∙ newest_of-append (take j (drop from xs)) (drop j (drop from xs)) block
    ∙ rw (d, e) refl

-- one change more to pass over, or none
pub passed_over-drop : (xs : List LogChange) (i : ℕ) (x : LogChange) → i < length xs → get_or xs i x ≡ x
    → passed_over (drop i xs) ≡ (if is_some (newest_of (drop (i + 1) xs) x.block.0)
    then 1 + passed_over (drop (i + 1) xs) else 0)
passed_over-drop xs i x h e = rw (drop_more xs i x h, e) refl

-- the same, among the changes up to an index
pub newest_of-within : (xs : List LogChange) (end i : ℕ) (x : LogChange) (block : ℕ) → end ≤ length xs
    → i < end
    → x ≡ get_or xs i x
    → newest_of (drop i (take end xs)) block
    ≡ or_else (newest_of (drop (i + 1) (take end xs)) block) (if nat_eq x.block.0 block then Some x.content
    else None)
newest_of-within xs end i x block l h e =
    let n : length (take end xs) ≡ end = length-take-le end xs l in
    newest_of-drop (take end xs) i x block (omega arith) (get_or-take end xs i x h ∙ sym e)

-- a search that comes from the end meets another block
pub newest_of-other : (xs : List LogChange) (end i k : ℕ) (x : LogChange) (block : ℕ) → end ≤ length xs
    → k < end
    → i ≡ k + 1 → x ≡ get_or xs k x
    → nat_eq x.block.0 block ≡ false → newest_of (drop i (take end xs)) block ≡ None
    → newest_of (drop k (take end xs)) block ≡ None
newest_of-other xs end i k x block l h m e other none =
    let none' : newest_of (drop (k + 1) (take end xs)) block ≡ None = rw (← m) none in
    newest_of-within xs end k x block l h e ∙ rw (none', other) refl

-- a search that comes from the end meets the block
pub newest_of-same : (xs : List LogChange) (end i k : ℕ) (x : LogChange) (block : ℕ) → end ≤ length xs
    → k < end
    → i ≡ k + 1 → x ≡ get_or xs k x
    → nat_eq x.block.0 block ≡ true → newest_of (drop i (take end xs)) block ≡ None
    → newest_of (drop k (take end xs)) block ≡ Some x.content
newest_of-same xs end i k x block l h m e same none =
    let none' : newest_of (drop (k + 1) (take end xs)) block ≡ None = rw (← m) none in
    newest_of-within xs end k x block l h e ∙ rw (none', same) refl

-- a search for the next newest passes over a change, or not
pub passed_over-within : (xs : List LogChange) (end i : ℕ) (x : LogChange) → end ≤ length xs → i < end
    → x ≡ get_or xs i x
    → passed_over (drop i (take end xs)) ≡ (if is_some (newest_of (drop (i + 1) (take end xs)) x.block.0)
    then 1 + passed_over (drop (i + 1) (take end xs)) else 0)
passed_over-within xs end i x l h e =
    let n : length (take end xs) ≡ end = length-take-le end xs l in
    passed_over-drop (take end xs) i x (omega arith) (get_or-take end xs i x h ∙ sym e)

pub passed_over-end : (xs : List LogChange) (end i : ℕ) → end ≤ length xs → end ≤ i
    → passed_over (drop i (take end xs)) ≡ 0
passed_over-end xs end i l h =
    let n : length (take end xs) ≤ i = omega (arith, length-take-le end xs l) in
    rw (drop_all i (take end xs) n) refl

pub place_before-drop : (xs : List LogChange) (i places : ℕ) (x : LogChange) → i < length xs
    → x ≡ get_or xs i x
    → place_before (drop i xs) places ≡ x.place - 1
place_before-drop xs i places x h e = rw (drop_more xs i x h, ← e) refl

pub place_before-all : (xs : List LogChange) (i places : ℕ) → length xs ≤ i
    → place_before (drop i xs) places ≡ places
place_before-all xs i places h = rw (drop_all i xs h) refl

pub is_some-match : {X : Type 0} (r : Option X) (f : X → Content) (o : Option Content)
    → MatchOption r (o ≡ None) (λ x. o ≡ Some (f x)) → is_some o ≡ is_some r
is_some-match (Some x) f o h = ap is_some h
is_some-match None f o h = ap is_some h
