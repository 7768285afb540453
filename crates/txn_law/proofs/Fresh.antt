-- Lemmas: a log in which no commit was made has the window of none.
use Rattle.std.proofs.Common.{◌≡◌, ℕ, ◌<◌, ◌≤◌, ◌⊎◌, inl, inr, List, [], ◌∷◌, length, take, drop, All}
use Rattle.std.proofs.Common.{zero, suc, refl, sym, ap, subst, ◌∙◌, arith, if◌then◌else◌, Bool}
use Rattle.std.proofs.lemmas.Bool.{eq-eqb}
use Rattle.std.proofs.lemmas.List.{drop_all, take_all, length-drop}
use Rattle.std.proofs.lemmas.List.Elements.{All-nil, All-cons, All-head, All-tail, All-drop}
use Rattle.disk.specs.Device.{Content}
use Rattle.disk.specs.Crash.{Image}
use Rattle.circ.specs.declared.log.change.LogChange.{LogChange}
use Rattle.circ.specs.Log.Grows.{recovered}
use Rattle.circ.specs.Log.Law.{with_changes}
use Rattle.circ.specs.Log.Log.{Log, IsLawful, IsRising, IsCommitted, first_place, place_before}
use Rattle.txn_law.specs.CoreLaw.{IsFresh}
use Rattle.txn_law.specs.Window.{Footprint, after_commits, opening, GroupEnd, at_first, at_installed, at_logged}
use Rattle.txn_law.specs.Window.{at_taken, at_last, commits_among, AreInLog, ArePinned, IsCurrent, IsWindowOver}
use Rattle.txn_law.proofs.Commit.{take_nil}

-- no commit made these changes
abbrev pub IsFound : LogChange → Type 0
IsFound change = change.place ≡ 0

all_found : (changes : List LogChange) → IsRising changes 0 → (first_place changes 0 ≡ 0) × All IsFound changes
all_found [] h = (refl, All-nil IsFound)
all_found (x ∷ xs) h =
    let (first, rest) = all_found xs h.1 in
    let none : x.place ≡ 0 = omega (arith, h.0, first) in
    (none, All-cons IsFound x xs none rest)

found_all : (changes : List LogChange) → All IsFound changes → recovered changes ≡ changes
found_all [] h = refl
found_all (x ∷ xs) h =
    ap (λ (t : Bool). if t then x ∷ recovered xs else recovered xs) (eq-eqb x.place 0 (All-head IsFound x xs h))
    ∙ ap (λ ys. x ∷ ys) (found_all xs (All-tail IsFound x xs h))

none_before : (changes : List LogChange) → All IsFound changes → place_before changes 0 ≡ 0
none_before [] h = refl
none_before (x ∷ xs) h = omega (arith, All-head IsFound x xs h)

no_commits : (changes : List LogChange) → All IsFound changes → All IsCommitted changes → changes ≡ []
no_commits [] h c = refl
no_commits (x ∷ xs) h c = absurd (omega (arith, All-head IsFound x xs h, All-head IsCommitted x xs c))

-- a log whose changes the opening found
pub found_window : (base : Image) (log : Log) (held : List (ℕ × Content)) → recovered log.changes ≡ log.changes
    → log.places ≡ 0 → place_before log.changes log.places ≡ 0 → log.logged ≡ length log.changes → log.taken ≡ 0
    → (0 < log.installing → log.installing ≡ log.logged)
    → All (IsCurrent (with_changes base log.changes)) held → IsWindowOver base log [] held
found_window base log held found places before logged taken installing memory = record {
  follow = tt;
  placed = tt;
  all = omega (arith, places, before);
  opened = λ some. ap recovered (drop_all log.installing log.changes (omega (arith, installing some, logged)));
  group = λ count end clean block. leads count (which count end) clean block
      ∙ sym (ap (λ (xs : List Footprint). after_commits (opening base log) xs block)
      (take_nil (commits_among log count)));
  written = λ count end. subst (λ xs. All (AreInLog (drop count log.changes)) xs)
      (sym (drop_all (commits_among log count) [] (omega arith)))
      (All-nil (AreInLog (drop count log.changes)));
  memory = subst (λ xs. All (IsCurrent (with_changes base xs)) held) (sym found) memory;
  pinned = All-nil (ArePinned held);
}
  where
    part : (n : ℕ) → (0 < n → n ≡ log.logged) → (n ≡ 0) ⊎ (length log.changes ≤ n)
    part zero h = inl refl
    part (suc n) h = inr (omega (arith, h (omega arith), logged))

    which : (count : ℕ) → GroupEnd log count → (count ≡ 0) ⊎ (length log.changes ≤ count)
    which count (at_first e) = inl e
    which count (at_installed e) =
        subst (λ (n : ℕ). (n ≡ 0) ⊎ (length log.changes ≤ n)) (sym e) (part log.installing installing)
    which count (at_logged e) = inr (omega (arith, e, logged))
    which count (at_taken e) = inr (omega (arith, e, logged))
    which count (at_last e) = inr (omega (arith, e))

    leads : (count : ℕ) → (count ≡ 0) ⊎ (length log.changes ≤ count) → recovered (drop count log.changes) ≡ []
        → (block : ℕ) → with_changes base (take count log.changes) block ≡ opening base log block
    leads count (inl e) clean block = ap (λ n. with_changes base (take n log.changes) block) e
        ∙ ap (λ xs. with_changes base xs block) (sym clean ∙ ap (λ n. recovered (drop n log.changes)) e)
    leads count (inr le) clean block =
        ap (λ xs. with_changes base xs block) (take_all count log.changes le ∙ sym found)

pub fresh_window : (base : Image) (log : Log) → IsLawful log → IsFresh log → IsWindowOver base log [] []
fresh_window base log lawful fresh =
    let rising : IsRising log.changes 0 = subst (λ (n : ℕ). IsRising log.changes n) fresh.places
    lawful.rising in
    let found : All IsFound log.changes = (all_found log.changes rising).1 in
    let rest : drop log.logged log.changes ≡ [] =
    no_commits (drop log.logged log.changes) (All-drop IsFound log.logged log.changes found) lawful.committed in
    let few : length log.changes ≤ log.logged =
    omega (arith, ap length rest, length-drop log.logged log.changes) in
    found_window base log [] (found_all log.changes found) fresh.places
    (ap (λ (n : ℕ). place_before log.changes n) fresh.places ∙ none_before log.changes found)
    (omega (arith, lawful.taken_within)) (omega (arith, lawful.taken_within)) fresh.installing
    (All-nil (IsCurrent (with_changes base log.changes)))
