-- Lemmas on commits one after another.
use Rattle.std.proofs.Common.{◌≡◌, ◌<◌, Bool, true, false, cond, nat_lt, ℕ, zero, suc, ◌+◌, ◌-◌, ◌≤◌, List}
use Rattle.std.proofs.Common.{[], ◌∷◌, ◌++◌, length, take, drop, refl, sym, ap, subst, ◌∙◌, arith}
use Rattle.std.proofs.lemmas.Bool.{ltb-true, ltb-false}
use Rattle.std.proofs.lemmas.List.{drop_all}
use Rattle.std.specs.List.{AllByRecursion}
use Rattle.txn_law.specs.Core.{past}
use Rattle.disk.specs.Crash.{Image}
use Rattle.txn_law.specs.Window.{Footprint, Follow, IsAsRead, with_objects, after_commits}
use Rattle.txn_law.specs.Window.{ArePlaced}

pub after_commits-append : (blocks : Image) (xs ys : List Footprint)
    → after_commits blocks (xs ++ ys) ≡ after_commits (after_commits blocks xs) ys
after_commits-append blocks [] ys = refl
after_commits-append blocks (x ∷ xs) ys = after_commits-append (with_objects blocks x.written) xs ys

pub follow-append : (blocks : Image) (commits : List Footprint) (commit : Footprint) → Follow blocks commits
    → AllByRecursion (IsAsRead (after_commits blocks commits)) commit.read
    → Follow blocks (commits ++ commit ∷ [])
follow-append blocks [] commit h read = (read, tt)
follow-append blocks (x ∷ xs) commit h read =
    (h.0, follow-append (with_objects blocks x.written) xs commit h.1 read)

pub follow-drop : (blocks : Image) (commits : List Footprint) (n : ℕ) → Follow blocks commits
    → Follow (after_commits blocks (take n commits)) (drop n commits)
follow-drop blocks commits zero h = h
follow-drop blocks [] (suc n) h = tt
follow-drop blocks (x ∷ xs) (suc n) h = follow-drop (with_objects blocks x.written) xs n h.1

pub placed-append : (next : ℕ) (commits : List Footprint) (commit : Footprint) → ArePlaced next commits
    → commit.place ≡ next + length commits → ArePlaced next (commits ++ commit ∷ [])
placed-append next [] commit h e = (omega (arith, e), tt)
placed-append next (x ∷ xs) commit h e = (h.0, placed-append (next + 1) xs commit h.1 (omega (arith, e)))

pub placed-drop : (next : ℕ) (commits : List Footprint) (n : ℕ) → ArePlaced next commits
    → ArePlaced (next + n) (drop n commits)
placed-drop next commits zero h = subst (λ (m : ℕ). ArePlaced m commits) (omega arith) h
placed-drop next [] (suc n) h = tt
placed-drop next (x ∷ xs) (suc n) h =
    subst (λ (m : ℕ). ArePlaced m (drop n xs)) (omega arith) (placed-drop (next + 1) xs n h.1)

-- the records past a place are those behind the commits up to it
pub past-drop : (next place : ℕ) (commits : List Footprint) → ArePlaced next commits
    → past place commits ≡ drop ((place + 1) - next) commits
past-drop next place [] h = sym (drop_all ((place + 1) - next) [] (omega arith))
past-drop next place (x ∷ xs) h = go (past-drop (next + 1) place xs h.1) (nat_lt place x.place) refl
  where
    go : past place xs ≡ drop ((place + 1) - (next + 1)) xs → (t : Bool) → nat_lt place x.place ≡ t
        → cond t (x ∷ past place xs) (past place xs) ≡ drop ((place + 1) - next) (x ∷ xs)
    go later true e =
        let lt : place < x.place = ltb-true place x.place e in
        let n : (place + 1) - next ≡ 0 = omega (arith, h.0) in
        let m : (place + 1) - (next + 1) ≡ 0 = omega (arith, h.0) in
        ap (λ ys. x ∷ ys) (later ∙ ap (λ k. drop k xs) m) ∙ sym (ap (λ k. drop k (x ∷ xs)) n)
    go later false e =
        let le : x.place ≤ place = ltb-false place x.place e in
        let n : (place + 1) - next ≡ suc ((place + 1) - (next + 1)) = omega (arith, h.0) in
        later ∙ sym (ap (λ k. drop k (x ∷ xs)) n)
