-- Which calls failed, by their numbers.
use Rattle.std.proofs.Common.{◌≡◌, ℕ, zero, suc, ◌+◌, ◌-◌, ◌<◌, ◌≤◌, Bool, true, false, List, [], ◌∷◌, ◌++◌}
use Rattle.std.proofs.Common.{map, length}
use Rattle.std.proofs.Common.{slice_index_or, refl, ◌∙◌, ap, arith, if◌then◌else◌, inl, inr}
use Rattle.std.proofs.lemmas.Bool.{cases_Bool, ltb-true, ltb-false}
use Rattle.std.specs.Prelude.{nat_lt}
use Rattle.disk.specs.Device.{Device, OneLater}
use Rattle.disk.specs.Failures.{failures_from, CountsFailures}

-- what is told of a list's members stays where one more comes,
pub earlier_answers_stay : {X : Type 0} (p : X → Bool) (xs : List X) (x : X) (at : ℕ) → at < length xs
    → slice_index_or (map p (xs ++ x ∷ [])) at false ≡ slice_index_or (map p xs) at false
earlier_answers_stay p [] x at h = absurd (omega (arith, h))
earlier_answers_stay p (e ∷ xs) x zero h = refl
earlier_answers_stay p (e ∷ xs) x (suc at) h = earlier_answers_stay p xs x at (omega (arith, h))

-- and of that one it is told behind them
pub last_answer_stays : {X : Type 0} (p : X → Bool) (xs : List X) (x : X)
    → slice_index_or (map p (xs ++ x ∷ [])) (length xs) false ≡ p x
last_answer_stays p [] x = refl
last_answer_stays p (e ∷ xs) x = last_answer_stays p xs x

-- as many failed where the same calls did
pub same_failures : (one other : ℕ → Bool) (first count : ℕ)
    → ((call : ℕ) → call < first + count → one call ≡ other call)
    → failures_from one first count ≡ failures_from other first count
same_failures one other first zero same = refl
same_failures one other first (suc count) same =
    let before : failures_from one first count ≡ failures_from other first count =
    same_failures one other first count (λ call h. same call (omega (arith, h))) in
    let last : one (first + count) ≡ other (first + count) = same (first + count) (omega arith) in
    ap (λ (n : ℕ). n + (if one (first + count) then 1 else 0)) before
    ∙ ap (λ (b : Bool). failures_from other first count + (if b then 1 else 0)) last

-- so many calls, and then so many more
pub failures_then : (failed : ℕ → Bool) (first count more : ℕ) → failures_from failed first (count + more)
    ≡ failures_from failed first count + failures_from failed (first + count) more
failures_then failed first count zero =
    let all : count + 0 ≡ count = omega arith in
    let h : failures_from failed first (count + 0) ≡ failures_from failed first count =
    ap (λ (n : ℕ). failures_from failed first n) all in
    omega (arith, h)
failures_then failed first count (suc more) =
    let all : count + suc more ≡ suc (count + more) = omega arith in
    let is : failures_from failed first (count + suc more) ≡ failures_from failed first (suc (count + more)) =
    ap (λ (n : ℕ). failures_from failed first n) all in
    let before = failures_then failed first count more in
    let at : first + (count + more) ≡ first + count + more = omega arith in
    let last : ◌≡◌ {A = ℕ} (if failed (first + (count + more)) then 1 else 0)
    (if failed (first + count + more) then 1 else 0) =
    ap {B = ℕ} (λ (n : ℕ). if failed n then 1 else 0) at in
    omega (arith, is, before, last)

-- no call is counted where none was made,
pub counts_none : (d : Device) → CountsFailures d d
counts_none d =
    let none : d.clock - d.clock ≡ 0 = omega arith in
    let h : failures_from d.failed d.clock (d.clock - d.clock) ≡ 0 =
    ap (λ (n : ℕ). failures_from d.failed d.clock n) none in
    omega (arith, h)

-- one that was made is counted where it failed,
pub counts_one : (old new : Device) → OneLater old new → CountsFailures old new
counts_one old new later =
    let clock = later.clock in
    let one : new.clock - old.clock ≡ 1 = omega (arith, clock) in
    let h : failures_from new.failed old.clock (new.clock - old.clock)
    ≡ failures_from new.failed old.clock 1 = ap (λ (n : ℕ). failures_from new.failed old.clock n) one in
    let at : old.clock + 0 ≡ old.clock = omega arith in
    let is : ◌≡◌ {A = ℕ} (if new.failed (old.clock + 0) then 1 else 0) (if new.failed old.clock then 1 else 0) =
    ap {B = ℕ} (λ (n : ℕ). if new.failed n then 1 else 0) at in
    let counted = later.counted in
    omega (arith, h, is, counted)

-- and calls after calls are counted as all of them
pub counts_then : (old middle new : Device) → old.clock ≤ middle.clock → middle.clock ≤ new.clock
    → ((call : ℕ) → call < middle.clock → new.failed call ≡ middle.failed call)
    → CountsFailures old middle → CountsFailures middle new → CountsFailures old new
counts_then old middle new before after past one two =
    let count : ℕ = middle.clock - old.clock in
    let more : ℕ = new.clock - middle.clock in
    let all : new.clock - old.clock ≡ count + more = omega (arith, before, after) in
    let at : old.clock + count ≡ middle.clock = omega (arith, before) in
    let whole : failures_from new.failed old.clock (new.clock - old.clock)
    ≡ failures_from new.failed old.clock (count + more) =
    ap (λ (n : ℕ). failures_from new.failed old.clock n) all in
    let parts = failures_then new.failed old.clock count more in
    let first : failures_from new.failed old.clock count ≡ failures_from middle.failed old.clock count =
    same_failures new.failed middle.failed old.clock count
    (λ call h. past call (omega (arith, h, at))) in
    let second : failures_from new.failed (old.clock + count) more
    ≡ failures_from new.failed middle.clock more =
    ap (λ (n : ℕ). failures_from new.failed n more) at in
    omega (arith, one, two, whole, parts, first, second)

not_failed : (failed : Bool) → ◌≡◌ {A = ℕ} (if failed then 1 else 0) 0 → failed ≡ false
not_failed true h = absurd (omega (arith, h))
not_failed false h = refl

-- Where no more failures are counted, none of these calls failed.
pub none_failed : (failed : ℕ → Bool) (first count : ℕ) → failures_from failed first count ≡ 0
    → (call : ℕ) → first ≤ call → call < first + count → failed call ≡ false
none_failed failed first zero none call from to = absurd (omega (arith, from, to))
none_failed failed first (suc count) none call from to =
    let before : failures_from failed first count ≡ 0 = omega (arith, none) in
    let last : ◌≡◌ {A = ℕ} (if failed (first + count) then 1 else 0) 0 = omega (arith, none) in
    elim (cases_Bool (nat_lt call (first + count))) [
      | inl t ↦ none_failed failed first count before call from (ltb-true call (first + count) t)
      | inr f ↦ (let least : first + count ≤ call = ltb-false call (first + count) f in
          let at : call ≡ first + count = omega (arith, least, to) in
          ap failed at ∙ not_failed (failed (first + count)) last)
    ]
