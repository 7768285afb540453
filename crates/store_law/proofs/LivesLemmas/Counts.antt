-- Beginnings of histories.
use Rattle.std.proofs.Common.{◌≡◌, ap, refl, ℕ, zero, suc, ◌+◌, ◌<◌, ◌≤◌, arith, Bool, true, false}
use Rattle.std.proofs.Common.{List, [], ◌∷◌, length, take, slice_get, Some, nat_le, count_by, cond}
use Rattle.std.proofs.lemmas.Bool.Decides.{nat_tests}
use Rattle.std.proofs.lemmas.List.{length-map, length-take-le}
use Rattle.std.proofs.lemmas.List.Sums.{count_by-le-length, sum_by-cons}
use Rattle.nfs_spec.specs.Model.Entry.{Entry}
use Rattle.nfs_spec.specs.Procedures.Histories.{IsOfOneBoot}
use Rattle.nfs_spec.specs.Procedures.Histories.{AreOfBoot}
use Rattle.store_promise.specs.declared.transcript.Committed.{Committed}
use Rattle.store_promise.specs.Transcript.{Transcript, commits_by, entries_of, entry_of}

-- what is taken is there
pub taken : {X : Type 0} (xs : List X) (count index : ℕ) (x : X) → slice_get (take count xs) index ≡ Some x
    → slice_get xs index ≡ Some x
taken xs zero index x is = cc
taken [] (suc count) index x is = is
taken (y ∷ xs) (suc count) zero x is = is
taken (y ∷ xs) (suc count) (suc index) x is = taken xs count index x is

pub taken_twice : {X : Type 0} (xs : List X) (few many : ℕ) → few ≤ many
    → take few (take many xs) ≡ take few xs
taken_twice xs zero many less = refl
taken_twice xs (suc few) zero less = absurd (omega (arith, less))
taken_twice [] (suc few) (suc many) less = refl
taken_twice (x ∷ xs) (suc few) (suc many) less = ap (λ ys. x ∷ ys) (taken_twice xs few many (omega (arith, less)))

boots_taken : (boot count : ℕ) (entries : List Entry) → AreOfBoot boot entries → AreOfBoot boot (take count entries)
boots_taken boot zero entries are = tt
boots_taken boot (suc count) [] are = tt
boots_taken boot (suc count) (entry ∷ entries) are = (are.0, boots_taken boot count entries are.1)

-- a beginning of what one boot committed is of it, with numbers of their own
pub beginning : (boot count : ℕ) (entries : List Entry) → IsOfOneBoot boot entries
    → IsOfOneBoot boot (take count entries)
beginning boot count entries is = record {
  boots = boots_taken boot count entries is.boots;
  numbers = λ one other a b there there_too same.
      is.numbers one other a b (taken entries count one a there) (taken entries count other b there_too) same;
}

module _ (t : Transcript) (start clock : ℕ) where
  pub few_commits : commits_by start t clock ≤ length (entries_of t)
  few_commits =
      let few = count_by-le-length (λ (c : Committed). nat_le (start + c.clock) clock) t.history in
      let all = length-map t.history entry_of in
      omega (arith, few, all)

  pub counted_length : length (take (commits_by start t clock) (entries_of t)) ≡ commits_by start t clock
  counted_length = length-take-le (commits_by start t clock) (entries_of t) few_commits

-- where one was committed by a clock, the events had begun by then
one_more : (b : Bool) (start mine clock rest all : ℕ) → nat_le (start + mine) clock ≡ b
    → all ≡ cond (nat_le (start + mine) clock) 1 0 + rest → 0 < all → (0 < rest → start ≤ clock) → start ≤ clock
one_more true start mine clock rest all is more some then =
    let within : start + mine ≤ clock = grind (arith, nat_tests, is) in omega (arith, within)
one_more false start mine clock rest all is more some then =
    let none : ◌≡◌ {A = ℕ} (cond (nat_le (start + mine) clock) 1 0) 0 = ap (λ b. cond b 1 0) is in
    then (omega (arith, some, more, none))

begun_by : (start clock : ℕ) (history : List Committed)
    → 0 < count_by (λ c. nat_le (start + c.clock) clock) history → start ≤ clock
begun_by start clock [] some = absurd (omega (arith, some))
begun_by start clock (c ∷ history) some =
    one_more (nat_le (start + c.clock) clock) start c.clock clock
    (count_by (λ (d : Committed). nat_le (start + d.clock) clock) history) _ refl
    (sum_by-cons (λ (d : Committed). cond (nat_le (start + d.clock) clock) 1 0) c history) some
    (begun_by start clock history)

pub begun : (t : Transcript) (start clock : ℕ) → 0 < commits_by start t clock → start ≤ clock
begun t start clock some = begun_by start clock t.history some
