-- What was counted in two parts until there is enough tells whether all are enough.
use Rattle.std.proofs.Common.{◌≡◌, ℕ, ◌+◌, ◌-◌, ◌<◌, ◌≤◌, ◌∙◌, refl, Bool, true, false, nat_le, arith}
use Rattle.std.proofs.lemmas.Bool.Decides.{nat_tests}
use Rattle.bitmap.specs.Enough.{IsEnough}

is_at_least : (wanted all : ℕ) → wanted ≤ all → true ≡ nat_le wanted all
is_at_least wanted all less = grind (arith, nat_tests, less)

is_below : (wanted all : ℕ) → all < wanted → false ≡ nat_le wanted all
is_below wanted all less = grind (arith, nat_tests, less)

-- the first part has enough
pub at_once : (wanted counted part all : ℕ) → wanted ≤ counted → IsEnough wanted counted part → part ≤ all
    → true ≡ nat_le wanted all
at_once wanted counted part all less is fits =
    let some = is.some in is_at_least wanted all (omega (arith, less, some, fits))

-- the first part hasn't
pub in_all : (wanted counted more part rest all : ℕ) (is : Bool) → counted < wanted → IsEnough wanted counted part
    → IsEnough (wanted - counted) more rest → all ≡ rest + part → is ≡ nat_le (wanted - counted) more
    → is ≡ nat_le wanted all
in_all wanted counted more part rest all is less one two sum e =
    e ∙ by_test (nat_le (wanted - counted) more) refl
  where
    by_test : (test : Bool) → nat_le (wanted - counted) more ≡ test → test ≡ nat_le wanted all
    by_test true t =
        let enough : wanted - counted ≤ more = grind (arith, nat_tests, t) in
        let each = one.each less in
        let some = two.some in
        is_at_least wanted all (omega (arith, enough, each, some, sum, less))
    by_test false t =
        let few : more < wanted - counted = grind (arith, nat_tests, t) in
        let each = one.each less in
        let last = two.each few in
        is_below wanted all (omega (arith, few, each, last, sum, less))
