-- What an indirect block maps, by what its numbers count to.
use Rattle.std.proofs.Common.{◌≡◌, ℕ, zero, suc, ◌-◌, ◌^◌, ◌<◌, ◌≤◌, ap, ◌∙◌, refl}
use Rattle.std.proofs.Common.{Bool, true, false, ◌&&◌, ◌||◌}
use Rattle.std.proofs.Common.{List, [], ◌∷◌, length, nat_eq, nat_lt, get_or, arith, inl, inr, not}
use Rattle.std.specs.List.{list_all}
use Rattle.std.proofs.lemmas.Bool.{cases_lt, eq-eqb, le-leb, lt-ltb, ne_eqb}
use Rattle.std.proofs.lemmas.List.Folds.{list_all_at}
use Rattle.std.proofs.lemmas.List.Sums.{count_by-le-length}
use Rattle.objects.specs.Counted.{IsAmong, IsCounted}
use Rattle.objects.specs.declared.counted.Counted.{Counted}
use Rattle.objects.proofs.CountedSoFar.{stands}
use Rattle.layout.specs.Geometry.{data_at}
use Rattle.layout.specs.InodeForm.{is_data_block_or_none}
use Rattle.layout.specs.Places.{is_data}
use Rattle.layout.specs.declared.geometry.Geometry.{Geometry}
use Rattle.layout.proofs.OnGrid.{data_within}

-- a test that is true at each index is true of all
holds_at : (p : ℕ → Bool) (xs : List ℕ) → ((i : ℕ) → p (get_or xs i 0) ≡ true) → list_all p xs ≡ true
holds_at p [] h = refl
holds_at p (x ∷ xs) h = ap (λ b. b && list_all p xs) (h zero) ∙ holds_at p xs (λ i. h (suc i))

-- the test of a number, by how it lies to the data blocks
placed_one : (g : Geometry) (number : ℕ) → data_at g.blocks g.inodes ≤ number → number < g.blocks
    → is_data_block_or_none g number ≡ true
placed_one g number low high =
    ap (λ b. nat_eq number 0 || (b && nat_lt number g.blocks)) (le-leb (data_at g.blocks g.inodes) number low)
    ∙ ap (λ b. nat_eq number 0 || b) (lt-ltb number g.blocks high) ∙ any (nat_eq number 0)
  where
    any : (b : Bool) → (b || true) ≡ true
    any true = refl
    any false = refl

none_placed : (g : Geometry) (number : ℕ) → number ≡ 0 → is_data_block_or_none g number ≡ true
none_placed g number none = ap (λ b. b || is_data g number) (eq-eqb number 0 none)

misplaced : (g : Geometry) (number : ℕ) → (number ≡ 0 → ⊥)
    → ((data_at g.blocks g.inodes ≤ number) × (number < g.blocks) → ⊥) → is_data_block_or_none g number ≡ false
misplaced g number some apart = split (is_data g number) refl
  where
    split : (b : Bool) → is_data g number ≡ b → is_data_block_or_none g number ≡ false
    split true e = absurd (apart (data_within g number e))
    split false e = ap (λ b. b || is_data g number) (ne_eqb number 0 some) ∙ e

-- where both ends lie among the data blocks, all of the numbers do that aren't 0
pub all_placed : (g : Geometry) (numbers : List ℕ) (counted : Counted) → IsCounted numbers counted
    → data_at g.blocks g.inodes ≤ counted.least → counted.greatest < g.blocks
    → list_all (is_data_block_or_none g) numbers ≡ true
all_placed g numbers counted is low high = holds_at (is_data_block_or_none g) numbers one
  where
    one : (i : ℕ) → is_data_block_or_none g (get_or numbers i 0) ≡ true
    one i =
        elim (cases_lt 0 (get_or numbers i 0)) as (λ _. is_data_block_or_none g (get_or numbers i 0) ≡ true) [
          | inl some ↦
              let lies = is.within i some in
              let from = lies.0 in
              let to = lies.1 in
              placed_one g (get_or numbers i 0) (omega (arith, low, from)) (omega (arith, to, high))
          | inr none ↦ none_placed g (get_or numbers i 0) (omega (arith, none))
        ]

-- an end that lies elsewhere is a number that is neither 0 nor that of a data block
elsewhere : (g : Geometry) (numbers : List ℕ) (one : ℕ) → IsAmong numbers one
    → ((data_at g.blocks g.inodes ≤ one) × (one < g.blocks) → ⊥) → list_all (is_data_block_or_none g) numbers ≡ false
elsewhere g numbers one among apart =
    let some = among.0 in
    list_all_at (is_data_block_or_none g) numbers among.1 0 (stands numbers among.1 one among.0 among.2)
    (ap (is_data_block_or_none g) among.2 ∙ misplaced g one (λ none. omega (arith, none, some)) apart)

pub before_data : (g : Geometry) (numbers : List ℕ) (counted : Counted) → IsCounted numbers counted
    → data_at g.blocks g.inodes < 2 ^ 32 → counted.least < data_at g.blocks g.inodes
    → list_all (is_data_block_or_none g) numbers ≡ false
before_data g numbers counted is fits low =
    elim is.least as (λ _. list_all (is_data_block_or_none g) numbers ≡ false) [
      | inl none ↦ absurd (omega (arith, none, fits, low))
      | inr among ↦ elsewhere g numbers counted.least among (λ both. let from = both.0 in omega (arith, from, low))
    ]

pub past_end : (g : Geometry) (numbers : List ℕ) (counted : Counted) → IsCounted numbers counted
    → 0 < g.blocks → g.blocks ≤ counted.greatest → list_all (is_data_block_or_none g) numbers ≡ false
past_end g numbers counted is some high =
    elim is.greatest as (λ _. list_all (is_data_block_or_none g) numbers ≡ false) [
      | inl none ↦ absurd (omega (arith, none, some, high))
      | inr among ↦ elsewhere g numbers counted.greatest among (λ both. let to = both.1 in omega (arith, to, high))
    ]

-- no more are counted than there are
pub few_counted : (numbers : List ℕ) (counted : Counted) → IsCounted numbers counted
    → counted.count ≤ length numbers
few_counted numbers counted is =
    let some = count_by-le-length (λ (number : ℕ). not (nat_eq number 0)) numbers in
    let count = is.count in
    omega (arith, some, count)
