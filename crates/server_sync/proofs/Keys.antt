-- The keys of seats, and the numbers of these.
use Rattle.std.proofs.Common.{◌≡◌, ◌<◌, ◌+◌, ◌++◌, ◌∷◌, [], ℕ, List, Contains, length, get_or, sym, subst, arith, ◌∙◌, ap}
use Rattle.std.proofs.Math.ListN.{get_or-map}
use Rattle.std.proofs.lemmas.List.{length-map, map-append, get_or_default}
use Rattle.std.specs.List.{range_with_len}
use Rattle.server_sync.proofs.Numbers.{AreOnce, AreBelow, fewer, all_among, range_once, range_below, range_more}
use Rattle.server_sync.specs.Keys.{numbers_of, AreApart, AreOfSeats, HasKeyOf}
use Rattle.server_sync.specs.declared.free_keys.SeatKey.{SeatKey}

-- the number of the key at a place
number_at : (keys : List SeatKey) (k d : ℕ) → get_or (numbers_of keys) k d ≡ (get_or keys k (record { number = d })).number
number_at keys k d =
    let e : SeatKey = record { number = d } in
    get_or-map (λ (key : SeatKey). key.number) keys k e

once_of : (keys : List SeatKey) → AreApart keys → AreOnce (numbers_of keys)
once_of keys apart = λ i j d rises within same.
    let l = length-map keys (λ (key : SeatKey). key.number) in
    let e : SeatKey = record { number = d } in
    apart i j e rises (omega (arith, l, within)) (sym (number_at keys i d) ∙ same ∙ number_at keys j d)

below_of : (keys : List SeatKey) (count : ℕ) → AreOfSeats count keys → AreBelow count (numbers_of keys)
below_of keys count below = λ k d within.
    let l = length-map keys (λ (key : SeatKey). key.number) in
    let e : SeatKey = record { number = d } in
    let at = below k e (omega (arith, l, within)) in
    let P : ℕ → Type 0 = λ n. n < count in
    subst P (sym (number_at keys k d)) at

has_of : (keys : List SeatKey) (number : ℕ) → Contains (numbers_of keys) number → HasKeyOf keys number
has_of keys number has =
    let l = length-map keys (λ (key : SeatKey). key.number) in
    let e : SeatKey = record { number = number } in
    let x : SeatKey = get_or keys has.0 e in
    let within : has.0 < length keys = omega (arith, l, has.1) in
    (has.0, x, within, get_or_default keys has.0 x e within, sym (number_at keys has.0 number) ∙ has.2)

-- where none of them is of this seat, they are fewer than the seats
pub fewer_keys : (keys : List SeatKey) (count number : ℕ) → AreApart keys → AreOfSeats count keys → number < count
    → (HasKeyOf keys number → ⊥) → length keys < count
fewer_keys keys count number apart below within absent =
    let l = length-map keys (λ (key : SeatKey). key.number) in
    let short = fewer (numbers_of keys) count number (once_of keys apart) (below_of keys count below) within
    (λ has. absent (has_of keys number has)) in
    omega (arith, l, short)

-- where they are as many as the seats, one is of each
pub all_keys : (keys : List SeatKey) (count number : ℕ) → AreApart keys → AreOfSeats count keys → length keys ≡ count
    → number < count → HasKeyOf keys number
all_keys keys count number apart below full within =
    let l = length-map keys (λ (key : SeatKey). key.number) in
    has_of keys number
    (all_among (numbers_of keys) count number (once_of keys apart) (below_of keys count below) (l ∙ full) within)

-- keys of all seats below a count
pub apart_from_range : (keys : List SeatKey) (count : ℕ) → numbers_of keys ≡ range_with_len 0 count → AreApart keys
apart_from_range keys count all = λ i j d rises within same.
    let l = length-map keys (λ (key : SeatKey). key.number) in
    let once : AreOnce (numbers_of keys) = subst AreOnce (sym all) (range_once count) in
    once i j d.number rises (omega (arith, l, within)) (number_at keys i d.number ∙ same ∙ sym (number_at keys j d.number))

pub seats_from_range : (keys : List SeatKey) (count : ℕ) → numbers_of keys ≡ range_with_len 0 count → AreOfSeats count keys
seats_from_range keys count all = λ k d within.
    let l = length-map keys (λ (key : SeatKey). key.number) in
    let below : AreBelow count (numbers_of keys) = subst (AreBelow count) (sym all) (range_below count) in
    let at = below k d.number (omega (arith, l, within)) in
    let P : ℕ → Type 0 = λ n. n < count in
    subst P (number_at keys k d.number) at

-- one more key
pub one_more : (keys : List SeatKey) (n : ℕ) → numbers_of keys ≡ range_with_len 0 n
    → numbers_of (keys ++ record { number = n } ∷ []) ≡ range_with_len 0 (n + 1)
one_more keys n all = map-append (λ (key : SeatKey). key.number) keys (record { number = n } ∷ [])
    ∙ ap (λ t. t ++ n ∷ []) all ∙ sym (range_more n)
