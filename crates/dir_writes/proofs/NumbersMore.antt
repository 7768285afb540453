-- The numbers of a directory's blocks with one more.
use Rattle.std.proofs.Common.{◌≡◌, ℕ, zero, suc, ◌<◌, min, ap, ◌∙◌, refl, Bool, true, false, not, ◌&&◌}
use Rattle.std.proofs.Common.{List, [], ◌∷◌, ◌++◌, length, take, drop, get_or, set, nat_eq, arith}
use Rattle.std.specs.List.{list_all}
use Rattle.layout.specs.InodeForm.{names_first}
use Rattle.inode.proofs.AllTests.{all_two}

abbrev is_some : ℕ → Bool
is_some number = not (nat_eq number 0)

abbrev is_none : ℕ → Bool
is_none number = nat_eq number 0

pub names_more : (numbers : List ℕ) (span b : ℕ) → span < length numbers → names_first span numbers ≡ true
    → nat_eq b 0 ≡ false → names_first (suc span) (set numbers span b) ≡ true
names_more [] span b less is some = absurd (omega (arith, less))
names_more (x ∷ xs) zero b less is some =
    let zeros = all_two (is_none x) (list_all is_none xs) is in
    (λ i. (not (some i) && true) && zeros.1 i)
names_more (x ∷ xs) (suc span) b less is some =
    let parts = all_two (is_some x && list_all is_some (take span xs)) (list_all is_none (drop span xs)) is in
    let first = all_two (is_some x) (list_all is_some (take span xs)) parts.0 in
    let rest = names_more xs span b (omega (arith, less)) (λ i. first.1 i && parts.1 i) some in
    let two = all_two (list_all is_some (take (suc span) (set xs span b)))
    (list_all is_none (drop (suc span) (set xs span b))) rest in
    (λ i. (first.0 i && two.0 i) && two.1 i)

-- none is named behind those that are
pub none_behind : (numbers : List ℕ) (span : ℕ) → span < length numbers → names_first span numbers ≡ true
    → nat_eq (get_or numbers span 0) 0 ≡ true
none_behind [] span less is = absurd (omega (arith, less))
none_behind (x ∷ xs) zero less is = (all_two (is_none x) (list_all is_none xs) is).0
none_behind (x ∷ xs) (suc span) less is =
    let parts = all_two (is_some x && list_all is_some (take span xs)) (list_all is_none (drop span xs)) is in
    let first = all_two (is_some x) (list_all is_some (take span xs)) parts.0 in
    none_behind xs span (omega (arith, less)) (λ i. first.1 i && parts.1 i)

pub some_before : (numbers : List ℕ) (span j : ℕ) → span < length numbers → j < span
    → names_first span numbers ≡ true → nat_eq (get_or numbers j 0) 0 ≡ false
some_before [] span j less low is = absurd (omega (arith, less))
some_before (x ∷ xs) zero j less low is = absurd (omega (arith, low))
some_before (x ∷ xs) (suc span) zero less low is =
    let parts = all_two (is_some x && list_all is_some (take span xs)) (list_all is_none (drop span xs)) is in
    negated (nat_eq x 0) (all_two (is_some x) (list_all is_some (take span xs)) parts.0).0
  where
    negated : (b : Bool) → not b ≡ true → b ≡ false
    negated true e = cc
    negated false e = refl
some_before (x ∷ xs) (suc span) (suc j) less low is =
    let parts = all_two (is_some x && list_all is_some (take span xs)) (list_all is_none (drop span xs)) is in
    let first = all_two (is_some x) (list_all is_some (take span xs)) parts.0 in
    some_before xs span j (omega (arith, less)) (omega (arith, low)) (λ i. first.1 i && parts.1 i)

all_leading : (p : ℕ → Bool) (direct rest : List ℕ) → list_all p (direct ++ rest) ≡ true → list_all p direct ≡ true
all_leading p [] rest is = refl
all_leading p (x ∷ xs) rest is =
    let two = all_two (p x) (list_all p (xs ++ rest)) is in
    λ i. two.0 i && all_leading p xs rest two.1 i

-- what holds of all numbers holds of those of the inode
pub names_direct : (direct rest : List ℕ) (k : ℕ) → names_first k (direct ++ rest) ≡ true
    → names_first (min k (length direct)) direct ≡ true
names_direct [] rest k is = none (min k 0)
  where
    none : (m : ℕ) → names_first m [] ≡ true
    none zero = refl
    none (suc m) = refl
names_direct (x ∷ xs) rest zero is =
    ap (λ m. names_first m (x ∷ xs)) (least (length (x ∷ xs))) ∙ all_leading is_none (x ∷ xs) rest is
  where
    least : (n : ℕ) → min 0 n ≡ 0
    least n = omega arith
names_direct (x ∷ xs) rest (suc k) is =
    let parts = all_two (is_some x && list_all is_some (take k (xs ++ rest))) (list_all is_none (drop k (xs ++ rest)))
    is in
    let first = all_two (is_some x) (list_all is_some (take k (xs ++ rest))) parts.0 in
    let rest_is = names_direct xs rest k (λ i. first.1 i && parts.1 i) in
    let two = all_two (list_all is_some (take (min k (length xs)) xs)) (list_all is_none (drop (min k (length xs)) xs))
    rest_is in
    ap (λ m. names_first m (x ∷ xs)) (more k (length xs)) ∙ (λ i. (first.0 i && two.0 i) && two.1 i)
  where
    more : (a b : ℕ) → min (suc a) (suc b) ≡ suc (min a b)
    more a b = omega arith
