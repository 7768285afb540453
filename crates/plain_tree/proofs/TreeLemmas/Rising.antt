-- Names of which each is below the next one rise.
use Rattle.std.proofs.Common.{◌≡◌, ℕ, zero, suc, ◌<◌, refl, ap, Bool, true, false}
use Rattle.std.proofs.Common.{◌&&◌, List, [], ◌∷◌, length, get_or, map, arith}
use Rattle.std.specs.Cmp.Lexicographic.{nat_list_cmp_total, slice_cmp}
use Rattle.std.specs.FinMap.Entries.{below_all}
use Rattle.std.specs.Ordering.{is_lt, nat_cmp}
use Rattle.std.specs.declared.cmp.Ordering.{Ordering}
use Rattle.std.specs.declared.cmp.Ordering.TheVariants.{Less, Equal, Greater}
use Rattle.plain_tree.specs.Tree.Named.{are_sorted, plain_dirent_of}
use Rattle.plain_tree.specs.declared.tree.plain_names.PlainDirent.{PlainDirent}

abbrev order : List ℕ → List ℕ → Ordering
order = slice_cmp nat_cmp

-- whether the name of one entry is below that of the next one
abbrev pub is_under : PlainDirent → PlainDirent → Bool
is_under one next = is_lt (order one.name next.name)

less : (r : Ordering) → is_lt r ≡ true → r ≡ Less
less Less is = refl
less Equal is = cc
less Greater is = cc

both : (a b : Bool) → a ≡ true → b ≡ true → (a && b) ≡ true
both true b e f = f
both false b e f = cc

first : (a b : Bool) → (a && b) ≡ true → a ≡ true
first true b e = refl
first false b e = e

second : (a b : Bool) → (a && b) ≡ true → b ≡ true
second true b e = e
second false b e = cc

no_first : (a b : Bool) → a ≡ false → (a && b) ≡ false
no_first true b e = cc
no_first false b e = refl

no_second : (a b : Bool) → b ≡ false → (a && b) ≡ false
no_second true b e = e
no_second false b e = refl

-- what is above a name is above those below it
below_too : (low high : List ℕ) (xs : List PlainDirent) → is_lt (order low high) ≡ true
    → below_all order high (map plain_dirent_of xs) ≡ true → below_all order low (map plain_dirent_of xs) ≡ true
below_too low high [] is above = refl
below_too low high (x ∷ xs) is above =
    both _ _
    (ap is_lt (nat_list_cmp_total.trans low high x.name (less _ is) (less _ (first _ _ above))))
    (below_too low high xs is (second _ _ above))

pub rising : (xs : List PlainDirent)
    → ((k : ℕ) → suc k < length xs → (d : PlainDirent) → is_under (get_or xs k d) (get_or xs (suc k) d) ≡ true)
    → are_sorted xs ≡ true
rising [] each = refl
rising (x ∷ []) each = refl
rising (x ∷ y ∷ ys) each =
    let rest = rising (y ∷ ys) (λ k below d. each (suc k) (omega arith) d) in
    let low = each 0 (omega arith) x in
    both _ _ (both _ _ low (below_too x.name y.name ys low (first _ _ rest))) rest

pub falling : (xs : List PlainDirent) (k : ℕ) → suc k < length xs
    → ((d : PlainDirent) → is_under (get_or xs k d) (get_or xs (suc k) d) ≡ false) → are_sorted xs ≡ false
falling [] k below high = absurd (omega arith)
falling (x ∷ []) k below high = absurd (omega arith)
falling (x ∷ y ∷ ys) zero below high = no_first _ _ (no_first _ _ (high x))
falling (x ∷ y ∷ ys) (suc k) below high = no_second _ _ (falling (y ∷ ys) k (omega arith) high)
