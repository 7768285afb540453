-- Lemmas on an element of a list.
use Rattle.std.proofs.Common.{◌≡◌, ℕ, ◌+◌, ◌<◌, List, ◌++◌, length, take, drop, slice_get, Some, refl, sym}
use Rattle.std.proofs.Common.{◌∙◌, arith}
use Rattle.std.proofs.lemmas.List.{get_or-take, length-take, get_or-drop, length-drop, get_or_append_left}
use Rattle.std.proofs.lemmas.Option.{get_or_from_slice_get, slice_get_within, slice_get_read}

pub within-take : {X : Type 0} (xs : List X) (n k : ℕ) (x : X) → slice_get (take n xs) k ≡ Some x → k < n
within-take xs n k x h =
    let a = slice_get_within (take n xs) k x h in
    omega (arith, length-take n xs)

pub slice_get-take : {X : Type 0} (xs : List X) (n k : ℕ) (x : X) → slice_get (take n xs) k ≡ Some x
    → slice_get xs k ≡ Some x
slice_get-take xs n k x h =
    let a = slice_get_within (take n xs) k x h in
    let b : k < n = omega (arith, length-take n xs) in
    let c : k < length xs = omega (arith, length-take n xs) in
    slice_get_read xs (length xs) k x refl c
    (sym (sym (get_or-take n xs k x b) ∙ get_or_from_slice_get (take n xs) k x x h))

pub slice_get-into_take : {X : Type 0} (xs : List X) (n k : ℕ) (x : X) → k < n → slice_get xs k ≡ Some x
    → slice_get (take n xs) k ≡ Some x
slice_get-into_take xs n k x lt h =
    let a = slice_get_within xs k x h in
    let b : k < length (take n xs) = omega (arith, length-take n xs) in
    slice_get_read (take n xs) (length (take n xs)) k x refl b
    (sym (get_or-take n xs k x lt ∙ get_or_from_slice_get xs k x x h))

pub slice_get-drop : {X : Type 0} (xs : List X) (n k : ℕ) (x : X) → slice_get (drop n xs) k ≡ Some x
    → slice_get xs (n + k) ≡ Some x
slice_get-drop xs n k x h =
    let a = slice_get_within (drop n xs) k x h in
    let b : n + k < length xs = omega (arith, length-drop n xs) in
    slice_get_read xs (length xs) (n + k) x refl b
    (sym (sym (get_or-drop n xs k x) ∙ get_or_from_slice_get (drop n xs) k x x h))

pub slice_get-leading : {X : Type 0} (xs ys : List X) (k : ℕ) (x : X) → k < length xs
    → slice_get (xs ++ ys) k ≡ Some x → slice_get xs k ≡ Some x
slice_get-leading xs ys k x lt h =
    slice_get_read xs (length xs) k x refl lt (sym (sym (get_or_append_left xs ys x k lt)
    ∙ get_or_from_slice_get (xs ++ ys) k x x h))

pub slice_get-into_drop : {X : Type 0} (xs : List X) (n k : ℕ) (x : X) → slice_get xs (n + k) ≡ Some x
    → slice_get (drop n xs) k ≡ Some x
slice_get-into_drop xs n k x h =
    let a = slice_get_within xs (n + k) x h in
    let b : k < length (drop n xs) = omega (arith, length-drop n xs) in
    slice_get_read (drop n xs) (length (drop n xs)) k x refl b
    (sym (get_or-drop n xs k x ∙ get_or_from_slice_get xs (n + k) x x h))
