-- What is refused for a part of a chain is refused for the whole.
use Rattle.std.proofs.Common.{[], ◌∷◌, zero, suc, refl, ◌≡◌, ℕ, ◌+◌, ◌<◌, ◌≤◌, Bool, true, false, true≢false, List, ◌++◌, length, drop, flat_map, get_or, inl, inr, sym, ap, ◌∙◌, arith, length-append}
use Rattle.xdr.proofs.Links.{end_within, link_within, refused_on}
use Rattle.xdr.specs.Codes.{Code, chain_bytes, items_bytes, some_too_long}
use Rattle.std.proofs.lemmas.List.{at_drop_more}
use Rattle.xdr.specs.Items as items
use Rattle.xdr.specs.Writing.{RefusesToWrite, WriterState}
use Rattle.xdr.specs.declared.fault.XdrFault.{XdrFault}

pub wider : (e : XdrFault) (too_long : Bool) (old new : WriterState) (some all : ℕ) → new.capacity ≤ old.capacity
    → new.counts ≡ old.counts → some ≤ all → RefusesToWrite e too_long old some → RefusesToWrite e too_long new all
wider e too_long old new some all a k b (inl long) = inl long
wider e too_long old new some all a k b (inr memory) = inr (memory.0, omega (arith, memory.1, a, b), k ∙ memory.2)

-- what has no length that could be too long is refused for want of memory alone
pub short_refused : (e : XdrFault) (too_long : Bool) (old new : WriterState) (some all : ℕ)
    → new.capacity ≤ old.capacity → new.counts ≡ old.counts → some ≤ all
    → RefusesToWrite e false old some → RefusesToWrite e too_long new all
short_refused e too_long old new some all a k b (inl long) = absurd (true≢false (sym long.1))
short_refused e too_long old new some all a k b (inr memory) =
    inr (memory.0, omega (arith, memory.1, a, b), k ∙ memory.2)

-- a link behind its flag
pub link_refused : {A : Type 0} (F : Code A) (xs : List A) (i : ℕ) (x : A) (e : XdrFault)
    (old loop middle : WriterState) → i < length xs → x ≡ get_or xs i x
    → some_too_long F (drop i xs) ≡ some_too_long F xs
    → loop.bytes ++ chain_bytes F (drop i xs) ≡ old.bytes ++ chain_bytes F xs
    → old.capacity ≤ loop.capacity → loop.counts ≡ old.counts
    → middle.bytes ≡ loop.bytes ++ items.flag true → loop.capacity ≤ middle.capacity → middle.counts ≡ loop.counts
    → RefusesToWrite e (F.too_long x) middle (length middle.bytes + length (F.spell x))
    → RefusesToWrite e (some_too_long F xs) old (length old.bytes + length (chain_bytes F xs))
link_refused F xs i x e old loop middle lt is long so_far le same put more still refuses =
    let within = link_within F xs i x loop.bytes (old.bytes ++ chain_bytes F xs) lt is so_far in
    let some : length middle.bytes ≡ length loop.bytes + length (items.flag true) =
    ap length put ∙ length-append loop.bytes (items.flag true) in
    let fits : length middle.bytes + length (F.spell x) ≤ length old.bytes + length (chain_bytes F xs) =
    omega (arith, within, length-append old.bytes (chain_bytes F xs), some) in
    wider e (some_too_long F xs) middle old (length old.bytes + length (chain_bytes F xs))
    (length old.bytes + length (chain_bytes F xs)) (omega (arith, le, more)) (sym (still ∙ same)) (omega arith)
    (refused_on F xs i x (some_too_long F xs) e middle (length middle.bytes + length (F.spell x))
    (length old.bytes + length (chain_bytes F xs)) lt is long fits refuses)

-- the flag of a link that isn't written yet lies within the whole
pub flag_fits : {A : Type 0} (F : Code A) (xs : List A) (i : ℕ) (x : A) (out old : List ℕ)
    → i < length xs → x ≡ get_or xs i x
    → out ++ chain_bytes F (drop i xs) ≡ old ++ chain_bytes F xs
    → length out + length (items.flag true) ≤ length old + length (chain_bytes F xs)
flag_fits F xs i x out old lt is so_far =
    omega (arith, link_within F xs i x out (old ++ chain_bytes F xs) lt is so_far, length-append old (chain_bytes F xs))

-- so does the flag at the end
pub end_fits : {A : Type 0} (F : Code A) (xs : List A) (i : ℕ) (out old : List ℕ) → length xs ≤ i
    → out ++ chain_bytes F (drop i xs) ≡ old ++ chain_bytes F xs
    → length out + length (items.flag false) ≤ length old + length (chain_bytes F xs)
end_fits F xs i out old le so_far =
    omega (arith, end_within F xs i out (old ++ chain_bytes F xs) le so_far, length-append old (chain_bytes F xs))

-- and an item
pub item_fits : {A : Type 0} (F : Code A) (xs : List A) (i : ℕ) (x : A) (out old : List ℕ)
    → i < length xs → x ≡ get_or xs i x
    → out ++ items_bytes F (drop i xs) ≡ old ++ items_bytes F xs
    → length out + length (F.spell x) ≤ length old + length (items_bytes F xs)
item_fits F xs i x out old lt is so_far =
    let rest : List ℕ = items_bytes F (drop (i + 1) xs) in
    let one : items_bytes F (drop i xs) ≡ F.spell x ++ rest =
    at_drop_more (items_bytes F) xs i x lt ∙ ap (λ (y : _). items_bytes F (y ∷ drop (i + 1) xs)) (sym is) in
    let same : out ++ (F.spell x ++ rest) ≡ old ++ items_bytes F xs =
    ap (λ (ys : List ℕ). out ++ ys) (sym one) ∙ so_far in
    omega (
      arith,
      ap length same,
      length-append out (F.spell x ++ rest),
      length-append (F.spell x) rest,
      length-append old (items_bytes F xs),
    )

-- where there is a number, it is the same whatever stands for none
pub same_at : (xs : List ℕ) (i a b : ℕ) → i < length xs → get_or xs i a ≡ get_or xs i b
same_at [] i a b lt = absurd (omega (arith, lt))
same_at (x ∷ xs) zero a b lt = refl
same_at (x ∷ xs) (suc i) a b lt = same_at xs i a b (omega (arith, lt))

-- and a piece
pub part_fits : (xs : List (List ℕ)) (i : ℕ) (x out old : List ℕ) → i < length xs → x ≡ get_or xs i x
    → out ++ flat_map (λ part. part) (drop i xs) ≡ old ++ flat_map (λ part. part) xs
    → length out + length x ≤ length old + length (flat_map (λ part. part) xs)
part_fits xs i x out old lt is so_far =
    let rest : List ℕ = flat_map (λ part. part) (drop (i + 1) xs) in
    let one : flat_map (λ part. part) (drop i xs) ≡ x ++ rest =
    at_drop_more (flat_map (λ part. part)) xs i x lt
    ∙ ap (λ (y : List ℕ). flat_map (λ part. part) (y ∷ drop (i + 1) xs)) (sym is) in
    let same : out ++ (x ++ rest) ≡ old ++ flat_map (λ part. part) xs =
    ap (λ (ys : List ℕ). out ++ ys) (sym one) ∙ so_far in
    omega (
      arith,
      ap length same,
      length-append out (x ++ rest),
      length-append x rest,
      length-append old (flat_map (λ part. part) xs),
    )
