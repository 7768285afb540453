-- Lemmas: a change that is laid into the open tail.
use Rattle.std.proofs.Common.{◌≡◌, ◌≢◌, ℕ, zero, suc, ◌+◌, ◌<◌, ◌≤◌, Bool, true, false, not, cond, ◌||◌, nat_eq}
use Rattle.std.proofs.Common.{if◌then◌else◌, List, [], ◌∷◌, ◌++◌, length, take, drop, map, get_or, Option, Some}
use Rattle.std.proofs.Common.{None, refl, sym, ap, ◌∙◌, arith, append_assoc, append-nil, is_some, length-append}
use Rattle.std.proofs.Common.{◌-◌, inl, inr, nat_lt, subst}
use Rattle.std.specs.Prelude.{slice_index, slice_set}
use Rattle.std.proofs.lemmas.Bool.{cases_lt, eqb-true, eq-eqb, le-ltb, lt-ltb}
use Rattle.std.proofs.lemmas.List.{drop_all, drop-append-le, length-map, map-append, take-append-drop}
use Rattle.std.proofs.lemmas.List.Elements.{filter-append}
use Rattle.disk.specs.Device.{Content}
use Rattle.disk.specs.declared.block.BlockNo.{BlockNo}
use Rattle.wal.specs.Changes.Index.{IsIndex, IsNewest, numbers}
use Rattle.wal.specs.Changes.AbsorbedIn.{absorbed_in, renewed, replaced}
use Rattle.circ.specs.declared.log.change.LogChange.{LogChange}
use Rattle.circ.specs.Log.Effects.{newest_in}
use Rattle.circ.specs.Log.Log.{AreOnce, blocks_of, changed_blocks, changes_of, is_among, new_blocks, newest_of}
use Rattle.circ.specs.Log.Log.{or_else}
use Rattle.circ.specs.Log.Overlay.{content_or}
use Rattle.circ.specs.Log.Room.{absorbed, fresh, tail_with}
use Rattle.circ.proofs.LogLemmas.Absorption.{blocks-fresh, blocks-tail}
use Rattle.circ.proofs.LogLemmas.Lawful.{length-blocks_of, length-changes_of}
use Rattle.circ.proofs.LogLemmas.Newest.{newest_of-append}
use Rattle.circ.proofs.LogLemmas.Once.{true≢false}
use Rattle.wal.proofs.ChangesLemmas.IndexLemmas.{last_there, none_there, of_any, stands_before, stands_behind}

-- ---- a change with another content

pub replaced-is : (xs : List LogChange) (i : ℕ) (x : LogChange) (content : Content) → i < length xs
    → x ≡ get_or xs i x → slice_set xs i (record x { content = content }) ≡ replaced xs i content
replaced-is [] i x content h e = absurd (omega (arith, h))
replaced-is (y ∷ ys) zero x content h e = ap (λ (z : LogChange). record z { content = content } ∷ ys) e
replaced-is (y ∷ ys) (suc i) x content h e =
    ap (λ zs. y ∷ zs) (replaced-is ys i x content (omega (arith, h)) e)

-- the index doesn't see contents
pub numbers-replaced : (xs : List LogChange) (i : ℕ) (content : Content) → numbers (replaced xs i content) ≡ numbers xs
numbers-replaced [] i content = refl
numbers-replaced (x ∷ xs) zero content = refl
numbers-replaced (x ∷ xs) (suc i) content = ap (λ (ns : List ℕ). x.block.0 ∷ ns) (numbers-replaced xs i content)

-- the newest change of a block with another content
pub renewed-at : (xs : List LogChange) (block i : ℕ) (content : Content) → i < length xs
    → slice_index (numbers xs) i ≡ block
    → ((k : ℕ) → i < k → k < length xs → slice_index (numbers xs) k ≢ block)
    → replaced xs i content ≡ renewed xs block content
renewed-at [] block i content l e h = absurd (omega (arith, l))
renewed-at (x ∷ xs) block zero content l e h =
    let rest : newest_of xs block ≡ None =
    none_there xs block (λ k m. h (suc k) (omega arith) (omega (arith, m))) in
    let here : nat_eq x.block.0 block ≡ true = eq-eqb x.block.0 block e in
    rw (rest, here) refl
renewed-at (x ∷ xs) block (suc i) content l e h =
    let later : (k : ℕ) → i < k → k < length xs → slice_index (numbers xs) k ≢ block =
    λ k m n. h (suc k) (omega (arith, m)) (omega (arith, n)) in
    let rest : newest_of xs block ≡ Some (get_or xs i x).content =
    last_there xs block i x (omega (arith, l)) e later in
    rw rest (ap (λ (ys : List LogChange). x ∷ ys) (renewed-at xs block i content (omega (arith, l)) e later))

-- ---- where a block stands

pub among-newest : (changes : List LogChange) (block : ℕ)
    → is_some (newest_of changes block) ≡ is_among (record { 0 = block }) (changed_blocks changes)
among-newest [] block = refl
among-newest (x ∷ xs) block =
    go (newest_of xs block) (nat_eq x.block.0 block)
    (is_among (record { 0 = block }) (changed_blocks xs)) (among-newest xs block)
  where
    go : (later : Option Content) (t among : Bool) → is_some later ≡ among
        → is_some (or_else later (if t then Some x.content else None)) ≡ (t || among)
    go (Some c) true among e = refl
    go (Some c) false among e = e
    go None true among e = refl
    go None false among e = e

-- the index tells whether a change from an index on is of a block
pub has_is : (start : ℕ) (changes : List LogChange) (newest names : List ℕ) (block : BlockNo) (from name : ℕ)
    → IsIndex start (numbers changes) newest names → from ≤ length changes → name ≡ slice_index newest block.0
    → nat_lt (start + from) name ≡ is_among block (changed_blocks (drop from changes))
has_is start changes newest names block from name index fits is =
    let of : IsNewest start (numbers changes) block.0 name =
    subst (λ (n : ℕ). IsNewest start (numbers changes) block.0 n) (sym is)
    (of_any start (numbers changes) newest names block.0 index) in
    elim (cases_lt (start + from) name) as (λ _. nat_lt (start + from) name
    ≡ is_among block (changed_blocks (drop from changes))) [
      | inl h ↦ lt-ltb (start + from) name h ∙ sym (stands_behind start changes block.0 from name fits of h)
          ∙ among-newest (drop from changes) block.0
      | inr h ↦ le-ltb (start + from) name h
          ∙ sym (ap is_some (stands_before start changes block.0 from name fits of h))
          ∙ among-newest (drop from changes) block.0
    ]

none_from : (o : Option Content) → is_some o ≡ false → o ≡ None
none_from (Some content) h = absurd (true≢false h)
none_from None h = refl

among-behind : (block : BlockNo) (xs ys : List BlockNo) → is_among block ys ≡ false
    → is_among block (xs ++ ys) ≡ is_among block xs
among-behind block [] ys h = h
among-behind block (x ∷ xs) ys h = ap (λ (t : Bool). nat_eq x.0 block.0 || t) (among-behind block xs ys h)

-- what isn't among blocks isn't among the new of them
new_fewer : (xs ys : List BlockNo) (block : BlockNo) → is_among block ys ≡ false
    → is_among block (new_blocks xs ys) ≡ false
new_fewer xs [] block h = refl
new_fewer xs (y ∷ ys) block h = go (is_among y xs) (nat_eq y.0 block.0) refl (new_fewer xs ys block) h
  where
    go : (t u : Bool) → nat_eq y.0 block.0 ≡ u
        → (is_among block ys ≡ false → is_among block (new_blocks xs ys) ≡ false)
        → (u || is_among block ys) ≡ false
        → is_among block (cond (not t) (y ∷ new_blocks xs ys) (new_blocks xs ys)) ≡ false
    go t true e rest h = absurd (true≢false h)
    go true false e rest h = rest h
    go false false e rest h = ap (λ (b : Bool). b || is_among block (new_blocks xs ys)) e ∙ rest h

-- a block of a group that stands there once isn't one of those before it
pub apart_before : (ys rest : List (BlockNo × Content)) (block : BlockNo) (content : Content)
    → AreOnce (blocks_of (ys ++ (block, content) ∷ rest)) → is_among block (blocks_of ys) ≡ false
apart_before [] rest block content once = refl
apart_before (y ∷ ys) rest block content once =
    go (nat_eq y.0.0 block.0) refl (apart_before ys rest block content once.1)
  where
    among_all : (zs : List (BlockNo × Content)) → is_among block (blocks_of (zs ++ (block, content) ∷ rest)) ≡ true
    among_all [] = ap (λ (t : Bool). t || is_among block (blocks_of rest)) (eq-eqb block.0 block.0 refl)
    among_all (z ∷ zs) = or_true (nat_eq z.0.0 block.0) (among_all zs)
      where
        or_true : (t : Bool) → is_among block (blocks_of (zs ++ (block, content) ∷ rest)) ≡ true
            → (t || is_among block (blocks_of (zs ++ (block, content) ∷ rest))) ≡ true
        or_true true e = refl
        or_true false e = e

    go : (t : Bool) → nat_eq y.0.0 block.0 ≡ t → is_among block (blocks_of ys) ≡ false
        → (t || is_among block (blocks_of ys)) ≡ false
    go true e h =
        let same : block ≡ y.0 = ap (λ (n : ℕ). record { 0 = n }) (sym (eqb-true y.0.0 block.0 e)) in
        absurd (true≢false (sym (among_all ys)
        ∙ ap (λ (b : BlockNo). is_among b (blocks_of (ys ++ (block, content) ∷ rest))) same ∙ once.0))
    go false e h = h

-- ---- no change of a group

map-none : (tail : List LogChange) → map (absorbed []) tail ≡ tail
map-none [] = refl
map-none (x ∷ xs) = ap (λ ys. x ∷ ys) (map-none xs)

-- the changes as they are
pub absorbed_none : (changes : List LogChange) (preceding place : ℕ)
    → changes ≡ take preceding changes ++ tail_with (drop preceding changes) place []
absorbed_none changes preceding place =
    sym (take-append-drop preceding changes)
    ∙ ap (λ xs. take preceding changes ++ xs) (sym (map-none (drop preceding changes)))
    ∙ ap (λ xs. take preceding changes ++ xs) (sym (append-nil (map (absorbed []) (drop preceding changes))))

-- ---- one change more of a group

other_way : (a b : ℕ) (t : Bool) → nat_eq a b ≡ t → nat_eq b a ≡ t
other_way a b true e = eq-eqb b a (sym (eqb-true a b e))
other_way a b false e = go (nat_eq b a) refl
  where
    go : (t : Bool) → nat_eq b a ≡ t → t ≡ false
    go false f = refl
    go true f = absurd (true≢false (sym (eq-eqb a b (sym (eqb-true b a f))) ∙ e))

module _ (ys : List (BlockNo × Content)) (block : BlockNo) (content : Content) where
  abbrev more : List (BlockNo × Content)
  more = ys ++ (block, content) ∷ []

  newest_in-push : (n : ℕ) → newest_in more n
      ≡ or_else (if nat_eq block.0 n then Some content else None) (newest_in ys n)
  newest_in-push n =
      ap (λ xs. newest_of xs n) (map-append (λ (change : BlockNo × Content). record {
        place = 0;
        block = change.0;
        content = change.1;
      }) ys ((block, content) ∷ []))
      ∙ newest_of-append (changes_of 0 ys) (changes_of 0 ((block, content) ∷ [])) n

  absorbed-other : (x : LogChange) → nat_eq block.0 x.block.0 ≡ false → absorbed more x ≡ absorbed ys x
  absorbed-other x e = ap (λ (o : Option Content). record x { content = content_or o x.content })
      (newest_in-push x.block.0
      ∙ ap (λ (t : Bool). or_else (if t then Some content else None) (newest_in ys x.block.0)) e)

  absorbed-same : (x : LogChange) → nat_eq block.0 x.block.0 ≡ true
      → absorbed more x ≡ record x { content = content }
  absorbed-same x e = ap (λ (o : Option Content). record x { content = content_or o x.content })
      (newest_in-push x.block.0
      ∙ ap (λ (t : Bool). or_else (if t then Some content else None) (newest_in ys x.block.0)) e)

map-other : (tail : List LogChange) (ys : List (BlockNo × Content)) (block : BlockNo) (content : Content)
    → is_among block (changed_blocks tail) ≡ false
    → map (absorbed (ys ++ (block, content) ∷ [])) tail ≡ map (absorbed ys) tail
map-other [] ys block content h = refl
map-other (x ∷ xs) ys block content h =
    go (nat_eq x.block.0 block.0) refl h (map-other xs ys block content)
  where
    go : (t : Bool) → nat_eq x.block.0 block.0 ≡ t → (t || is_among block (changed_blocks xs)) ≡ false
        → (is_among block (changed_blocks xs) ≡ false
        → map (absorbed (ys ++ (block, content) ∷ [])) xs ≡ map (absorbed ys) xs)
        → map (absorbed (ys ++ (block, content) ∷ [])) (x ∷ xs) ≡ map (absorbed ys) (x ∷ xs)
    go true e h rest = absurd (true≢false h)
    go false e h rest = λ i.
        absorbed-other ys block content x (other_way x.block.0 block.0 false e) i ∷ rest h i

-- whether a tail that took a group in has a newest content of a block
among-absorbed : (tail : List LogChange) (ys : List (BlockNo × Content)) (block : BlockNo)
    → is_some (newest_of (map (absorbed ys) tail) block.0) ≡ is_among block (changed_blocks tail)
among-absorbed [] ys block = refl
among-absorbed (x ∷ xs) ys block =
    go (newest_of (map (absorbed ys) xs) block.0) (nat_eq x.block.0 block.0)
    (is_among block (changed_blocks xs)) (among-absorbed xs ys block)
  where
    go : (later : Option Content) (t among : Bool) → is_some later ≡ among
        → is_some (or_else later (if t then Some (absorbed ys x).content else None)) ≡ (t || among)
    go (Some c) true among e = refl
    go (Some c) false among e = e
    go None true among e = refl
    go None false among e = e

module _ (x : LogChange) (xs : List LogChange) (ys : List (BlockNo × Content)) (block : BlockNo) (content : Content)
  where
    abbrev later_ones : List LogChange
    later_ones = map (absorbed ys) xs

    abbrev step : Bool → Bool → List LogChange
    step among t = if among then absorbed ys x ∷ renewed later_ones block.0 content
        else if t then record (absorbed ys x) { content = content } ∷ later_ones else absorbed ys x ∷ later_ones

    stepped : (among t : Bool) → is_among block (changed_blocks xs) ≡ among → nat_eq x.block.0 block.0 ≡ t
        → renewed (map (absorbed ys) (x ∷ xs)) block.0 content ≡ step among t
    stepped among t e f =
        ap (λ (a : Bool). step a (nat_eq x.block.0 block.0)) (among-absorbed xs ys block ∙ e)
        ∙ ap (λ (b : Bool). step among b) f

map-found : (tail : List LogChange) (ys : List (BlockNo × Content)) (block : BlockNo) (content : Content)
    → AreOnce (changed_blocks tail) → is_among block (changed_blocks tail) ≡ true
    → renewed (map (absorbed ys) tail) block.0 content ≡ map (absorbed (ys ++ (block, content) ∷ [])) tail
map-found [] ys block content once h = absurd (true≢false (sym h))
map-found (x ∷ xs) ys block content once h =
    go (nat_eq x.block.0 block.0) refl (is_among block (changed_blocks xs)) refl h
    (map-found xs ys block content once.1)
  where
    go : (t : Bool) → nat_eq x.block.0 block.0 ≡ t → (among : Bool) → is_among block (changed_blocks xs) ≡ among
        → (t || among) ≡ true
        → (is_among block (changed_blocks xs) ≡ true
        → renewed (map (absorbed ys) xs) block.0 content ≡ map (absorbed (ys ++ (block, content) ∷ [])) xs)
        → renewed (map (absorbed ys) (x ∷ xs)) block.0 content
        ≡ map (absorbed (ys ++ (block, content) ∷ [])) (x ∷ xs)
    go true e true f h rest =
        let same : x.block ≡ block = ap (λ (n : ℕ). record { 0 = n }) (eqb-true x.block.0 block.0 e) in
        absurd (true≢false (sym f ∙ ap (λ b. is_among b (changed_blocks xs)) (sym same) ∙ once.0))
    go true e false f h rest =
        stepped x xs ys block content false true f e
        ∙ (λ i. sym (absorbed-same ys block content x (other_way x.block.0 block.0 true e)) i
        ∷ sym (map-other xs ys block content f) i)
    go false e true f h rest =
        stepped x xs ys block content true false f e
        ∙ (λ i. sym (absorbed-other ys block content x (other_way x.block.0 block.0 false e)) i ∷ rest f i)
    go false e false f h rest = absurd (true≢false (sym h))

fresh-push : (tail : List BlockNo) (ys : List (BlockNo × Content)) (block : BlockNo) (content : Content)
    (t : Bool) → is_among block tail ≡ t
    → fresh tail (ys ++ (block, content) ∷ []) ≡ fresh tail ys ++ cond (not t) ((block, content) ∷ []) []
fresh-push tail ys block content t e =
    filter-append (λ (change : BlockNo × Content). not (is_among change.0 tail)) ys ((block, content) ∷ [])
    ∙ ap (λ (t : Bool). fresh tail ys ++ cond (not t) ((block, content) ∷ []) []) e

-- ---- what stands before and behind

some_behind : (xs ys : List LogChange) (block : ℕ) → is_some (newest_of ys block) ≡ true
    → is_some (newest_of (xs ++ ys) block) ≡ true
some_behind xs ys block h =
    ap is_some (newest_of-append xs ys block) ∙ first (newest_of ys block) h
  where
    first : (o : Option Content) → is_some o ≡ true → is_some (or_else o (newest_of xs block)) ≡ true
    first (Some content) h = refl
    first None h = absurd (true≢false (sym h))

-- the newest of a block stands behind these
renewed-behind : (xs ys : List LogChange) (block : ℕ) (content : Content) → is_some (newest_of ys block) ≡ true
    → renewed (xs ++ ys) block content ≡ xs ++ renewed ys block content
renewed-behind [] ys block content h = refl
renewed-behind (x ∷ xs) ys block content h =
    rw (some_behind xs ys block h) (ap (λ (zs : List LogChange). x ∷ zs) (renewed-behind xs ys block content h))

-- the newest of a block stands before these
renewed-before : (xs ys : List LogChange) (block : ℕ) (content : Content) → newest_of ys block ≡ None
    → renewed (xs ++ ys) block content ≡ renewed xs block content ++ ys
renewed-before [] ys block content h = nothing_there ys h
  where
    nothing_there : (zs : List LogChange) → newest_of zs block ≡ None → renewed zs block content ≡ zs
    nothing_there [] h = refl
    nothing_there (z ∷ zs) h = go (newest_of zs block) refl (nat_eq z.block.0 block) refl h
      where
        go : (later : Option Content) → newest_of zs block ≡ later → (t : Bool) → nat_eq z.block.0 block ≡ t
            → or_else later (if t then Some z.content else None) ≡ None → renewed (z ∷ zs) block content ≡ z ∷ zs
        go (Some c) e t f h = absurd (true≢false (ap is_some h))
        go None e true f h = absurd (true≢false (ap is_some h))
        go None e false f h = rw (e, f) refl
renewed-before (x ∷ xs) ys block content h =
    go (is_some (newest_of xs block)) (ap is_some (newest_of-append xs ys block
    ∙ ap (λ (o : Option Content). or_else o (newest_of xs block)) h)) (nat_eq x.block.0 block)
    (renewed-before xs ys block content h)
  where
    go : (some : Bool) → is_some (newest_of (xs ++ ys) block) ≡ some → (t : Bool)
        → renewed (xs ++ ys) block content ≡ renewed xs block content ++ ys
        → (if is_some (newest_of (xs ++ ys) block) then x ∷ renewed (xs ++ ys) block content
        else if t then record x { content = content } ∷ (xs ++ ys) else x ∷ (xs ++ ys))
        ≡ (if some then x ∷ renewed xs block content
        else if t then record x { content = content } ∷ xs else x ∷ xs) ++ ys
    go true e t rest = rw e (ap (λ (zs : List LogChange). x ∷ zs) rest)
    go false e true rest = rw e refl
    go false e false rest = rw e refl

-- ---- laid in

module _ (leading tail : List LogChange) (place : ℕ) (ys : List (BlockNo × Content)) (block : BlockNo)
    (content : Content) (preceding : ℕ) (preceding_is : length leading ≡ preceding) (once : AreOnce (changed_blocks tail))
    (apart : is_among block (blocks_of ys) ≡ false) where
  abbrev left_over : List LogChange
  left_over = map (absorbed ys) tail

  abbrev added : List LogChange
  added = changes_of place (fresh (changed_blocks tail) ys)

  pub tail_in : drop preceding (leading ++ (left_over ++ added)) ≡ left_over ++ added
  tail_in = drop-append-le preceding leading (left_over ++ added) (omega (arith, preceding_is))
      ∙ ap (λ xs. xs ++ (left_over ++ added)) (drop_all preceding leading (omega (arith, preceding_is)))

  blocks_added : changed_blocks added ≡ new_blocks (changed_blocks tail) (blocks_of ys)
  blocks_added = blocks-group (fresh (changed_blocks tail) ys) ∙ blocks-fresh (changed_blocks tail) ys
    where
      blocks-group : (group : List (BlockNo × Content)) → changed_blocks (changes_of place group) ≡ blocks_of group
      blocks-group [] = refl
      blocks-group (change ∷ group) = ap (λ bs. change.0 ∷ bs) (blocks-group group)

  none_added : newest_of added block.0 ≡ None
  none_added = none_from (newest_of added block.0) (among-newest added block.0
      ∙ ap (λ bs. is_among block bs) blocks_added ∙ new_fewer (changed_blocks tail) (blocks_of ys) block apart)

  -- the block is in the tail just where it was
  pub among_is : is_among block (changed_blocks (drop preceding (leading ++ (left_over ++ added))))
      ≡ is_among block (changed_blocks tail)
  among_is =
      ap (λ xs. is_among block (changed_blocks xs)) tail_in
      ∙ ap (λ bs. is_among block bs) (blocks-tail tail place ys)
      ∙ among-behind block (changed_blocks tail) (new_blocks (changed_blocks tail) (blocks_of ys))
      (new_fewer (changed_blocks tail) (blocks_of ys) block apart)

  here : is_among block (changed_blocks tail) ≡ true
      → renewed (leading ++ (left_over ++ added)) block.0 content
      ≡ leading ++ tail_with tail place (ys ++ (block, content) ∷ [])
  here h =
      let some : is_some (newest_of (left_over ++ added) block.0) ≡ true =
      among-newest (left_over ++ added) block.0 ∙ ap (λ xs. is_among block (changed_blocks xs)) (sym tail_in)
      ∙ among_is ∙ h in
      renewed-behind leading (left_over ++ added) block.0 content some
      ∙ ap (λ xs. leading ++ xs) (renewed-before left_over added block.0 content none_added
      ∙ ap (λ xs. xs ++ added) (map-found tail ys block content once h)
      ∙ ap (λ g. map (absorbed (ys ++ (block, content) ∷ [])) tail ++ changes_of place g)
      (sym (fresh-push (changed_blocks tail) ys block content true h
      ∙ append-nil (fresh (changed_blocks tail) ys))))

  behind : is_among block (changed_blocks tail) ≡ false
      → (leading ++ (left_over ++ added)) ++ record { place = place; block = block; content = content } ∷ []
      ≡ leading ++ tail_with tail place (ys ++ (block, content) ∷ [])
  behind h =
      let one : List LogChange = record { place = place; block = block; content = content } ∷ [] in
      append_assoc leading (left_over ++ added) one
      ∙ ap (λ xs. leading ++ xs) (append_assoc left_over added one
      ∙ ap (λ xs. xs ++ (added ++ one)) (sym (map-other tail ys block content h))
      ∙ ap (λ xs. map (absorbed (ys ++ (block, content) ∷ [])) tail ++ xs)
      (sym (ap (changes_of place) (fresh-push (changed_blocks tail) ys block content false h)
      ∙ map-append (λ (change : BlockNo × Content). record {
        place = place;
        block = change.0;
        content = change.1;
      }) (fresh (changed_blocks tail) ys) ((block, content) ∷ []))))

  by_tail : (t : Bool) → is_among block (changed_blocks tail) ≡ t
      → (if t then renewed (leading ++ (left_over ++ added)) block.0 content
      else (leading ++ (left_over ++ added)) ++ record { place = place; block = block; content = content } ∷ [])
      ≡ leading ++ tail_with tail place (ys ++ (block, content) ∷ [])
  by_tail true e = here e
  by_tail false e = behind e

  pub absorbed_is : absorbed_in preceding place block content (leading ++ tail_with tail place ys)
      ≡ leading ++ tail_with tail place (ys ++ (block, content) ∷ [])
  absorbed_is =
      ap (λ (t : Bool). if t then renewed (leading ++ (left_over ++ added)) block.0 content
      else (leading ++ (left_over ++ added)) ++ record { place = place; block = block; content = content } ∷ []) among_is
      ∙ by_tail (is_among block (changed_blocks tail)) refl

-- ---- one change, by the index

-- where the index has a change of the block in the tail
pub absorbed_there : (start : ℕ) (changes : List LogChange) (newest names : List ℕ) (preceding place : ℕ) (block : BlockNo)
    (content : Content) (name : ℕ) → IsIndex start (numbers changes) newest names → preceding ≤ length changes
    → name ≡ slice_index newest block.0 → start + preceding < name
    → replaced changes (name - start - 1) content ≡ absorbed_in preceding place block content changes
absorbed_there start changes newest names preceding place block content name index fits is h =
    let of : IsNewest start (numbers changes) block.0 name =
    subst (λ (n : ℕ). IsNewest start (numbers changes) block.0 n) (sym is)
    (of_any start (numbers changes) newest names block.0 index) in
    let size : length (numbers changes) ≡ length changes =
    length-map changes (λ (change : LogChange). change.block.0) in
    let within = of.within in
    let among : is_among block (changed_blocks (drop preceding changes)) ≡ true =
    sym (has_is start changes newest names block preceding name index fits is) ∙ lt-ltb (start + preceding) name h in
    renewed-at changes block.0 (name - start - 1) content (omega (arith, size, within, h)) (of.there (omega (arith, h)))
    (λ k more l. of.last k (omega (arith, more, h)) (omega (arith, l, size)))
    ∙ ap (λ (t : Bool). if t then renewed changes block.0 content
    else changes ++ record { place = place; block = block; content = content } ∷ []) (sym among)

-- where it has none
pub absorbed_behind : (start : ℕ) (changes : List LogChange) (newest names : List ℕ) (preceding place : ℕ) (block : BlockNo)
    (content : Content) (name : ℕ) → IsIndex start (numbers changes) newest names → preceding ≤ length changes
    → name ≡ slice_index newest block.0 → name ≤ start + preceding
    → changes ++ record { place = place; block = block; content = content } ∷ []
    ≡ absorbed_in preceding place block content changes
absorbed_behind start changes newest names preceding place block content name index fits is h =
    let among : is_among block (changed_blocks (drop preceding changes)) ≡ false =
    sym (has_is start changes newest names block preceding name index fits is) ∙ le-ltb (start + preceding) name h in
    ap (λ (t : Bool). if t then renewed changes block.0 content
    else changes ++ record { place = place; block = block; content = content } ∷ []) (sym among)

-- ---- room

pub length-tail_with : (leading tail : List LogChange) (place : ℕ) (ys : List (BlockNo × Content))
    → length (leading ++ tail_with tail place ys)
    ≡ length leading + length tail + length (fresh (changed_blocks tail) ys)
length-tail_with leading tail place ys =
    let a = length-append leading (tail_with tail place ys) in
    let b = length-append (map (absorbed ys) tail) (changes_of place (fresh (changed_blocks tail) ys)) in
    let c = length-map tail (absorbed ys) in
    let d = length-changes_of place (fresh (changed_blocks tail) ys) in
    omega (arith, a, b, c, d)

pub fresh_all : (tail : List BlockNo) (group : List (BlockNo × Content))
    → length (fresh tail group) ≡ length (new_blocks tail (blocks_of group))
fresh_all tail group = sym (length-blocks_of (fresh tail group)) ∙ ap length (blocks-fresh tail group)

pub reserved_left : (tail : List BlockNo) (group ys rest : List (BlockNo × Content)) (block : BlockNo)
    (content : Content) → group ≡ ys ++ (block, content) ∷ rest → is_among block tail ≡ false
    → length (fresh tail ys) < length (new_blocks tail (blocks_of group))
reserved_left tail group ys rest block content is apart =
    let a : length (new_blocks tail (blocks_of group)) ≡ length (fresh tail group) = sym (fresh_all tail group) in
    let b : fresh tail group ≡ fresh tail ys ++ fresh tail ((block, content) ∷ rest) = ap (fresh tail) is
    ∙ filter-append (λ (change : BlockNo × Content). not (is_among change.0 tail)) ys
    ((block, content) ∷ rest) in
    let c : fresh tail ((block, content) ∷ rest) ≡ (block, content) ∷ fresh tail rest =
    ap (λ (t : Bool). cond (not t) ((block, content) ∷ fresh tail rest) (fresh tail rest)) apart in
    let d : length (fresh tail group) ≡ length (fresh tail ys ++ (block, content) ∷ fresh tail rest) =
    ap length (b ∙ ap (λ xs. fresh tail ys ++ xs) c) in
    let e = length-append (fresh tail ys) ((block, content) ∷ fresh tail rest) in
    omega (arith, a, d, e)

-- what a part of a group adds is at most what all of it does
pub reserved_within : (tail : List BlockNo) (group ys rest : List (BlockNo × Content)) → group ≡ ys ++ rest
    → length (fresh tail ys) ≤ length (new_blocks tail (blocks_of group))
reserved_within tail group ys rest is =
    let a = fresh_all tail group in
    let b : length (fresh tail group) ≡ length (fresh tail ys ++ fresh tail rest) = ap length (ap (fresh tail) is
    ∙ filter-append (λ (change : BlockNo × Content). not (is_among change.0 tail)) ys rest) in
    let c = length-append (fresh tail ys) (fresh tail rest) in
    omega (arith, a, b, c)
