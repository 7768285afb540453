-- Lemmas: an append keeps one change of each block in the open tail.
use Rattle.std.proofs.Common.{◌≡◌, ℕ, suc, ◌+◌, ◌≤◌, Bool, true, false, not, cond, ◌&&◌, ◌||◌, nat_eq}
use Rattle.std.proofs.Common.{if◌then◌else◌, List, [], ◌∷◌, ◌++◌, length, take, drop, map, All, Option, Some}
use Rattle.std.proofs.Common.{None, is_none, refl, sym, ap, subst, ◌∙◌, arith, ne_eqb, length-append}
use Rattle.std.proofs.lemmas.Bool.{eqb-true}
use Rattle.std.proofs.lemmas.List.{take-append-le, drop-append-le, take-append-drop, length-take-le}
use Rattle.std.proofs.lemmas.List.{drop-drop, drop_all, length-map, map-append}
use Rattle.std.proofs.lemmas.List.Elements.{All-map, All-drop}
use Rattle.disk.specs.Device.{Content}
use Rattle.disk.specs.declared.block.BlockNo.{BlockNo}
use Rattle.circ.specs.declared.log.change.LogChange.{LogChange}
use Rattle.circ.specs.Log.Log.{Log, IsLawful, IsCommitted, newest_of, or_else, place_before}
use Rattle.circ.specs.Log.Log.{AreOnce, added_blocks, blocks_of, changed_blocks, changes_of, is_among}
use Rattle.circ.specs.Log.Log.{new_blocks, tail_blocks}
use Rattle.circ.specs.Log.Room.{absorbed, fresh, tail_with, with_group}
use Rattle.circ.specs.Log.Overlay.{content_or}
use Rattle.circ.specs.Log.Effects.{newest_in}
use Rattle.circ.specs.Log.Grows.{recovered, GrowsBy}
use Rattle.circ.proofs.LogLemmas.Newest.{newest_of-append, or_else-assoc}
use Rattle.circ.proofs.LogLemmas.Once.{once-append, same_block, true≢false}
use Rattle.circ.proofs.LogLemmas.Ends.{append_nothing, place_before-append, newest_of-group, recovered-append}
use Rattle.circ.proofs.LogLemmas.Ends.{recovered-committed, recovered-group}

-- ---- blocks among others

-- a block by its number is not among these
abbrev pub lacks : List BlockNo → ℕ → Bool
lacks blocks number = not (is_among (record { 0 = number }) blocks)

-- what has no newest content isn't among the blocks
pub newest-lacks : (changes : List LogChange) (block : ℕ)
    → is_none (newest_of changes block) ≡ lacks (changed_blocks changes) block
newest-lacks [] block = refl
newest-lacks (x ∷ xs) block =
    go (newest_of xs block) (nat_eq x.block.0 block)
    (is_among (record { 0 = block }) (changed_blocks xs)) (newest-lacks xs block)
  where
    go : (later : Option Content) (t among : Bool) → is_none later ≡ not among
        → is_none (or_else later (if t then Some x.content else None)) ≡ not (t || among)
    go (Some c) true among e = refl
    go (Some c) false among e = e
    go None true among e = refl
    go None false among e = e

-- what is among the new isn't among the old
new-apart : (xs ys : List BlockNo) (block : BlockNo) → is_among block (new_blocks xs ys) ≡ true
    → is_among block xs ≡ false
new-apart xs [] block h = absurd (true≢false (sym h))
new-apart xs (y ∷ ys) block h = go (is_among y xs) refl (new-apart xs ys block) h
  where
    here : (t : Bool) → nat_eq y.0 block.0 ≡ t → is_among y xs ≡ false
        → (is_among block (new_blocks xs ys) ≡ true → is_among block xs ≡ false)
        → (t || is_among block (new_blocks xs ys)) ≡ true → is_among block xs ≡ false
    here true e apart rest h = ap (λ b. is_among b xs) (sym (same_block y block e)) ∙ apart
    here false e apart rest h = rest h

    go : (t : Bool) → is_among y xs ≡ t
        → (is_among block (new_blocks xs ys) ≡ true → is_among block xs ≡ false)
        → is_among block (cond (not t) (y ∷ new_blocks xs ys) (new_blocks xs ys)) ≡ true
        → is_among block xs ≡ false
    go true e rest h = rest h
    go false e rest h = here (nat_eq y.0 block.0) refl e rest h

-- what isn't among blocks isn't among the new of them
new-fewer : (xs ys : List BlockNo) (block : BlockNo) → is_among block ys ≡ false
    → is_among block (new_blocks xs ys) ≡ false
new-fewer xs [] block h = refl
new-fewer xs (y ∷ ys) block h = go (is_among y xs) (nat_eq y.0 block.0) refl (new-fewer xs ys block) h
  where
    go : (t u : Bool) → nat_eq y.0 block.0 ≡ u
        → (is_among block ys ≡ false → is_among block (new_blocks xs ys) ≡ false)
        → (u || is_among block ys) ≡ false
        → is_among block (cond (not t) (y ∷ new_blocks xs ys) (new_blocks xs ys)) ≡ false
    go t true e rest h = absurd (true≢false h)
    go true false e rest h = rest h
    go false false e rest h = ap (λ (b : Bool). b || is_among block (new_blocks xs ys)) e ∙ rest h

once-new : (xs ys : List BlockNo) → AreOnce ys → AreOnce (new_blocks xs ys)
once-new xs [] h = tt
once-new xs (y ∷ ys) h = go (is_among y xs) (once-new xs ys h.1)
  where
    go : (t : Bool) → AreOnce (new_blocks xs ys)
        → AreOnce (cond (not t) (y ∷ new_blocks xs ys) (new_blocks xs ys))
    go true rest = rest
    go false rest = (new-fewer xs ys y h.0, rest)

-- a tail with what it lacks of some blocks has each once
pub once-with_new : (tail blocks : List BlockNo) → AreOnce tail → AreOnce blocks
    → AreOnce (tail ++ new_blocks tail blocks)
once-with_new tail blocks h k =
    once-append tail (new_blocks tail blocks) h (once-new tail blocks k) (new-apart tail blocks)

-- ---- the contents of the tail

-- a content once the group's was taken in
abbrev taken_in : Option Content → Option Content → Option Content
taken_in new None = None
taken_in new (Some content) = Some (content_or new content)

newest_of-absorbed : (tail : List LogChange) (group : List (BlockNo × Content)) (block : ℕ)
    → newest_of (map (absorbed group) tail) block ≡ taken_in (newest_in group block) (newest_of tail block)
newest_of-absorbed [] group block = refl
newest_of-absorbed (x ∷ xs) group block =
    ap (λ o. or_else o (if nat_eq x.block.0 block then Some (content_or (newest_in group x.block.0) x.content)
    else None)) (newest_of-absorbed xs group block)
    ∙ go (newest_of xs block) (nat_eq x.block.0 block) refl
  where
    go : (later : Option Content) (t : Bool) → nat_eq x.block.0 block ≡ t
        → or_else (taken_in (newest_in group block) later) (if t
        then Some (content_or (newest_in group x.block.0) x.content) else None)
        ≡ taken_in (newest_in group block) (or_else later (if t then Some x.content else None))
    go (Some c) t e = refl
    go None true e = ap (λ n. Some (content_or (newest_in group n) x.content)) (eqb-true x.block.0 block e)
    go None false e = refl

newest_in-fresh : (tail : List BlockNo) (group : List (BlockNo × Content)) (block : ℕ)
    → newest_in (fresh tail group) block ≡ (if lacks tail block then newest_in group block else None)
newest_in-fresh tail [] block = go None (lacks tail block)
  where
    go : (o : Option Content) (t : Bool) → o ≡ (if t then o else o)
    go o true = refl
    go o false = refl
newest_in-fresh tail (change ∷ group) block =
    go (newest_in-fresh tail group block) (lacks tail change.0.0) refl (nat_eq change.0.0 block)
    refl (lacks tail block) refl
  where
    or_else-none : (o : Option Content) → or_else o None ≡ o
    or_else-none (Some c) = refl
    or_else-none None = refl

    go : newest_in (fresh tail group) block ≡ (if lacks tail block then newest_in group block else None)
        → (t : Bool) → lacks tail change.0.0 ≡ t → (same : Bool)
        → nat_eq change.0.0 block ≡ same → (u : Bool) → lacks tail block ≡ u
        → newest_in (cond t (change ∷ fresh tail group) (fresh tail group)) block
        ≡ (if u then or_else (newest_in group block) (if same then Some change.1 else None) else None)
    go rest true e same s true f =
        ap (λ b. or_else (newest_in (fresh tail group) block) (if b then Some change.1 else None)) s
        ∙ ap (λ o. or_else o (if same then Some change.1 else None)) (rest
        ∙ ap (λ (u : Bool). if u then newest_in group block else None) f)
    go rest true e true s false f =
        absurd (true≢false (sym e ∙ ap (λ n. lacks tail n) (eqb-true change.0.0 block s) ∙ f))
    go rest true e false s false f =
        ap (λ b. or_else (newest_in (fresh tail group) block) (if b then Some change.1 else None)) s
        ∙ or_else-none (newest_in (fresh tail group) block) ∙ rest
        ∙ ap (λ (u : Bool). if u then newest_in group block else None) f
    go rest false e true s true f =
        absurd (true≢false (sym f ∙ ap (λ n. lacks tail n) (sym (eqb-true change.0.0 block s)) ∙ e))
    go rest false e false s true f = rest ∙ ap (λ (u : Bool). if u then newest_in group block else None) f
        ∙ sym (or_else-none (newest_in group block))
    go rest false e same s false f = rest ∙ ap (λ (u : Bool). if u then newest_in group block else None) f

newest_of-tail : (tail : List LogChange) (places : ℕ) (group : List (BlockNo × Content)) (block : ℕ)
    → newest_of (tail_with tail (places + 1) group) block
    ≡ or_else (newest_in group block) (newest_of tail block)
newest_of-tail tail places group block =
    newest_of-append (map (absorbed group) tail) (changes_of (places + 1) (fresh (changed_blocks tail) group))
    block
    ∙ ap (λ o. or_else o (newest_of (map (absorbed group) tail) block))
    (newest_of-group (places + 1) 0 (fresh (changed_blocks tail) group) block
    ∙ newest_in-fresh (changed_blocks tail) group block
    ∙ ap (λ (t : Bool). if t then newest_in group block else None) (sym (newest-lacks tail block)))
    ∙ ap (λ o. or_else (if is_none (newest_of tail block) then newest_in group block else None) o)
    (newest_of-absorbed tail group block)
    ∙ go (newest_in group block) (newest_of tail block)
  where
    go : (new old : Option Content)
        → or_else (if is_none old then new else None) (taken_in new old) ≡ or_else new old
    go (Some c) (Some d) = refl
    go (Some c) None = refl
    go None (Some d) = refl
    go None None = refl

-- ---- its blocks

blocks-absorbed : (tail : List LogChange) (group : List (BlockNo × Content))
    → changed_blocks (map (absorbed group) tail) ≡ changed_blocks tail
blocks-absorbed [] group = refl
blocks-absorbed (x ∷ xs) group = ap (λ bs. x.block ∷ bs) (blocks-absorbed xs group)

blocks-group : (place : ℕ) (group : List (BlockNo × Content))
    → changed_blocks (changes_of place group) ≡ blocks_of group
blocks-group place [] = refl
blocks-group place (change ∷ group) = ap (λ bs. change.0 ∷ bs) (blocks-group place group)

pub blocks-fresh : (tail : List BlockNo) (group : List (BlockNo × Content))
    → blocks_of (fresh tail group) ≡ new_blocks tail (blocks_of group)
blocks-fresh tail [] = refl
blocks-fresh tail (change ∷ group) = go (not (is_among change.0 tail)) (blocks-fresh tail group)
  where
    go : (t : Bool) → blocks_of (fresh tail group) ≡ new_blocks tail (blocks_of group)
        → blocks_of (cond t (change ∷ fresh tail group) (fresh tail group))
        ≡ cond t (change.0 ∷ new_blocks tail (blocks_of group)) (new_blocks tail (blocks_of group))
    go true e = ap (λ bs. change.0 ∷ bs) e
    go false e = e

pub blocks-tail : (tail : List LogChange) (place : ℕ) (group : List (BlockNo × Content))
    → changed_blocks (tail_with tail place group)
    ≡ changed_blocks tail ++ new_blocks (changed_blocks tail) (blocks_of group)
blocks-tail tail place group =
    map-append (λ (change : LogChange). change.block) (map (absorbed group) tail)
    (changes_of place (fresh (changed_blocks tail) group))
    ∙ ap (λ bs. bs ++ changed_blocks (changes_of place (fresh (changed_blocks tail) group)))
    (blocks-absorbed tail group)
    ∙ ap (λ bs. changed_blocks tail ++ bs) (blocks-group place (fresh (changed_blocks tail) group)
    ∙ blocks-fresh (changed_blocks tail) group)

-- ---- its places

fresh-all : (group : List (BlockNo × Content)) → fresh [] group ≡ group
fresh-all [] = refl
fresh-all (change ∷ group) = ap (λ xs. change ∷ xs) (fresh-all group)

some_length : (n : ℕ) → nat_eq (suc n) 0 ≡ false
some_length n = ne_eqb (suc n) 0 (λ h. absurd (omega arith))

place_of : (leading tail : List LogChange) (places : ℕ) (group : List (BlockNo × Content))
    → place_before (leading ++ tail_with tail (places + 1) group) (places + 1)
    ≡ (if nat_eq (length (leading ++ tail)) 0 && nat_eq (length group) 0 then places + 1
    else place_before (leading ++ tail) places)
place_of [] [] places group =
    ap (λ g. place_before (changes_of (places + 1) g) (places + 1)) (fresh-all group)
    ∙ place_before-append [] places group
place_of [] (x ∷ xs) places group = rw (some_length (length xs)) refl
place_of (x ∷ xs) tail places group = rw (some_length (length (xs ++ tail))) refl

-- ---- the log

module _ (log : Log) (group : List (BlockNo × Content)) (h : IsLawful log) where
  abbrev leading : List LogChange
  leading = take (log.logged + log.taken) log.changes

  abbrev tail : List LogChange
  tail = drop (log.logged + log.taken) log.changes

  abbrev new : List LogChange
  new = tail_with tail (log.places + 1) group

  whole : leading ++ tail ≡ log.changes
  whole = take-append-drop (log.logged + log.taken) log.changes

  pub leading_length : length leading ≡ log.logged + log.taken
  leading_length = length-take-le (log.logged + log.taken) log.changes h.taken_within

  within : (count : ℕ) → count ≤ log.logged + log.taken → count ≤ length leading
  within count le = omega (arith, leading_length)

  split : (count : ℕ) → count ≤ log.logged + log.taken → drop count (leading ++ new) ≡ drop count leading ++ new
  split count le = drop-append-le count leading new (within count le)

  was : (count : ℕ) → count ≤ log.logged + log.taken → drop count log.changes ≡ drop count leading ++ tail
  was count le = ap (λ xs. drop count xs) (sym whole) ∙ drop-append-le count leading tail (within count le)

  pub committed_tail : All IsCommitted tail
  committed_tail = subst (λ xs. All IsCommitted xs) (drop-drop log.taken log.logged log.changes)
      (All-drop IsCommitted log.taken (drop log.logged log.changes) h.committed)

  none_old : recovered tail ≡ []
  none_old = recovered-committed tail committed_tail

  none_new : recovered new ≡ []
  none_new = recovered-append (map (absorbed group) tail)
      (changes_of (log.places + 1) (fresh (changed_blocks tail) group))
      ∙ append_nothing (recovered (map (absorbed group) tail))
      (recovered (changes_of (log.places + 1) (fresh (changed_blocks tail) group)))
      (recovered-group log.places (fresh (changed_blocks tail) group))
      ∙ recovered-committed (map (absorbed group) tail)
      (All-map IsCommitted (absorbed group) tail committed_tail)

  pub grows : GrowsBy log group (with_group log group)
  grows = record {
    places = refl;
    installing = refl;
    logged = refl;
    taken = refl;
    leading = λ count le. take-append-le count leading new (within count le)
        ∙ sym (take-append-le count leading tail (within count le)) ∙ ap (take count) whole;
    behind = λ count le block. ap (λ xs. newest_of xs block) (split count le)
        ∙ newest_of-append (drop count leading) new block
        ∙ ap (λ o. or_else o (newest_of (drop count leading) block))
        (newest_of-tail tail log.places group block)
        ∙ sym (or_else-assoc (newest_in group block) (newest_of tail block)
        (newest_of (drop count leading) block))
        ∙ ap (λ o. or_else (newest_in group block) o) (sym (newest_of-append (drop count leading) tail block)
        ∙ ap (λ xs. newest_of xs block) (sym (was count le)));
    place = λ count le. ap (λ xs. place_before xs (log.places + 1)) (split count le)
        ∙ place_of (drop count leading) tail log.places group
        ∙ ap (λ xs. if nat_eq (length xs) 0 && nat_eq (length group) 0 then log.places + 1
        else place_before xs log.places) (sym (was count le));
    opened = λ count le. ap recovered (split count le) ∙ recovered-append (drop count leading) new
        ∙ append_nothing (recovered (drop count leading)) (recovered new) none_new
        ∙ sym (append_nothing (recovered (drop count leading)) (recovered tail) none_old)
        ∙ sym (recovered-append (drop count leading) tail) ∙ ap recovered (sym (was count le));
  }

  -- the tail has the blocks more that it lacked
  pub tail_is : tail_blocks (with_group log group)
      ≡ tail_blocks log ++ new_blocks (tail_blocks log) (blocks_of group)
  tail_is = ap changed_blocks (drop-append-le (log.logged + log.taken) leading new (omega (arith, leading_length))
      ∙ ap (λ xs. xs ++ new) (drop_all (log.logged + log.taken) leading (omega (arith, leading_length))))
      ∙ blocks-tail tail (log.places + 1) group

  pub count_is : length (with_group log group).changes
      ≡ length log.changes + added_blocks log (blocks_of group)
  count_is =
      let a = length-append leading new in
      let c = ap length (blocks-tail tail (log.places + 1) group) in
      let d = length-map new (λ (change : LogChange). change.block) in
      let e = length-map tail (λ (change : LogChange). change.block) in
      let f = length-append (changed_blocks tail) (new_blocks (changed_blocks tail) (blocks_of group)) in
      let g = ap length whole in
      let i = length-append leading tail in
      omega (arith, a, c, d, e, f, g, i)
