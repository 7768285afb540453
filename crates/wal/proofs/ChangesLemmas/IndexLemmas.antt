-- Lemmas on the index over changes.
use Rattle.std.proofs.Common.{◌≡◌, ◌≢◌, ℕ, zero, suc, ◌+◌, ◌-◌, ◌<◌, ◌≤◌, List, [], ◌∷◌, ◌++◌, length, take, drop, get_or}
use Rattle.std.proofs.Common.{Option, Some, None, refl, sym, ap, ◌∙◌, arith, subst, nat_eq, true, false, inl, inr}
use Rattle.std.specs.Prelude.{slice_index, slice_set, is_some}
use Rattle.std.proofs.lemmas.Bool.{false≢true, cases_eq, cases_lt, ne_eqb, eq-eqb, lt-ltb, le-ltb}
use Rattle.std.proofs.lemmas.List.{get_or_append_left, get_or_push, length_push, length-set, get_or-set_same, get_or-set_other}
use Rattle.std.proofs.lemmas.List.{get_or-drop, length-drop, get_or-map, get_or-take, length-take-le, length-map, get_or_default, get_or_past}
use Rattle.circ.specs.declared.log.change.LogChange.{LogChange}
use Rattle.disk.specs.Device.{Content}
use Rattle.circ.specs.Log.Installer.{passed_over}
use Rattle.circ.specs.Log.Log.{newest_of, or_else}
use Rattle.circ.proofs.LogLemmas.Newest.{passed_over-within}
use Rattle.wal.specs.Changes.Index.{IsNewest, IsNext, IsIndex, numbers, followed}

-- no change of a block is there
pub none_there : (xs : List LogChange) (block : ℕ)
    → ((k : ℕ) → k < length xs → slice_index (numbers xs) k ≢ block) → newest_of xs block ≡ None
none_there [] block h = refl
none_there (x ∷ xs) block h =
    let rest : newest_of xs block ≡ None = none_there xs block (λ k l. h (suc k) (omega (arith, l))) in
    let here : nat_eq x.block.0 block ≡ false = ne_eqb x.block.0 block (h zero (omega arith)) in
    rw (rest, here) refl

-- the last change of a block is there
pub last_there : (xs : List LogChange) (block i : ℕ) (d : LogChange) → i < length xs
    → slice_index (numbers xs) i ≡ block
    → ((k : ℕ) → i < k → k < length xs → slice_index (numbers xs) k ≢ block)
    → newest_of xs block ≡ Some (get_or xs i d).content
last_there [] block i d l e h = absurd (omega (arith, l))
last_there (x ∷ xs) block zero d l e h =
    let rest : newest_of xs block ≡ None =
    none_there xs block (λ k m. h (suc k) (omega arith) (omega (arith, m))) in
    let here : nat_eq x.block.0 block ≡ true = eq-eqb x.block.0 block e in
    rw (rest, here) refl
last_there (x ∷ xs) block (suc i) d l e h =
    let rest : newest_of xs block ≡ Some (get_or xs i d).content =
    last_there xs block i d (omega (arith, l)) e (λ k m n. h (suc k) (omega (arith, m)) (omega (arith, n))) in
    rw rest refl

either : (o : Option Content) (content : Content) → is_some (or_else o (Some content)) ≡ true
either (Some other) content = refl
either None content = refl

first : (o other : Option Content) → is_some o ≡ true → is_some (or_else o other) ≡ true
first (Some content) other h = refl
first None other h = absurd (false≢true h)

-- a change of a block is there
pub some_there : (xs : List LogChange) (block i : ℕ) → i < length xs → slice_index (numbers xs) i ≡ block
    → is_some (newest_of xs block) ≡ true
some_there [] block i l e = absurd (omega (arith, l))
some_there (x ∷ xs) block zero l e =
    let here : nat_eq x.block.0 block ≡ true = eq-eqb x.block.0 block e in
    rw here (either (newest_of xs block) x.content)
some_there (x ∷ xs) block (suc i) l e =
    let rest : is_some (newest_of xs block) ≡ true = some_there xs block i (omega (arith, l)) e in
    first (newest_of xs block) _ rest

-- what the old index says of a block, once a change of another comes
pub newest_stays : (start : ℕ) (list : List ℕ) (block other name : ℕ) → IsNewest start list other name
    → (other ≡ block → ⊥) → IsNewest start (list ++ block ∷ []) other name
newest_stays start list block other name is ne =
    let len : length (list ++ block ∷ []) ≡ length list + 1 = length_push list block in
    record {
      within = (let w = is.within in omega (arith, len, w));
      there = λ h.
          (let w = is.within in
          get_or_append_left list (block ∷ []) 0 (name - start - 1) (omega (arith, h, w)) ∙ is.there h);
      last = λ k from l e.
          elim (cases_lt k (length list)) [
            | inl m ↦ is.last k from m (sym (get_or_append_left list (block ∷ []) 0 k m) ∙ e)
            | inr m ↦ ne (sym e ∙ get_or_push list block 0 k (omega (arith, l, m, len)))
          ];
    }

-- and of that block
pub newest_comes : (start : ℕ) (list : List ℕ) (block : ℕ)
    → IsNewest start (list ++ block ∷ []) block (start + length list + 1)
newest_comes start list block =
    let len : length (list ++ block ∷ []) ≡ length list + 1 = length_push list block in
    record {
      within = omega (arith, len);
      there = λ h. get_or_push list block 0 (start + length list + 1 - start - 1) (omega arith);
      last = λ k from l e. absurd (omega (arith, from, l, len));
    }

-- a change that is followed by none, where it isn't the last of the block
pub next_stays : (start : ℕ) (list : List ℕ) (block before i name : ℕ) → i < length list
    → IsNewest start list block before → IsNext start list i name
    → (start < before → i ≡ before - start - 1 → ⊥)
    → IsNext start (list ++ block ∷ []) i name
next_stays start list block before i name in_list newest next other =
    let len : length (list ++ block ∷ []) ≡ length list + 1 = length_push list block in
    let at : (k : ℕ) → k < length list → slice_index (list ++ block ∷ []) k ≡ slice_index list k =
    λ k l. get_or_append_left list (block ∷ []) 0 k l in
    let apart : (name ≡ 0) → slice_index list i ≡ block → ⊥ = λ none same.
    elim (cases_lt (start + i) before) [
      | inl m ↦
          let w = newest.within in
          let p : start < before = omega (arith, m) in
          let ne : i ≡ before - start - 1 → ⊥ = other p in
          next.between (before - start - 1) (omega (arith, m, ne)) (omega (arith, w, p))
          (λ h. absurd (omega (arith, h, none))) (newest.there p ∙ sym same)
      | inr m ↦ newest.last i m in_list same
    ] in
    record {
      within = (let w = next.within in omega (arith, w, len));
      later = next.later;
      there = λ h.
          (let w = next.within in let l = next.later h in
          at (name - start - 1) (omega (arith, w, l)) ∙ next.there h ∙ sym (at i in_list));
      between = λ k more l before_next e.
          elim (cases_lt k (length list)) [
            | inl m ↦ next.between k more m before_next (sym (at k m) ∙ e ∙ at i in_list)
            | inr m ↦
                let w = next.within in
                let none : name ≡ 0 =
                elim (cases_lt 0 name) as (λ _. name ≡ 0) [
                  | inl h ↦ absurd (let b = before_next h in omega (arith, b, w, m))
                  | inr h ↦ omega (arith, h)
                ] in
                let new : slice_index (list ++ block ∷ []) k ≡ block =
                get_or_push list block 0 k (omega (arith, l, m, len)) in
                apart none (sym (at i in_list) ∙ sym e ∙ new)
          ];
    }

-- the change that was the last of the block is followed by the new one
pub next_comes : (start : ℕ) (list : List ℕ) (block before : ℕ) → IsNewest start list block before
    → start < before
    → IsNext start (list ++ block ∷ []) (before - start - 1) (start + length list + 1)
next_comes start list block before newest h =
    let len : length (list ++ block ∷ []) ≡ length list + 1 = length_push list block in
    let w = newest.within in
    let i : ℕ = before - start - 1 in
    let in_list : i < length list = omega (arith, w, h) in
    let here : slice_index (list ++ block ∷ []) i ≡ block =
    get_or_append_left list (block ∷ []) 0 i in_list ∙ newest.there h in
    record {
      within = omega (arith, len);
      later = λ _. omega (arith, in_list, h);
      there = λ _. get_or_push list block 0 (start + length list + 1 - start - 1) (omega arith) ∙ sym here;
      between = λ k more l before_next e.
          (let b = before_next (omega arith) in
          let m : k < length list = omega (arith, b) in
          newest.last k (omega (arith, more, h)) m
          (sym (get_or_append_left list (block ∷ []) 0 k m) ∙ e ∙ here));
    }

-- the new change is followed by none
pub next_none : (start : ℕ) (list : List ℕ) (block : ℕ) → IsNext start (list ++ block ∷ []) (length list) 0
next_none start list block =
    let len : length (list ++ block ∷ []) ≡ length list + 1 = length_push list block in
    record {
      within = omega arith;
      later = λ h. absurd (omega (arith, h));
      there = λ h. absurd (omega (arith, h));
      between = λ k more l before_next e. absurd (omega (arith, more, l, len));
    }

pub length-followed : (start : ℕ) (behind : List ℕ) (before name : ℕ)
    → length (followed start behind before name) ≡ length behind
length-followed start behind before name =
    elim (cases_lt start before) as (λ _. length (followed start behind before name) ≡ length behind) [
      | inl h ↦ rw (lt-ltb start before h) (length-set behind (before - start - 1) name)
      | inr h ↦ rw (le-ltb start before h) refl
    ]

-- of each change before the new one, what follows it
next_followed : (start : ℕ) (list newest behind : List ℕ) (block i : ℕ) → IsIndex start list newest behind
    → block < length newest → i < length list
    → IsNext start (list ++ block ∷ []) i
    (slice_index (followed start behind (slice_index newest block) (start + length list + 1)) i)
next_followed start list newest behind block i is home in_list =
    let before : ℕ = slice_index newest block in
    let name : ℕ = start + length list + 1 in
    let old : IsNewest start list block before = is.of_block block home in
    let each = is.each in
    let w = old.within in
    elim (cases_lt start before) as (λ _. IsNext start (list ++ block ∷ []) i
    (slice_index (followed start behind before name) i)) [
      | inl h ↦
          let set_is : followed start behind before name ≡ slice_set behind (before - start - 1) name =
          rw (lt-ltb start before h) refl in
          subst (λ (names : List ℕ). IsNext start (list ++ block ∷ []) i (slice_index names i)) (sym set_is)
          (elim (cases_eq i (before - start - 1)) as (λ _. IsNext start (list ++ block ∷ []) i
          (slice_index (slice_set behind (before - start - 1) name) i)) [
            | inl e ↦
                let same : slice_index (slice_set behind (before - start - 1) name) i ≡ name =
                ap (λ (n : ℕ). slice_index (slice_set behind (before - start - 1) name) n) e
                ∙ get_or-set_same behind (before - start - 1) name 0 (omega (arith, w, h, each)) in
                subst (λ (n : ℕ). IsNext start (list ++ block ∷ []) i n) (sym same)
                (subst (λ (n : ℕ). IsNext start (list ++ block ∷ []) n name) (sym e)
                (next_comes start list block before old h))
            | inr ne ↦
                subst (λ (n : ℕ). IsNext start (list ++ block ∷ []) i n)
                (sym (get_or-set_other behind (before - start - 1) i name 0 ne))
                (next_stays start list block before i (slice_index behind i) in_list old (is.of_change i in_list)
                (λ _ e. ne e))
          ])
      | inr h ↦
          let same : followed start behind before name ≡ behind = rw (le-ltb start before h) refl in
          subst (λ (names : List ℕ). IsNext start (list ++ block ∷ []) i (slice_index names i)) (sym same)
          (next_stays start list block before i (slice_index behind i) in_list old (is.of_change i in_list)
          (λ p e. absurd (omega (arith, p, h))))
    ]

-- one change more
pub pushed : (start : ℕ) (list newest behind : List ℕ) (block : ℕ) → IsIndex start list newest behind
    → block < length newest
    → IsIndex start (list ++ block ∷ []) (slice_set newest block (start + length list + 1))
    (followed start behind (slice_index newest block) (start + length list + 1) ++ 0 ∷ [])
pushed start list newest behind block is home =
    let name : ℕ = start + length list + 1 in
    let before : ℕ = slice_index newest block in
    let len : length (list ++ block ∷ []) ≡ length list + 1 = length_push list block in
    let size : length (slice_set newest block name) ≡ length newest = length-set newest block name in
    let old : IsNewest start list block before = is.of_block block home in
    let each = is.each in
    let linked : List ℕ = followed start behind before name in
    let links : length linked ≡ length behind = length-followed start behind before name in
    let all : length (linked ++ 0 ∷ []) ≡ length linked + 1 = length_push linked 0 in
    record {
      homes = λ k l.
          elim (cases_lt k (length list)) as (λ _. slice_index (list ++ block ∷ []) k < length (slice_set newest block name)) [
            | inl m ↦
                let e : slice_index (list ++ block ∷ []) k ≡ slice_index list k =
                get_or_append_left list (block ∷ []) 0 k m in
                let h = is.homes k m in omega (arith, e, h, size)
            | inr m ↦
                let e : slice_index (list ++ block ∷ []) k ≡ block =
                get_or_push list block 0 k (omega (arith, l, m, len)) in
                omega (arith, e, home, size)
          ];
      each = omega (arith, all, links, len, each);
      of_block = λ other l.
          elim (cases_eq other block) as (λ _. IsNewest start (list ++ block ∷ []) other (slice_index (slice_set newest block name) other)) [
            | inl e ↦
                let same : slice_index (slice_set newest block name) other ≡ name =
                ap (λ (n : ℕ). slice_index (slice_set newest block name) n) e
                ∙ get_or-set_same newest block name 0 home in
                subst (λ (n : ℕ). IsNewest start (list ++ block ∷ []) other n) (sym same)
                (subst (λ (n : ℕ). IsNewest start (list ++ block ∷ []) n name) (sym e) (newest_comes start list block))
            | inr ne ↦
                let same : slice_index (slice_set newest block name) other ≡ slice_index newest other =
                get_or-set_other newest block other name 0 ne in
                subst (λ (n : ℕ). IsNewest start (list ++ block ∷ []) other n) (sym same)
                (newest_stays start list block other (slice_index newest other)
                (is.of_block other (omega (arith, l, size))) ne)
          ];
      of_change = λ i l.
          elim (cases_lt i (length list)) as (λ _. IsNext start (list ++ block ∷ []) i (slice_index (linked ++ 0 ∷ []) i)) [
            | inl m ↦
                subst (λ (n : ℕ). IsNext start (list ++ block ∷ []) i n)
                (sym (get_or_append_left linked (0 ∷ []) 0 i (omega (arith, m, links, each))))
                (next_followed start list newest behind block i is home m)
            | inr m ↦
                let e : i ≡ length list = omega (arith, l, m, len) in
                let none : slice_index (linked ++ 0 ∷ []) i ≡ 0 =
                get_or_push linked 0 0 i (omega (arith, e, links, each)) in
                subst (λ (n : ℕ). IsNext start (list ++ block ∷ []) i n) (sym none)
                (subst (λ (n : ℕ). IsNext start (list ++ block ∷ []) n 0) (sym e) (next_none start list block))
          ];
    }

index_of : (start count name : ℕ) → start + count < name → count + (name - (start + count) - 1) ≡ name - start - 1
index_of start count name h = omega (arith, h)

next_taken : (start count : ℕ) (list : List ℕ) (name i : ℕ) → count ≤ length list → count + i < length list
    → IsNext start list (count + i) name → IsNext (start + count) (drop count list) i name
next_taken start count list name i fits in_list next =
    let len : length (drop count list) ≡ length list - count = length-drop count list in
    let at : (k : ℕ) → slice_index (drop count list) k ≡ slice_index list (count + k) =
    λ k. get_or-drop count list k 0 in
    let w = next.within in
    record {
      within = omega (arith, w, len, fits);
      later = λ h. (let l = next.later h in omega (arith, l));
      there = λ h.
          (let l = next.later h in
          at (name - (start + count) - 1)
          ∙ ap (λ (n : ℕ). slice_index list n) (index_of start count name (omega (arith, l)))
          ∙ next.there h ∙ sym (at i));
      between = λ k more m before_next e.
          next.between (count + k) (omega (arith, more)) (omega (arith, m, len))
          (λ h. (let b = before_next h in omega (arith, b))) (sym (at k) ∙ e ∙ at i);
    }

-- the first changes are let go
pub taken_out : (start count : ℕ) (list newest behind : List ℕ) → IsIndex start list newest behind
    → count ≤ length list
    → IsIndex (start + count) (drop count list) newest (drop count behind)
taken_out start count list newest behind is fits =
    let len : length (drop count list) ≡ length list - count = length-drop count list in
    let names : length (drop count behind) ≡ length behind - count = length-drop count behind in
    let each = is.each in
    let at : (k : ℕ) → slice_index (drop count list) k ≡ slice_index list (count + k) = λ k. get_or-drop count list k 0 in
    record {
      homes = λ k l. rw (at k) (is.homes (count + k) (omega (arith, l, len)));
      each = omega (arith, len, names, each);
      of_block = λ block l.
          (let old = is.of_block block l in
          let w = old.within in
          record {
            within = omega (arith, w, len, fits);
            there = λ h.
                at (slice_index newest block - (start + count) - 1)
                ∙ ap (λ (n : ℕ). slice_index list n) (index_of start count (slice_index newest block) h)
                ∙ old.there (omega (arith, h));
            last = λ k from m e. old.last (count + k) (omega (arith, from)) (omega (arith, m, len)) (sym (at k) ∙ e);
          });
      of_change = λ i l.
          (let in_list : count + i < length list = omega (arith, l, len) in
          subst (λ (n : ℕ). IsNext (start + count) (drop count list) i n) (sym (get_or-drop count behind i 0))
          (next_taken start count list (slice_index behind (count + i)) i fits in_list
          (is.of_change (count + i) in_list)));
    }

-- a block past the table has no change
pub of_any : (start : ℕ) (list newest behind : List ℕ) (block : ℕ) → IsIndex start list newest behind
    → IsNewest start list block (slice_index newest block)
of_any start list newest behind block is =
    elim (cases_lt block (length newest)) as (λ _. IsNewest start list block (slice_index newest block)) [
      | inl h ↦ is.of_block block h
      | inr h ↦
          let none : slice_index newest block ≡ 0 = get_or_past newest block 0 h in
          record {
            within = omega (arith, none);
            there = λ there. absurd (omega (arith, none, there));
            last = λ k from l e. (let home = is.homes k l in absurd (omega (arith, home, e, h)));
          }
    ]

-- what the index finds is what a search of the list finds
pub found : (start : ℕ) (changes : List LogChange) (block name : ℕ) (d : LogChange)
    → IsNewest start (numbers changes) block name → start < name
    → newest_of changes block ≡ Some (get_or changes (name - start - 1) d).content
found start changes block name d is h =
    let len : length (numbers changes) ≡ length changes = length-map changes _ in
    let w = is.within in
    last_there changes block (name - start - 1) d (omega (arith, w, h, len)) (is.there h)
    (λ k more l. is.last k (omega (arith, more, h)) (omega (arith, l, len)))

pub not_found : (start : ℕ) (changes : List LogChange) (block name : ℕ)
    → IsNewest start (numbers changes) block name → name ≤ start → newest_of changes block ≡ None
not_found start changes block name is h =
    let len : length (numbers changes) ≡ length changes = length-map changes _ in
    none_there changes block (λ k l. is.last k (omega (arith, h)) (omega (arith, l, len)))

-- the numbers of some of the changes
numbers-within : (changes : List LogChange) (end i k : ℕ) → end ≤ length changes → i + k < end
    → slice_index (numbers (drop i (take end changes))) k ≡ slice_index (numbers changes) (i + k)
numbers-within changes end i k fits l =
    let d : LogChange = get_or changes (i + k) (record { place = 0; block = record { 0 = 0 }; content = [] }) in
    let n : length (take end changes) ≡ end = length-take-le end changes fits in
    let m : length (drop i (take end changes)) ≡ length (take end changes) - i = length-drop i (take end changes) in
    get_or-map (λ (change : LogChange). change.block.0) (drop i (take end changes)) k d 0 (omega (arith, n, m, l))
    ∙ ap (λ (change : LogChange). change.block.0) (get_or-drop i (take end changes) k d ∙ get_or-take end changes (i + k) d l)
    ∙ sym (get_or-map (λ (change : LogChange). change.block.0) changes (i + k) d 0 (omega (arith, l, fits)))

-- among the changes up to an end, whether one of the block follows
pub none_follows : (start : ℕ) (changes : List LogChange) (end i name : ℕ) → end ≤ length changes → i < end
    → IsNext start (numbers changes) i name → (0 < name → start + end < name)
    → newest_of (drop (i + 1) (take end changes)) (slice_index (numbers changes) i) ≡ None
none_follows start changes end i name fits l next past =
    let len : length (numbers changes) ≡ length changes = length-map changes _ in
    let n : length (take end changes) ≡ end = length-take-le end changes fits in
    let m : length (drop (i + 1) (take end changes)) ≡ length (take end changes) - (i + 1) =
    length-drop (i + 1) (take end changes) in
    none_there (drop (i + 1) (take end changes)) (slice_index (numbers changes) i)
    (λ k h e. (
    let inside : i + 1 + k < end = omega (arith, h, n, m) in
    next.between (i + 1 + k) (omega arith) (omega (arith, inside, len, fits))
    (λ p. (let q = past p in omega (arith, q, inside)))
    (sym (numbers-within changes end (i + 1) k fits inside) ∙ e)))

pub one_follows : (start : ℕ) (changes : List LogChange) (end i name : ℕ) → end ≤ length changes → i < end
    → IsNext start (numbers changes) i name → 0 < name → name ≤ start + end
    → is_some (newest_of (drop (i + 1) (take end changes)) (slice_index (numbers changes) i)) ≡ true
one_follows start changes end i name fits l next some before =
    let n : length (take end changes) ≡ end = length-take-le end changes fits in
    let m : length (drop (i + 1) (take end changes)) ≡ length (take end changes) - (i + 1) =
    length-drop (i + 1) (take end changes) in
    let later = next.later some in
    let k : ℕ = name - start - 1 - (i + 1) in
    let is : i + 1 + k ≡ name - start - 1 = omega (arith, later) in
    some_there (drop (i + 1) (take end changes)) (slice_index (numbers changes) i) k (omega (arith, n, m, later, before))
    (numbers-within changes end (i + 1) k fits (omega (arith, later, before))
    ∙ ap (λ (j : ℕ). slice_index (numbers changes) j) is ∙ next.there some)

pub numbers-drop : (n : ℕ) (xs : List LogChange) → numbers (drop n xs) ≡ drop n (numbers xs)
numbers-drop zero xs = refl
numbers-drop (suc n) [] = refl
numbers-drop (suc n) (x ∷ xs) = numbers-drop n xs

-- no change
nothing : LogChange
nothing = record { place = 0; block = record { 0 = 0 }; content = [] }

block_at : (changes : List LogChange) (i : ℕ) (d : LogChange) → i < length changes
    → slice_index (numbers changes) i ≡ (get_or changes i d).block.0
block_at changes i d l = get_or-map (λ (change : LogChange). change.block.0) changes i d 0 l

pub pass_over : (start : ℕ) (changes : List LogChange) (end i name : ℕ) → end ≤ length changes → i < end
    → IsNext start (numbers changes) i name → 0 < name → name ≤ start + end
    → passed_over (drop i (take end changes)) ≡ 1 + passed_over (drop (i + 1) (take end changes))
pass_over start changes end i name fits l next some before =
    let in_list : i < length changes = omega (arith, l, fits) in
    let x : LogChange = get_or changes i nothing in
    let e : x ≡ get_or changes i x = get_or_default changes i nothing x in_list in
    let at : slice_index (numbers changes) i ≡ x.block.0 = block_at changes i nothing in_list in
    let follows : is_some (newest_of (drop (i + 1) (take end changes)) x.block.0) ≡ true =
    subst (λ (block : ℕ). is_some (newest_of (drop (i + 1) (take end changes)) block) ≡ true) at
    (one_follows start changes end i name fits l next some before) in
    passed_over-within changes end i x fits l e ∙ rw follows refl

pub newest_ends_at : (start : ℕ) (changes : List LogChange) (end i name : ℕ) → end ≤ length changes → i < end
    → IsNext start (numbers changes) i name → (0 < name → start + end < name)
    → passed_over (drop i (take end changes)) ≡ 0
newest_ends_at start changes end i name fits l next past =
    let in_list : i < length changes = omega (arith, l, fits) in
    let x : LogChange = get_or changes i nothing in
    let e : x ≡ get_or changes i x = get_or_default changes i nothing x in_list in
    let at : slice_index (numbers changes) i ≡ x.block.0 = block_at changes i nothing in_list in
    let none : newest_of (drop (i + 1) (take end changes)) x.block.0 ≡ None =
    subst (λ (block : ℕ). newest_of (drop (i + 1) (take end changes)) block ≡ None) at
    (none_follows start changes end i name fits l next past) in
    passed_over-within changes end i x fits l e ∙ rw none refl

-- whether the newest change of a block stands at an index or behind it
pub stands_behind : (start : ℕ) (changes : List LogChange) (block from name : ℕ) → from ≤ length changes
    → IsNewest start (numbers changes) block name → start + from < name
    → is_some (newest_of (drop from changes) block) ≡ true
stands_behind start changes block from name fits is h =
    let len : length (numbers changes) ≡ length changes = length-map changes _ in
    let left : length (drop from changes) ≡ length changes - from = length-drop from changes in
    let w = is.within in
    let k : ℕ = name - start - 1 - from in
    let at : from + k ≡ name - start - 1 = omega (arith, h) in
    some_there (drop from changes) block k (omega (arith, len, left, w, h))
    (ap (λ (ns : List ℕ). slice_index ns k) (numbers-drop from changes)
    ∙ get_or-drop from (numbers changes) k 0 ∙ ap (λ (j : ℕ). slice_index (numbers changes) j) at ∙ is.there (omega (arith, h)))

pub stands_before : (start : ℕ) (changes : List LogChange) (block from name : ℕ) → from ≤ length changes
    → IsNewest start (numbers changes) block name → name ≤ start + from
    → newest_of (drop from changes) block ≡ None
stands_before start changes block from name fits is h =
    let len : length (numbers changes) ≡ length changes = length-map changes _ in
    let left : length (drop from changes) ≡ length changes - from = length-drop from changes in
    none_there (drop from changes) block
    (λ k l e. is.last (from + k) (omega (arith, h)) (omega (arith, l, left, len))
    (sym (get_or-drop from (numbers changes) k 0)
    ∙ sym (ap (λ (ns : List ℕ). slice_index ns k) (numbers-drop from changes)) ∙ e))
