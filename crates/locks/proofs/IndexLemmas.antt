-- Lemmas on the index over holds.
use Rattle.std.proofs.Common.{◌≡◌, ◌≢◌, ℕ, zero, suc, ◌+◌, ◌-◌, ◌<◌, ◌≤◌, List, [], ◌∷◌, ◌++◌, length, inl, inr}
use Rattle.std.proofs.Common.{refl, sym, ap, ◌∙◌, arith, subst, slice_index, get_or, take, cond, Bool, true, false}
use Rattle.std.specs.Prelude.{slice_set}
use Rattle.std.specs.List.{filter}
use Rattle.std.proofs.lemmas.Bool.{cases_eq, cases_lt}
use Rattle.std.proofs.lemmas.List.{get_or_append_left, get_or_push, length_push, length-map, get_or-set_same}
use Rattle.std.proofs.lemmas.List.{get_or-set_other, map-append, length-set, take_more, length-take-le, get_or-take}
use Rattle.txn_law.specs.declared.hold.Hold.{Hold}
use Rattle.locks.specs.Index.{AreHomed, IsBefore, IsIndex, IsLast, IsSame, numbers}

pub numbers-length : (holds : List Hold) → length (numbers holds) ≡ length holds
numbers-length holds = length-map holds (λ (hold : Hold). hold.addr.block.0)

pub numbers-push : (holds : List Hold) (hold : Hold) → numbers (holds ++ hold ∷ []) ≡ numbers holds ++ hold.addr.block.0 ∷ []
numbers-push holds hold = map-append (λ (one : Hold). one.addr.block.0) holds (hold ∷ [])

pub numbers-at : (holds : List Hold) (k : ℕ) (d : Hold) → k < length holds
    → slice_index (numbers holds) k ≡ (get_or holds k d).addr.block.0
numbers-at [] k d lt = absurd (omega (arith, lt))
numbers-at (x ∷ xs) zero d lt = refl
numbers-at (x ∷ xs) (suc k) d lt = numbers-at xs k d (omega (arith, lt))

-- no hold, no names
pub none_yet : (last : List ℕ) → IsIndex [] last []
none_yet last = record {
  homed = λ k lt. absurd (omega (arith, lt));
  each = refl;
  of_block = λ k lt. absurd (omega (arith, lt));
  of_hold = λ k lt. absurd (omega (arith, lt));
}

-- what stands at a block, where a hold of it stands there
pub is_last : (list last before : List ℕ) (block name : ℕ) → IsIndex list last before
    → name ≡ slice_index last block → 0 < name → name ≤ length list → slice_index list (name - 1) ≡ block
    → IsLast list block name
is_last list last before block name index tracked some within there = record {
  within = within;
  there = λ _. there;
  last = λ k from lt e. (
      let same = index.of_block k lt in
      let later : k < slice_index last block = subst (λ (b : ℕ). k < slice_index last b) e same.later in
      absurd (omega (arith, later, tracked, from)));
}

-- and where none does
pub is_none : (list last before : List ℕ) (block name : ℕ) → IsIndex list last before
    → name ≡ slice_index last block
    → (0 < name → name ≤ length list → slice_index list (name - 1) ≡ block → ⊥) → IsLast list block 0
is_none list last before block name index tracked never = record {
  within = omega arith;
  there = λ some. absurd (omega (arith, some));
  last = λ k from lt e. (
      let same = index.of_block k lt in
      let at : slice_index last (slice_index list k) ≡ name = ap (λ (b : ℕ). slice_index last b) e ∙ sym tracked in
      let later = same.later in
      let within = same.within in
      never (omega (arith, later, at)) (omega (arith, within, at))
      (subst (λ (n : ℕ). slice_index list (n - 1) ≡ block) at (same.there ∙ e)));
}

-- more names, of which those that there were are the same
pub reached : (list last other before : List ℕ) → IsIndex list last before
    → ((number : ℕ) → slice_index other number ≡ slice_index last number) → length last ≤ length other
    → IsIndex list other before
reached list last other before index same more = record {
  homed = λ k lt. (let h = index.homed k lt in omega (arith, h, more));
  each = index.each;
  of_block = λ k lt.
      subst (λ (n : ℕ). IsSame list k n) (sym (same (slice_index list k))) (index.of_block k lt);
  of_hold = index.of_hold;
}

-- one hold more
pub pushed : (list last before : List ℕ) (block name : ℕ) → IsIndex list last before → IsLast list block name
    → block < length last
    → IsIndex (list ++ block ∷ []) (slice_set last block (length list + 1)) (before ++ name ∷ [])
pushed list last before block name index is home =
    let len : length (list ++ block ∷ []) ≡ length list + 1 = length_push list block in
    let long : length (slice_set last block (length list + 1)) ≡ length last = length-set last block (length list + 1) in
    let names : length (before ++ name ∷ []) ≡ length before + 1 = length_push before name in
    let each = index.each in
    let old : (k : ℕ) → k < length list → slice_index (list ++ block ∷ []) k ≡ slice_index list k =
    λ k lt. get_or_append_left list (block ∷ []) 0 k lt in
    let new : (k : ℕ) → k < length (list ++ block ∷ []) → length list ≤ k → slice_index (list ++ block ∷ []) k ≡ block =
    λ k lt le. get_or_push list block 0 k (omega (arith, lt, le, len)) in
    let end : slice_index (list ++ block ∷ []) (length list) ≡ block =
    get_or_push list block 0 (length list) refl in
    let here : slice_index (slice_set last block (length list + 1)) block ≡ length list + 1 =
    get_or-set_same last block (length list + 1) 0 home in
    let comes : (k : ℕ) → k < length (list ++ block ∷ []) → slice_index (list ++ block ∷ []) k ≡ block
    → IsSame (list ++ block ∷ []) k (length list + 1) = λ k lt e. record {
      later = omega (arith, lt, len);
      within = omega (arith, len);
      there = (let one : length list + 1 - 1 ≡ length list = omega arith in rw one (end ∙ sym e));
    } in
    record {
      homed = λ k lt.
          elim (cases_lt k (length list)) as (λ _. slice_index (list ++ block ∷ []) k
          < length (slice_set last block (length list + 1))) [
            | inl less ↦ (let h = index.homed k less in let e = old k less in omega (arith, h, e, long))
            | inr more ↦ (let e = new k lt more in omega (arith, home, e, long))
          ];
      each = omega (arith, len, names, each);
      of_block = λ k lt.
          elim (cases_eq (slice_index (list ++ block ∷ []) k) block) as (λ _. IsSame (list ++ block ∷ []) k
          (slice_index (slice_set last block (length list + 1)) (slice_index (list ++ block ∷ []) k))) [
            | inl e ↦
                subst (λ (n : ℕ). IsSame (list ++ block ∷ []) k n)
                (sym (ap (λ (b : ℕ). slice_index (slice_set last block (length list + 1)) b) e ∙ here)) (comes k lt e)
            | inr ne ↦
                let less : k < length list =
                elim (cases_lt k (length list)) as (λ _. k < length list) [
                  | inl less ↦ less
                  | inr more ↦ absurd (ne (new k lt more))
                ] in
                let is_old = old k less in
                let same = index.of_block k less in
                let later = same.later in
                let within = same.within in
                let at : slice_index (slice_set last block (length list + 1)) (slice_index (list ++ block ∷ []) k)
                ≡ slice_index last (slice_index list k) =
                get_or-set_other last block (slice_index (list ++ block ∷ []) k) (length list + 1) 0 ne
                ∙ ap (λ (b : ℕ). slice_index last b) is_old in
                subst (λ (n : ℕ). IsSame (list ++ block ∷ []) k n) (sym at)
                (record {
                  later = later;
                  within = omega (arith, within, len);
                  there = old (slice_index last (slice_index list k) - 1) (omega (arith, later, within)) ∙ same.there
                      ∙ sym is_old;
                })
          ];
      of_hold = λ k lt.
          elim (cases_lt k (length list)) as (λ _. IsBefore (list ++ block ∷ []) k (slice_index (before ++ name ∷ []) k)) [
            | inl less ↦
                let there = index.of_hold k less in
                let within = there.within in
                let is_old = old k less in
                subst (λ (n : ℕ). IsBefore (list ++ block ∷ []) k n)
                (sym (get_or_append_left before (name ∷ []) 0 k (omega (arith, less, each))))
                (record {
                  within = within;
                  there = λ some. old (slice_index before k - 1) (omega (arith, within, less, some)) ∙ there.there some
                      ∙ sym is_old;
                  between = λ j from lt e.
                      there.between j from lt (sym (old j (omega (arith, lt, less))) ∙ e ∙ is_old);
                })
            | inr more ↦
                let within = is.within in
                let k_is : k ≡ length list = omega (arith, lt, more, len) in
                let is_new = new k lt more in
                subst (λ (n : ℕ). IsBefore (list ++ block ∷ []) k n)
                (sym (get_or_push before name 0 k (omega (arith, k_is, each))))
                (record {
                  within = omega (arith, within, more);
                  there = λ some. old (name - 1) (omega (arith, within, some)) ∙ is.there some ∙ sym is_new;
                  between = λ j from less e.
                      is.last j from (omega (arith, less, k_is)) (sym (old j (omega (arith, less, k_is))) ∙ e ∙ is_new);
                })
          ];
    }

-- one hold fewer
pub popped : (list last before : List ℕ) (block : ℕ) → IsIndex (list ++ block ∷ []) last before
    → IsIndex list (slice_set last block (slice_index before (length list))) (take (length list) before)
popped list last before block index =
    let p : ℕ = slice_index before (length list) in
    let len : length (list ++ block ∷ []) ≡ length list + 1 = length_push list block in
    let long : length (slice_set last block p) ≡ length last = length-set last block p in
    let each = index.each in
    let old : (k : ℕ) → k < length list → slice_index (list ++ block ∷ []) k ≡ slice_index list k =
    λ k lt. get_or_append_left list (block ∷ []) 0 k lt in
    let end : slice_index (list ++ block ∷ []) (length list) ≡ block = get_or_push list block 0 (length list) refl in
    let at_end : length list < length (list ++ block ∷ []) = omega (arith, len) in
    let was = index.of_hold (length list) at_end in
    let p_within = was.within in
    let home : block < length last = (let h = index.homed (length list) at_end in omega (arith, h, end)) in
    let here : slice_index (slice_set last block p) block ≡ p = get_or-set_same last block p 0 home in
    let before_it : (k : ℕ) → k < length list → slice_index list k ≡ block → IsSame list k p = λ k lt e.
    let later : k < p =
    elim (cases_lt k p) as (λ _. k < p) [
      | inl less ↦ less
      | inr more ↦ absurd (was.between k more lt (old k lt ∙ e ∙ sym end))
    ] in
    record {
      later = later;
      within = p_within;
      there = sym (old (p - 1) (omega (arith, later, p_within))) ∙ was.there (omega (arith, later)) ∙ end ∙ sym e;
    } in
    record {
      homed = λ k lt. (
          let h = index.homed k (omega (arith, lt, len)) in
          let e = old k lt in
          omega (arith, h, e, long));
      each = length-take-le (length list) before (omega (arith, each, len));
      of_block = λ k lt.
          elim (cases_eq (slice_index list k) block) as (λ _. IsSame list k
          (slice_index (slice_set last block p) (slice_index list k))) [
            | inl e ↦
                subst (λ (n : ℕ). IsSame list k n)
                (sym (ap (λ (b : ℕ). slice_index (slice_set last block p) b) e ∙ here)) (before_it k lt e)
            | inr ne ↦
                let is_old = old k lt in
                let name : ℕ = slice_index last (slice_index list k) in
                let same : IsSame (list ++ block ∷ []) k name =
                subst (λ (b : ℕ). IsSame (list ++ block ∷ []) k (slice_index last b)) is_old
                (index.of_block k (omega (arith, lt, len))) in
                let later = same.later in
                let reach = same.within in
                let within : name ≤ length list =
                elim (cases_lt (length list) name) as (λ _. name ≤ length list) [
                  | inl past ↦
                      let is_end : name - 1 ≡ length list = omega (arith, past, reach, len) in
                      absurd (ne (sym is_old ∙ sym same.there
                      ∙ ap (λ (n : ℕ). slice_index (list ++ block ∷ []) n) is_end ∙ end))
                  | inr le ↦ le
                ] in
                subst (λ (n : ℕ). IsSame list k n) (sym (get_or-set_other last block (slice_index list k) p 0 ne))
                (record {
                  later = later;
                  within = within;
                  there = sym (old (name - 1) (omega (arith, later, within))) ∙ same.there ∙ is_old;
                })
          ];
      of_hold = λ k lt. (
          let there = index.of_hold k (omega (arith, lt, len)) in
          let within = there.within in
          let is_old = old k lt in
          subst (λ (n : ℕ). IsBefore list k n) (sym (get_or-take (length list) before k 0 lt))
          (record {
            within = within;
            there = λ some. sym (old (slice_index before k - 1) (omega (arith, within, lt, some))) ∙ there.there some
                ∙ is_old;
            between = λ j from less e.
                there.between j from less (old j (omega (arith, lt, less)) ∙ e ∙ sym is_old);
          }));
    }

-- the hold before one that is the last but what was passed
pub passed_on : (list last before : List ℕ) (block name : ℕ) → IsIndex list last before → 0 < name
    → name ≤ length list → slice_index list (name - 1) ≡ block
    → (slice_index before (name - 1) < name)
    × (0 < slice_index before (name - 1) → slice_index list (slice_index before (name - 1) - 1) ≡ block)
    × ((j : ℕ) → slice_index before (name - 1) ≤ j → j < name - 1 → slice_index list j ≢ block)
passed_on list last before block name index some within there =
    let is = index.of_hold (name - 1) (omega (arith, some, within)) in
    let le = is.within in (
      omega (arith, le, some),
      (λ more. is.there more ∙ there),
      λ j from lt e. is.between j from lt (e ∙ sym there),
    )

-- fewer holds
pub homed_filter : (q : Hold → Bool) (count : ℕ) (xs : List Hold) → AreHomed count (numbers xs)
    → AreHomed count (numbers (filter q xs))
homed_filter q count [] h k lt = absurd (omega (arith, lt))
homed_filter q count (x ∷ xs) h k lt =
    go (homed_filter q count xs (λ j l. h (suc j) (omega (arith, l)))) (q x) k lt
  where
    go : AreHomed count (numbers (filter q xs)) → (t : Bool)
        → AreHomed count (numbers (cond t (x ∷ filter q xs) (filter q xs)))
    go rest false k lt = rest k lt
    go rest true zero lt = h zero (omega arith)
    go rest true (suc k) lt = rest k (omega (arith, lt))

-- the holds up to one, and that one
pub numbers-take : (holds : List Hold) (i : ℕ) (d : Hold) → i < length holds
    → numbers (take (i + 1) holds) ≡ numbers (take i holds) ++ (get_or holds i d).addr.block.0 ∷ []
numbers-take holds i d lt =
    ap numbers (take_more holds i d lt) ∙ numbers-push (take i holds) (get_or holds i d)

pub numbers-taken : (holds : List Hold) (count k : ℕ) (d : Hold) → k + 1 ≡ count → count ≤ length holds
    → numbers (take count holds) ≡ numbers (take k holds) ++ (get_or holds k d).addr.block.0 ∷ []
numbers-taken holds count k d e le =
    subst (λ (n : ℕ). numbers (take n holds) ≡ numbers (take k holds) ++ (get_or holds k d).addr.block.0 ∷ []) e
    (numbers-take holds k d (omega (arith, e, le)))

-- a name stands at the block of the last of the holds that are noted
pub homed_last : (holds : List Hold) (last before : List ℕ) (count k : ℕ) (d : Hold) → k + 1 ≡ count
    → count ≤ length holds → IsIndex (numbers (take count holds)) last before
    → (get_or holds k d).addr.block.0 < length last
homed_last holds last before count k d e le index =
    let block : ℕ = (get_or holds k d).addr.block.0 in
    let list : List ℕ = numbers (take k holds) in
    let size : length list ≡ k = numbers-length (take k holds) ∙ length-take-le k holds (omega (arith, e, le)) in
    let len : length (list ++ block ∷ []) ≡ length list + 1 = length_push list block in
    let index : IsIndex (list ++ block ∷ []) last before =
    subst (λ (ns : List ℕ). IsIndex ns last before) (numbers-taken holds count k d e le) index in
    let home = index.homed (length list) (omega (arith, len)) in
    let end : slice_index (list ++ block ∷ []) (length list) ≡ block = get_or_push list block 0 (length list) refl in
    omega (arith, home, end)

-- what was noted of the last of them is taken back
pub one_taken_back : (holds : List Hold) (last before : List ℕ) (count k : ℕ) (d : Hold) → k + 1 ≡ count
    → count ≤ length holds → IsIndex (numbers (take count holds)) last before
    → IsIndex (numbers (take k holds))
    (slice_set last (get_or holds k d).addr.block.0 (slice_index before (length before - 1)))
    (take (length before - 1) before)
one_taken_back holds last before count k d e le index =
    let block : ℕ = (get_or holds k d).addr.block.0 in
    let list : List ℕ = numbers (take k holds) in
    let len : length (list ++ block ∷ []) ≡ length list + 1 = length_push list block in
    let index : IsIndex (list ++ block ∷ []) last before =
    subst (λ (ns : List ℕ). IsIndex ns last before) (numbers-taken holds count k d e le) index in
    let each = index.each in
    subst (λ (n : ℕ). IsIndex list (slice_set last block (slice_index before n)) (take n before))
    (omega (arith, len, each)) (popped list last before block index)
