-- What is listed of a directory from a slot on, one slot after another.
use Rattle.std.proofs.Common.{◌≡◌, ℕ, zero, suc, ◌+◌, ◌<◌, ◌≤◌, sym, ap, ◌∙◌, refl, Bool, true, false, cond}
use Rattle.std.proofs.Common.{rules, arith, nat_le, List, [], ◌∷◌, Some, None, inl, inr}
use Rattle.std.specs.List.{cons_option, filter, filter_map, range_with_len}
use Rattle.nfs_types.specs.declared.entries.ListedItem.{ListedItem}
use Rattle.nfs_spec.specs.Model.Node.{Body, Regular, Directory, Link}
use Rattle.nfs_spec.proofs.ProceduresLemmas.Lacking.{equal_or_not}
use Rattle.nfs_spec.specs.Procedures.Listing.{listed_in}
use Rattle.procs_files.specs.Heads.{listed_from}
use Rattle.plain_steps.specs.Slots.{count_slots}

left_over : (p : ℕ → Bool) (x : ℕ) (xs : List ℕ) → p x ≡ true → filter p (x ∷ xs) ≡ x ∷ filter p xs
left_over p x xs is = ap (λ b. cond b (x ∷ filter p xs) (filter p xs)) is

skipped : (p : ℕ → Bool) (x : ℕ) (xs : List ℕ) → p x ≡ false → filter p (x ∷ xs) ≡ filter p xs
skipped p x xs is = ap (λ b. cond b (x ∷ filter p xs) (filter p xs)) is

within : (a b : ℕ) → a ≤ b → nat_le a b ≡ true
within a b h = search rules

above : (a b : ℕ) → b < a → nat_le a b ≡ false
above a b h = search rules

abbrev past : ℕ → ℕ → Bool
past from = λ slot. nat_le from slot

all_past : (from a n : ℕ) → from ≤ a → filter (past from) (range_with_len a n) ≡ range_with_len a n
all_past from a zero order = refl
all_past from a (suc n) order =
    left_over (past from) a (range_with_len (a + 1) n) (within from a order)
    ∙ ap (λ s. a ∷ s) (all_past from (a + 1) n (omega (arith, order)))

none_past : (from a n : ℕ) → a + n ≤ from → filter (past from) (range_with_len a n) ≡ []
none_past from a zero order = refl
none_past from a (suc n) order =
    skipped (past from) a (range_with_len (a + 1) n) (above from a (omega (arith, order)))
    ∙ none_past from (a + 1) n (omega (arith, order))

one_past : (from a n : ℕ) → a ≤ from → from < a + n
    → filter (past from) (range_with_len a n) ≡ from ∷ filter (past (suc from)) (range_with_len a n)
one_past from a zero order inside = absurd (omega (arith, order, inside))
one_past from a (suc n) order inside = elim (equal_or_not a from) [
  | inl same ↦ (
      let rest = range_with_len (a + 1) n in
      left_over (past from) a rest (within from a (omega (arith, same)))
      ∙ (λ i. same i ∷ all_past from (a + 1) n (omega (arith, same)) i)
      ∙ ap (λ s. from ∷ s) (sym (skipped (past (suc from)) a rest (above (suc from) a (omega (arith, same)))
      ∙ all_past (suc from) (a + 1) n (omega (arith, same))))
      )
  | inr other ↦ (
      let rest = range_with_len (a + 1) n in
      skipped (past from) a rest (above from a (omega (arith, order, other)))
      ∙ one_past from (a + 1) n (omega (arith, order, other)) (omega (arith, inside))
      ∙ ap (λ s. from ∷ s) (sym (skipped (past (suc from)) a rest (above (suc from) a (omega (arith, order, other)))))
      )
]

split : (body : Body) (slot : ℕ) → slot < count_slots body
    → listed_from slot body ≡ cons_option (listed_in body slot) (listed_from (suc slot) body)
split (Regular bytes mapped) slot inside = absurd (omega (arith, inside))
split (Directory named span parent) slot inside =
    ap (filter_map (listed_in (Directory named span parent)))
    (one_past slot 0 (count_slots (Directory named span parent)) (omega arith) (omega (arith, inside)))
split (Link target) slot inside = absurd (omega (arith, inside))

-- an empty slot
pub skips : (body : Body) (slot : ℕ) → slot < count_slots body → listed_in body slot ≡ None
    → listed_from slot body ≡ listed_from (suc slot) body
skips body slot inside none =
    split body slot inside ∙ ap (λ o. cons_option o (listed_from (suc slot) body)) none

-- a slot with a name
pub finds : (body : Body) (slot : ℕ) (dirent : ListedItem) → slot < count_slots body
    → listed_in body slot ≡ Some dirent
    → listed_from slot body ≡ dirent ∷ listed_from (suc slot) body
finds body slot dirent inside there =
    split body slot inside ∙ ap (λ o. cons_option o (listed_from (suc slot) body)) there

-- past the last slot
pub ends : (body : Body) (slot : ℕ) → count_slots body ≤ slot → listed_from slot body ≡ []
ends (Regular bytes mapped) slot order = refl
ends (Directory named span parent) slot order =
    ap (filter_map (listed_in (Directory named span parent)))
    (none_past slot 0 (count_slots (Directory named span parent)) (omega (arith, order)))
ends (Link target) slot order = refl
