-- Slots that are alike have the same names, and what holds of one block after the other holds of all.
use Rattle.std.proofs.Common.{◌≡◌, ℕ, ◌<◌, ◌≤◌, inl, inr, sym, ap, ◌∙◌, List, Option, Some, None, arith}
use Rattle.std.proofs.lemmas.Bool.{cases_lt}
use Rattle.layout.specs.SlotForm.{number_under}
use Rattle.procs_files.specs.declared.dirent.SlotDirent.{SlotDirent}
use Rattle.procs_files.specs.declared.dirent.SlotName.{SlotName}
use Rattle.dir.specs.Slots.{AreFree, IsFound, IsNext, Lying}

module _ (lies other : Lying) (from end : ℕ)
    (same : (slot : ℕ) → from ≤ slot → slot < end → lies slot ≡ other slot) where
  pub moved_found : (name : List ℕ) (found : Option SlotDirent) → IsFound other name from end found
      → IsFound lies name from end found
  moved_found name None none = λ slot number low less is.
      none slot number low less (ap (number_under name) (sym (same slot low less)) ∙ is)
  moved_found name (Some search_hit) is = (
    is.0,
    is.1,
    ap (number_under name) (same search_hit.slot is.0 is.1) ∙ is.2,
  )

  free_moved : (last : ℕ) → last ≤ end → AreFree other from last → AreFree lies from last
  free_moved last fits free slot low less = same slot low (omega (arith, less, fits)) ∙ free slot low less

  pub moved_next : (found : Option SlotName) → IsNext other from end found → IsNext lies from end found
  moved_next None free = free_moved end (omega arith) free
  moved_next (Some named) is = (
    is.0,
    is.1,
    same named.slot is.0 is.1 ∙ is.2,
    free_moved named.slot (let less = is.1 in omega (arith, less)) is.3,
  )

-- ---- block by block, from a slot on: start is the later one of that slot and the block's first

module _ (lies : Lying) (from before start end : ℕ) (least : (slot : ℕ) → from ≤ slot → before ≤ slot → start ≤ slot)
  where
    pub free_more : AreFree lies from before → AreFree lies start end → AreFree lies from end
    free_more first rest slot low less =
        elim (cases_lt slot before) [ inl early ↦ first slot low early | inr late ↦ rest slot (least slot low late) less ]

    pub first_next : (all : ℕ) (named : SlotName) → end ≤ all → from ≤ start → AreFree lies from before
        → IsNext lies start end (Some named) → IsNext lies from all (Some named)
    first_next all named fits order first is =
        let low = is.0 in
        let less = is.1 in (
          omega (arith, low, order),
          omega (arith, less, fits),
          is.2,
          λ slot above early. elim (cases_lt slot before) [
            | inl sooner ↦ first slot above sooner
            | inr late ↦ is.3 slot (least slot above late) early
          ],
        )
