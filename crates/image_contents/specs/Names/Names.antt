-- The names in a directory's slots.
use Rattle.std.specs.Prelude.{◌≡◌, ℕ, Bool, true, not, ◌&&◌, List, map}
use Rattle.std.specs.Cmp.Lexicographic.{slice_cmp}
use Rattle.std.specs.List.{IsDistinct, list_all}
use Rattle.std.specs.Ordering.{eq_by_cmp, nat_cmp}
use Rattle.layout.specs.declared.slot.Slot.{Slot}
use Rattle.nfs_spec.specs.Procedures.FirstTests.{is_long, is_no_name}
use Rattle.nfs_spec.specs.Procedures.Places.{is_own_name}

-- a name that a file may be given
abbrev pub is_name : List ℕ → Bool
is_name name = not (is_no_name name) && not (is_long name) && not (is_own_name name)

abbrev pub same_name : List ℕ → List ℕ → Bool
same_name = eq_by_cmp (slice_cmp nat_cmp)

-- the names in slots
abbrev pub names_in : List Slot → List (List ℕ)
names_in slots = map (λ slot. slot.name) slots

-- each is a name that a file may be given, and none stands twice
pub record AreNames (slots : List Slot) : Type 0 where
  pub lawful : list_all is_name (names_in slots) ≡ true
  pub apart : IsDistinct same_name (names_in slots)
