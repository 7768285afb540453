-- What a list of a directory's entries stands for.
use Rattle.std.specs.Prelude.{ℕ, Bool, List, map, refl}
use Rattle.std.specs.Cmp.Lexicographic.{slice_cmp}
use Rattle.std.specs.Coded.{Coded, code_by, coded×, coded_ℕ}
use Rattle.std.specs.FinMap.{from_sorted, is_sorted}
use Rattle.std.specs.Ordering.{nat_cmp}
use Rattle.nfs_spec.specs.Model.Node.{DirentValue, Entries}
use Rattle.plain_tree.specs.declared.tree.plain_names.PlainDirent.{PlainDirent}

abbrev pub slot_and_number : PlainDirent → DirentValue
slot_and_number dirent = record { number = dirent.number; slot = dirent.slot }

abbrev pub plain_dirent_of : PlainDirent → List ℕ × DirentValue
plain_dirent_of dirent = (dirent.name, slot_and_number dirent)

-- what a name leads to is stored as the pair of its number and its slot
abbrev pub slot_and_number_code : Coded DirentValue
slot_and_number_code =
    code_by (ℕ × ℕ) (coded× coded_ℕ coded_ℕ) (λ e. (e.number, e.slot)) (λ p. record {
      number = p.0;
      slot = p.1;
    })
    (λ _. refl)

-- their names strictly rise
abbrev pub are_sorted : List PlainDirent → Bool
are_sorted entries = is_sorted (slice_cmp nat_cmp) (map plain_dirent_of entries)

abbrev pub named_by : List PlainDirent → Entries
named_by entries = from_sorted (map plain_dirent_of entries)
