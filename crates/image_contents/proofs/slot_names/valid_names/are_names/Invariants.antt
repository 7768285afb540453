use Rattle.std.proofs.Common.{◌≡◌, ℕ, true, take}
use Rattle.std.specs.BTreeSet as set
use Rattle.std.specs.Cmp.Lexicographic.{slice_cmp}
use Rattle.std.specs.List.{IsDistinct, list_all, list_any}
use Rattle.std.specs.Ordering.{nat_cmp}
use Rattle.std.specs.Prelude.{Vec}
use Rattle.std.specs.declared.alloc.Global.{Global}
use Rattle.image_contents.specs.Names.Names.{is_name, names_in, same_name}
use Rattle.image_contents.proofs.slot_names.valid_names.are_names.Given as goal

abbrev pub invariant-places : goal.invariant-places
invariant-places l = record {
  lawful : list_all is_name (names_in (take l.index_within l.slots)) ≡ true;
  apart : IsDistinct same_name (names_in (take l.index_within l.slots));
  has : (query : Vec ℕ Global) → set.contains (λ (x y : Vec ℕ Global). slice_cmp nat_cmp x.items y.items) l.names query
      ≡ list_any (same_name query.items) (names_in (take l.index_within l.slots));
}
