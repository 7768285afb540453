-- Entries of a listing that are gathered one after another, as long as there is room for them.
use Rattle.std.specs.Prelude.{ℕ, ◌+◌, ◌-◌, Bool, true, false, cond, ◌&&◌, List, [], ◌∷◌, ◌++◌, nat_le}
use Rattle.nfs_types.specs.declared.entries.ListedItem.{ListedItem}
use Rattle.nfs_spec.specs.Procedures.Listing.{listed_bytes, fitting, padded}

-- what is given so far, what is left of the room for names and of that of the whole, and whether an entry came
-- that had no room
pub record Gathered : Type 0 where
  pub given : List ListedItem
  pub names_budget : ℕ
  pub budget : ℕ
  pub is_full : Bool

-- the bytes of an entry that has so many besides its name
abbrev pub bytes_with : ℕ → ListedItem → ℕ
bytes_with besides listed_item = besides + padded listed_item.name

-- nothing is given, and there is so much room
abbrev pub nothing : ℕ → ℕ → Gathered
nothing names_budget budget = record { given = []; names_budget = names_budget; budget = budget; is_full = false }

abbrev pub has_budget : ℕ → Gathered → ListedItem → Bool
has_budget besides gathered listed_item =
    nat_le (bytes_with besides listed_item) gathered.budget && nat_le (listed_bytes listed_item) gathered.names_budget

-- with an entry that has room
abbrev pub with_listed_item : ℕ → Gathered → ListedItem → Gathered
with_listed_item besides gathered listed_item = record {
  given = gathered.given ++ listed_item ∷ [];
  names_budget = gathered.names_budget - listed_bytes listed_item;
  budget = gathered.budget - bytes_with besides listed_item;
  is_full = false;
}

-- an entry came that has no room
abbrev pub filled : Gathered → Gathered
filled gathered = record {
  given = gathered.given;
  names_budget = gathered.names_budget;
  budget = gathered.budget;
  is_full = true;
}

-- an entry more: none is given behind one that has no room
abbrev pub one_more : ℕ → Gathered → ListedItem → Gathered
one_more besides gathered listed_item =
    cond gathered.is_full gathered
    (cond (has_budget besides gathered listed_item) (with_listed_item besides gathered listed_item) (filled gathered))

-- entries more, in their order
abbrev pub with_all : ℕ → Gathered → List ListedItem → Gathered
with_all besides gathered [] = gathered
with_all besides gathered (listed_item ∷ entries) = with_all besides (one_more besides gathered listed_item) entries

-- the longest beginning that has room as a whole, and whose entries have it by themselves
abbrev pub fitting_two : ℕ → ℕ → ℕ → List ListedItem → List ListedItem
fitting_two besides names_budget budget left =
    fitting listed_bytes names_budget (fitting (bytes_with besides) budget left)
