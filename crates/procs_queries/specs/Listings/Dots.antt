-- The first two entries of a listing.
use Rattle.std.specs.Prelude.{ℕ, cond, List, [], ◌∷◌, nat_lt}
use Rattle.std.specs.List.{filter}
use Rattle.nfs_types.specs.declared.entries.ListedItem.{ListedItem}
use Rattle.nfs_spec.specs.Model.Sound.{DOT}
use Rattle.nfs_spec.specs.declared.procedures.cookies.TheConstants.{ITSELF_COOKIE, PARENT_COOKIE}

-- the entries of the directory itself and of its parent
abbrev pub itself : ℕ → ListedItem
itself number = record { number = number; name = DOT ∷ []; cookie = ITSELF_COOKIE }

abbrev pub parent : ℕ → ListedItem
parent number = record { number = number; name = DOT ∷ DOT ∷ []; cookie = PARENT_COOKIE }

-- those of the two that lie behind a cookie
abbrev pub dots_behind : ℕ → ℕ → ℕ → List ListedItem
dots_behind cookie number above =
    filter (λ listed_item. nat_lt cookie listed_item.cookie) (itself number ∷ parent above ∷ [])

-- an entry where it lies behind a cookie
abbrev pub listed_item_behind : ℕ → ListedItem → List ListedItem
listed_item_behind cookie listed_item = cond (nat_lt cookie listed_item.cookie) (listed_item ∷ []) []
