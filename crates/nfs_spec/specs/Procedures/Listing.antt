-- What a directory lists, and how much of it goes into a reply (RFC 1813, sections 3.3.16 and 3.3.17).
use Rattle.std.specs.Prelude.{ℕ, ◌+◌, ◌-◌, ◌*◌, ◌/◌, min, Bool, cond, not, ◌&&◌, ◌||◌, List, [], ◌∷◌, length}
use Rattle.std.specs.Prelude.{nat_eq, nat_le, nat_lt, Option, replicate}
use Rattle.std.specs.List.{filter, filter_map, find, range_with_len}
use Rattle.std.specs.Option.{option_map}
use Rattle.base.specs.declared.TheConstants.{LISTED_ITEM_BYTES, LISTING_BYTES, LISTING_FRAME, SLOTS_PER_BLOCK}
use Rattle.nfs_types.specs.Verifier.{is_zeros}
use Rattle.nfs_types.specs.declared.entries.ListedItem.{ListedItem}
use Rattle.nfs_types.specs.declared.verifier.TheConstants.{VERIFIER_BYTES}
use Rattle.nfs_types.specs.declared.verifier.Verifier.{Verifier}
use Rattle.nfs_spec.specs.Model.Names.{entries_of, parent_of}
use Rattle.nfs_spec.specs.Model.Node.{Body, Regular, Directory, Link}
use Rattle.nfs_spec.specs.Model.Sound.{DOT}
use Rattle.nfs_spec.specs.declared.procedures.cookies.TheConstants.{FIRST_SLOT_COOKIE, ITSELF_COOKIE, PARENT_COOKIE}

-- the slots of a directory, rising
abbrev pub slots_of : Body → List ℕ
slots_of (Regular bytes mapped) = []
slots_of (Directory named span parent) = range_with_len 0 (SLOTS_PER_BLOCK * span)
slots_of (Link target) = []

-- what lies in a slot
abbrev pub listed_in : Body → ℕ → Option ListedItem
listed_in directory slot =
    option_map (λ dirent. record {
      number = dirent.1.number;
      name = dirent.0;
      cookie = slot + FIRST_SLOT_COOKIE;
    })
    (find (λ dirent. nat_eq dirent.1.slot slot) (entries_of directory))

-- all that a directory lists, by rising cookies: itself, its parent, and the names by their slots
abbrev pub listed : ℕ → Body → List ListedItem
listed number directory =
    record { number = number; name = DOT ∷ []; cookie = ITSELF_COOKIE }
    ∷ record { number = parent_of directory; name = DOT ∷ DOT ∷ []; cookie = PARENT_COOKIE }
    ∷ filter_map (listed_in directory) (slots_of directory)

-- what is listed behind a cookie, which may be any number
abbrev pub listed_behind : ℕ → ℕ → Body → List ListedItem
listed_behind cookie number directory = filter (λ dirent. nat_lt cookie dirent.cookie) (listed number directory)

-- a name with its padding (RFC 4506, section 4.11)
abbrev pub padded : List ℕ → ℕ
padded name = (length name + 3) / 4 * 4

abbrev pub listed_bytes : ListedItem → ℕ
listed_bytes dirent = LISTED_ITEM_BYTES + padded dirent.name

-- the longest beginning whose entries have no more bytes together than there is room for
abbrev pub fitting : (ListedItem → ℕ) → ℕ → List ListedItem → List ListedItem
fitting bytes budget [] = []
fitting bytes budget (dirent ∷ entries) =
    cond (nat_le (bytes dirent) budget) (dirent ∷ fitting bytes (budget - bytes dirent) entries) []

-- the bytes that a call asks for, as far as one call may
abbrev pub asked_bytes : ℕ → ℕ
asked_bytes count = min count LISTING_BYTES

-- what of so many bytes is left for entries
abbrev pub listing_budget : ℕ → ℕ
listing_budget count = asked_bytes count - LISTING_FRAME

-- A cookie that goes on from an earlier listing comes with that listing's verifier, and this is always zeros.
abbrev pub is_bad_cookie : ℕ → Verifier → Bool
is_bad_cookie cookie verifier = not (nat_eq cookie 0) && not (is_zeros verifier)

-- there is no room for a listing at all, or for the first of the entries that are left
abbrev pub is_too_small : ℕ → List ListedItem → List ListedItem → Bool
is_too_small count left given =
    nat_lt (asked_bytes count) LISTING_FRAME || nat_lt 0 (length left) && nat_eq (length given) 0

-- the verifier of each listing
abbrev pub listing_verifier : Verifier
listing_verifier = record { bytes = replicate VERIFIER_BYTES 0 }

-- no entry is left behind those that are given
abbrev pub is_end : List ListedItem → List ListedItem → Bool
is_end left given = nat_eq (length given) (length left)
