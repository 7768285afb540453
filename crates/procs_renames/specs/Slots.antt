-- The slots of new names, and room for them.
use Rattle.std.specs.Prelude.{◌≡◌, ℕ, true, false, nat_le, Option, Some, None}
use Rattle.nfs_spec.specs.Model.Tree.{Tree, free}
use Rattle.procs_names.specs.Links.Rooms.{dirent_adds}

-- the slot of a new name in a directory of this size, where the blocks for the name are free
abbrev pub IsRoomyAt : Tree → ℕ → Option ℕ → Option ℕ → Type 0
IsRoomyAt tree size slot (Some found) =
    (slot ≡ Some found) × (nat_le (dirent_adds size found) (free tree) ≡ true)
IsRoomyAt tree size slot None =
    (found : ℕ) → slot ≡ Some found → nat_le (dirent_adds size found) (free tree) ≡ false
