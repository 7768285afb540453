-- What lies in the slots of a directory.
use Rattle.std.specs.Prelude.{◌≡◌, ℕ, ◌*◌, Option}
use Rattle.std.specs.Option.{option_map}
use Rattle.base.specs.declared.TheConstants.{SLOTS_PER_BLOCK}
use Rattle.nfs_spec.specs.Model.Node.{Body, Regular, Directory, Link}
use Rattle.nfs_spec.specs.Procedures.Listing.{listed_in}
use Rattle.procs_files.specs.declared.dirent.SlotName.{SlotName}
use Rattle.procs_files.specs.Heads.{listing_of}

-- how many slots a directory has
abbrev pub count_slots : Body → ℕ
count_slots (Regular bytes mapped) = 0
count_slots (Directory named span parent) = SLOTS_PER_BLOCK * span
count_slots (Link target) = 0

-- this is what lies in the slot
abbrev pub IsIn : Body → ℕ → Option SlotName → Type 0
IsIn directory slot found = listed_in directory slot ≡ option_map listing_of found
