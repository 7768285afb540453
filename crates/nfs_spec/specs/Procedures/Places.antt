-- Names in directories, and the slots in which they lie (RFC 1813, section 3.2).
use Rattle.std.specs.Prelude.{ℕ, ◌*◌, Bool, not, ◌&&◌, ◌||◌, List, length, nat_eq, Option, None}
use Rattle.std.specs.FinMap.{get}
use Rattle.std.specs.List.{list_any, list_all, find, range_with_len}
use Rattle.std.specs.Option.{option_map, option_and_then}
use Rattle.base.specs.declared.TheConstants.{MOST_SPAN, SLOTS_PER_BLOCK}
use Rattle.nfs_spec.specs.Model.Names.{entries_of, is_directory}
use Rattle.nfs_spec.specs.Model.Node.{Node, Body, DirentValue, Regular, Directory, Link}
use Rattle.nfs_spec.specs.Model.Sound.{DOT}
use Rattle.nfs_spec.specs.Model.SetAttr.{given}
use Rattle.nfs_spec.specs.Model.Tree.{Tree, node_at}

-- a name of so many dots
abbrev pub is_dots : ℕ → List ℕ → Bool
is_dots count name = nat_eq (length name) count && list_all (λ byte. nat_eq byte DOT) name

-- `.`, which is the directory itself
abbrev pub is_itself : List ℕ → Bool
is_itself name = is_dots 1 name

-- `..`, which is its parent
abbrev pub is_parent : List ℕ → Bool
is_parent name = is_dots 2 name

-- a name that each directory has of its own, and that no call gives or takes away
abbrev pub is_own_name : List ℕ → Bool
is_own_name name = is_itself name || is_parent name

-- what a name in a directory leads to
abbrev pub dirent_at : Body → List ℕ → Option DirentValue
dirent_at (Regular bytes mapped) name = None
dirent_at (Directory named span parent) name = get named name
dirent_at (Link target) name = None

-- the file of a number, with its number
abbrev pub file_at : Tree → ℕ → Option (ℕ × Node)
file_at tree number = option_map (λ node. (number, node)) (node_at tree number)

-- the file that a name in a directory leads to
abbrev pub named_file : Tree → Node → List ℕ → Option (ℕ × Node)
named_file tree directory name =
    option_and_then (λ dirent. file_at tree dirent.number) (dirent_at directory.body name)

-- there is such a file, and it is a directory
abbrev pub is_found_directory : Option (ℕ × Node) → Bool
is_found_directory found = given found (λ file. is_directory file.1.body)

-- there is such a file, and it is none
abbrev pub is_found_other : Option (ℕ × Node) → Bool
is_found_other found = given found (λ file. not (is_directory file.1.body))

-- a name of the directory lies in the slot
abbrev pub is_taken_slot : Body → ℕ → Bool
is_taken_slot directory slot = list_any (λ dirent. nat_eq dirent.1.slot slot) (entries_of directory)

-- the least slot in which no name lies, of all that a directory may ever have
abbrev pub least_free_slot : Body → Option ℕ
least_free_slot directory =
    find (λ slot. not (is_taken_slot directory slot)) (range_with_len 0 (SLOTS_PER_BLOCK * MOST_SPAN))
