-- RENAME (RFC 1813, section 3.3.14).
use Rattle.std.specs.Prelude.{◌≡◌, ℕ, Bool, true, false, cond, not, ◌&&◌, ◌||◌, ◌++◌, List, [], ◌∷◌, nat_eq}
use Rattle.std.specs.Prelude.{is_none}
use Rattle.std.specs.Prelude.{Option, Some, None, Result, Ok, Err}
use Rattle.std.specs.List.{list_any, range_with_len}
use Rattle.std.specs.Option.{option_map}
use Rattle.nfs_types.specs.declared.attributes.WeakCacheData.{WeakCacheData}
use Rattle.nfs_types.specs.declared.ctx.Credential.{Credential}
use Rattle.nfs_types.specs.declared.ctx.Ctx.{Ctx}
use Rattle.nfs_types.specs.declared.ctx.Moment.{Moment}
use Rattle.nfs_types.specs.declared.status.Status.{Status}
use Rattle.nfs_types.specs.declared.status.Status.TheVariants as status
use Rattle.nfs_spec.specs.Model.Find.{find_file}
use Rattle.nfs_spec.specs.Model.Names.{ancestor, is_directory}
use Rattle.nfs_spec.specs.Model.Node.{Node, Body, DirentValue, Regular, Directory, Link}
use Rattle.nfs_spec.specs.Model.SetAttr.{first_of_tests, given}
use Rattle.nfs_spec.specs.Model.Tree.{Tree}
use Rattle.nfs_spec.specs.Procedures.Changes.{changed_at, departed, entered, if_dirent, without_name}
use Rattle.nfs_spec.specs.Procedures.FirstTests.{after_first, found_then, is_long, is_no_directory, is_no_name}
use Rattle.nfs_spec.specs.Procedures.FirstTests.{may_change}
use Rattle.nfs_spec.specs.Procedures.FirstTests.{unless}
use Rattle.nfs_spec.specs.Procedures.Fresh.{new_dirent}
use Rattle.nfs_spec.specs.Procedures.MkDir.{is_full}
use Rattle.nfs_spec.specs.Procedures.Places.{dirent_at, is_found_directory, is_found_other, is_own_name}
use Rattle.nfs_spec.specs.Procedures.Places.{least_free_slot}
use Rattle.nfs_spec.specs.Procedures.Places.{named_file}
use Rattle.nfs_spec.specs.Procedures.RmDir.{is_found_filled}
use Rattle.nfs_spec.specs.Procedures.StepForms.{Effect, answer_of, change_between, tree_after}

-- a name in a directory that was found
pub record Dentry : Type 0 where
  pub number : ℕ
  pub directory : Node
  pub name : List ℕ

-- the file that a place names
abbrev pub file_in : Tree → Dentry → Option (ℕ × Node)
file_in tree dentry = named_file tree dentry.directory dentry.name

-- The tests of both places come before those of what they name, kind by kind: first of both directories, and then
-- of both names,
abbrev pub path_tests : Node → List ℕ → Node → List ℕ → List (Bool × Status)
path_tests source name target new_name =
    (is_no_directory source, status.NotDir)
    ∷ (is_no_directory target, status.NotDir)
    ∷ (is_no_name name, status.Acces)
    ∷ (is_long name, status.NameTooLong)
    ∷ (is_no_name new_name, status.Acces)
    ∷ (is_long new_name, status.NameTooLong)
    ∷ []

-- and then of what the caller may do there, and of what the first name leads to.
abbrev pub right_tests : Credential → Node → List ℕ → Node → List ℕ → Option (ℕ × Node) → List (Bool × Status)
right_tests caller source name target new_name found =
    (not (may_change caller source), status.Acces)
    ∷ (not (may_change caller target), status.Acces)
    ∷ (is_own_name name || is_own_name new_name, status.Inval)
    ∷ (is_none found, status.NoEnt)
    ∷ []

abbrev pub places_refusal : Tree → Credential → Dentry → Dentry → Option Status
places_refusal tree caller source target = first_of_tests (
    path_tests source.directory source.name target.directory target.name
    ++ right_tests caller source.directory source.name target.directory target.name (file_in tree source))

-- the directory of a number is the file, or lies below it
abbrev pub is_within : Tree → ℕ → ℕ → Bool
is_within tree file number =
    list_any (λ steps. nat_eq (ancestor tree steps number) file) (range_with_len 0 tree.geometry.inodes)

-- a directory would become its own ancestor, in the directory of this number
abbrev pub goes_below_itself : Tree → ℕ × Node → ℕ → Bool
goes_below_itself tree file target = is_directory file.1.body && is_within tree file.0 target

-- what would be replaced is a directory and the file is none, or the other way round
abbrev pub is_other_sort : Node → Option (ℕ × Node) → Bool
is_other_sort node replaced =
    cond (is_directory node.body) (is_found_other replaced) (is_found_directory replaced)

-- A directory is one link more of its new parent, unless it was in it or replaces another.
abbrev pub has_no_link : Node → ℕ → ℕ × Node → Option (ℕ × Node) → Bool
has_no_link node source target replaced =
    is_directory node.body && is_none replaced && not (nat_eq source target.0) && is_full target.1

-- the tests of the move itself, from one directory to another
abbrev pub move_tests : Tree → ℕ × Node → ℕ → ℕ × Node → Option (ℕ × Node) → List (Bool × Status)
move_tests tree file source target replaced =
    (goes_below_itself tree file target.0, status.Inval)
    ∷ (is_other_sort file.1 replaced, status.Exist)
    ∷ (is_found_filled replaced, status.Exist)
    ∷ (has_no_link file.1 source target replaced, status.MLink)
    ∷ []

abbrev pub move_refusal : Tree → ℕ → Node → Dentry → Dentry → Option (ℕ × Node) → Option Status
move_refusal tree number node source target replaced =
    first_of_tests (move_tests tree (number, node) source.number (target.number, target.directory) replaced)

-- A replaced entry keeps its slot, and so does a name that changes within its directory. Else the new name
-- takes the least free slot.
abbrev pub slot_for : Bool → Option DirentValue → Option DirentValue → Body → Option ℕ
slot_for within source (Some replaced) target = Some replaced.slot
slot_for true source None target = option_map (λ dirent. dirent.slot) source
slot_for false source None target = least_free_slot target

abbrev pub new_slot : Dentry → Dentry → Option ℕ
new_slot source target =
    slot_for (nat_eq source.number target.number) (dirent_at source.directory.body source.name)
    (dirent_at target.directory.body target.name) target.directory.body

abbrev pub with_parent : ℕ → Body → Body
with_parent parent (Regular bytes mapped) = Regular bytes mapped
with_parent parent (Directory named span old) = Directory named span parent
with_parent parent (Link target) = Link target

-- a file in its new place
abbrev pub moved : Moment → ℕ → Node → Node
moved moment parent node = record node { ctime = moment; body = with_parent parent node.body }

-- The file leaves the one place, what stood in the other loses its name, and the file enters there.
abbrev pub with_moved : Tree → Moment → ℕ → Node → Dentry → Dentry → Option (ℕ × Node) → DirentValue
    → Effect (Unit {0})
with_moved tree moment number node source target replaced dirent =
    let left = changed_at tree source.number (departed moment source.name node.body) in
    let cleared = without_name left moment target.number target.name replaced in
    let named = changed_at cleared target.number (entered moment target.name dirent node.body) in
    record { answer = tt; next = changed_at named number (moved moment target.number) }

abbrev pub move : Tree → Ctx → ℕ → Node → Dentry → Dentry → Option (ℕ × Node)
    → Result (Effect (Unit {0})) Status
move tree ctx number node source target replaced =
    unless (move_refusal tree number node source target replaced)
    (if_dirent tree (new_dirent (Some number) (new_slot source target))
    (with_moved tree ctx.moment number node source target replaced))

-- where both places name one file nothing is done
abbrev pub rename_file : Tree → Ctx → Dentry → Dentry → Option (ℕ × Node) → Option (ℕ × Node)
    → Result (Effect (Unit {0})) Status
rename_file tree ctx source target None replaced = Err status.NoEnt
rename_file tree ctx source target (Some file) replaced =
    cond (given replaced (λ other. nat_eq other.0 file.0)) (Ok (record { answer = tt; next = tree }))
    (move tree ctx file.0 file.1 source target replaced)

abbrev pub rename : Tree → Ctx → Dentry → Dentry → Result (Effect (Unit {0})) Status
rename tree ctx source target =
    unless (places_refusal tree ctx.credential source target)
    (rename_file tree ctx source target (file_in tree source) (file_in tree target))

-- what comes of the call: each handle takes its tests before the next
abbrev pub renaming : Tree → Ctx → List ℕ → List ℕ → List ℕ → List ℕ → Result (Effect (Unit {0})) Status
renaming tree ctx from name to new_name =
    found_then (find_file tree from) (λ number directory. found_then (find_file tree to) (λ other parent.
    rename tree ctx (record { number = number; directory = directory; name = name })
    (record { number = other; directory = parent; name = new_name })))

-- Both directories are told of.
pub record RenameStep (tree : Tree) (ctx : Ctx) (from name to new_name : List ℕ)
    (outcome : Result (Unit {0}) Status) (file_attributes new_file_attributes : WeakCacheData) (next : Tree) : Type 0 where
  pub answered : outcome ≡ answer_of (renaming tree ctx from name to new_name)
  pub leads : next ≡ tree_after tree (renaming tree ctx from name to new_name)
  pub parts : file_attributes ≡ change_between next (find_file tree from)
  pub new_parts : new_file_attributes ≡ change_between next (after_first (find_file tree from) (find_file tree to))
