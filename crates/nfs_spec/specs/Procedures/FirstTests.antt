-- The tests that come first, in this order: of the handle, of what it names, of the name in it, and of what
-- the caller may do there (RFC 1813, sections 2.6, 3.2 and 4.4).
use Rattle.std.specs.Prelude.{ℕ, Bool, not, ◌&&◌, ◌||◌, List, [], ◌∷◌, length, nat_eq, nat_lt, Option, Some}
use Rattle.std.specs.Prelude.{None, Result, Ok, Err}
use Rattle.std.specs.List.{list_any}
use Rattle.base.specs.declared.TheConstants.{NAME_BYTES, READ_RIGHT, WRITE_RIGHT, EXECUTE_RIGHT}
use Rattle.nfs_types.specs.declared.ctx.Credential.{Credential}
use Rattle.nfs_types.specs.declared.status.Status.{Status}
use Rattle.nfs_types.specs.declared.status.Status.TheVariants as status
use Rattle.nfs_spec.specs.Model.Names.{is_directory}
use Rattle.nfs_spec.specs.Model.Node.{Node}
use Rattle.nfs_spec.specs.Model.Permissions.{has_right}
use Rattle.nfs_spec.specs.Model.Sound.{SLASH}

-- a call goes on with the file that its handle names; a handle that names none is its refusal
abbrev pub found_then : {A : Type 0} → Result (ℕ × Node) Status → (ℕ → Node → Result A Status)
    → Result A Status
found_then (Ok found) rest = rest found.0 found.1
found_then (Err status) rest = Err status

-- Of two handles the second is looked at only where the first names a file.
abbrev pub after_first : Result (ℕ × Node) Status → Result (ℕ × Node) Status → Result (ℕ × Node) Status
after_first (Ok found) second = second
after_first (Err status) second = Err status

-- a call goes on where none of its tests refuses it
abbrev pub unless : {A : Type 0} → Option Status → Result A Status → Result A Status
unless None answer = answer
unless (Some status) answer = Err status

abbrev pub is_no_directory : Node → Bool
is_no_directory node = not (is_directory node.body)

-- empty, or with a character that no name has
abbrev pub is_no_name : List ℕ → Bool
is_no_name name = nat_eq (length name) 0 || list_any (λ byte. nat_eq byte SLASH || nat_eq byte 0) name

abbrev pub is_long : List ℕ → Bool
is_long name = nat_lt NAME_BYTES (length name)

-- to list a directory its names have to be readable
abbrev pub may_list : Credential → Node → Bool
may_list caller directory = has_right READ_RIGHT caller directory

-- to find a name in it, it has to be searchable
abbrev pub may_search : Credential → Node → Bool
may_search caller directory = has_right EXECUTE_RIGHT caller directory

-- to make, change or remove a name in it, it has to be writable too
abbrev pub may_change : Credential → Node → Bool
may_change caller directory = has_right WRITE_RIGHT caller directory && may_search caller directory

-- the tests of a name in a directory, where the last says whether the caller may do what is asked
abbrev pub dentry_tests : Bool → Node → List ℕ → List (Bool × Status)
dentry_tests allowed directory name =
    (is_no_directory directory, status.NotDir)
    ∷ (is_no_name name, status.Acces)
    ∷ (is_long name, status.NameTooLong)
    ∷ (not allowed, status.Acces)
    ∷ []
