-- SETATTR (RFC 1813, section 3.3.2).
use Rattle.std.specs.Prelude.{◌≡◌, ℕ, ◌-◌, ◌*◌, Bool, true, false, cond, not, ◌&&◌, ◌||◌, List, [], ◌∷◌, ◌++◌}
use Rattle.std.specs.Prelude.{length, take, replicate, nat_eq, nat_le, nat_lt, is_some, bit_and, Option, Some}
use Rattle.std.specs.Prelude.{None, unwrap_or, Result, Ok, Err}
use Rattle.std.specs.Ordering.{nat_cmp}
use Rattle.std.specs.FinSet.{FinSet, retain}
use Rattle.base.specs.declared.TheConstants.{BLOCK_BYTES, LARGEST_FILE, MODE_BITS, NANOSECONDS, WRITE_RIGHT}
use Rattle.nfs_types.specs.declared.attributes.NewAttributes.{NewAttributes}
use Rattle.nfs_types.specs.declared.attributes.SetTime.{SetTime}
use Rattle.nfs_types.specs.declared.attributes.SetTime.TheVariants.{Unchanged, Server, Client}
use Rattle.nfs_types.specs.declared.attributes.WeakCacheData.{WeakCacheData}
use Rattle.nfs_types.specs.declared.ctx.Credential.{Credential}
use Rattle.nfs_types.specs.declared.ctx.Ctx.{Ctx}
use Rattle.nfs_types.specs.declared.ctx.Moment.{Moment}
use Rattle.nfs_types.specs.declared.status.Status.{Status}
use Rattle.nfs_types.specs.declared.status.Status.TheVariants as status
use Rattle.nfs_spec.specs.Model.Node.{Node, Body, Regular, Directory, Link}
use Rattle.nfs_spec.specs.Model.Tree.{Tree, with_node}
use Rattle.nfs_spec.specs.Model.Attributes.{change_of, untold}
use Rattle.nfs_spec.specs.Model.Find.{find_file}
use Rattle.nfs_spec.specs.Model.Permissions.{is_superuser, is_own_group, has_right, acts_as_owner, may_write_file}

-- a value is given, and it passes the test
abbrev pub given : {A : Type 0} → Option A → (A → Bool) → Bool
given None test = false
given (Some value) test = test value

abbrev pub is_client : SetTime → Bool
is_client (Client time) = true
is_client Server = false
is_client Unchanged = false

abbrev pub is_server : SetTime → Bool
is_server Server = true
is_server (Client time) = false
is_server Unchanged = false

abbrev pub same_moment : Moment → Moment → Bool
same_moment a b = nat_eq a.seconds b.seconds && nat_eq a.nanoseconds b.nanoseconds

-- a time of the client has a second or more of nanoseconds
abbrev pub is_no_time : SetTime → Bool
is_no_time (Client time) = nat_le NANOSECONDS time.nanoseconds
is_no_time Server = false
is_no_time Unchanged = false

abbrev pub is_regular : Body → Bool
is_regular (Regular bytes mapped) = true
is_regular (Directory entries span parent) = false
is_regular (Link target) = false

-- the guard isn't the time of the last change
abbrev pub fails_guard : Option Moment → Node → Bool
fails_guard guard node = given guard (λ time. not (same_moment time node.ctime))

-- a time that is none, or a size of what isn't a regular file
abbrev pub is_invalid : NewAttributes → Node → Bool
is_invalid wanted node =
    is_no_time wanted.atime || is_no_time wanted.mtime || is_some wanted.size && not (is_regular node.body)

-- the mode, and times of the client's, are the owner's to set
abbrev pub needs_owner : NewAttributes → Bool
needs_owner wanted = is_some wanted.mode || is_client wanted.atime || is_client wanted.mtime

-- only uid 0 gives a file away; its owner may give it to a group of the owner's; an owner or a group that is
-- given as it is gives nothing away
abbrev pub is_given_away : Credential → NewAttributes → Node → Bool
is_given_away caller wanted node =
    not (is_superuser caller)
    && (given wanted.uid (λ uid. not (nat_eq uid node.uid))
    || given wanted.gid (λ gid. not (nat_eq gid node.gid || nat_eq caller.uid node.uid
    && is_own_group caller gid)))

-- what is the owner's alone to do
abbrev pub is_not_permitted : Credential → NewAttributes → Node → Bool
is_not_permitted caller wanted node =
    needs_owner wanted && not (acts_as_owner caller node) || is_given_away caller wanted node

-- times of the server's are set by the owner or who may write, a size by who may write the file
abbrev pub is_no_access : Credential → NewAttributes → Node → Bool
is_no_access caller wanted node =
    (is_server wanted.atime || is_server wanted.mtime)
    && not (acts_as_owner caller node || has_right WRITE_RIGHT caller node)
    || is_some wanted.size && not (may_write_file caller node)

-- the status of the first test that says yes
abbrev pub first_of_tests : List (Bool × Status) → Option Status
first_of_tests [] = None
first_of_tests (test ∷ tests) = cond test.0 (Some test.1) (first_of_tests tests)

-- why attributes aren't set, by the first of these tests, in their order
abbrev pub refusal : Ctx → NewAttributes → Option Moment → Node → Option Status
refusal ctx wanted guard node = first_of_tests (
    (fails_guard guard node, status.NotSync)
    ∷ (is_invalid wanted node, status.Inval)
    ∷ (is_not_permitted ctx.credential wanted node, status.Perm)
    ∷ (is_no_access ctx.credential wanted node, status.Acces)
    ∷ (given wanted.size (λ size. nat_lt LARGEST_FILE size), status.FBig)
    ∷ [])

-- what a time becomes
abbrev pub set_time : Moment → SetTime → Moment → Moment
set_time moment Unchanged old = old
set_time moment Server old = moment
set_time moment (Client time) old = time

-- a size that is given changes the file, so that a time of change that the call leaves becomes the server's
abbrev pub with_size : Option ℕ → SetTime → SetTime
with_size None time = time
with_size (Some size) Unchanged = Server
with_size (Some size) Server = Server
with_size (Some size) (Client time) = Client time

-- cut, or filled up with zeros
abbrev pub resized : ℕ → List ℕ → List ℕ
resized size bytes = take size bytes ++ replicate (size - length bytes) 0

-- a cut drops the indexes that lie at or past the new end; growth maps what was mapped and no more
abbrev pub mapped_of_size : ℕ → List ℕ → FinSet nat_cmp → FinSet nat_cmp
mapped_of_size size bytes mapped =
    cond (nat_lt size (length bytes)) (retain mapped (λ index. nat_lt (index * BLOCK_BYTES) size)) mapped

-- a regular file of the size that is given
abbrev pub with_length : Option ℕ → Body → Body
with_length None body = body
with_length (Some size) (Regular bytes mapped) =
    Regular (resized size bytes) (mapped_of_size size bytes mapped)
with_length (Some size) (Directory entries span parent) = Directory entries span parent
with_length (Some size) (Link target) = Link target

-- of a mode only the bits count that a file has
abbrev pub mode_of : Option ℕ → ℕ → ℕ
mode_of None old = old
mode_of (Some mode) old = bit_and mode MODE_BITS

-- the file with the attributes that are given; its time of change becomes the moment whatever they are
abbrev pub with_attributes : Moment → NewAttributes → Node → Node
with_attributes moment wanted node = record node {
  mode = mode_of wanted.mode node.mode;
  uid = unwrap_or wanted.uid node.uid;
  gid = unwrap_or wanted.gid node.gid;
  atime = set_time moment wanted.atime node.atime;
  mtime = set_time moment (with_size wanted.size wanted.mtime) node.mtime;
  ctime = moment;
  body = with_length wanted.size node.body;
}

-- No file was found: nothing is told of one, and nothing changes.
pub record NotFound (tree : Tree) (status : Status) (outcome : Result (Unit {0}) Status)
    (object : WeakCacheData) (next : Tree) : Type 0 where
  pub refused : outcome ≡ Err status
  pub parts : object ≡ untold
  pub unchanged : next ≡ tree

-- The file was found and stays as it is: its attributes are told, before and after the call the same.
pub record LeftUnchanged (tree : Tree) (number : ℕ) (node : Node) (status : Status)
    (outcome : Result (Unit {0}) Status) (object : WeakCacheData) (next : Tree) : Type 0 where
  pub refused : outcome ≡ Err status
  pub parts : object ≡ change_of number node node
  pub unchanged : next ≡ tree

-- The file became another, and nothing else changed.
pub record Changed (tree : Tree) (number : ℕ) (node new : Node) (outcome : Result (Unit {0}) Status)
    (object : WeakCacheData) (next : Tree) : Type 0 where
  pub done : outcome ≡ Ok tt
  pub parts : object ≡ change_of number node new
  pub changed : next ≡ with_node tree number new

-- a file that was found is left alone where a test says so, and else has its attributes set
abbrev pub SetOrLeft : Tree → ℕ → Node → Node → Option Status → Result (Unit {0}) Status → WeakCacheData
    → Tree → Type 0
SetOrLeft tree number node new None outcome object next = Changed tree number node new outcome object next
SetOrLeft tree number node new (Some status) outcome object next =
    LeftUnchanged tree number node status outcome object next

-- the tests on the handle come before all others
abbrev pub SetFound : Tree → Ctx → NewAttributes → Option Moment → Result (ℕ × Node) Status
    → Result (Unit {0}) Status → WeakCacheData → Tree → Type 0
SetFound tree ctx wanted guard (Err status) outcome object next = NotFound tree status outcome object next
SetFound tree ctx wanted guard (Ok found) outcome object next =
    SetOrLeft tree found.0 found.1 (with_attributes ctx.moment wanted found.1)
    (refusal ctx wanted guard found.1) outcome object next

-- the attributes of the file that the handle names are set, or it is said why not
abbrev pub SetAttrStep : Tree → Ctx → List ℕ → NewAttributes → Option Moment → Result (Unit {0}) Status
    → WeakCacheData → Tree → Type 0
SetAttrStep tree ctx handle wanted guard outcome object next =
    SetFound tree ctx wanted guard (find_file tree handle) outcome object next
