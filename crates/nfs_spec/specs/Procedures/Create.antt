-- CREATE (RFC 1813, section 3.3.8).
use Rattle.std.specs.Prelude.{ℕ, Bool, cond, ◌&&◌, List, [], ◌∷◌, ◌++◌, Option, Some, None}
use Rattle.std.specs.Prelude.{Result, Ok, Err}
use Rattle.std.specs.Cmp.Lexicographic.{slice_cmp}
use Rattle.std.specs.FinSet as set
use Rattle.std.specs.Ordering.{nat_cmp, eq_by_cmp}
use Rattle.base.specs.declared.TheConstants.{EXCLUSIVE_MODE, NEW_FILE_MODE}
use Rattle.nfs_types.specs.declared.attributes.NewAttributes.{NewAttributes}
use Rattle.nfs_types.specs.declared.attributes.WeakCacheData.{WeakCacheData}
use Rattle.nfs_types.specs.declared.call.CreateHow.{CreateHow}
use Rattle.nfs_types.specs.declared.call.CreateHow.TheVariants.{Unchecked, Guarded, Exclusive}
use Rattle.nfs_types.specs.declared.ctx.Ctx.{Ctx}
use Rattle.nfs_types.specs.declared.reply.Created.{Created}
use Rattle.nfs_types.specs.declared.status.Status.{Status}
use Rattle.nfs_types.specs.declared.status.Status.TheVariants as status
use Rattle.nfs_types.specs.declared.verifier.Verifier.{Verifier}
use Rattle.nfs_spec.specs.Model.Node.{Node, Body, Regular}
use Rattle.nfs_spec.specs.Model.SetAttr.{first_of_tests, given, is_regular, refusal, with_attributes}
use Rattle.nfs_spec.specs.Model.Tree.{Tree, with_node}
use Rattle.nfs_spec.specs.Procedures.FirstTests.{may_change, dentry_tests, unless}
use Rattle.nfs_spec.specs.Procedures.Fresh.{created, fresh, make, nothing_given}
use Rattle.nfs_spec.specs.Procedures.Places.{is_own_name, named_file}
use Rattle.nfs_spec.specs.Procedures.StepForms.{Acts, Effect}

abbrev pub no_bytes : Body
no_bytes = Regular [] set.empty

-- a new file: as it is asked for, or for an exclusive one with its verifier and nothing else
abbrev pub create_new : Tree → Ctx → Option ℕ → ℕ → Node → List ℕ → CreateHow → Result (Effect Created) Status
create_new tree ctx number at directory name (Unchecked wanted) =
    make tree ctx number at directory name wanted (fresh ctx NEW_FILE_MODE None no_bytes)
create_new tree ctx number at directory name (Guarded wanted) =
    make tree ctx number at directory name wanted (fresh ctx NEW_FILE_MODE None no_bytes)
create_new tree ctx number at directory name (Exclusive verifier) =
    make tree ctx number at directory name nothing_given (fresh ctx EXCLUSIVE_MODE (Some verifier) no_bytes)

-- the file is there, and it becomes this one
abbrev pub becomes : Tree → ℕ → Node → Effect Created
becomes tree number node = record { answer = created number node; next = with_node tree number node }

-- of the attributes for a file that is there its size alone counts
abbrev pub only_size : ℕ → NewAttributes
only_size size = record nothing_given { size = Some size }

-- the size is set as by SETATTR; without one nothing is
abbrev pub resize : Tree → Ctx → Option ℕ → ℕ → Node → Result (Effect Created) Status
resize tree ctx None number node = Ok (record { answer = created number node; next = tree })
resize tree ctx (Some size) number node =
    unless (refusal ctx (only_size size) None node)
    (Ok (becomes tree number (with_attributes ctx.moment (only_size size) node)))

abbrev pub same_verifier : Verifier → Verifier → Bool
same_verifier a b = eq_by_cmp (slice_cmp nat_cmp) a.bytes b.bytes

-- a regular file that an exclusive CREATE with this verifier made
abbrev pub is_made_with : Verifier → Node → Bool
is_made_with verifier node = is_regular node.body && given node.verifier (same_verifier verifier)

-- what becomes of a file that is there
abbrev pub create_over : Tree → Ctx → CreateHow → ℕ → Node → Result (Effect Created) Status
create_over tree ctx (Unchecked wanted) number node =
    cond (is_regular node.body) (resize tree ctx wanted.size number node) (Err status.Exist)
create_over tree ctx (Guarded wanted) number node = Err status.Exist
create_over tree ctx (Exclusive verifier) number node =
    cond (is_made_with verifier node) (resize tree ctx None number node) (Err status.Exist)

-- by whether the name leads to a file
abbrev pub create_at : Tree → Ctx → CreateHow → Option ℕ → ℕ → Node → List ℕ → Option (ℕ × Node)
    → Result (Effect Created) Status
create_at tree ctx how number at directory name None = create_new tree ctx number at directory name how
create_at tree ctx how number at directory name (Some file) = create_over tree ctx how file.0 file.1

abbrev pub create : Tree → Ctx → List ℕ → CreateHow → Option ℕ → ℕ → Node → Result (Effect Created) Status
create tree ctx name how number at directory =
    unless (first_of_tests (dentry_tests (may_change ctx.credential directory) directory name
    ++ (is_own_name name, status.Exist) ∷ []))
    (create_at tree ctx how number at directory name (named_file tree directory name))

abbrev pub CreateStep : Tree → Ctx → List ℕ → List ℕ → CreateHow → Option ℕ → Result Created Status
    → WeakCacheData → Tree → Type 0
CreateStep tree ctx directory name how number outcome file_attributes next =
    Acts tree directory (create tree ctx name how number) outcome file_attributes next
