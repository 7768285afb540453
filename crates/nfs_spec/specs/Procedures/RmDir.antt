-- RMDIR (RFC 1813, section 3.3.13).
use Rattle.std.specs.Prelude.{ℕ, Bool, List, [], ◌∷◌, ◌++◌, length, nat_lt, is_none, Option, Result, Ok}
use Rattle.nfs_types.specs.declared.attributes.WeakCacheData.{WeakCacheData}
use Rattle.nfs_types.specs.declared.ctx.Credential.{Credential}
use Rattle.nfs_types.specs.declared.ctx.Ctx.{Ctx}
use Rattle.nfs_types.specs.declared.status.Status.{Status}
use Rattle.nfs_types.specs.declared.status.Status.TheVariants as status
use Rattle.nfs_spec.specs.Model.Names.{entries_of}
use Rattle.nfs_spec.specs.Model.Node.{Node, Body}
use Rattle.nfs_spec.specs.Model.SetAttr.{first_of_tests, given}
use Rattle.nfs_spec.specs.Model.Tree.{Tree}
use Rattle.nfs_spec.specs.Procedures.Changes.{without_name}
use Rattle.nfs_spec.specs.Procedures.FirstTests.{may_change, dentry_tests, unless}
use Rattle.nfs_spec.specs.Procedures.Places.{is_found_other, is_own_name, named_file}
use Rattle.nfs_spec.specs.Procedures.StepForms.{Acts, Effect}

-- some name lies in it
abbrev pub has_names : Body → Bool
has_names body = nat_lt 0 (length (entries_of body))

-- there is such a file, and it has names in it
abbrev pub is_found_filled : Option (ℕ × Node) → Bool
is_found_filled found = given found (λ file. has_names file.1.body)

-- the tests of the name and what it leads to, behind those of its place
abbrev pub rmdir_tests : List ℕ → Option (ℕ × Node) → List (Bool × Status)
rmdir_tests name found =
    (is_own_name name, status.Inval)
    ∷ (is_none found, status.NoEnt)
    ∷ (is_found_other found, status.NotDir)
    ∷ (is_found_filled found, status.NotEmpty)
    ∷ []

abbrev pub rmdir_refusal : Credential → Node → List ℕ → Option (ℕ × Node) → Option Status
rmdir_refusal caller directory name found = first_of_tests (
    dentry_tests (may_change caller directory) directory name ++ rmdir_tests name found)

-- the name goes, and the directory with it
abbrev pub remove_directory : Tree → Ctx → List ℕ → ℕ → Node → Result (Effect (Unit {0})) Status
remove_directory tree ctx name at directory =
    unless (rmdir_refusal ctx.credential directory name (named_file tree directory name))
    (Ok (record {
      answer = tt;
      next = without_name tree ctx.moment at name (named_file tree directory name);
    }))

abbrev pub RmDirStep : Tree → Ctx → List ℕ → List ℕ → Result (Unit {0}) Status → WeakCacheData → Tree
    → Type 0
RmDirStep tree ctx directory name outcome file_attributes next =
    Acts tree directory (remove_directory tree ctx name) outcome file_attributes next
