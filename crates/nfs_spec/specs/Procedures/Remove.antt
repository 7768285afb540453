-- REMOVE (RFC 1813, section 3.3.12).
use Rattle.std.specs.Prelude.{ℕ, Bool, List, [], ◌∷◌, ◌++◌, is_none, Option, Result, Ok}
use Rattle.nfs_types.specs.declared.attributes.WeakCacheData.{WeakCacheData}
use Rattle.nfs_types.specs.declared.ctx.Credential.{Credential}
use Rattle.nfs_types.specs.declared.ctx.Ctx.{Ctx}
use Rattle.nfs_types.specs.declared.status.Status.{Status}
use Rattle.nfs_types.specs.declared.status.Status.TheVariants as status
use Rattle.nfs_spec.specs.Model.Node.{Node}
use Rattle.nfs_spec.specs.Model.SetAttr.{first_of_tests}
use Rattle.nfs_spec.specs.Model.Tree.{Tree}
use Rattle.nfs_spec.specs.Procedures.Changes.{without_name}
use Rattle.nfs_spec.specs.Procedures.FirstTests.{may_change, dentry_tests, unless}
use Rattle.nfs_spec.specs.Procedures.Places.{is_found_directory, is_own_name, named_file}
use Rattle.nfs_spec.specs.Procedures.StepForms.{Acts, Effect}

-- the tests of the name and what it leads to, behind those of its place
abbrev pub remove_tests : List ℕ → Option (ℕ × Node) → List (Bool × Status)
remove_tests name found =
    (is_own_name name, status.IsDir)
    ∷ (is_none found, status.NoEnt)
    ∷ (is_found_directory found, status.IsDir)
    ∷ []

abbrev pub remove_refusal : Credential → Node → List ℕ → Option (ℕ × Node) → Option Status
remove_refusal caller directory name found = first_of_tests (
    dentry_tests (may_change caller directory) directory name ++ remove_tests name found)

-- the name goes, and with its last name the file
abbrev pub remove : Tree → Ctx → List ℕ → ℕ → Node → Result (Effect (Unit {0})) Status
remove tree ctx name at directory =
    unless (remove_refusal ctx.credential directory name (named_file tree directory name))
    (Ok (record {
      answer = tt;
      next = without_name tree ctx.moment at name (named_file tree directory name);
    }))

abbrev pub RemoveStep : Tree → Ctx → List ℕ → List ℕ → Result (Unit {0}) Status → WeakCacheData → Tree
    → Type 0
RemoveStep tree ctx directory name outcome file_attributes next =
    Acts tree directory (remove tree ctx name) outcome file_attributes next
