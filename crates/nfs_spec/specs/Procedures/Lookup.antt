-- LOOKUP (RFC 1813, section 3.3.3).
use Rattle.std.specs.Prelude.{ℕ, cond, List, Option, Some, Result}
use Rattle.std.specs.Option.{option_map, ok_or}
use Rattle.nfs_types.specs.declared.attributes.Attributes.{Attributes}
use Rattle.nfs_types.specs.declared.ctx.Credential.{Credential}
use Rattle.nfs_types.specs.declared.ctx.Ctx.{Ctx}
use Rattle.nfs_types.specs.declared.reply.LookupResult.{LookupResult}
use Rattle.nfs_types.specs.declared.status.Status.{Status}
use Rattle.nfs_types.specs.declared.status.Status.TheVariants as status
use Rattle.nfs_spec.specs.Model.Attributes.{attributes_of}
use Rattle.nfs_spec.specs.Model.Names.{parent_of}
use Rattle.nfs_spec.specs.Model.Node.{Node}
use Rattle.nfs_spec.specs.Model.SetAttr.{first_of_tests}
use Rattle.nfs_spec.specs.Model.Tree.{Tree}
use Rattle.nfs_spec.specs.Procedures.FirstTests.{may_search, dentry_tests, unless}
use Rattle.nfs_spec.specs.Procedures.Places.{file_at, is_itself, is_parent, named_file}
use Rattle.nfs_spec.specs.Procedures.StepForms.{Tells, handle_of}

-- the file that a name leads to: `.` to the directory, `..` to its parent
abbrev pub found_under : Tree → ℕ → Node → List ℕ → Option (ℕ × Node)
found_under tree number directory name =
    cond (is_itself name) (Some (number, directory))
    (cond (is_parent name) (file_at tree (parent_of directory.body)) (named_file tree directory name))

abbrev pub lookup_result : ℕ × Node → LookupResult
lookup_result file = record {
  object = handle_of file.0 file.1;
  attributes = Some (attributes_of file.0 file.1);
}

abbrev pub lookup_name : Tree → Credential → List ℕ → ℕ → Node → Result LookupResult Status
lookup_name tree caller name number directory =
    unless (first_of_tests (dentry_tests (may_search caller directory) directory name))
    (ok_or (option_map lookup_result (found_under tree number directory name)) status.NoEnt)

abbrev pub LookupStep : Tree → Ctx → List ℕ → List ℕ → Result LookupResult Status → Option Attributes → Tree
    → Type 0
LookupStep tree ctx directory name outcome file_attributes next =
    Tells tree directory (lookup_name tree ctx.credential name) outcome file_attributes next
