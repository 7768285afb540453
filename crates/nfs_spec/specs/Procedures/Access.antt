-- ACCESS (RFC 1813, section 3.3.4).
use Rattle.std.specs.Prelude.{ℕ, ◌+◌, Bool, cond, not, ◌&&◌, List, Option, Result, Ok, bit_and}
use Rattle.base.specs.declared.TheConstants.{READ_RIGHT, WRITE_RIGHT, EXECUTE_RIGHT}
use Rattle.nfs_types.specs.declared.attributes.Attributes.{Attributes}
use Rattle.nfs_types.specs.declared.ctx.Credential.{Credential}
use Rattle.nfs_types.specs.declared.ctx.Ctx.{Ctx}
use Rattle.nfs_types.specs.declared.status.Status.{Status}
use Rattle.nfs_spec.specs.Model.Names.{is_directory}
use Rattle.nfs_spec.specs.Model.Node.{Node}
use Rattle.nfs_spec.specs.Model.Permissions.{has_right}
use Rattle.nfs_spec.specs.Model.Tree.{Tree}
use Rattle.nfs_spec.specs.Procedures.StepForms.{Tells}
use Rattle.nfs_spec.specs.declared.procedures.bits.TheConstants.{ACCESS_DELETE, ACCESS_EXECUTE, ACCESS_EXTEND}
use Rattle.nfs_spec.specs.declared.procedures.bits.TheConstants.{ACCESS_LOOKUP, ACCESS_MODIFY, ACCESS_READ}

-- a bit where it stands for something that the caller may do
abbrev pub bit_where : Bool → ℕ → ℕ
bit_where may bit = cond may bit 0

-- All that the caller may do with the file: to search and to remove are for directories, and to execute for
-- all others. That the owner may always read and write a regular file isn't told.
abbrev pub rights_on : Credential → Node → ℕ
rights_on caller node =
    bit_where (has_right READ_RIGHT caller node) ACCESS_READ
    + bit_where (has_right EXECUTE_RIGHT caller node && is_directory node.body) ACCESS_LOOKUP
    + bit_where (has_right WRITE_RIGHT caller node) ACCESS_MODIFY
    + bit_where (has_right WRITE_RIGHT caller node) ACCESS_EXTEND
    + bit_where (has_right WRITE_RIGHT caller node && is_directory node.body) ACCESS_DELETE
    + bit_where (has_right EXECUTE_RIGHT caller node && not (is_directory node.body)) ACCESS_EXECUTE

-- what of it is asked for
abbrev pub granted : Credential → ℕ → ℕ → Node → Result ℕ Status
granted caller bits number node = Ok (bit_and bits (rights_on caller node))

abbrev pub AccessStep : Tree → Ctx → List ℕ → ℕ → Result ℕ Status → Option Attributes → Tree → Type 0
AccessStep tree ctx object bits outcome file_attributes next =
    Tells tree object (granted ctx.credential bits) outcome file_attributes next
