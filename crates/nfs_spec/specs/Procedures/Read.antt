-- READ (RFC 1813, section 3.3.6).
use Rattle.std.specs.Prelude.{ℕ, ◌+◌, min, Bool, not, ◌||◌, List, [], ◌∷◌, length, take, drop, nat_eq, nat_le}
use Rattle.std.specs.Prelude.{Option, Result, Ok}
use Rattle.base.specs.declared.TheConstants.{READ_RIGHT, EXECUTE_RIGHT, TRANSFER_BYTES}
use Rattle.nfs_types.specs.declared.attributes.Attributes.{Attributes}
use Rattle.nfs_types.specs.declared.ctx.Credential.{Credential}
use Rattle.nfs_types.specs.declared.ctx.Ctx.{Ctx}
use Rattle.nfs_types.specs.declared.reply.ReadBytes.{ReadBytes}
use Rattle.nfs_types.specs.declared.status.Status.{Status}
use Rattle.nfs_types.specs.declared.status.Status.TheVariants as status
use Rattle.nfs_spec.specs.Model.Node.{Node, Body, Regular, Directory, Link}
use Rattle.nfs_spec.specs.Model.Permissions.{has_right}
use Rattle.nfs_spec.specs.Model.SetAttr.{first_of_tests, is_regular}
use Rattle.nfs_spec.specs.Model.Tree.{Tree}
use Rattle.nfs_spec.specs.Procedures.FirstTests.{unless}
use Rattle.nfs_spec.specs.Procedures.StepForms.{Tells}

-- Of a regular file: who may execute it may read it, and its owner always may (RFC 1813, section 4.4).
abbrev pub may_read_file : Credential → Node → Bool
may_read_file caller node =
    has_right READ_RIGHT caller node || has_right EXECUTE_RIGHT caller node || nat_eq caller.uid node.uid

-- the bytes of a regular file
abbrev pub bytes_of : Body → List ℕ
bytes_of (Regular bytes mapped) = bytes
bytes_of (Directory named span parent) = []
bytes_of (Link target) = []

-- so many bytes from the offset on, as far as there are any and one call moves them
abbrev pub piece : ℕ → ℕ → List ℕ → List ℕ
piece offset count bytes = take (min count TRANSFER_BYTES) (drop offset bytes)

-- the piece, and whether the file ends with it
abbrev pub read_bytes : ℕ → List ℕ → List ℕ → ReadBytes
read_bytes offset bytes given = record {
  count = length given;
  eof = nat_le (length bytes) (offset + length given);
  bytes = given;
}

abbrev pub read_refusal : Credential → Node → Option Status
read_refusal caller node = first_of_tests (
    (not (is_regular node.body), status.Inval)
    ∷ (not (may_read_file caller node), status.Acces)
    ∷ [])

abbrev pub read : Credential → ℕ → ℕ → ℕ → Node → Result ReadBytes Status
read caller offset count number node =
    unless (read_refusal caller node)
    (Ok (read_bytes offset (bytes_of node.body) (piece offset count (bytes_of node.body))))

abbrev pub ReadStep : Tree → Ctx → List ℕ → ℕ → ℕ → Result ReadBytes Status → Option Attributes → Tree
    → Type 0
ReadStep tree ctx file offset count outcome file_attributes next =
    Tells tree file (read ctx.credential offset count) outcome file_attributes next
