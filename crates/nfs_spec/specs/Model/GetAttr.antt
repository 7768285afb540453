-- GETATTR (RFC 1813, section 3.3.1).
use Rattle.std.specs.Prelude.{◌≡◌, ℕ, List, Result, Ok, Err}
use Rattle.nfs_types.specs.declared.attributes.Attributes.{Attributes}
use Rattle.nfs_types.specs.declared.status.Status.{Status}
use Rattle.nfs_spec.specs.Model.Node.{Node}
use Rattle.nfs_spec.specs.Model.Tree.{Tree}
use Rattle.nfs_spec.specs.Model.Attributes.{attributes_of}
use Rattle.nfs_spec.specs.Model.Find.{find_file}

-- the attributes of what was found, or why nothing was
abbrev pub attributes_found : Result (ℕ × Node) Status → Result Attributes Status
attributes_found (Ok found) = Ok (attributes_of found.0 found.1)
attributes_found (Err status) = Err status

-- the file's attributes are told, and nothing changes
pub record GetAttrStep (tree : Tree) (handle : List ℕ) (outcome : Result Attributes Status)
    (next : Tree) : Type 0 where
  pub attributes_answered : outcome ≡ attributes_found (find_file tree handle)
  pub unchanged : next ≡ tree
