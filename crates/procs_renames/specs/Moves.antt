-- The places of RENAME by the heads of their directories.
use Rattle.std.specs.Prelude.{ℕ, List, ◌≡◌, Some, None, Result, Ok, Err}
use Rattle.nfs_types.specs.declared.ctx.Credential.{Credential}
use Rattle.nfs_types.specs.declared.status.Status.{Status}
use Rattle.nfs_spec.specs.Model.Node.{Body}
use Rattle.nfs_spec.specs.Model.Tree.{Tree}
use Rattle.nfs_spec.specs.Procedures.Rename.{Dentry, file_in, places_refusal}
use Rattle.procs_files.specs.declared.inode_attributes.InodeAttributes.{InodeAttributes}
use Rattle.procs_files.specs.Heads.{IsFound, node_of}

-- a name in a directory of this head
abbrev pub dentry_of : InodeAttributes → Body → List ℕ → Dentry
dentry_of directory body name = record {
  number = directory.number;
  directory = node_of directory body;
  name = name;
}

-- the file that the first place names, where no test of both places refuses it
abbrev pub IsSourceFile : Tree → Credential → Dentry → Dentry → Result InodeAttributes Status → Type 0
IsSourceFile tree caller source target (Err status) = places_refusal tree caller source target ≡ Some status
IsSourceFile tree caller source target (Ok file) =
    (places_refusal tree caller source target ≡ None) × IsFound tree (file_in tree source) (Some file)
