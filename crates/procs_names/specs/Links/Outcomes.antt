-- What comes of the tests of what a name leads to.
use Rattle.std.specs.Prelude.{◌≡◌, Option, Some, None, Result, Ok, Err}
use Rattle.nfs_types.specs.declared.status.Status.{Status}
use Rattle.procs_files.specs.declared.inode_attributes.InodeAttributes.{InodeAttributes}

-- the file that was found, where no test refuses it
abbrev pub IsLet : Option Status → Option InodeAttributes → Result InodeAttributes Status → Type 0
IsLet refusal found (Ok file) = (refusal ≡ None) × (found ≡ Some file)
IsLet refusal found (Err status) = refusal ≡ Some status
