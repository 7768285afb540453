-- What is known of the names of a call.
use Rattle.std.specs.Prelude.{◌≡◌, Option, Some, None, length}
use Rattle.std.specs.Borrow.{Bor}
use Rattle.base.specs.declared.TheConstants.{HANDLE_BYTES}
use Rattle.nfs_types.specs.declared.call.Call.{Call}
use Rattle.nfs_types.specs.declared.call.DirectoryName.{DirectoryName}
use Rattle.nfs_spec.specs.Model.Find.{number_in}
use Rattle.inode.specs.declared.snap.Snap.{Snap}
use Rattle.dir.specs.declared.cursor.SearchCursor.{SearchCursor}
use Rattle.dir.specs.SearchCursor.{IsSearchCursor}
use Rattle.dir.specs.declared.search.call_names.Names.{Names}
use Rattle.dir.specs.Search.Places.{first_dentry, second_dentry}

-- what is known of the names is so by what was read
pub record IsKnown (snap : Snap) (names : Names) : Type 0 where
  pub first : IsSearchCursor snap names.first
  pub second : IsSearchCursor snap names.second

-- the same of names that there may be
pub record AreKnown (snap : Snap) (names : Option (Bor Names)) : Type 0 where
  pub known : (one : Bor Names) → names ≡ Some one → IsKnown snap one.now

-- The name of a place is looked for in the directory of its handle. Where there is no place nothing is looked through.
pub record IsOfDentry (dentry : Option DirectoryName) (cursor : SearchCursor) : Type 0 where
  pub name : (one : DirectoryName) → dentry ≡ Some one → cursor.name ≡ one.name
  pub directory : (one : DirectoryName) → dentry ≡ Some one → length one.directory.bytes ≡ HANDLE_BYTES
      → cursor.directory ≡ number_in one.directory.bytes
  pub nowhere : dentry ≡ None → cursor.directory ≡ 0
  pub none : dentry ≡ None → cursor.blocks ≡ 0

-- the names are those of the call
pub record IsOfCall (call : Call) (names : Names) : Type 0 where
  pub first : IsOfDentry (first_dentry call) names.first
  pub second : IsOfDentry (second_dentry call) names.second
