-- What is known of a call before it is served (RFC 1813, section 3.3): one table, with a row for each call.
use Rattle.std.specs.Prelude.{Bool, true, false, not, Option, Some, None}
use Rattle.nfs_types.specs.declared.call.Call.{Call}
use Rattle.nfs_types.specs.declared.call.Call.TheVariants as call
use Rattle.nfs_types.specs.declared.call.DirectoryName.{DirectoryName}
use Rattle.nfs_types.specs.declared.call.Stability.{Stability}
use Rattle.nfs_types.specs.declared.call.Stability.TheVariants.{Unstable, DataSync, FileSync}
use Rattle.nfs_types.specs.declared.handle.Handle.{Handle}

-- The columns.
pub record Facts : Type 0 where
  -- the handle that is looked at first, if the call has one
  pub handle : Option Handle
  -- the first name, with its directory
  pub name : Option DirectoryName
  -- and the second, which RENAME alone has
  pub second_name : Option DirectoryName
  -- whether it changes files
  pub changes : Bool
  -- whether it is answered, with refusals too, only once what it changed is stable (RFC 1813, section 4.8)
  pub is_stable : Bool
  -- whether it begins a transaction of its own: each does but NULL, which does nothing
  pub begins_transaction : Bool

abbrev pub is_unstable : Stability → Bool
is_unstable Unstable = true
is_unstable DataSync = false
is_unstable FileSync = false

-- a row of a call that begins a transaction, in the order of the columns
abbrev pub row : Handle → Option DirectoryName → Option DirectoryName → Bool → Bool → Facts
row handle name second_name changes is_stable = record {
  handle = Some handle;
  name = name;
  second_name = second_name;
  changes = changes;
  is_stable = is_stable;
  begins_transaction = true;
}

-- the row of NULL
abbrev pub row_of_null : Facts
row_of_null = record {
  handle = None;
  name = None;
  second_name = None;
  changes = false;
  is_stable = false;
  begins_transaction = false;
}

-- the table. MKNOD makes nothing
abbrev pub facts : Call → Facts
facts call.Null = row_of_null
facts (call.GetAttr object) = row object None None false false
facts (call.SetAttr object attributes guard) = row object None None true true
facts (call.Lookup name) = row name.directory (Some name) None false false
facts (call.Access object bits) = row object None None false false
facts (call.ReadLink link) = row link None None false false
facts (call.Read file offset count) = row file None None false false
facts (call.Write file offset count stability bytes) = row file None None true (not (is_unstable stability))
facts (call.Create name how) = row name.directory (Some name) None true true
facts (call.MkDir name attributes) = row name.directory (Some name) None true true
facts (call.SymLink name attributes target) = row name.directory (Some name) None true true
facts (call.MkNod name special) = row name.directory (Some name) None false true
facts (call.Remove name) = row name.directory (Some name) None true true
facts (call.RmDir name) = row name.directory (Some name) None true true
facts (call.Rename source target) = row source.directory (Some source) (Some target) true true
facts (call.Link file name) = row file (Some name) None true true
facts (call.ReadDir directory cookie verifier count) = row directory None None false false
facts (call.ReadDirPlus directory cookie verifier directory_count greatest_count) =
    row directory None None false false
facts (call.FsStat object) = row object None None false false
facts (call.FsInfo object) = row object None None false false
facts (call.PathConf object) = row object None None false false
facts (call.Commit file offset count) = row file None None false true
