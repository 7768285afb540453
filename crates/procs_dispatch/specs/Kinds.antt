-- The calls that only tell something, and those that change files, by the table of calls.
use Rattle.std.specs.Prelude.{◌&&◌, Bool, not}
use Rattle.nfs_types.specs.CallFacts.{facts}
use Rattle.nfs_types.specs.declared.call.Call.{Call}

-- those that only tell something, but for NULL. MKNOD makes nothing
abbrev pub tells : Call → Bool
tells asked = (facts asked).begins_transaction && not (facts asked).changes

-- those that change files
abbrev pub changes : Call → Bool
changes asked = (facts asked).changes
