-- Replies that tell nothing but why a call was refused.
use Rattle.std.specs.Prelude.{None, Err}
use Rattle.nfs_types.specs.declared.call.Call.{Call}
use Rattle.nfs_types.specs.declared.call.Call.TheVariants as call
use Rattle.nfs_types.specs.declared.reply.Reply.{Reply}
use Rattle.nfs_types.specs.declared.reply.Reply.TheVariants as reply
use Rattle.nfs_types.specs.declared.status.Status.{Status}
use Rattle.nfs_spec.specs.Model.Attributes.{untold}

-- The reply of a call's own procedure with this status, and with nothing told of any file (RFC 1813, section
-- 3.3). NULL has no status.
abbrev pub refused : Status → Call → Reply
refused status call.Null = reply.Null
refused status (call.GetAttr _) = reply.GetAttr (Err status)
refused status (call.SetAttr _ _ _) = reply.SetAttr (Err status) untold
refused status (call.Lookup _) = reply.Lookup (Err status) None
refused status (call.Access _ _) = reply.Access (Err status) None
refused status (call.ReadLink _) = reply.ReadLink (Err status) None
refused status (call.Read _ _ _) = reply.Read (Err status) None
refused status (call.Write _ _ _ _ _) = reply.Write (Err status) untold
refused status (call.Create _ _) = reply.Create (Err status) untold
refused status (call.MkDir _ _) = reply.MkDir (Err status) untold
refused status (call.SymLink _ _ _) = reply.SymLink (Err status) untold
refused status (call.MkNod _ _) = reply.MkNod (Err status) untold
refused status (call.Remove _) = reply.Remove (Err status) untold
refused status (call.RmDir _) = reply.RmDir (Err status) untold
refused status (call.Rename _ _) = reply.Rename (Err status) untold untold
refused status (call.Link _ _) = reply.Link (Err status) None untold
refused status (call.ReadDir _ _ _ _) = reply.ReadDir (Err status) None
refused status (call.ReadDirPlus _ _ _ _ _) = reply.ReadDirPlus (Err status) None
refused status (call.FsStat _) = reply.FsStat (Err status) None
refused status (call.FsInfo _) = reply.FsInfo (Err status) None
refused status (call.PathConf _) = reply.PathConf (Err status) None
refused status (call.Commit _ _ _) = reply.Commit (Err status) untold
