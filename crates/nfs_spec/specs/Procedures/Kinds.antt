-- Which calls only tell something or may make a file, and which replies are refusals or tell of a failure.
use Rattle.std.specs.Prelude.{Bool, true, false, is_err, Result, Ok, Err}
use Rattle.nfs_types.specs.declared.call.Call.{Call}
use Rattle.nfs_types.specs.declared.call.Call.TheVariants as call
use Rattle.nfs_types.specs.declared.reply.Reply.{Reply}
use Rattle.nfs_types.specs.declared.reply.Reply.TheVariants as reply
use Rattle.nfs_types.specs.declared.status.Status.{Status}
use Rattle.nfs_types.specs.declared.status.Status.TheVariants as status

-- the calls that change nothing, whatever comes of them
abbrev pub only_tells : Call → Bool
only_tells call.Null = true
only_tells (call.GetAttr _) = true
only_tells (call.Lookup _) = true
only_tells (call.Access _ _) = true
only_tells (call.ReadLink _) = true
only_tells (call.Read _ _ _) = true
only_tells (call.ReadDir _ _ _ _) = true
only_tells (call.ReadDirPlus _ _ _ _ _) = true
only_tells (call.FsStat _) = true
only_tells (call.FsInfo _) = true
only_tells (call.PathConf _) = true
only_tells (call.Commit _ _ _) = true
only_tells (call.MkNod _ _) = true
only_tells (call.SetAttr _ _ _) = false
only_tells (call.Write _ _ _ _ _) = false
only_tells (call.Create _ _) = false
only_tells (call.MkDir _ _) = false
only_tells (call.SymLink _ _ _) = false
only_tells (call.Remove _) = false
only_tells (call.RmDir _) = false
only_tells (call.Rename _ _) = false
only_tells (call.Link _ _) = false

-- the calls that may make a file, which gets a number of its own
abbrev pub may_make_file : Call → Bool
may_make_file (call.Create _ _) = true
may_make_file (call.MkDir _ _) = true
may_make_file (call.SymLink _ _ _) = true
may_make_file call.Null = false
may_make_file (call.GetAttr _) = false
may_make_file (call.SetAttr _ _ _) = false
may_make_file (call.Lookup _) = false
may_make_file (call.Access _ _) = false
may_make_file (call.ReadLink _) = false
may_make_file (call.Read _ _ _) = false
may_make_file (call.Write _ _ _ _ _) = false
may_make_file (call.MkNod _ _) = false
may_make_file (call.Remove _) = false
may_make_file (call.RmDir _) = false
may_make_file (call.Rename _ _) = false
may_make_file (call.Link _ _) = false
may_make_file (call.ReadDir _ _ _ _) = false
may_make_file (call.ReadDirPlus _ _ _ _ _) = false
may_make_file (call.FsStat _) = false
may_make_file (call.FsInfo _) = false
may_make_file (call.PathConf _) = false
may_make_file (call.Commit _ _ _) = false

-- a reply with another status than OK
abbrev pub is_refusal : Reply → Bool
is_refusal reply.Null = false
is_refusal (reply.GetAttr outcome) = is_err outcome
is_refusal (reply.SetAttr outcome _) = is_err outcome
is_refusal (reply.Lookup outcome _) = is_err outcome
is_refusal (reply.Access outcome _) = is_err outcome
is_refusal (reply.ReadLink outcome _) = is_err outcome
is_refusal (reply.Read outcome _) = is_err outcome
is_refusal (reply.Write outcome _) = is_err outcome
is_refusal (reply.Create outcome _) = is_err outcome
is_refusal (reply.MkDir outcome _) = is_err outcome
is_refusal (reply.SymLink outcome _) = is_err outcome
is_refusal (reply.MkNod outcome _) = is_err outcome
is_refusal (reply.Remove outcome _) = is_err outcome
is_refusal (reply.RmDir outcome _) = is_err outcome
is_refusal (reply.Rename outcome _ _) = is_err outcome
is_refusal (reply.Link outcome _ _) = is_err outcome
is_refusal (reply.ReadDir outcome _) = is_err outcome
is_refusal (reply.ReadDirPlus outcome _) = is_err outcome
is_refusal (reply.FsStat outcome _) = is_err outcome
is_refusal (reply.FsInfo outcome _) = is_err outcome
is_refusal (reply.PathConf outcome _) = is_err outcome
is_refusal (reply.Commit outcome _) = is_err outcome

-- the statuses that tell that the store failed, and not what a procedure found
abbrev pub is_failure : Status → Bool
is_failure status.Io = true
is_failure status.ServerFault = true
is_failure status.Perm = false
is_failure status.NoEnt = false
is_failure status.Acces = false
is_failure status.Exist = false
is_failure status.NotDir = false
is_failure status.IsDir = false
is_failure status.Inval = false
is_failure status.FBig = false
is_failure status.NoSpc = false
is_failure status.MLink = false
is_failure status.NameTooLong = false
is_failure status.NotEmpty = false
is_failure status.Stale = false
is_failure status.BadHandle = false
is_failure status.NotSync = false
is_failure status.BadCookie = false
is_failure status.NotSupp = false
is_failure status.TooSmall = false

-- an outcome with a status of these
abbrev pub fails_with : {A : Type 0} → (Status → Bool) → Result A Status → Bool
fails_with among (Ok answer) = false
fails_with among (Err status) = among status

-- a reply with such an outcome
abbrev pub tells_one_of : (Status → Bool) → Reply → Bool
tells_one_of among reply.Null = false
tells_one_of among (reply.GetAttr outcome) = fails_with among outcome
tells_one_of among (reply.SetAttr outcome _) = fails_with among outcome
tells_one_of among (reply.Lookup outcome _) = fails_with among outcome
tells_one_of among (reply.Access outcome _) = fails_with among outcome
tells_one_of among (reply.ReadLink outcome _) = fails_with among outcome
tells_one_of among (reply.Read outcome _) = fails_with among outcome
tells_one_of among (reply.Write outcome _) = fails_with among outcome
tells_one_of among (reply.Create outcome _) = fails_with among outcome
tells_one_of among (reply.MkDir outcome _) = fails_with among outcome
tells_one_of among (reply.SymLink outcome _) = fails_with among outcome
tells_one_of among (reply.MkNod outcome _) = fails_with among outcome
tells_one_of among (reply.Remove outcome _) = fails_with among outcome
tells_one_of among (reply.RmDir outcome _) = fails_with among outcome
tells_one_of among (reply.Rename outcome _ _) = fails_with among outcome
tells_one_of among (reply.Link outcome _ _) = fails_with among outcome
tells_one_of among (reply.ReadDir outcome _) = fails_with among outcome
tells_one_of among (reply.ReadDirPlus outcome _) = fails_with among outcome
tells_one_of among (reply.FsStat outcome _) = fails_with among outcome
tells_one_of among (reply.FsInfo outcome _) = fails_with among outcome
tells_one_of among (reply.PathConf outcome _) = fails_with among outcome
tells_one_of among (reply.Commit outcome _) = fails_with among outcome

-- a reply that the store failed
abbrev pub tells_failure : Reply → Bool
tells_failure reply = tells_one_of is_failure reply
