-- The procedures of both programs, by their numbers (RFC 1813, sections 2.2, 3.3 and 5.2).
use Rattle.std.specs.Prelude.{ℕ, List, [], ◌∷◌, Option, option_map, ◌==◌}
use Rattle.std.specs.List.{find}
use Rattle.nfs_types.specs.declared.call.Call.{Call}
use Rattle.nfs_types.specs.declared.call.Call.TheVariants as calls
use Rattle.nfs_types.specs.declared.mount.MountCall.{MountCall}
use Rattle.nfs_types.specs.declared.mount.MountCall.TheVariants as mount_calls
use Rattle.nfs_types.specs.declared.mount.MountReply.{MountReply}
use Rattle.nfs_types.specs.declared.mount.MountReply.TheVariants as mount_replies
use Rattle.nfs_types.specs.declared.program.MountProcedure.{MountProcedure}
use Rattle.nfs_types.specs.declared.program.MountProcedure.TheVariants as mount
use Rattle.nfs_types.specs.declared.program.Procedure.{Procedure}
use Rattle.nfs_types.specs.declared.program.Procedure.TheVariants as nfs
use Rattle.nfs_types.specs.declared.program.Program.{Program}
use Rattle.nfs_types.specs.declared.program.Program.TheVariants.{Nfs, Mount}
use Rattle.nfs_types.specs.declared.program.ProgramCall.{ProgramCall}
use Rattle.nfs_types.specs.declared.program.ProgramCall.TheVariants as program_calls
use Rattle.nfs_types.specs.declared.program.ProgramProcedure.{ProgramProcedure}
use Rattle.nfs_types.specs.declared.program.ProgramProcedure.TheVariants as procedures
use Rattle.nfs_types.specs.declared.program.ProgramReply.{ProgramReply}
use Rattle.nfs_types.specs.declared.program.ProgramReply.TheVariants as program_replies
use Rattle.nfs_types.specs.declared.reply.Reply.{Reply}
use Rattle.nfs_types.specs.declared.reply.Reply.TheVariants as replies

-- ---- procedures

-- of program 100003 (section 3.3)
abbrev pub nfs_number : Procedure → ℕ
nfs_number nfs.Null = 0
nfs_number nfs.GetAttr = 1
nfs_number nfs.SetAttr = 2
nfs_number nfs.Lookup = 3
nfs_number nfs.Access = 4
nfs_number nfs.ReadLink = 5
nfs_number nfs.Read = 6
nfs_number nfs.Write = 7
nfs_number nfs.Create = 8
nfs_number nfs.MkDir = 9
nfs_number nfs.SymLink = 10
nfs_number nfs.MkNod = 11
nfs_number nfs.Remove = 12
nfs_number nfs.RmDir = 13
nfs_number nfs.Rename = 14
nfs_number nfs.Link = 15
nfs_number nfs.ReadDir = 16
nfs_number nfs.ReadDirPlus = 17
nfs_number nfs.FsStat = 18
nfs_number nfs.FsInfo = 19
nfs_number nfs.PathConf = 20
nfs_number nfs.Commit = 21

-- all of them, in the order of their numbers
abbrev pub nfs_procedures : List Procedure
nfs_procedures =
    nfs.Null ∷ nfs.GetAttr ∷ nfs.SetAttr ∷ nfs.Lookup ∷ nfs.Access ∷ nfs.ReadLink ∷ nfs.Read ∷ nfs.Write
    ∷ nfs.Create ∷ nfs.MkDir ∷ nfs.SymLink ∷ nfs.MkNod ∷ nfs.Remove ∷ nfs.RmDir ∷ nfs.Rename ∷ nfs.Link
    ∷ nfs.ReadDir ∷ nfs.ReadDirPlus ∷ nfs.FsStat ∷ nfs.FsInfo ∷ nfs.PathConf ∷ nfs.Commit ∷ []

-- of program 100005 (section 5.2)
abbrev pub mount_number : MountProcedure → ℕ
mount_number mount.Null = 0
mount_number mount.Mount = 1
mount_number mount.Unmount = 3

abbrev pub mount_procedures : List MountProcedure
mount_procedures = mount.Null ∷ mount.Mount ∷ mount.Unmount ∷ []

-- of either program
abbrev pub procedure_number : ProgramProcedure → ℕ
procedure_number (procedures.Nfs procedure) = nfs_number procedure
procedure_number (procedures.Mount procedure) = mount_number procedure

-- the procedure of a program and a number
abbrev pub nfs_procedure : ℕ → Option Procedure
nfs_procedure n = find (λ procedure. n == nfs_number procedure) nfs_procedures

abbrev pub mount_procedure : ℕ → Option MountProcedure
mount_procedure n = find (λ procedure. n == mount_number procedure) mount_procedures

abbrev pub procedure_of : Program → ℕ → Option ProgramProcedure
procedure_of Nfs n = option_map procedures.Nfs (nfs_procedure n)
procedure_of Mount n = option_map procedures.Mount (mount_procedure n)

-- ---- the procedure of a call, and of a reply

abbrev pub nfs_called : Call → Procedure
nfs_called calls.Null = nfs.Null
nfs_called (calls.GetAttr _) = nfs.GetAttr
nfs_called (calls.SetAttr _ _ _) = nfs.SetAttr
nfs_called (calls.Lookup _) = nfs.Lookup
nfs_called (calls.Access _ _) = nfs.Access
nfs_called (calls.ReadLink _) = nfs.ReadLink
nfs_called (calls.Read _ _ _) = nfs.Read
nfs_called (calls.Write _ _ _ _ _) = nfs.Write
nfs_called (calls.Create _ _) = nfs.Create
nfs_called (calls.MkDir _ _) = nfs.MkDir
nfs_called (calls.SymLink _ _ _) = nfs.SymLink
nfs_called (calls.MkNod _ _) = nfs.MkNod
nfs_called (calls.Remove _) = nfs.Remove
nfs_called (calls.RmDir _) = nfs.RmDir
nfs_called (calls.Rename _ _) = nfs.Rename
nfs_called (calls.Link _ _) = nfs.Link
nfs_called (calls.ReadDir _ _ _ _) = nfs.ReadDir
nfs_called (calls.ReadDirPlus _ _ _ _ _) = nfs.ReadDirPlus
nfs_called (calls.FsStat _) = nfs.FsStat
nfs_called (calls.FsInfo _) = nfs.FsInfo
nfs_called (calls.PathConf _) = nfs.PathConf
nfs_called (calls.Commit _ _ _) = nfs.Commit

abbrev pub mount_called : MountCall → MountProcedure
mount_called mount_calls.Null = mount.Null
mount_called (mount_calls.Mount _) = mount.Mount
mount_called (mount_calls.Unmount _) = mount.Unmount

abbrev pub called : ProgramCall → ProgramProcedure
called (program_calls.Nfs call) = procedures.Nfs (nfs_called call)
called (program_calls.Mount call) = procedures.Mount (mount_called call)

abbrev pub nfs_replied_to : Reply → Procedure
nfs_replied_to replies.Null = nfs.Null
nfs_replied_to (replies.GetAttr _) = nfs.GetAttr
nfs_replied_to (replies.SetAttr _ _) = nfs.SetAttr
nfs_replied_to (replies.Lookup _ _) = nfs.Lookup
nfs_replied_to (replies.Access _ _) = nfs.Access
nfs_replied_to (replies.ReadLink _ _) = nfs.ReadLink
nfs_replied_to (replies.Read _ _) = nfs.Read
nfs_replied_to (replies.Write _ _) = nfs.Write
nfs_replied_to (replies.Create _ _) = nfs.Create
nfs_replied_to (replies.MkDir _ _) = nfs.MkDir
nfs_replied_to (replies.SymLink _ _) = nfs.SymLink
nfs_replied_to (replies.MkNod _ _) = nfs.MkNod
nfs_replied_to (replies.Remove _ _) = nfs.Remove
nfs_replied_to (replies.RmDir _ _) = nfs.RmDir
nfs_replied_to (replies.Rename _ _ _) = nfs.Rename
nfs_replied_to (replies.Link _ _ _) = nfs.Link
nfs_replied_to (replies.ReadDir _ _) = nfs.ReadDir
nfs_replied_to (replies.ReadDirPlus _ _) = nfs.ReadDirPlus
nfs_replied_to (replies.FsStat _ _) = nfs.FsStat
nfs_replied_to (replies.FsInfo _ _) = nfs.FsInfo
nfs_replied_to (replies.PathConf _ _) = nfs.PathConf
nfs_replied_to (replies.Commit _ _) = nfs.Commit

abbrev pub mount_replied_to : MountReply → MountProcedure
mount_replied_to mount_replies.Null = mount.Null
mount_replied_to (mount_replies.Mount _) = mount.Mount
mount_replied_to mount_replies.Unmount = mount.Unmount

abbrev pub replied_to : ProgramReply → ProgramProcedure
replied_to (program_replies.Nfs reply) = procedures.Nfs (nfs_replied_to reply)
replied_to (program_replies.Mount reply) = procedures.Mount (mount_replied_to reply)
