-- The arguments of calls (RFC 1813, sections 3.3 and 5.2): how each procedure's are spelled, and the call
-- that they make.
use Rattle.std.specs.Prelude.{◌≡◌, ◌≤◌, ◌+◌, ◌-◌, ℕ, Bool, false, List, [], length, take, drop, Option, Result}
use Rattle.xdr.specs.Items.{padding}
use Rattle.nfs_types.specs.declared.attributes.NewAttributes.{NewAttributes}
use Rattle.nfs_types.specs.declared.call.Call.{Call}
use Rattle.nfs_types.specs.declared.call.Call.TheVariants as calls
use Rattle.nfs_types.specs.declared.call.CreateHow.{CreateHow}
use Rattle.nfs_types.specs.declared.call.DirectoryName.{DirectoryName}
use Rattle.nfs_types.specs.declared.call.SpecialFile.{SpecialFile}
use Rattle.nfs_types.specs.declared.call.Stability.{Stability}
use Rattle.nfs_types.specs.declared.ctx.Moment.{Moment}
use Rattle.nfs_types.specs.declared.handle.Handle.{Handle}
use Rattle.nfs_types.specs.declared.mount.MountCall.{MountCall}
use Rattle.nfs_types.specs.declared.mount.MountCall.TheVariants as mount_calls
use Rattle.nfs_types.specs.declared.mount.TheConstants.{PATH_BYTES}
use Rattle.nfs_types.specs.declared.program.MountProcedure.{MountProcedure}
use Rattle.nfs_types.specs.declared.program.MountProcedure.TheVariants as mount
use Rattle.nfs_types.specs.declared.program.Procedure.{Procedure}
use Rattle.nfs_types.specs.declared.program.Procedure.TheVariants as nfs
use Rattle.nfs_types.specs.declared.program.ProgramCall.{ProgramCall}
use Rattle.nfs_types.specs.declared.program.ProgramCall.TheVariants as program_calls
use Rattle.nfs_types.specs.declared.program.ProgramProcedure.{ProgramProcedure}
use Rattle.nfs_types.specs.declared.program.ProgramProcedure.TheVariants as procedures
use Rattle.nfs_types.specs.declared.verifier.Verifier.{Verifier}
use Rattle.nfs_types.specs.Fits.{StringFits, ProgramCallFits}
use Rattle.xdr.specs.declared.fault.XdrFault.{XdrFault}
use Rattle.xdr.specs.Codes.{Code, word, double, opaque, nothing, ◌then◌, fitting, made_of, whole}
use Rattle.xdr.specs.Reading.{◌>>=◌}
use Rattle.nfs_codec.specs.Items.{handle, text, directory_name, verifier, guard, new_attributes}
use Rattle.nfs_codec.specs.Items.{create_how, stability, special_file}
use Rattle.nfs_codec.specs.Procedures.{called}

-- ---- a code for each procedure

abbrev pub get_attr : Code Handle
get_attr = handle

abbrev pub set_attr : Code (Handle × (NewAttributes × Option Moment))
set_attr = handle then new_attributes then guard

abbrev pub lookup : Code DirectoryName
lookup = directory_name

abbrev pub access : Code (Handle × ℕ)
access = handle then word

abbrev pub read_link : Code Handle
read_link = handle

abbrev pub read : Code (Handle × (ℕ × ℕ))
read = handle then double then word

abbrev pub write : Code (Handle × (ℕ × (ℕ × (Stability × List ℕ))))
write = handle then double then word then stability then text

abbrev pub create : Code (DirectoryName × CreateHow)
create = directory_name then create_how

abbrev pub mk_dir : Code (DirectoryName × NewAttributes)
mk_dir = directory_name then new_attributes

abbrev pub sym_link : Code (DirectoryName × (NewAttributes × List ℕ))
sym_link = directory_name then new_attributes then text

abbrev pub mk_nod : Code (DirectoryName × SpecialFile)
mk_nod = directory_name then special_file

abbrev pub remove : Code DirectoryName
remove = directory_name

abbrev pub rm_dir : Code DirectoryName
rm_dir = directory_name

abbrev pub rename : Code (DirectoryName × DirectoryName)
rename = directory_name then directory_name

abbrev pub link : Code (Handle × DirectoryName)
link = handle then directory_name

abbrev pub read_dir : Code (Handle × (ℕ × (Verifier × ℕ)))
read_dir = handle then double then verifier then word

abbrev pub read_dir_plus : Code (Handle × (ℕ × (Verifier × (ℕ × ℕ))))
read_dir_plus = handle then double then verifier then word then word

abbrev pub fs_stat : Code Handle
fs_stat = handle

abbrev pub fs_info : Code Handle
fs_info = handle

abbrev pub path_conf : Code Handle
path_conf = handle

abbrev pub commit : Code (Handle × (ℕ × ℕ))
commit = handle then double then word

-- a path that is mounted (`dirpath`)
unfoldable pub path : Code (List ℕ)
path = fitting (StringFits PATH_BYTES) (opaque PATH_BYTES)

-- ---- the arguments of a call

abbrev pub nfs_arguments : Call → List ℕ
nfs_arguments calls.Null = []
nfs_arguments (calls.GetAttr object) = get_attr.spell object
nfs_arguments (calls.SetAttr object wanted time) = set_attr.spell (object, (wanted, time))
nfs_arguments (calls.Lookup name) = lookup.spell name
nfs_arguments (calls.Access object bits) = access.spell (object, bits)
nfs_arguments (calls.ReadLink object) = read_link.spell object
nfs_arguments (calls.Read file offset count) = read.spell (file, (offset, count))
nfs_arguments (calls.Write file offset count kept bytes) = write.spell (file, (offset, (count, (kept, bytes))))
nfs_arguments (calls.Create name how) = create.spell (name, how)
nfs_arguments (calls.MkDir name wanted) = mk_dir.spell (name, wanted)
nfs_arguments (calls.SymLink name wanted target) = sym_link.spell (name, (wanted, target))
nfs_arguments (calls.MkNod name special) = mk_nod.spell (name, special)
nfs_arguments (calls.Remove name) = remove.spell name
nfs_arguments (calls.RmDir name) = rm_dir.spell name
nfs_arguments (calls.Rename source target) = rename.spell (source, target)
nfs_arguments (calls.Link file name) = link.spell (file, name)
nfs_arguments (calls.ReadDir directory cookie given count) =
    read_dir.spell (directory, (cookie, (given, count)))
nfs_arguments (calls.ReadDirPlus directory cookie given directory_count greatest_count) =
    read_dir_plus.spell (directory, (cookie, (given, (directory_count, greatest_count))))
nfs_arguments (calls.FsStat object) = fs_stat.spell object
nfs_arguments (calls.FsInfo object) = fs_info.spell object
nfs_arguments (calls.PathConf object) = path_conf.spell object
nfs_arguments (calls.Commit file offset count) = commit.spell (file, (offset, count))

abbrev pub mount_arguments : MountCall → List ℕ
mount_arguments mount_calls.Null = []
mount_arguments (mount_calls.Mount wanted) = path.spell wanted
mount_arguments (mount_calls.Unmount wanted) = path.spell wanted

abbrev pub arguments : ProgramCall → List ℕ
arguments (program_calls.Nfs call) = nfs_arguments call
arguments (program_calls.Mount call) = mount_arguments call

-- ---- whether a length in a call is past what four bytes can tell

abbrev pub nfs_too_long : Call → Bool
nfs_too_long calls.Null = false
nfs_too_long (calls.GetAttr object) = get_attr.too_long object
nfs_too_long (calls.SetAttr object wanted time) = set_attr.too_long (object, (wanted, time))
nfs_too_long (calls.Lookup name) = lookup.too_long name
nfs_too_long (calls.Access object bits) = access.too_long (object, bits)
nfs_too_long (calls.ReadLink object) = read_link.too_long object
nfs_too_long (calls.Read file offset count) = read.too_long (file, (offset, count))
nfs_too_long (calls.Write file offset count kept bytes) =
    write.too_long (file, (offset, (count, (kept, bytes))))
nfs_too_long (calls.Create name how) = create.too_long (name, how)
nfs_too_long (calls.MkDir name wanted) = mk_dir.too_long (name, wanted)
nfs_too_long (calls.SymLink name wanted target) = sym_link.too_long (name, (wanted, target))
nfs_too_long (calls.MkNod name special) = mk_nod.too_long (name, special)
nfs_too_long (calls.Remove name) = remove.too_long name
nfs_too_long (calls.RmDir name) = rm_dir.too_long name
nfs_too_long (calls.Rename source target) = rename.too_long (source, target)
nfs_too_long (calls.Link file name) = link.too_long (file, name)
nfs_too_long (calls.ReadDir directory cookie given count) =
    read_dir.too_long (directory, (cookie, (given, count)))
nfs_too_long (calls.ReadDirPlus directory cookie given directory_count greatest_count) =
    read_dir_plus.too_long (directory, (cookie, (given, (directory_count, greatest_count))))
nfs_too_long (calls.FsStat object) = fs_stat.too_long object
nfs_too_long (calls.FsInfo object) = fs_info.too_long object
nfs_too_long (calls.PathConf object) = path_conf.too_long object
nfs_too_long (calls.Commit file offset count) = commit.too_long (file, (offset, count))

abbrev pub mount_too_long : MountCall → Bool
mount_too_long mount_calls.Null = false
mount_too_long (mount_calls.Mount wanted) = path.too_long wanted
mount_too_long (mount_calls.Unmount wanted) = path.too_long wanted

abbrev pub too_long : ProgramCall → Bool
too_long (program_calls.Nfs call) = nfs_too_long call
too_long (program_calls.Mount call) = mount_too_long call

-- ---- the call that stands in front of bytes

abbrev pub nfs_call_at : Procedure → List ℕ → Result (Call × List ℕ) XdrFault
nfs_call_at nfs.Null bytes = nothing.read bytes >>= made_of (λ x. calls.Null)
nfs_call_at nfs.GetAttr bytes = get_attr.read bytes >>= made_of calls.GetAttr
nfs_call_at nfs.SetAttr bytes = set_attr.read bytes >>= made_of (λ x. calls.SetAttr x.0 x.1.0 x.1.1)
nfs_call_at nfs.Lookup bytes = lookup.read bytes >>= made_of calls.Lookup
nfs_call_at nfs.Access bytes = access.read bytes >>= made_of (λ x. calls.Access x.0 x.1)
nfs_call_at nfs.ReadLink bytes = read_link.read bytes >>= made_of calls.ReadLink
nfs_call_at nfs.Read bytes = read.read bytes >>= made_of (λ x. calls.Read x.0 x.1.0 x.1.1)
nfs_call_at nfs.Write bytes =
    write.read bytes >>= made_of (λ x. calls.Write x.0 x.1.0 x.1.1.0 x.1.1.1.0 x.1.1.1.1)
nfs_call_at nfs.Create bytes = create.read bytes >>= made_of (λ x. calls.Create x.0 x.1)
nfs_call_at nfs.MkDir bytes = mk_dir.read bytes >>= made_of (λ x. calls.MkDir x.0 x.1)
nfs_call_at nfs.SymLink bytes = sym_link.read bytes >>= made_of (λ x. calls.SymLink x.0 x.1.0 x.1.1)
nfs_call_at nfs.MkNod bytes = mk_nod.read bytes >>= made_of (λ x. calls.MkNod x.0 x.1)
nfs_call_at nfs.Remove bytes = remove.read bytes >>= made_of calls.Remove
nfs_call_at nfs.RmDir bytes = rm_dir.read bytes >>= made_of calls.RmDir
nfs_call_at nfs.Rename bytes = rename.read bytes >>= made_of (λ x. calls.Rename x.0 x.1)
nfs_call_at nfs.Link bytes = link.read bytes >>= made_of (λ x. calls.Link x.0 x.1)
nfs_call_at nfs.ReadDir bytes =
    read_dir.read bytes >>= made_of (λ x. calls.ReadDir x.0 x.1.0 x.1.1.0 x.1.1.1)
nfs_call_at nfs.ReadDirPlus bytes =
    read_dir_plus.read bytes >>= made_of (λ x. calls.ReadDirPlus x.0 x.1.0 x.1.1.0 x.1.1.1.0 x.1.1.1.1)
nfs_call_at nfs.FsStat bytes = fs_stat.read bytes >>= made_of calls.FsStat
nfs_call_at nfs.FsInfo bytes = fs_info.read bytes >>= made_of calls.FsInfo
nfs_call_at nfs.PathConf bytes = path_conf.read bytes >>= made_of calls.PathConf
nfs_call_at nfs.Commit bytes = commit.read bytes >>= made_of (λ x. calls.Commit x.0 x.1.0 x.1.1)

abbrev pub mount_call_at : MountProcedure → List ℕ → Result (MountCall × List ℕ) XdrFault
mount_call_at mount.Null bytes = nothing.read bytes >>= made_of (λ x. mount_calls.Null)
mount_call_at mount.Mount bytes = path.read bytes >>= made_of mount_calls.Mount
mount_call_at mount.Unmount bytes = path.read bytes >>= made_of mount_calls.Unmount

abbrev pub call_at : ProgramProcedure → List ℕ → Result (ProgramCall × List ℕ) XdrFault
call_at (procedures.Nfs p) bytes = nfs_call_at p bytes >>= made_of program_calls.Nfs
call_at (procedures.Mount p) bytes = mount_call_at p bytes >>= made_of program_calls.Mount

-- ---- why bytes have no call in front

abbrev pub nfs_call_refuses : Procedure → List ℕ → XdrFault → Type 0
nfs_call_refuses nfs.Null = nothing.Refuses
nfs_call_refuses nfs.GetAttr = get_attr.Refuses
nfs_call_refuses nfs.SetAttr = set_attr.Refuses
nfs_call_refuses nfs.Lookup = lookup.Refuses
nfs_call_refuses nfs.Access = access.Refuses
nfs_call_refuses nfs.ReadLink = read_link.Refuses
nfs_call_refuses nfs.Read = read.Refuses
nfs_call_refuses nfs.Write = write.Refuses
nfs_call_refuses nfs.Create = create.Refuses
nfs_call_refuses nfs.MkDir = mk_dir.Refuses
nfs_call_refuses nfs.SymLink = sym_link.Refuses
nfs_call_refuses nfs.MkNod = mk_nod.Refuses
nfs_call_refuses nfs.Remove = remove.Refuses
nfs_call_refuses nfs.RmDir = rm_dir.Refuses
nfs_call_refuses nfs.Rename = rename.Refuses
nfs_call_refuses nfs.Link = link.Refuses
nfs_call_refuses nfs.ReadDir = read_dir.Refuses
nfs_call_refuses nfs.ReadDirPlus = read_dir_plus.Refuses
nfs_call_refuses nfs.FsStat = fs_stat.Refuses
nfs_call_refuses nfs.FsInfo = fs_info.Refuses
nfs_call_refuses nfs.PathConf = path_conf.Refuses
nfs_call_refuses nfs.Commit = commit.Refuses

abbrev pub mount_call_refuses : MountProcedure → List ℕ → XdrFault → Type 0
mount_call_refuses mount.Null = nothing.Refuses
mount_call_refuses mount.Mount = path.Refuses
mount_call_refuses mount.Unmount = path.Refuses

abbrev pub call_refuses : ProgramProcedure → List ℕ → XdrFault → Type 0
call_refuses (procedures.Nfs p) = nfs_call_refuses p
call_refuses (procedures.Mount p) = mount_call_refuses p

-- the calls of a procedure
abbrev pub calls_of : ProgramProcedure → Code ProgramCall
calls_of p = record {
  spell = arguments;
  Fits = λ c. (called c ≡ p) × ProgramCallFits c;
  read = call_at p;
  too_long = too_long;
  Refuses = call_refuses p;
}

-- the call that all of the bytes spell
abbrev pub call_of : ProgramProcedure → List ℕ → Result ProgramCall XdrFault
call_of p bytes = whole (call_at p bytes)

-- bytes end with a string and its padding
pub record EndsWith (bytes string : List ℕ) : Type 0 where
  pub within : length string + padding (length string) ≤ length bytes
  pub is : take (length string) (drop (length bytes - (length string + padding (length string))) bytes) ≡ string
