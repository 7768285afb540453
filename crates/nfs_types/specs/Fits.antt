-- What a call can spell: each number has its bits, and each string is of bytes, as many as it may have
-- (RFC 1813, sections 2.4 to 2.6, 3.3 and 5.2). Whether the server takes it is another matter.
use Rattle.std.specs.Prelude.{◌≡◌, ℕ, ◌^◌, ◌<◌, ◌≤◌, List, length, get_or, IfSome}
use Rattle.base.specs.declared.TheConstants.{MOST_HANDLE_BYTES, RECORD_BYTES}
use Rattle.nfs_types.specs.declared.attributes.DeviceNumber.{DeviceNumber}
use Rattle.nfs_types.specs.declared.attributes.NewAttributes.{NewAttributes}
use Rattle.nfs_types.specs.declared.attributes.SetTime.{SetTime}
use Rattle.nfs_types.specs.declared.attributes.SetTime.TheVariants as times
use Rattle.nfs_types.specs.declared.call.Call.{Call}
use Rattle.nfs_types.specs.declared.call.Call.TheVariants as call
use Rattle.nfs_types.specs.declared.call.CreateHow.{CreateHow}
use Rattle.nfs_types.specs.declared.call.CreateHow.TheVariants as hows
use Rattle.nfs_types.specs.declared.call.DirectoryName.{DirectoryName}
use Rattle.nfs_types.specs.declared.call.SpecialFile.{SpecialFile}
use Rattle.nfs_types.specs.declared.call.SpecialFile.TheVariants as specials
use Rattle.nfs_types.specs.declared.ctx.Moment.{Moment}
use Rattle.nfs_types.specs.declared.handle.Handle.{Handle}
use Rattle.nfs_types.specs.declared.mount.MountCall.{MountCall}
use Rattle.nfs_types.specs.declared.mount.MountCall.TheVariants as mount
use Rattle.nfs_types.specs.declared.mount.TheConstants.{PATH_BYTES}
use Rattle.nfs_types.specs.declared.program.ProgramCall.{ProgramCall}
use Rattle.nfs_types.specs.declared.program.ProgramCall.TheVariants as programs
use Rattle.nfs_types.specs.declared.verifier.TheConstants.{VERIFIER_BYTES}
use Rattle.nfs_types.specs.declared.verifier.Verifier.{Verifier}

-- each item is a byte
abbrev pub AreBytes : List ℕ → Type 0
AreBytes bytes = (index : ℕ) → get_or bytes index 0 < 256

-- a string of at most so many bytes
pub record StringFits (most : ℕ) (bytes : List ℕ) : Type 0 where
  pub short : length bytes ≤ most
  pub each : AreBytes bytes

-- a handle (`nfs_fh3`)
abbrev pub HandleFits : Handle → Type 0
HandleFits handle = StringFits MOST_HANDLE_BYTES handle.bytes

-- names, targets and data have no bound but that of the record in which they come
abbrev pub TextFits : List ℕ → Type 0
TextFits text = StringFits RECORD_BYTES text

-- a name in a directory (`diropargs3`)
pub record DirectoryNameFits (dentry : DirectoryName) : Type 0 where
  pub directory : HandleFits dentry.directory
  pub name : TextFits dentry.name

-- a time (`nfstime3`), whose nanoseconds the server still has to test
pub record MomentFits (time : Moment) : Type 0 where
  pub seconds : time.seconds < 2 ^ 32
  pub nanoseconds : time.nanoseconds < 2 ^ 32

-- what is to become of a time (`set_atime`, `set_mtime`)
abbrev pub SetTimeFits : SetTime → Type 0
SetTimeFits times.Unchanged = Unit {0}
SetTimeFits times.Server = Unit {0}
SetTimeFits (times.Client time) = MomentFits time

-- the attributes that a call sets (`sattr3`)
pub record NewAttributesFit (wanted : NewAttributes) : Type 0 where
  pub mode : IfSome wanted.mode (λ n. n < 2 ^ 32)
  pub uid : IfSome wanted.uid (λ n. n < 2 ^ 32)
  pub gid : IfSome wanted.gid (λ n. n < 2 ^ 32)
  pub size : IfSome wanted.size (λ n. n < 2 ^ 64)
  pub atime : SetTimeFits wanted.atime
  pub mtime : SetTimeFits wanted.mtime

-- a verifier of eight bytes (`cookieverf3`, `createverf3`, `writeverf3`)
pub record VerifierFits (verifier : Verifier) : Type 0 where
  pub count : length verifier.bytes ≡ VERIFIER_BYTES
  pub each : AreBytes verifier.bytes

-- how a file is to be made (`createhow3`)
abbrev pub CreateHowFits : CreateHow → Type 0
CreateHowFits (hows.Unchecked wanted) = NewAttributesFit wanted
CreateHowFits (hows.Guarded wanted) = NewAttributesFit wanted
CreateHowFits (hows.Exclusive verifier) = VerifierFits verifier

-- the numbers of a device (`specdata3`)
pub record DeviceNumberFits (device : DeviceNumber) : Type 0 where
  pub major : device.major < 2 ^ 32
  pub minor : device.minor < 2 ^ 32

-- what MKNOD is to make (`mknoddata3`)
abbrev pub SpecialFileFits : SpecialFile → Type 0
SpecialFileFits (specials.CharacterDevice wanted device) = NewAttributesFit wanted × DeviceNumberFits device
SpecialFileFits (specials.BlockDevice wanted device) = NewAttributesFit wanted × DeviceNumberFits device
SpecialFileFits (specials.Socket wanted) = NewAttributesFit wanted
SpecialFileFits (specials.Fifo wanted) = NewAttributesFit wanted
SpecialFileFits specials.Regular = Unit {0}
SpecialFileFits specials.Directory = Unit {0}
SpecialFileFits specials.Link = Unit {0}

-- a call of program 100003 (section 3.3)
abbrev pub CallFits : Call → Type 0
CallFits call.Null = Unit {0}
CallFits (call.GetAttr object) = HandleFits object
CallFits (call.SetAttr object wanted guard) = HandleFits object × NewAttributesFit wanted
    × IfSome guard MomentFits
CallFits (call.Lookup name) = DirectoryNameFits name
CallFits (call.Access object bits) = HandleFits object × (bits < 2 ^ 32)
CallFits (call.ReadLink link) = HandleFits link
CallFits (call.Read file offset count) = HandleFits file × (offset < 2 ^ 64) × (count < 2 ^ 32)
CallFits (call.Write file offset count stability bytes) = HandleFits file × (offset < 2 ^ 64)
    × (count < 2 ^ 32) × TextFits bytes
CallFits (call.Create name how) = DirectoryNameFits name × CreateHowFits how
CallFits (call.MkDir name wanted) = DirectoryNameFits name × NewAttributesFit wanted
CallFits (call.SymLink name wanted target) = DirectoryNameFits name × NewAttributesFit wanted × TextFits target
CallFits (call.MkNod name special) = DirectoryNameFits name × SpecialFileFits special
CallFits (call.Remove name) = DirectoryNameFits name
CallFits (call.RmDir name) = DirectoryNameFits name
CallFits (call.Rename source target) = DirectoryNameFits source × DirectoryNameFits target
CallFits (call.Link file name) = HandleFits file × DirectoryNameFits name
CallFits (call.ReadDir directory cookie verifier count) = HandleFits directory × (cookie < 2 ^ 64)
    × VerifierFits verifier × (count < 2 ^ 32)
CallFits (call.ReadDirPlus directory cookie verifier directory_count greatest_count) = HandleFits directory
    × (cookie < 2 ^ 64) × VerifierFits verifier × (directory_count < 2 ^ 32) × (greatest_count < 2 ^ 32)
CallFits (call.FsStat object) = HandleFits object
CallFits (call.FsInfo object) = HandleFits object
CallFits (call.PathConf object) = HandleFits object
CallFits (call.Commit file offset count) = HandleFits file × (offset < 2 ^ 64) × (count < 2 ^ 32)

-- a call of program 100005 (section 5.2)
abbrev pub MountCallFits : MountCall → Type 0
MountCallFits mount.Null = Unit {0}
MountCallFits (mount.Mount path) = StringFits PATH_BYTES path
MountCallFits (mount.Unmount path) = StringFits PATH_BYTES path

-- a call of either program
abbrev pub ProgramCallFits : ProgramCall → Type 0
ProgramCallFits (programs.Nfs asked) = CallFits asked
ProgramCallFits (programs.Mount asked) = MountCallFits asked
