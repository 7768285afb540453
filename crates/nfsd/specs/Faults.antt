-- What the program prints of a fault, and the status that it ends with.
use Rattle.std.specs.Prelude.{◌≡◌, ℕ, List, [], ◌∷◌, ◌++◌, Option, None, Some, IfSome, Result, Ok, Err, codes, string_bytes}
use Rattle.std.specs.Fmt.{decimal}
use Rattle.std.specs.IoError.{error_kind}
use Rattle.std.specs.declared.io.Error as io
use Rattle.std.specs.declared.io.ErrorKind.TheVariants as io_kind
use Rattle.clap.specs.Words.{kind_of}
use Rattle.clap.specs.declared.error.Error.{Error}
use Rattle.clap.specs.declared.error.kind.ErrorKind.TheVariants as kind
use Rattle.session.specs.declared.stream.SessionFault.{SessionFault}
use Rattle.session.specs.declared.stream.SessionFault.TheVariants as session
use Rattle.store_images.specs.declared.formatter.FormatFault.{FormatFault}
use Rattle.store_images.specs.declared.formatter.FormatFault.TheVariants as format
use Rattle.store_promise.specs.declared.fault.OpenFault.{OpenFault}
use Rattle.store_promise.specs.declared.fault.OpenFault.TheVariants as opening
use Rattle.image_check.specs.declared.fault.CheckFault.{CheckFault}
use Rattle.image_check.specs.declared.fault.CheckFault.TheVariants as checking
use Rattle.image_check.specs.declared.fault.Unlinked.{Unlinked}
use Rattle.nfsd.specs.declared.fault.Fault.{Fault}
use Rattle.nfsd.specs.declared.fault.Fault.TheVariants as fault
use Rattle.nfsd.specs.declared.io_report.Reason.{Reason}
use Rattle.nfsd.specs.declared.io_report.Reason.TheVariants as reason
use Rattle.nfsd.specs.declared.io_report.IoReport.{IoReport}

-- a text as a line of its own
abbrev pub as_line : List ℕ → List ℕ
as_line text = text ++ 10 ∷ []

-- why an image isn't made
abbrev pub format_line : FormatFault → List ℕ
format_line format.Size = as_line (codes "nfsd: 1 Size")
format_line format.Inodes = as_line (codes "nfsd: 2 Inodes")
format_line format.Device = as_line (codes "nfsd: 3 Device")
format_line (format.NoMemory error) = as_line (codes "nfsd: 4 NoMemory")

-- why an image isn't opened
abbrev pub open_line : OpenFault → List ℕ
open_line opening.Magic = as_line (codes "nfsd: 1 Magic")
open_line opening.Version = as_line (codes "nfsd: 2 Version")
open_line opening.Range = as_line (codes "nfsd: 3 Range")
open_line opening.Log = as_line (codes "nfsd: 4 Log")
open_line opening.Device = as_line (codes "nfsd: 5 Device")
open_line (opening.NoMemory error) = as_line (codes "nfsd: 6 NoMemory")

-- why an image isn't good, or can't be checked
abbrev pub check_line : CheckFault → List ℕ
check_line checking.Magic = as_line (codes "nfsd: 1 Magic")
check_line checking.Version = as_line (codes "nfsd: 2 Version")
check_line checking.Range = as_line (codes "nfsd: 3 Range")
check_line checking.Log = as_line (codes "nfsd: 4 Log")
check_line checking.Device = as_line (codes "nfsd: 5 Device")
check_line (checking.NoMemory error) = as_line (codes "nfsd: 6 NoMemory")
check_line checking.Shared = as_line (codes "nfsd: 7 Shared")
check_line checking.Bitmap = as_line (codes "nfsd: 8 Bitmap")
check_line (checking.Tree it) = as_line (codes "nfsd: 9 Tree")

-- `nfsd: inode N: links L, named M times`
abbrev pub unlinked_line : Unlinked → List ℕ
unlinked_line it = as_line (codes "nfsd: inode " ++ decimal it.inode ++ codes ": links " ++ decimal it.links
    ++ codes ", named " ++ decimal it.named ++ codes " times")

-- the second line of such a fault, where a file is known that isn't named as often as it has links
abbrev pub second_line : CheckFault → List ℕ
second_line (checking.Tree (Some it)) = unlinked_line it
second_line other = []

-- why a stream isn't served to its end
abbrev pub session_line : SessionFault → List ℕ
session_line session.Record = as_line (codes "nfsd: 1 Record")
session_line session.Input = as_line (codes "nfsd: 2 Input")
session_line session.Output = as_line (codes "nfsd: 3 Output")
session_line session.NoMemory = as_line (codes "nfsd: 4 NoMemory")
session_line session.Truncated = as_line (codes "nfsd: 5 Truncated")
session_line session.Device = as_line (codes "nfsd: 6 Device")

-- why a file can't be opened, made, locked, given its length or settled
abbrev pub reason_of_file : io.Error → Reason
reason_of_file error = elim (error_kind error) [
  | io_kind.NotFound ↦ reason.Missing
  | io_kind.PermissionDenied ↦ reason.NotAllowed
  | io_kind.IsADirectory ↦ reason.Directory
  | io_kind.NotADirectory ↦ reason.NoDirectory
  | io_kind.InvalidInput ↦ reason.NoFile
  | io_kind.WouldBlock ↦ reason.Held
  | io_kind.ReadOnlyFilesystem ↦ reason.ReadOnly
  | io_kind.StorageFull ↦ reason.NoSpace
  | io_kind.QuotaExceeded ↦ reason.NoSpace
  | io_kind.FileTooLarge ↦ reason.TooLarge
  | io_kind.InvalidFilename ↦ reason.BadName
  | io_kind.OutOfMemory ↦ reason.NoMemory
  | _ ↦ reason.Other
]

-- why nothing listens at an address
abbrev pub reason_of_address : io.Error → Reason
reason_of_address error = elim (error_kind error) [
  | io_kind.AddrInUse ↦ reason.PortTaken
  | io_kind.PermissionDenied ↦ reason.NotAllowed
  | io_kind.AddrNotAvailable ↦ reason.NotHere
  | io_kind.InvalidInput ↦ reason.NoAddress
  | io_kind.Uncategorized ↦ reason.NameUnknown
  | io_kind.OutOfMemory ↦ reason.NoMemory
  | _ ↦ reason.Other
]

-- what is told of such a reason
abbrev pub reason_text : Reason → List ℕ
reason_text reason.Missing = codes "there is no such file"
reason_text reason.NotAllowed = codes "permission denied"
reason_text reason.Directory = codes "it is a directory"
reason_text reason.NoDirectory = codes "a part of its path is no directory"
reason_text reason.NoFile = codes "it is neither a file nor a block device"
reason_text reason.Held = codes "another program has it"
reason_text reason.ReadOnly = codes "it can only be read here"
reason_text reason.NoSpace = codes "there is no room for it"
reason_text reason.TooLarge = codes "it can't have so many blocks"
reason_text reason.BadName = codes "its name is too long"
reason_text reason.PortTaken = codes "another program has the port"
reason_text reason.NotHere = codes "this machine has no such address"
reason_text reason.NoAddress = codes "it is no address with a port, as 127.0.0.1:2049 is"
reason_text reason.NameUnknown = codes "its name isn't known"
reason_text reason.NoMemory = codes "there is no memory"
reason_text reason.Other = codes "the system refuses it"

-- what is told of a file or an address is of this name, where anything is told
abbrev pub IsAbout : Option IoReport → List ℕ → Type 0
IsAbout io_report name = IfSome io_report (λ it. string_bytes it.name ≡ name)

-- the second line of a fault, `nfsd: NAME: REASON`, where a file or an address is known that can't be had
abbrev pub io_report_line : Option IoReport → List ℕ
io_report_line None = []
io_report_line (Some it) = as_line (codes "nfsd: " ++ string_bytes it.name ++ codes ": " ++ reason_text it.reason)

-- The line of a fault, or its two lines; of arguments that don't parse their parser tells.
abbrev pub fault_line : Fault → Option (List ℕ)
fault_line fault.NotText = Some (as_line (codes "nfsd: arguments"))
fault_line fault.Memory = Some (as_line (codes "nfsd: memory"))
fault_line (fault.Words error) = None
fault_line (fault.File io_report) = Some (as_line (codes "nfsd: file") ++ io_report_line io_report)
fault_line (fault.Format why) = Some (format_line why)
fault_line (fault.Open why) = Some (open_line why)
fault_line (fault.Check why) = Some (check_line why ++ second_line why)
fault_line (fault.Session why) = Some (session_line why)
fault_line fault.Print = Some (as_line (codes "nfsd: output"))
fault_line (fault.Line number) = Some (as_line (codes "nfsd: line " ++ decimal number))
fault_line (fault.Torn text) = Some (as_line (codes "nfsd: 1 Torn") ++ as_line (codes "nfsd: " ++ string_bytes text))
fault_line (fault.Address io_report) = Some (as_line (codes "nfsd: address") ++ io_report_line io_report)

-- 2 where the arguments aren't text or don't parse, and 1 at every other fault
abbrev pub status_of : Fault → ℕ
status_of fault.NotText = 2
status_of (fault.Words error) = 2
status_of other = 1

-- 0 where there was no fault
abbrev pub status_of_outcome : Result (Unit {0}) Fault → ℕ
status_of_outcome (Ok done) = 0
status_of_outcome (Err why) = status_of why

-- what an error of the arguments' parser is to the program
abbrev pub fault_of_words : Error → Fault
fault_of_words error = elim (kind_of error) [ kind.OutOfMemory ↦ fault.Memory | _ ↦ fault.Words error ]

-- what an error of reading the arguments is to the program: without memory it says so, else one isn't text
abbrev pub fault_of_reading : io.Error → Fault
fault_of_reading error = elim (error_kind error) [ io_kind.OutOfMemory ↦ fault.Memory | _ ↦ fault.NotText ]
