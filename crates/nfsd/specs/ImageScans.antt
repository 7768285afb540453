-- What the program tells of an image that it only reads.
use Rattle.std.specs.Prelude.{◌≡◌, ℕ, List, [], ◌++◌, Option, Some, None, Result, Ok, Err, codes, Vec}
use Rattle.std.specs.declared.alloc.Global.{Global}
use Rattle.std.specs.Fmt.{decimal}
use Rattle.std.specs.Io.KnownBytes.{Appends}
use Rattle.std.specs.Prelude.{MatchResult}
use Rattle.clap.specs.Words.{Text}
use Rattle.disk_file.specs.declared.file.FirstContents.{FirstContents}
use Rattle.disk.specs.Device.{Device}
use Rattle.disk_file.specs.File.{Calls, KeepsModel, file_device, first_in}
use Rattle.nfs_spec.specs.Model.Tree.{Tree}
use Rattle.circ.specs.Log.Recovery.{HasOnlyRead, IsCertain, image_of as image_in}
use Rattle.store_images.specs.BringingHome.{CountsCause}
use Rattle.store_promise.specs.declared.fault.OpenFault.{OpenFault}
use Rattle.store_promise.specs.GoodImage.{IsGoodImage}
use Rattle.image_check.specs.declared.fault.CheckFault.{CheckFault}
use Rattle.image_check.specs.declared.judgement.Counts.{Counts}
use Rattle.image_check.specs.Checked.{CountsCheck, IsChecked}
use Rattle.image_contents.specs.declared.lines.line.Line.{Line}
use Rattle.image_contents.specs.Lines.Printed.{lines_text}
use Rattle.image_contents.specs.Lines.Shown.{IsShown}
use Rattle.nfsd.specs.Left.{Left, nothing_left, with_device}
use Rattle.nfsd.specs.declared.fault.Fault.{Fault}
use Rattle.nfsd.specs.declared.fault.Fault.TheVariants as fault
use Rattle.nfsd.specs.Faults.{IsAbout, as_line}

-- `clean F files B blocks`
abbrev pub clean_line : Counts → List ℕ
clean_line counts =
    as_line (codes "clean " ++ decimal counts.files ++ codes " files " ++ decimal counts.blocks ++ codes " blocks")

-- A device was checked, with this answer: it was only read, a failure of it is counted just where the answer says so, and
-- the answer is that of its image, where the device keeps its model and no write of it has failed.
pub record IsCheckOf (keeps_model : Type 0) (old : Device) (answer : Result Counts CheckFault) (new : Device) : Type 0 where
  pub reads : HasOnlyRead old new
  pub failure : CountsCheck old new answer
  pub checked : keeps_model → IsCertain old → IsChecked old.size (image_in old) answer

-- a device's files were looked at, with this answer, alike
pub record IsShowOf (keeps_model : Type 0) (old : Device) (answer : Result (Vec Line Global) OpenFault) (new : Device) : Type 0 where
  pub reads : HasOnlyRead old new
  pub failure : MatchResult answer (λ _. new.failures ≡ old.failures) (λ cause. CountsCause cause old new)
  pub shown : keeps_model → IsCertain old → (tree : Tree) (boot : ℕ) → IsGoodImage old.size (image_in old) tree boot
      → IsShown tree boot answer

-- `check` of a device: it was found good, and the line of its counts was printed, or it wasn't; or it was refused, and
-- nothing was printed
abbrev pub ChecksDevice : Type 0 → Device → Option (List ℕ) → Result (Unit {0}) Fault → Device → Option (List ℕ) → Type 0
ChecksDevice keeps_model old written (Ok done) new written' = (counts : Counts)
    × IsCheckOf keeps_model old (Ok counts) new × Appends written written' (clean_line counts)
ChecksDevice keeps_model old written (Err fault.Print) new written' = (counts : Counts)
    × IsCheckOf keeps_model old (Ok counts) new
ChecksDevice keeps_model old written (Err (fault.Check why)) new written' =
    IsCheckOf keeps_model old (Err why) new × (written' ≡ written)
ChecksDevice keeps_model old written (Err other) new written' = ⊥

-- `show` of a device: the lines of its files were printed, or they weren't; or it was refused, and nothing was printed
abbrev pub ShowsDevice : Type 0 → Device → Option (List ℕ) → Result (Unit {0}) Fault → Device → Option (List ℕ) → Type 0
ShowsDevice keeps_model old written (Ok done) new written' = (lines : Vec Line Global)
    × IsShowOf keeps_model old (Ok lines) new × Appends written written' (lines_text lines.items)
ShowsDevice keeps_model old written (Err fault.Print) new written' = (lines : Vec Line Global)
    × IsShowOf keeps_model old (Ok lines) new
ShowsDevice keeps_model old written (Err (fault.Open why)) new written' =
    IsShowOf keeps_model old (Err why) new × (written' ≡ written)
ShowsDevice keeps_model old written (Err other) new written' = ⊥

-- this was done to the device of a file that held this when it was opened: the device is handed back, with the calls that
-- were made of it, and the command was done where they are explained by what the file held
abbrev pub IsDoneTo : FirstContents → (Type 0 → Device → Device → Type 0) → Left → Type 0
IsDoneTo first Does device = (size : ℕ) × (left : FirstContents) × (blocks : ℕ) × (calls : Calls)
    × (device ≡ with_device (file_device (first_in left.blocks.items) blocks calls))
    × Does (KeepsModel (first_in left.blocks.items) blocks calls) (file_device (first_in first.blocks.items) size [])
    (file_device (first_in left.blocks.items) blocks calls)

-- `check` and `show` of an image's file; or it can't be had, and nothing was printed
abbrev pub ChecksImage : FirstContents → Text → Option (List ℕ) → Result (Unit {0}) Fault → Left → Option (List ℕ) → Type 0
ChecksImage first image written (Err (fault.File io_report)) device written' =
    (written' ≡ written) × (device ≡ nothing_left) × IsAbout io_report image
ChecksImage first image written outcome device written' =
    IsDoneTo first (λ keeps_model old new. ChecksDevice keeps_model old written outcome new written') device

abbrev pub ShowsImage : FirstContents → Text → Option (List ℕ) → Result (Unit {0}) Fault → Left → Option (List ℕ) → Type 0
ShowsImage first image written (Err (fault.File io_report)) device written' =
    (written' ≡ written) × (device ≡ nothing_left) × IsAbout io_report image
ShowsImage first image written outcome device written' =
    IsDoneTo first (λ keeps_model old new. ShowsDevice keeps_model old written outcome new written') device
