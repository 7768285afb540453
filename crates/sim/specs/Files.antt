-- The files of an image, as an opening finds them.
use Rattle.std.specs.Prelude.{◌≡◌, ℕ, Bool, true, false, List, [], Option, Some, None, Result, Ok, Err}
use Rattle.std.specs.Prelude.{Vec, codes}
use Rattle.std.specs.declared.alloc.Global.{Global}
use Rattle.disk.specs.Memory.{memory_device}
use Rattle.disk.specs.declared.mem_disk.MemDisk.{MemDisk}
use Rattle.image_contents.specs.declared.lines.line.Line.{Line}
use Rattle.image_contents.specs.Lines.Printed.{lines_text}
use Rattle.image_contents.specs.Lines.Shown.{IsShown}
use Rattle.nfs_spec.specs.Model.Tree.{Tree}
use Rattle.store_promise.specs.GoodImage.{IsGoodImage}
use Rattle.store_promise.specs.declared.fault.OpenFault.{OpenFault}
use Rattle.store_promise.specs.declared.fault.OpenFault.TheVariants as opening
use Rattle.circ.specs.Log.Recovery.{HasOnlyRead, IsCertain, image_of}

-- what a look at the files gives, where one was asked for
abbrev pub ScannedFiles : Type 0
ScannedFiles = Option (Result (Vec Line Global) OpenFault)

-- a device was only read, and the files were told, as those of the tree where its image is a good one
pub record HasSeen (old new : MemDisk) (answer : Result (Vec Line Global) OpenFault) : Type 0 where
  pub reads : HasOnlyRead (memory_device old) (memory_device new)
  pub shown : IsCertain (memory_device old) → (tree : Tree) (boot : ℕ)
      → IsGoodImage (memory_device old).size (image_of (memory_device old)) tree boot → IsShown tree boot answer

abbrev pub HasScannedFiles : Bool → MemDisk → MemDisk → ScannedFiles → Type 0
HasScannedFiles true old new (Some answer) = HasSeen old new answer
HasScannedFiles false old new None = new ≡ old
HasScannedFiles shows old new scanned_files = ⊥

abbrev pub show_refused_line : OpenFault → List ℕ
show_refused_line opening.Magic = codes "show refused 1 Magic\n"
show_refused_line opening.Version = codes "show refused 2 Version\n"
show_refused_line opening.Range = codes "show refused 3 Range\n"
show_refused_line opening.Log = codes "show refused 4 Log\n"
show_refused_line opening.Device = codes "show refused 5 Device\n"
show_refused_line (opening.NoMemory error) = codes "show refused 6 NoMemory\n"

-- what is printed of a look
abbrev pub scan_lines : ScannedFiles → List ℕ
scan_lines None = []
scan_lines (Some (Ok lines)) = lines_text lines.items
scan_lines (Some (Err fault)) = show_refused_line fault
