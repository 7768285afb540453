-- The lines that are printed.
use Rattle.std.specs.Prelude.{ℕ, List, [], ◌∷◌, ◌++◌, codes}
use Rattle.std.specs.Fmt.{decimal}
use Rattle.hex.specs.Hex.{encode_lower}
use Rattle.store_images.specs.declared.formatter.FormatFault.{FormatFault}
use Rattle.store_images.specs.declared.formatter.FormatFault.TheVariants as format
use Rattle.store_promise.specs.declared.fault.OpenFault.{OpenFault}
use Rattle.store_promise.specs.declared.fault.OpenFault.TheVariants as opening

abbrev pub boot_line : ℕ → List ℕ
boot_line boot = codes "open boot " ++ decimal boot ++ 10 ∷ []

abbrev pub open_refused_line : OpenFault → List ℕ
open_refused_line opening.Magic = codes "open refused 1 Magic\n"
open_refused_line opening.Version = codes "open refused 2 Version\n"
open_refused_line opening.Range = codes "open refused 3 Range\n"
open_refused_line opening.Log = codes "open refused 4 Log\n"
open_refused_line opening.Device = codes "open refused 5 Device\n"
open_refused_line (opening.NoMemory error) = codes "open refused 6 NoMemory\n"

abbrev pub format_refused_line : FormatFault → List ℕ
format_refused_line format.Size = codes "format refused 1 Size\n"
format_refused_line format.Inodes = codes "format refused 2 Inodes\n"
format_refused_line format.Device = codes "format refused 3 Device\n"
format_refused_line (format.NoMemory error) = codes "format refused 4 NoMemory\n"

-- a reply without its mark, two digits a byte
abbrev pub reply_line : ℕ → List ℕ → List ℕ
reply_line worker message = codes "reply " ++ decimal worker ++ 32 ∷ (encode_lower message ++ 10 ∷ [])
