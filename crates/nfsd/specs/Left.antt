-- What a command left, of which the program hands out what it is alone.
use Rattle.std.specs.Prelude.{Option, Some, None}
use Rattle.disk_file.specs.declared.file.BlockFile
use Rattle.disk.specs.Device.{Device}
use Rattle.disk_file.specs.File.{file_device, first_in}
use Rattle.txn_law.specs.Core.{CoreState}
use Rattle.nfsd.specs.declared.image_disk.ImageDisk.{ImageDisk}
use Rattle.nfsd.specs.declared.image_disk.ImageDisk.TheVariants.{Plain, Served, Watched}

-- the device of the image, or the core that came out of a server that ended well; or neither
pub record Left : Type 0 where
  pub device : Option Device
  pub core : Option CoreState

abbrev pub nothing_left : Left
nothing_left = record { device = None; core = None }

abbrev pub with_device : Device → Left
with_device device = record { device = Some device; core = None }

abbrev pub with_core : CoreState → Left
with_core core = record { device = None; core = Some core }

-- what a command left, by what is handed out
abbrev pub left_by : {F W : Type 0} {f : BlockFile.Ghosts F} {w : BlockFile.Ghosts W} → Option (ImageDisk F W f w)
    → Left
left_by None = nothing_left
left_by (Some (Plain left)) =
    with_device (file_device (first_in left.value.first.blocks.items) left.value.blocks left.value.file.calls.items)
left_by (Some (Watched left)) =
    with_device (file_device (first_in left.value.first.blocks.items) left.value.blocks left.value.file.calls.items)
left_by (Some (Served ended)) = with_core ended.value.core
