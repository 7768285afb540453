-- What a refusal says.
use Rattle.circ.specs.declared.log.recovery.LogFault.{LogFault}
use Rattle.circ.specs.declared.log.recovery.LogFault.TheVariants as log
use Rattle.store_promise.specs.declared.fault.OpenFault.{OpenFault}
use Rattle.store_promise.specs.declared.fault.OpenFault.TheVariants as opening
use Rattle.image_read.specs.declared.parts.fault.PartFault.{PartFault}
use Rattle.image_read.specs.declared.parts.fault.PartFault.TheVariants as part
use Rattle.image_check.specs.declared.fault.CheckFault.{CheckFault}
use Rattle.image_check.specs.declared.fault.CheckFault.TheVariants as fault

-- a refusal says this, but where the device failed or memory was refused
abbrev pub IsRefusal : Type 0 → CheckFault → Type 0
IsRefusal said fault.Device = Unit {0}
IsRefusal said (fault.NoMemory error) = Unit {0}
IsRefusal said cause = said

-- what refuses an opening refuses a check
abbrev pub of_open : OpenFault → CheckFault
of_open opening.Magic = fault.Magic
of_open opening.Version = fault.Version
of_open opening.Range = fault.Range
of_open opening.Log = fault.Log
of_open opening.Device = fault.Device
of_open (opening.NoMemory error) = fault.NoMemory error

abbrev pub of_log : LogFault → CheckFault
of_log log.Range = fault.Log
of_log log.Address = fault.Log
of_log log.Device = fault.Device
of_log (log.NoMemory error) = fault.NoMemory error

abbrev pub of_part : PartFault → CheckFault
of_part part.Range = fault.Range
of_part part.Device = fault.Device
of_part (part.NoMemory error) = fault.NoMemory error
