-- What an opening answers after a crash.
use Rattle.std.specs.Prelude.{ℕ, Result, Ok, Err, Vec}
use Rattle.std.specs.declared.alloc.Global.{Global}
use Rattle.disk.specs.Device.{Content}
use Rattle.disk.specs.declared.block.BlockNo.{BlockNo}
use Rattle.circ.specs.declared.log.recovery.LogFault.{LogFault}
use Rattle.circ.specs.declared.log.recovery.LogFault.TheVariants.{Range, Address, Device as DeviceFails}
use Rattle.circ.specs.declared.log.recovery.LogFault.TheVariants.{NoMemory}
use Rattle.circ.specs.declared.log.recovery.Recovered.{Recovered}
use Rattle.circ.specs.Log.Log.{Log}
use Rattle.circ.specs.Log.Law.{ShowsLog}

-- what an opening answers that reads a disk which shows the log: no refusal for what stands there, and the
-- log
abbrev pub IsReadBack : Log → Result Recovered LogFault → Type 0
IsReadBack log (Ok found) = ShowsLog log found.start found.logged.items
IsReadBack log (Err Range) = ⊥
IsReadBack log (Err Address) = ⊥
IsReadBack log (Err DeviceFails) = Unit {0}
IsReadBack log (Err (NoMemory error)) = Unit {0}

-- the same of the positions alone
abbrev pub IsLogReadBack : Log → Result (Vec (BlockNo × Content) Global) LogFault → Type 0
IsLogReadBack log (Ok logged) = (start : ℕ) × ShowsLog log start logged.items
IsLogReadBack log (Err Range) = ⊥
IsLogReadBack log (Err Address) = ⊥
IsLogReadBack log (Err DeviceFails) = Unit {0}
IsLogReadBack log (Err (NoMemory error)) = Unit {0}
