-- The number of each refusal.
use Rattle.std.specs.Prelude.{ℕ}
use Rattle.xdr.specs.declared.fault.XdrFault.{XdrFault}
use Rattle.xdr.specs.declared.fault.XdrFault.TheVariants.{Short, Padding, Value, Length, Left, NoMemory}

abbrev pub fault_number : XdrFault → ℕ
fault_number Short = 1
fault_number Padding = 2
fault_number Value = 3
fault_number Length = 4
fault_number Left = 5
fault_number (NoMemory error) = 6
