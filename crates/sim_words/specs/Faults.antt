-- What a bad line is to its script.
use Rattle.std.specs.Prelude.{ℕ}
use Rattle.sim_words.specs.declared.fault.LineFault.{LineFault}
use Rattle.sim_words.specs.declared.fault.LineFault.TheVariants as line
use Rattle.sim_words.specs.declared.fault.ScriptFault.{ScriptFault}
use Rattle.sim_words.specs.declared.fault.ScriptFault.TheVariants as script

-- its number is told
abbrev pub at_line : ℕ → LineFault → ScriptFault
at_line number line.Bad = script.Line number
at_line number line.NoMemory = script.NoMemory
