-- What the program does with the script of a schedule.
use Rattle.std.specs.Prelude.{◌≡◌, ℕ, Bool, true, false, List, [], ◌∷◌, ◌++◌, Option, Result, Ok, Err, codes}
use Rattle.std.specs.Fmt.{decimal}
use Rattle.std.specs.Io.KnownBytes.{Appends}
use Rattle.session.specs.declared.stream.SessionFault.TheVariants as session
use Rattle.sim.specs.Simulated.{IsPlayed, Prints}
use Rattle.sim.specs.declared.fault.SimFault.{SimFault}
use Rattle.sim.specs.declared.fault.SimFault.TheVariants as sim
use Rattle.sim_stops.specs.declared.fault.StopsFault.{StopsFault}
use Rattle.sim_stops.specs.declared.fault.StopsFault.TheVariants as stops
use Rattle.sim_stops.specs.declared.stops.Tried.{Tried}
use Rattle.sim_words.specs.Script.{script_of, stops_of}
use Rattle.sim_words.specs.declared.command.Command.{Command}
use Rattle.sim_words.specs.declared.fault.ScriptFault.{ScriptFault}
use Rattle.sim_words.specs.declared.fault.ScriptFault.TheVariants as script
use Rattle.nfsd.specs.declared.fault.Fault.{Fault}
use Rattle.nfsd.specs.declared.fault.Fault.TheVariants as fault
use Rattle.nfsd.specs.Faults.{IsAbout}

-- what it is to the program that a script isn't read
abbrev pub fault_of_script : ScriptFault → Fault
fault_of_script (script.Line number) = fault.Line number
fault_of_script script.NoMemory = fault.Session session.NoMemory

-- and that its stops aren't tried to their end
abbrev pub fault_of_stops : StopsFault → Fault
fault_of_stops (stops.Format why) = fault.Format why
fault_of_stops (stops.Open why) = fault.Open why
fault_of_stops (stops.Torn text) = fault.Torn text
fault_of_stops stops.NoMemory = fault.Session session.NoMemory

-- and that one isn't run to its end
abbrev pub fault_of_sim : SimFault → Fault
fault_of_sim sim.Output = fault.Print
fault_of_sim sim.NoMemory = fault.Session session.NoMemory

-- What comes of the text of a script: what its commands print was printed; or its first bad line is told, and nothing was
-- printed; or a line couldn't be printed, or there was no memory.
abbrev pub PlaysText : List ℕ → Option (List ℕ) → Result (Unit {0}) Fault → Option (List ℕ) → Type 0
PlaysText text written (Ok done) written' = (commands : List Command) × (script_of text ≡ Ok commands)
    × Prints written written' (IsPlayed commands)
PlaysText text written (Err (fault.Line number)) written' = (script_of text ≡ Err number) × (written' ≡ written)
PlaysText text written (Err fault.Print) written' = Unit {0}
PlaysText text written (Err (fault.Session why)) written' = why ≡ session.NoMemory
PlaysText text written (Err other) written' = ⊥

-- `stops S images X`
abbrev pub stops_line : Tried → List ℕ
stops_line tried = codes "stops " ++ decimal tried.stops ++ codes " images " ++ decimal tried.images ++ 10 ∷ []

-- What comes of the stops of a script of this text: how many were tried is printed; or nothing is, and its first bad line is
-- told, or that its image can't be made, opened or replayed, or what a stop leaves; or the line couldn't be printed, or there
-- was no memory.
abbrev pub TriesText : List ℕ → Option (List ℕ) → Result (Unit {0}) Fault → Option (List ℕ) → Type 0
TriesText text written (Ok done) written' = (commands : List Command) × (tried : Tried)
    × (stops_of text ≡ Ok commands) × Appends written written' (stops_line tried)
TriesText text written (Err (fault.Line number)) written' = (stops_of text ≡ Err number) × (written' ≡ written)
TriesText text written (Err (fault.Format why)) written' = written' ≡ written
TriesText text written (Err (fault.Open why)) written' = written' ≡ written
TriesText text written (Err (fault.Torn where_and_what)) written' = written' ≡ written
TriesText text written (Err fault.Print) written' = Unit {0}
TriesText text written (Err (fault.Session why)) written' = (why ≡ session.NoMemory) × (written' ≡ written)
TriesText text written (Err other) written' = ⊥

-- what comes of a text that was read: of its script, or of each stop of that
abbrev pub RunsText : Bool → List ℕ → Option (List ℕ) → Result (Unit {0}) Fault → Option (List ℕ) → Type 0
RunsText true text written outcome written' = TriesText text written outcome written'
RunsText false text written outcome written' = PlaysText text written outcome written'

-- or the file of this name couldn't be read, and nothing was printed
abbrev pub RunsScript : Bool → List ℕ → Option (List ℕ) → Result (Unit {0}) Fault → Option (List ℕ) → Type 0
RunsScript stops path written (Err (fault.File io_report)) written' = (written' ≡ written) × IsAbout io_report path
RunsScript stops path written outcome written' = (text : List ℕ) × RunsText stops text written outcome written'
