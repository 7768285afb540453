-- A script as commands.
use Rattle.std.specs.Prelude.{◌≡◌, ℕ, ◌+◌, Bool, ◌||◌, List, [], ◌∷◌, ◌++◌, Option, Some, None, Result, Ok, Err}
use Rattle.std.specs.Prelude.{◌==◌, if◌then◌else◌, length}
use Rattle.sim_words.specs.declared.command.Command.{Command}
use Rattle.sim_words.specs.declared.fault.ScriptFault.{ScriptFault}
use Rattle.sim_words.specs.declared.fault.ScriptFault.TheVariants.{Line, NoMemory}
use Rattle.sim_words.specs.declared.script_cursor.ScriptCursor.{ScriptCursor}
use Rattle.sim_words.specs.declared.script_cursor.ScriptCursor.TheVariants.{First, FirstOfStops}
use Rattle.sim_words.specs.Lines.{command_of}
use Rattle.sim_words.specs.Places.{after}
use Rattle.sim_words.specs.Reading.{◌>>=◌}
use Rattle.sim_words.specs.Texts.{is_comment, lines_of, words_of}

-- a line without words is passed over, and so is a comment
abbrev pub is_passed_over : List ℕ → Bool
is_passed_over line = is_comment line || (length (words_of line) == 0)

-- the command of a line that stands at a place, and the place behind it
abbrev pub taken : ScriptCursor → List ℕ → Option (Command × ScriptCursor)
taken script_cursor line = do
  command ← command_of (words_of line)
  next ← after script_cursor command
  Some (command, next)

-- commands before others
abbrev pub behind : List Command → Result (List Command) ℕ → Result (List Command) ℕ
behind commands (Ok others) = Ok (commands ++ others)
behind commands (Err line) = Err line

-- the commands of a line that is none, and of one that is one, before those of the others
abbrev pub going_on : ℕ → (ScriptCursor → Result (List Command) ℕ) → Option (Command × ScriptCursor) → Result (List Command) ℕ
going_on number others None = Err number
going_on number others (Some it) = behind (it.0 ∷ []) (others it.1)

-- The commands of lines, the first of which stands at a place and has this number, or the number of the first bad
-- line.
unfoldable pub commands_from : ScriptCursor → ℕ → List (List ℕ) → Result (List Command) ℕ
commands_from script_cursor number [] = Ok []
commands_from script_cursor number (line ∷ lines) =
    if is_passed_over line then commands_from script_cursor (number + 1) lines
    else going_on number (λ next. commands_from next (number + 1) lines) (taken script_cursor line)

-- the commands of a script, or the number of its first bad line, the first line being line 1
abbrev pub script_of : List ℕ → Result (List Command) ℕ
script_of text = commands_from First 1 (lines_of text)

-- so it is of a script whose every stop is tried
abbrev pub stops_of : List ℕ → Result (List Command) ℕ
stops_of text = commands_from FirstOfStops 1 (lines_of text)

-- why a script isn't read whose first line stands at a place: its first bad line, or that memory was refused, of which
-- nothing is said
abbrev pub IsUnreadFrom : ScriptCursor → List ℕ → ScriptFault → Type 0
IsUnreadFrom script_cursor text (Line number) = commands_from script_cursor 1 (lines_of text) ≡ Err number
IsUnreadFrom script_cursor text NoMemory = Unit {0}

-- so it is of one whose first line stands where no image was made yet
abbrev pub IsUnread : List ℕ → ScriptFault → Type 0
IsUnread text fault = IsUnreadFrom First text fault
