-- Numbers and commands, one behind another.
use Rattle.std.proofs.Common.{◌≡◌, ℕ, ◌+◌, List, [], ◌∷◌, ◌++◌, Bool, true, false, Option, Some, None, Result, Ok, Err}
use Rattle.std.proofs.Common.{if◌then◌else◌, refl, ap, sym, ◌∙◌, append_assoc, append-nil}
use Rattle.sim_words.specs.declared.command.Command.{Command}
use Rattle.sim_words.specs.declared.script_cursor.ScriptCursor.{ScriptCursor}
use Rattle.sim_words.specs.Lines.{numbers_of}
use Rattle.sim_words.specs.Lines as lines
use Rattle.sim_words.specs.Numbers.{number_of}
use Rattle.sim_words.specs.Reading.{◌>>=◌}
use Rattle.sim_words.specs.Script.{behind, commands_from, going_on, is_passed_over, taken}

-- ---- numbers

-- numbers behind numbers
pub numbers_behind : (leading more : List ℕ) (others : Option (List ℕ))
    → lines.behind leading (lines.behind more others) ≡ lines.behind (leading ++ more) others
numbers_behind leading more None = refl
numbers_behind leading more (Some others) = ap Some (sym (append_assoc leading more others))

pub only_numbers : (others : Option (List ℕ)) → lines.behind [] others ≡ others
only_numbers None = refl
only_numbers (Some others) = refl

-- the next word is a number
pub numbers_go : (word : List ℕ) (words : List (List ℕ)) (number : ℕ) → number_of word ≡ Some number
    → numbers_of (word ∷ words) ≡ lines.behind (number ∷ []) (numbers_of words)
unfolding numbers_of
numbers_go word words number is =
    ap (λ (read : Option ℕ). read >>= λ it. lines.behind (it ∷ []) (numbers_of words)) is

-- or it is none
pub numbers_fail : (word : List ℕ) (words : List (List ℕ)) → number_of word ≡ None
    → numbers_of (word ∷ words) ≡ None
unfolding numbers_of
numbers_fail word words is =
    ap (λ (read : Option ℕ). read >>= λ it. lines.behind (it ∷ []) (numbers_of words)) is

pub numbers_end : (leading : List ℕ) → lines.behind leading (numbers_of []) ≡ Some leading
unfolding numbers_of
numbers_end leading = ap Some (append-nil leading)

-- ---- commands

-- commands behind commands
pub commands_behind : (leading more : List Command) (others : Result (List Command) ℕ)
    → behind leading (behind more others) ≡ behind (leading ++ more) others
commands_behind leading more (Err line) = refl
commands_behind leading more (Ok others) = ap Ok (sym (append_assoc leading more others))

pub only_commands : (others : Result (List Command) ℕ) → behind [] others ≡ others
only_commands (Err line) = refl
only_commands (Ok others) = refl

-- the next line is passed over
pub passes : (script_cursor : ScriptCursor) (number : ℕ) (line : List ℕ) (lines : List (List ℕ)) → is_passed_over line ≡ true
    → commands_from script_cursor number (line ∷ lines) ≡ commands_from script_cursor (number + 1) lines
unfolding commands_from
passes script_cursor number line lines is = ap (λ (t : Bool). if t then commands_from script_cursor (number + 1) lines
    else going_on number (λ next. commands_from next (number + 1) lines) (taken script_cursor line)) is

-- or it isn't, and is a command that may stand there or none
line_is_read : (script_cursor : ScriptCursor) (number : ℕ) (line : List ℕ) (lines : List (List ℕ)) → is_passed_over line ≡ false
    → commands_from script_cursor number (line ∷ lines)
    ≡ going_on number (λ next. commands_from next (number + 1) lines) (taken script_cursor line)
unfolding commands_from
line_is_read script_cursor number line lines is = ap (λ (t : Bool). if t then commands_from script_cursor (number + 1) lines
    else going_on number (λ next. commands_from next (number + 1) lines) (taken script_cursor line)) is

pub goes : (script_cursor next : ScriptCursor) (number : ℕ) (line : List ℕ) (lines : List (List ℕ)) (command : Command)
    → is_passed_over line ≡ false → taken script_cursor line ≡ Some (command, next)
    → commands_from script_cursor number (line ∷ lines) ≡ behind (command ∷ []) (commands_from next (number + 1) lines)
goes script_cursor next number line lines command is it = line_is_read script_cursor number line lines is
    ∙ ap (going_on number (λ next. commands_from next (number + 1) lines)) it

pub stops : (script_cursor : ScriptCursor) (number : ℕ) (line : List ℕ) (lines : List (List ℕ)) → is_passed_over line ≡ false
    → taken script_cursor line ≡ None → commands_from script_cursor number (line ∷ lines) ≡ Err number
stops script_cursor number line lines is it = line_is_read script_cursor number line lines is
    ∙ ap (going_on number (λ next. commands_from next (number + 1) lines)) it

pub ends : (leading : List Command) (script_cursor : ScriptCursor) (number : ℕ)
    → behind leading (commands_from script_cursor number []) ≡ Ok leading
unfolding commands_from
ends leading script_cursor number = ap Ok (append-nil leading)
