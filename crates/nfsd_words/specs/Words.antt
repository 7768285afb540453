-- What the arguments of a command line ask of the program.
use Rattle.std.specs.Prelude.{◌≡◌, ℕ, ◌^◌, ◌<◌, List, [], ◌∷◌, Option, None, Some, Bool, true, false, codes, pos}
use Rattle.std.specs.Option.{IsSomeAnd}
use Rattle.std.specs.Str.Parse.{IsNumeral, digits_value, without_leading_plus}
use Rattle.clap.specs.Words.{App, Row, Rule, Text, fault_of, first_of, new_app, new_rule, one_of}
use Rattle.clap.specs.Words.{subcommand_of, with_rule, with_subcommand}
use Rattle.clap.specs.declared.builder.ValueParser.TheVariants as value_parser
use Rattle.clap.specs.declared.builder.action.ArgAction.TheVariants.{SetTrue}
use Rattle.base.specs.declared.TheConstants.{MOST_WORKERS}
use Rattle.nfsd_words.specs.declared.Args.{Args}
use Rattle.nfsd_words.specs.declared.Args.TheVariants.{Check, Format, Once, Serve, Show, Sim}

-- the image, an argument that must be there
abbrev pub image_rule : Rule
image_rule = record (new_rule (codes "IMAGE")) { required = true }

-- an option with a text that must be there
abbrev pub text_rule : Text → Rule
text_rule name = record (new_rule name) { long = Some name; required = true }

-- an option with a number of 32 bits
abbrev pub number_rule : Text → Rule
number_rule name = record (new_rule name) {
  long = Some name;
  parser = Some (value_parser.Signed (pos 0) (pos 4294967295));
}

-- an option with a number that may be left out
abbrev pub default_rule : Text → Text → Rule
default_rule name default = record (number_rule name) { defaults = default ∷ [] }

-- an option with a number that must be there
abbrev pub required_rule : Text → Rule
required_rule name = record (number_rule name) { required = true }

-- `format IMAGE --blocks N`
abbrev pub first_of_format : App
first_of_format = with_rule (with_rule (new_app (codes "format")) image_rule) (number_rule (codes "blocks"))

-- `format IMAGE --blocks N --inodes I --time S`, the last two with the defaults 4096 and 0
abbrev pub format_command : App
format_command = with_rule
    (with_rule first_of_format (default_rule (codes "inodes") (codes "4096")))
    (default_rule (codes "time") (codes "0"))

-- `once IMAGE --time S`
abbrev pub once_command : App
once_command = with_rule (with_rule (new_app (codes "once")) image_rule)
    (required_rule (codes "time"))

-- an option with a number from 1 to MOST_WORKERS that may be left out
abbrev pub workers_rule : Text → Text → Rule
workers_rule name default = record (default_rule name default) {
  parser = Some (value_parser.Signed (pos 1) MOST_WORKERS);
}

-- `serve IMAGE --listen ADDR`
abbrev pub first_of_serve : App
first_of_serve = with_rule (with_rule (new_app (codes "serve")) image_rule) (text_rule (codes "listen"))

-- `serve IMAGE --listen ADDR --workers W --connections K`, the last two with the defaults 4 and 0
abbrev pub serve_command : App
serve_command = with_rule
    (with_rule first_of_serve (workers_rule (codes "workers") (codes "4")))
    (default_rule (codes "connections") (codes "0"))

-- `check IMAGE`
abbrev pub check_command : App
check_command = with_rule (new_app (codes "check")) image_rule

-- `show IMAGE`
abbrev pub show_command : App
show_command = with_rule (new_app (codes "show")) image_rule

-- the script, an argument that must be there
abbrev pub script_rule : Rule
script_rule = record (new_rule (codes "SCRIPT")) { required = true }

-- an option without a value
abbrev pub flag_rule : Text → Rule
flag_rule name = record (new_rule name) { long = Some name; action = Some SetTrue }

-- `sim SCRIPT`
abbrev pub first_of_sim : App
first_of_sim = with_rule (new_app (codes "sim")) script_rule

-- `sim SCRIPT --stops`, the last of which may be left out
abbrev pub sim_command : App
sim_command = with_rule first_of_sim (flag_rule (codes "stops"))

-- the program before its commands, one of which must be there; it has a version
abbrev pub bare_program : App
bare_program = record (new_app (codes "nfsd")) {
  top = record (new_app (codes "nfsd")).top { subcommand_required = true; has_version = true };
}

-- the program with the first of its commands
abbrev pub first_of_program : App
first_of_program = with_subcommand bare_program format_command.top

-- the program with the first two of them
abbrev pub second_of_program : App
second_of_program = with_subcommand first_of_program once_command.top

-- the program with the first three of them
abbrev pub third_of_program : App
third_of_program = with_subcommand second_of_program serve_command.top

-- the program with the first four of them
abbrev pub fourth_of_program : App
fourth_of_program = with_subcommand third_of_program check_command.top

-- the program with the first five of them
abbrev pub fifth_of_program : App
fifth_of_program = with_subcommand fourth_of_program show_command.top

-- the program's commands, one of which must be there
abbrev pub whole_program : App
whole_program = with_subcommand fifth_of_program sim_command.top

-- the option of this name has this number of 32 bits, given or by default
abbrev pub IsNumber : List Row → Text → ℕ → Type 0
IsNumber found name number = IsSomeAnd (one_of name found) (λ text.
    IsNumeral 10 (without_leading_plus text)
    × (number ≡ digits_value 10 (without_leading_plus text)) × (number < 2 ^ 32))

-- the option of this name has this number of 32 bits, or none
abbrev pub IsNumberOrNone : List Row → Text → Option ℕ → Type 0
IsNumberOrNone found name None = (number : ℕ) → ¬ IsNumber found name number
IsNumberOrNone found name (Some number) = IsNumber found name number

-- an option without a value is given, as its text says, or not
pub record IsFlag (text : Option Text) (given : Bool) : Type 0 where
  pub none : text ≡ None → given ≡ false
  pub yes : text ≡ Some (codes "true") → given ≡ true
  pub no : text ≡ Some (codes "false") → given ≡ false

-- a command of this name, with what was found of its arguments, asks for this
abbrev pub Asks : Text → List Row → Args → Type 0
Asks name found (Format image blocks inodes time) = (name ≡ codes "format")
    × (first_of (codes "IMAGE") found ≡ Some image.now)
    × IsNumberOrNone found (codes "blocks") blocks × IsNumber found (codes "inodes") inodes
    × IsNumber found (codes "time") time
Asks name found (Once image time) = (name ≡ codes "once")
    × (first_of (codes "IMAGE") found ≡ Some image.now) × IsNumber found (codes "time") time
Asks name found (Serve image listen workers connections) = (name ≡ codes "serve")
    × (first_of (codes "IMAGE") found ≡ Some image.now)
    × (first_of (codes "listen") found ≡ Some listen.now)
    × IsNumber found (codes "workers") workers × IsNumber found (codes "connections") connections
Asks name found (Check image) = (name ≡ codes "check") × (first_of (codes "IMAGE") found ≡ Some image.now)
Asks name found (Show image) = (name ≡ codes "show") × (first_of (codes "IMAGE") found ≡ Some image.now)
Asks name found (Sim script stops) = (name ≡ codes "sim") × (first_of (codes "SCRIPT") found ≡ Some script.now)
    × IsFlag (one_of (codes "stops") found) stops

-- the command that was met, if one was, asks for this
abbrev pub IsAsked : Option (Text × List Row) → Args → Type 0
IsAsked met args = IsSomeAnd met (λ command. Asks command.0 command.1 args)

-- the arguments, the program's name first, have no fault of the parser's rules, and ask for this
abbrev pub WordsAsk : List Text → Args → Type 0
WordsAsk words args = (fault_of whole_program words ≡ []) × IsAsked (subcommand_of whole_program words) args

-- the arguments have a meaning: they ask for something
abbrev pub HasMeaning : List Text → Type 0
HasMeaning words = (args : Args) × WordsAsk words args
