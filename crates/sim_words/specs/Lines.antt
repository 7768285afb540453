-- What the words of a line ask for.
use Rattle.std.specs.Prelude.{ℕ, zero, suc, List, [], ◌∷◌, ◌++◌, Option, Some, None, codes, nat_lt, if◌then◌else◌}
use Rattle.std.specs.Str.{bytes_eq}
use Rattle.base.specs.declared.TheConstants.{NANOSECONDS}
use Rattle.nfs_types.specs.declared.ctx.Moment.{Moment}
use Rattle.sim_words.specs.declared.command.Action.{Action}
use Rattle.sim_words.specs.declared.command.Action.TheVariants as act
use Rattle.sim_words.specs.declared.command.Choice.{Choice}
use Rattle.sim_words.specs.declared.command.Choice.TheVariants as choose
use Rattle.sim_words.specs.declared.command.Command.{Command}
use Rattle.sim_words.specs.declared.command.Command.TheVariants as command
use Rattle.sim_words.specs.declared.command.OneEvent.{OneEvent}
use Rattle.sim_words.specs.declared.command.OneEvent.TheVariants as one
use Rattle.sim_words.specs.declared.line.Verb.{Verb}
use Rattle.sim_words.specs.declared.line.Verb.TheVariants as verb
use Rattle.sim_words.specs.Messages.{message_of}
use Rattle.sim_words.specs.Numbers.{bytes_of, number_of}
use Rattle.sim_words.specs.Reading.{◌>>=◌, end_at, number_at, word_at, worker_at}

-- words that are left of a line
abbrev pub Words : Type 0
Words = List (List ℕ)

abbrev pub verb_of : List ℕ → Option Verb
verb_of word =
    if bytes_eq word (codes "time") then Some verb.Time
    else if bytes_eq word (codes "image") then Some verb.Image
    else if bytes_eq word (codes "open") then Some verb.Open
    else if bytes_eq word (codes "call") then Some verb.Call
    else if bytes_eq word (codes "drive") then Some verb.Drive
    else if bytes_eq word (codes "log") then Some verb.Log
    else if bytes_eq word (codes "install") then Some verb.Install
    else if bytes_eq word (codes "event") then Some verb.Event
    else if bytes_eq word (codes "fail") then Some verb.Fail
    else if bytes_eq word (codes "crash") then Some verb.Crash
    else if bytes_eq word (codes "poke") then Some verb.Poke
    else if bytes_eq word (codes "show") then Some verb.Show
    else None

-- seconds, and nanoseconds of less than one
abbrev pub moment_at : Words → Option (Moment × Words)
moment_at words = do
  seconds ← number_at words
  nanoseconds ← number_at seconds.1
  if nat_lt nanoseconds.0 NANOSECONDS
      then Some (record { seconds = seconds.0; nanoseconds = nanoseconds.0 }, nanoseconds.1) else None

abbrev pub image_at : Words → Option (Command × Words)
image_at words = do
  blocks ← number_at words
  inodes ← number_at blocks.1
  Some (command.Image blocks.0 inodes.0, inodes.1)

-- a worker, and a message
abbrev pub call_at : Words → Option (Action × Words)
call_at words = do
  worker ← worker_at words
  digits ← word_at worker.1
  bytes ← bytes_of digits.0
  message ← message_of bytes
  Some (act.Call worker.0 message.xid message.credential message.call, digits.1)

-- the event of this name, of the worker that is named next where it is a worker's
abbrev pub event_named : List ℕ → Words → Option (OneEvent × Words)
event_named word words =
    if bytes_eq word (codes "work") then (worker_at words >>= λ worker. Some (one.Work worker.0, worker.1))
    else if bytes_eq word (codes "read") then (worker_at words >>= λ worker. Some (one.Read worker.0, worker.1))
    else if bytes_eq word (codes "log") then Some (one.Log, words)
    else if bytes_eq word (codes "logio") then Some (one.LogIo, words)
    else if bytes_eq word (codes "install") then Some (one.Install, words)
    else if bytes_eq word (codes "instio") then Some (one.InstIo, words)
    else None

abbrev pub event_at : Words → Option (OneEvent × Words)
event_at words = do
  word ← word_at words
  event_named word.0 word.1

-- device calls count from 1
abbrev pub call_number_at : Words → Option (ℕ × Words)
call_number_at words = do
  number ← number_at words
  if nat_lt 0 number.0 then Some number else None

-- numbers before others
abbrev pub behind : List ℕ → Option (List ℕ) → Option (List ℕ)
behind numbers others = others >>= λ more. Some (numbers ++ more)

-- each word is a number
unfoldable pub numbers_of : Words → Option (List ℕ)
numbers_of [] = Some []
numbers_of (word ∷ words) = number_of word >>= λ number. behind (number ∷ []) (numbers_of words)

-- numbers up to the end of the line
abbrev pub digits_at : List ℕ → Words → Option (List ℕ × Words)
digits_at first words = do
  digits ← numbers_of (first ∷ words)
  Some (digits, [])

abbrev pub choice_with : List ℕ → Words → Option (Choice × Words)
choice_with word words =
    if bytes_eq word (codes "old") then Some (choose.Old, words)
    else if bytes_eq word (codes "new") then Some (choose.New, words)
    else (digits_at word words >>= λ digits. Some (choose.Each digits.0, digits.1))

abbrev pub choice_at : Words → Option (Choice × Words)
choice_at words = do
  word ← word_at words
  choice_with word.0 word.1

-- a block, an offset, and bytes
abbrev pub poke_at : Words → Option (Command × Words)
poke_at words = do
  block ← number_at words
  offset ← number_at block.1
  digits ← word_at offset.1
  bytes ← bytes_of digits.0
  Some (command.Poke block.0 offset.0 bytes, digits.1)

-- the command whose parts were read
abbrev pub made : {A : Type 0} → (A → Command) → Option (A × Words) → Option (Command × Words)
made of read = read >>= λ it. Some (of it.0, it.1)

-- what the words behind the first one ask for
abbrev pub command_at : Verb → Words → Option (Command × Words)
command_at verb.Time words = made command.Time (moment_at words)
command_at verb.Image words = image_at words
command_at verb.Open words = Some (command.Open, words)
command_at verb.Call words = made command.Act (call_at words)
command_at verb.Drive words = made (λ worker. command.Act (act.Drive worker)) (worker_at words)
command_at verb.Log words = made (λ calls. command.Act (act.Log calls)) (number_at words)
command_at verb.Install words = made (λ calls. command.Act (act.Install calls)) (number_at words)
command_at verb.Event words = made (λ event. command.Act (act.Event event)) (event_at words)
command_at verb.Fail words = made (λ call. command.Act (act.Fail call)) (call_number_at words)
command_at verb.Crash words = made command.Crash (choice_at words)
command_at verb.Poke words = poke_at words
command_at verb.Show words = Some (command.Show, words)

-- the first word says what is asked for, and none is left over
abbrev pub command_of : Words → Option Command
command_of words = do
  first ← word_at words
  which ← verb_of first.0
  asked ← command_at which first.1
  end ← end_at asked.1
  Some asked.0
