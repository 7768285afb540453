-- How the reads of a session were answered, and how it ended by that.
use Rattle.std.specs.Prelude.{◌≡◌, ◌≢◌, ℕ, ◌<◌, List, [], ◌∷◌, ◌++◌, length, All, Option, Some, None, Result}
use Rattle.std.specs.Prelude.{Ok, Err}
use Rattle.std.specs.IoError.{error_kind}
use Rattle.std.specs.declared.io.Error.{Error}
use Rattle.std.specs.declared.io.ErrorKind.TheVariants as kinds
use Rattle.base.specs.declared.TheConstants.{MOST_READS}
use Rattle.session.specs.declared.input.Input as tracing
use Rattle.session.specs.declared.stream.SessionFault.{SessionFault}
use Rattle.session.specs.declared.stream.SessionFault.TheVariants.{Record, Input, Output, NoMemory, Truncated}
use Rattle.session.specs.declared.stream.SessionFault.TheVariants.{Device}

-- what a read answered: how many bytes it brought, or why it failed
abbrev pub ReadAnswer : Type 0
ReadAnswer = Result ℕ Error

-- the answers as an input notes them
abbrev pub Answers : Type 0
Answers = List (ReadAnswer × Unit {0})

-- a session goes on: bytes were read, or the read was interrupted
abbrev pub GoesOn : ReadAnswer → Type 0
GoesOn (Ok count) = 0 < count
GoesOn (Err error) = error_kind error ≡ kinds.Interrupted

abbrev pub AllGoOn : Answers → Type 0
AllGoOn answers = All (λ (answer : ReadAnswer × Unit {0}). GoesOn answer.0) answers

-- what one read is taken for: so many bytes, an interruption, or a fault
abbrev pub IsTakenFor : ReadAnswer → Result (Option ℕ) SessionFault → Type 0
IsTakenFor (Ok count) (Ok (Some read)) = read ≡ count
IsTakenFor (Err error) (Ok None) = error_kind error ≡ kinds.Interrupted
IsTakenFor (Err error) (Err Input) = error_kind error ≢ kinds.Interrupted
IsTakenFor answer result = ⊥

-- bytes were read
abbrev pub BringsBytes : ReadAnswer → Type 0
BringsBytes (Ok count) = 0 < count
BringsBytes (Err error) = ⊥

-- it failed otherwise
abbrev pub HasFailed : ReadAnswer → Type 0
HasFailed (Ok count) = ⊥
HasFailed (Err error) = error_kind error ≢ kinds.Interrupted

-- how the last read of a session was answered: the input had ended, the read failed, or bytes came
abbrev pub EndsBy : Result ℕ SessionFault → ReadAnswer → Type 0
EndsBy (Ok count) answer = answer ≡ Ok 0
EndsBy (Err Truncated) answer = answer ≡ Ok 0
EndsBy (Err Device) answer = answer ≡ Ok 0
EndsBy (Err Input) answer = HasFailed answer
EndsBy (Err Record) answer = BringsBytes answer
EndsBy (Err Output) answer = BringsBytes answer
EndsBy (Err NoMemory) answer = BringsBytes answer

-- The reads of a session that ended so: each but the last let it go on, and the last ended it; or they are as
-- many as there may be.
pub data AreReadsOf (result : Result ℕ SessionFault) (answers : Answers) : Type 0 where
  to_the_last : (before : Answers) (last : ReadAnswer) → answers ≡ before ++ (last, tt) ∷ [] → AllGoOn before
      → EndsBy result last → AreReadsOf result answers
  too_many : result ≡ Err Input → AllGoOn answers → length answers ≡ MOST_READS → AreReadsOf result answers

-- the reads that an input has noted since are those of a session that ended so
pub record ReadsTo (result : Result ℕ SessionFault) (old new : Answers) : Type 0 where
  pub answers : Answers
  pub more : new ≡ old ++ answers
  pub are : AreReadsOf result answers

-- the bytes of an input that aren't read yet, by those of its reader
abbrev pub unread_of : {R : Type 0} → (R → Option (List ℕ)) → tracing.Input R → Option (List ℕ)
unread_of remaining given = remaining given.reader
