-- What a session makes of the bytes that come.
use Rattle.std.specs.Prelude.{◌≡◌, ◌≢◌, ℕ, ◌⊎◌, Bool, true, false, List, [], ◌++◌, Option, Some}
use Rattle.std.specs.Prelude.{None as Nothing}
use Rattle.nfs_spec.specs.Model.Format.{format_tree}
use Rattle.plain_once.specs.Session.Answering.{Closes, Files, IsMessageAnswered, at_second, files_of}
use Rattle.plain_once.specs.Session.Counts.{HasData}
use Rattle.plain_once.specs.Session.Records.{IsRecord, IsTooLong, NeedsMore}
use Rattle.plain_once.specs.declared.session.answers.FakeClock.{FakeClock}
use Rattle.plain_once.specs.declared.session.session.PlainSession.{PlainSession}
use Rattle.plain_once.specs.declared.session.session.Connection.{Connection}
use Rattle.plain_once.specs.declared.session.session.Connection.TheVariants as connection

-- a session: its files, the bytes that aren't answered yet, and whether it has closed
pub record Session : Type 0 where
  pub files : Files
  pub unread : List ℕ
  pub is_closed : Bool

abbrev pub session_of : PlainSession → Session
session_of session = record {
  files = files_of session.files;
  unread = session.unread.items;
  is_closed = session.is_closed;
}

-- the files of a fresh image, whose root was made at a second, with calls by a pace
abbrev pub fresh_files : ℕ → ℕ → ℕ → FakeClock → Files
fresh_files data_blocks inodes made fake_clock = record {
  tree = format_tree (record { data_blocks = data_blocks; inodes = inodes }) (at_second made);
  fake_clock = fake_clock;
  transactions = 0;
}

abbrev pub fresh : ℕ → ℕ → ℕ → FakeClock → Session
fresh data_blocks inodes made fake_clock = record {
  files = fresh_files data_blocks inodes made fake_clock;
  unread = [];
  is_closed = false;
}

-- the bytes begin with the record of this message, and this stands behind it
pub record IsFirst (bytes message behind : List ℕ) : Type 0 where
  pub text : List ℕ
  pub cut : bytes ≡ text ++ behind
  pub is : IsRecord text message

-- the bytes begin with a record on which the connection closes
pub record BeginsClosing (bytes : List ℕ) : Type 0 where
  pub message : List ℕ
  pub behind : List ℕ
  pub first : IsFirst bytes message behind
  pub closes : Closes message

-- the bytes begin with a record that is answered with this reply
pub record BeginsAnswered (before : Files) (bytes reply behind : List ℕ) (after : Files) : Type 0 where
  pub message : List ℕ
  pub first : IsFirst bytes message behind
  pub answered : IsMessageAnswered before message reply after

-- The records that the bytes begin with are answered, one after another: what is written by then, each reply
-- behind what was written first, what is left of the bytes, and the files.
pub data AreAnswered (before : Files) (bytes first : List ℕ) : List ℕ → List ℕ → Files → Type 0 where
  None : AreAnswered before bytes first first bytes before
  More : {written left reply behind : List ℕ} {middle after : Files}
      → AreAnswered before bytes first written left middle → BeginsAnswered middle left reply behind after
      → AreAnswered before bytes first (written ++ reply) behind after

-- no record more is answered: none is whole, or the connection closes
abbrev pub Stops : List ℕ → Connection → Type 0
Stops left connection.Open = NeedsMore left
Stops left connection.Closed = IsTooLong left ⊎ BeginsClosing left

abbrev pub is_closed_by : Connection → Bool
is_closed_by connection.Open = false
is_closed_by connection.Closed = true

-- What comes of a piece where memory suffices: all records that are whole by then are answered.
pub record IsFed (old : Session) (piece first : List ℕ) (went : Connection) (written : List ℕ) (new : Session)
    : Type 0 where
  pub answered : AreAnswered old.files (old.unread ++ piece) first written new.unread new.files
  pub stops : Stops new.unread went
  pub closed : new.is_closed ≡ is_closed_by went

-- where memory fails, the next record isn't answered, or its reply is lost
abbrev pub IsCutOff : Files → List ℕ → Files → Type 0
IsCutOff before left after = (after ≡ before)
    ⊎ ((reply : List ℕ) × (behind : List ℕ) × BeginsAnswered before left reply behind after)

-- so it is behind some records that were answered
pub record Fails (before : Files) (bytes first written : List ℕ) (after : Files) : Type 0 where
  pub left : List ℕ
  pub middle : Files
  pub answered : AreAnswered before bytes first written left middle
  pub cut : IsCutOff middle left after

-- a new session; there is none where no image has these counts
abbrev pub IsNew : ℕ → ℕ → ℕ → FakeClock → Option PlainSession → Type 0
IsNew blocks inodes made fake_clock Nothing = HasData blocks inodes Nothing
IsNew blocks inodes made fake_clock (Some session) = (data_blocks : ℕ) × HasData blocks inodes (Some data_blocks)
    × (session_of session ≡ fresh data_blocks inodes made fake_clock)

-- how a session stands at the end of the input: closed, where it has closed or the end is inside a record
abbrev pub Ends : Session → Connection → Type 0
Ends session connection.Open = (session.is_closed ≡ false) × (session.unread ≡ [])
Ends session connection.Closed = (session.is_closed ≡ true) ⊎ (session.unread ≢ [])

-- the exit status by what is left of a whole input: 0 at its end, 1 where the connection closes before it
abbrev pub EndsWith : List ℕ → ℕ → Type 0
EndsWith left status = ((status ≡ 0) × (left ≡ []))
    ⊎ ((status ≡ 1) × (IsTooLong left ⊎ BeginsClosing left ⊎ NeedsMore left × (left ≢ [])))

-- a whole input, answered over fresh files
pub record IsStream (before : Files) (input replies : List ℕ) (status : ℕ) : Type 0 where
  pub left : List ℕ
  pub after : Files
  pub answered : AreAnswered before input [] replies left after
  pub ends : EndsWith left status
