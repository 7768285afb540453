-- What is known while the records of an input are answered.
use Rattle.std.specs.Prelude.{◌≡◌, ℕ, false, List, [], ◌++◌, Option, Some}
use Rattle.std.specs.Io.KnownBytes.{Appends, Consumes, IsAtEnd}
use Rattle.plain_once.specs.Session.Counts.{HasData}
use Rattle.plain_once.specs.Session.Serving.{AreAnswered, Session, fresh}
use Rattle.plain_once.specs.declared.words.Asked.{Asked}

-- The records that are whole in what was read are answered, and their replies are written. Told are what is
-- left of the input and what the output holds, before and now, where they are known.
pub record IsAttended (start now : Session) (unread rest first written : Option (List ℕ)) : Type 0 where
  pub read : List ℕ
  pub replies : List ℕ
  pub consumed : Consumes unread rest read
  pub answered : AreAnswered start.files (start.unread ++ read) [] replies now.unread now.files
  pub appended_replies : Appends first written replies
  pub goes_on : now.is_closed ≡ false

-- that is the whole input
pub record IsDone (start now : Session) (unread rest first written : Option (List ℕ)) : Type 0 where
  pub attended : IsAttended start now unread rest first written
  pub all : now.unread ≡ []
  pub at_end : IsAtEnd rest

-- so it is of a session over the tree of a fresh image, with the counts and at the times that are asked for
pub record IsServedWhole (asked : Asked) (unread rest first written : Option (List ℕ)) : Type 0 where
  pub data_blocks : ℕ
  pub has_data : HasData asked.blocks asked.inodes (Some data_blocks)
  pub last : Session
  pub done : IsDone (fresh data_blocks asked.inodes asked.made asked.fake_clock) last unread rest first written
