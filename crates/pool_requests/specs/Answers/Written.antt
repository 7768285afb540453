-- What is written to a connection.
use Rattle.std.specs.Prelude.{◌≡◌, ℕ, true, List, [], ◌++◌, flat_map, All}
use Rattle.rpc.specs.Records.{fragment}
use Rattle.session_wire.specs.Replies.{reply_bytes}
use Rattle.pool_requests.specs.Answers.Evident.{Answered}

-- an answer as a record of one fragment, behind its mark (RFC 5531, section 11)
abbrev pub spelled : Answered → List ℕ
spelled answer = fragment true (reply_bytes answer.xid answer.body)

-- it is for this connection
pub record IsFor (key number : ℕ) (answer : Answered) : Type 0 where
  pub key_is : answer.key ≡ key
  pub number_is : answer.number ≡ number

-- the bytes are what these answers spell, in their order, and each is for this connection
pub record IsWritten (key number : ℕ) (bytes : List ℕ) (answers : List Answered) : Type 0 where
  pub bytes_are : bytes ≡ flat_map spelled answers
  pub own : All (IsFor key number) answers

pub record Written : Type 0 where
  pub key : ℕ
  pub number : ℕ
  pub bytes : List ℕ
  pub answers : List Answered

-- no answer, for the same connection
abbrev pub none_of : Written → Written
none_of replies = record replies { bytes = []; answers = [] }

-- the same as it waits to be written, in a buffer with room for so many bytes
pub record Queued : Type 0 where
  pub key : ℕ
  pub number : ℕ
  pub bytes : List ℕ
  pub answers : List Answered
  pub buffer_capacity : ℕ

-- nothing waits
abbrev pub nothing_for : ℕ → ℕ → ℕ → Queued
nothing_for key number buffer_capacity = record { key = key; number = number; bytes = []; answers = []; buffer_capacity = buffer_capacity }

-- more answers behind the others
abbrev pub with_more : Written → ℕ → Queued → Queued
with_more more buffer_capacity queue = record queue {
  bytes = queue.bytes ++ more.bytes;
  answers = queue.answers ++ more.answers;
  buffer_capacity = buffer_capacity;
}

-- they are for the same connection
abbrev pub AreForOne : Written → Queued → Type 0
AreForOne more queue = (more.key ≡ queue.key) × (more.number ≡ queue.number)
