-- What a connection still has to be sent.
use Rattle.std.specs.Prelude.{◌≡◌, ◌≢◌, ◌⊎◌, ◌+◌, ◌<◌, ℕ, Bool, [], true, false, length, Option, Some, None, Result, Ok, Err}
use Rattle.pool_requests.specs.Answers.Written.{AreForOne, Queued, Written, none_of, with_more}
use Rattle.server_sync.specs.declared.silence.Silence.{Silence}
use Rattle.server_connection.specs.declared.replies.Permit.{Permit}
use Rattle.server_connection.specs.declared.replies.Unwritten.{Unwritten}
use Rattle.server_connection.specs.declared.replies.Written as replies
use Rattle.server_connection.specs.declared.outbox.Offer.{Offer}
use Rattle.server_connection.specs.declared.outbox.Offer.TheVariants.{Write, Left, Shut}

-- a thread has the permit
abbrev pub is_away : Option Permit → Bool
is_away None = true
is_away (Some permit) = false

-- the replies that wait, and whether a thread writes
pub record Replies : Type 0 where
  pub pending : Queued
  pub writing : Bool

-- these; how many calls are to be answered; whether no more is written, and whether no call comes any more; and since
-- when the connection has been silent
pub record Outbox : Type 0 where
  pub replies : Replies
  pub due : ℕ
  pub shut : Bool
  pub ended : Bool
  pub silence : Silence

-- the replies were put behind all that waits, or no more is written: they are let go only where they are for another
-- connection, or memory is refused, and that only where the room that there is doesn't suffice
abbrev pub IsLeft : Outbox → Written → Outbox → Type 0
IsLeft before more after =
    (after.shut ≡ false → AreForOne more before.replies.pending
    × (after.replies.pending ≡ with_more more after.replies.pending.buffer_capacity before.replies.pending))
    × (before.shut ≡ true → after.shut ≡ true)
    × (after.shut ≡ true → (before.shut ≡ true) ⊎ ((AreForOne more before.replies.pending → ⊥)
    ⊎ (before.replies.pending.buffer_capacity < length before.replies.pending.bytes + length more.bytes)))
    × (after.replies.writing ≡ before.replies.writing)

-- a write failed
abbrev pub has_failed : Result replies.Written Unwritten → Bool
has_failed (Ok written) = false
has_failed (Err unwritten) = true

-- each call that was handed on is answered, and each reply written; or no more is written
abbrev pub IsDone : Outbox → Type 0
IsDone outbox = (outbox.shut ≡ true)
    ⊎ ((outbox.due ≡ 0) × (outbox.replies.pending.bytes ≡ []) × (outbox.replies.writing ≡ false))

-- the connection's own writer has something to write that no other thread writes, or nothing more to wait for
abbrev pub IsForWriter : Outbox → Type 0
IsForWriter outbox = ((outbox.ended ≡ true) ⊎ (outbox.shut ≡ true))
    ⊎ ((outbox.replies.writing ≡ false) × (outbox.replies.pending.bytes ≢ []))

-- its thread waits for bytes, each call is answered and each reply written, and more can be
pub record IsSilent (outbox : Outbox) : Type 0 where
  pub listens : outbox.silence.listens ≡ true
  pub goes_on : outbox.shut ≡ false
  pub answered : outbox.due ≡ 0
  pub sent : outbox.replies.pending.bytes ≡ []
  pub unwritten : outbox.replies.writing ≡ false

-- What became of replies that a thread would write. It was given the permit just where more is written, they are for this
-- connection, nothing waited and no thread wrote; else they were left behind all that waits; and let go just where no
-- more is written, or they are for another connection.
abbrev pub Becomes : Outbox → Written → Offer → Written → Outbox → Type 0
Becomes old more (Write permit) rest new = (old.shut ≡ false) × AreForOne more old.replies.pending
    × (old.replies.pending.bytes ≡ []) × (old.replies.writing ≡ false)
    × (new.replies.pending.bytes ≡ []) × (new.replies.writing ≡ true) × (new.shut ≡ false) × (rest ≡ more)
Becomes old more Left rest new = (old.shut ≡ false) × AreForOne more old.replies.pending
    × (old.replies.pending.bytes ≡ [] → old.replies.writing ≡ true)
    × IsLeft old more new × (new.shut ≡ false → rest ≡ none_of more)
Becomes old more Shut rest new = ((old.shut ≡ true) ⊎ (AreForOne more old.replies.pending → ⊥)) × (new ≡ old)
