-- What holds whatever a call gives.
use Rattle.std.proofs.Common.{ℕ, ◌≡◌, ◌<◌, ◌≤◌, ◌^◌, ◌⊎◌, Bool, true, false, List, Result, Ok, Err, OnErr}
use Rattle.std.proofs.Common.{arith, inl, inr, length, refl}
use Rattle.std.proofs.lemmas.Bool.{cases_lt}
use Rattle.nfs_types.specs.declared.program.ProgramReply.{ProgramReply}
use Rattle.plain_once.specs.Session.Answering.{IsReplyRecord}
use Rattle.session_wire.specs.Replies.{IsTooLong, body_too_long, reply_bytes}
use Rattle.session_wire.specs.declared.message.ReplyBody.TheVariants as body

pub on_err : {T E P : Type 0} (r : Result T E) → P → OnErr r P
on_err (Ok _) p = tt
on_err (Err _) p = p

bool_cases : (b : Bool) → (b ≡ true) ⊎ (b ≡ false)
bool_cases true = inl refl
bool_cases false = inr refl

-- a result is told, whatever its length
pub some_reply_record : (xid : ℕ) (response : ProgramReply) → (bytes : List ℕ) × IsReplyRecord xid response bytes
some_reply_record xid response =
    by_length (bool_cases (body_too_long (body.Done response)))
    (cases_lt (length (reply_bytes xid (body.Done response))) (2 ^ 31))
  where
    by_length : (body_too_long (body.Done response) ≡ true) ⊎ (body_too_long (body.Done response) ≡ false)
        → (length (reply_bytes xid (body.Done response)) < 2 ^ 31)
        ⊎ (2 ^ 31 ≤ length (reply_bytes xid (body.Done response)))
        → (bytes : List ℕ) × IsReplyRecord xid response bytes
    by_length (inl long) either = (_, inr (inl long, refl))
    by_length (inr counted) (inr long) = (_, inr (inr long, refl))
    by_length (inr counted) (inl short) = (_, inl (never, refl))
      where
        never : IsTooLong xid (body.Done response) → ⊥
        never (inl long) = cc
        never (inr long) = omega arith
