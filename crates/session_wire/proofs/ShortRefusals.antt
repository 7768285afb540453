-- A refusal isn't too long for a record.
use Rattle.std.proofs.Common.{ℕ, true≢false, sym, inl, inr, arith}
use Rattle.rpc.specs.declared.refusal.Refusal.{Refusal}
use Rattle.rpc.proofs.Lengths.{refused-length}
use Rattle.session_wire.specs.Replies.{IsTooLong}
use Rattle.session_wire.specs.declared.message.ReplyBody.TheVariants as bodies

pub not_long_refusal : (xid : ℕ) (refusal : Refusal) → IsTooLong xid (bodies.Refused refusal) → ⊥
not_long_refusal xid refusal (inl long) = true≢false (sym long)
not_long_refusal xid refusal (inr many) = let few = refused-length xid refusal in omega (arith, many, few)
