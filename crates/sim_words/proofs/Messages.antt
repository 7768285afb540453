-- What a record that was judged is to a script, by what it was taken for.
use Rattle.std.proofs.Common.{◌≡◌, ◌≤◌, ◌∙◌, ℕ, Bool, List, None, if◌then◌else◌, length, sym, ap}
use Rattle.std.proofs.lemmas.Bool.{le-ltb}
use Rattle.base.specs.declared.TheConstants.{RECORD_BYTES}
use Rattle.nfs_types.specs.declared.ctx.Credential.{Credential}
use Rattle.nfs_types.specs.declared.program.ProgramCall.{ProgramCall}
use Rattle.rpc.specs.declared.refusal.Refusal.{Refusal}
use Rattle.session_wire.specs.declared.message.Judged.{Judged}
use Rattle.session_wire.specs.declared.message.Judged.TheVariants.{Closed, Refused, Call}
use Rattle.session_wire.specs.Judging.{judged}
use Rattle.sim_words.specs.Messages.{message_in, message_of, message_with}

-- the connection closes
pub closed : (verdict : Judged) → Closed ≡ verdict → message_in verdict ≡ None
closed verdict is = sym (ap message_in is)

-- it is refused
pub refused : (xid : ℕ) (refusal : Refusal) (verdict : Judged) → Refused xid refusal ≡ verdict
    → message_in verdict ≡ None
refused xid refusal verdict is = sym (ap message_in is)

-- it is the message that the call is
pub spelled : (bytes : List ℕ) (xid : ℕ) (credential : Credential) (call : ProgramCall) → length bytes ≤ RECORD_BYTES
    → Call xid credential call ≡ judged bytes → message_of bytes ≡ message_with xid credential call
spelled bytes xid credential call few is =
    ap (λ (t : Bool). if t then None else message_in (judged bytes)) (le-ltb RECORD_BYTES (length bytes) few)
    ∙ sym (ap message_in is)
