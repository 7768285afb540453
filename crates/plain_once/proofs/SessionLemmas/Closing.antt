-- A message is answered by what it was taken for, also where memory failed for that.
use Rattle.std.proofs.Common.{◌≡◌, ◌∙◌, ℕ, List, ap, refl, subst, sym}
use Rattle.nfs_types.specs.declared.ctx.Credential.{Credential}
use Rattle.nfs_types.specs.declared.program.ProgramCall.{ProgramCall}
use Rattle.plain_once.specs.Session.Answering.{Files, IsCallAnswered, IsVerdictAnswered, Unread, refusal_record}
use Rattle.rpc.specs.declared.refusal.Refusal.{Refusal}
use Rattle.rpc.specs.declared.refusal.Refusal.TheVariants.{SystemError}
use Rattle.session_wire.specs.Judging.{IsCallOf}
use Rattle.session_wire.specs.declared.message.Judged.{Judged}
use Rattle.session_wire.specs.declared.message.Judged.TheVariants.{Call, Closed, Refused}

-- it closes where it was taken for none
pub closed : (is : Judged) → Closed ≡ is → is ≡ Closed
closed is same = sym same

-- its refusal
pub refusal : (before : Files) (xid : ℕ) (why : Refusal) (is : Judged) (bytes : List ℕ)
    → Refused xid why ≡ is → bytes ≡ refusal_record xid why → IsVerdictAnswered before is bytes before
refusal before xid why is bytes same spelled =
    subst (λ (v : Judged). IsVerdictAnswered before v bytes before) same (spelled, refl)

-- that memory failed for what it calls for
pub lacking : (before : Files) (xid : ℕ) (is : Judged) (bytes : List ℕ) → IsCallOf xid is
    → bytes ≡ refusal_record xid SystemError → IsVerdictAnswered before is bytes before
lacking before xid Closed bytes of spelled = absurd of
lacking before xid (Refused number cause) bytes of spelled = absurd of
lacking before xid (Call number caller call) bytes of spelled =
    Unread refl (spelled ∙ ap (λ n. refusal_record n SystemError) of)

-- what it calls for
pub called : (before after : Files) (xid : ℕ) (caller : Credential) (call : ProgramCall) (is : Judged)
    (bytes : List ℕ) → Call xid caller call ≡ is → IsCallAnswered before xid caller call bytes after
    → IsVerdictAnswered before is bytes after
called before after xid caller call is bytes same answered =
    subst (λ (v : Judged). IsVerdictAnswered before v bytes after) same answered
