-- What is told of a record is what it is, but that memory may have been refused to a call.
use Rattle.std.proofs.Common.{◌≡◌, refl, subst, ℕ, List, Some, None, inr}
use Rattle.std.specs.declared.alloc.AllocError.{AllocError}
use Rattle.nfs_types.specs.declared.ctx.Credential.{Credential}
use Rattle.nfs_types.specs.declared.program.ProgramCall.{ProgramCall}
use Rattle.nfs_types.specs.declared.program.ProgramCall.TheVariants.{Mount, Nfs}
use Rattle.rpc.specs.declared.refusal.Refusal.{Refusal}
use Rattle.nfs_types.specs.declared.call.Call as nfs
use Rattle.nfs_types.specs.Fits.{CallFits, ProgramCallFits}
use Rattle.session_wire.specs.Judging.{IsCallOf}
use Rattle.session_wire.proofs.CallLaws.{judged_takes}
use Rattle.xdr.proofs.Coded.{IsBytes}
use Rattle.session_wire.specs.declared.message.Judged.{Judged}
use Rattle.session_wire.specs.declared.message.Judged.TheVariants.{Closed, Refused, Call}
use Rattle.session_wire.specs.declared.message.ReplyBody.TheVariants as body
use Rattle.rpc.specs.declared.refusal.Refusal.TheVariants.{SystemError}
use Rattle.pool_requests.specs.Jobs.Immediate.{RepliesWithout}
use Rattle.pool_requests.specs.Jobs.Spelled.{SpellsJob}

-- a call that is spelled by bytes can be spelled
pub fits : (message : List ℕ) (xid : ℕ) (credential : Credential) (call : nfs.Call) → IsBytes message
    → SpellsJob message xid credential call → CallFits call
fits message xid credential call bytes spelled =
    let t = judged_takes message xid credential (Nfs call) bytes spelled in
    subst ProgramCallFits t.1.call_is t.1.spelled.call_fits

-- its refusal
pub refused : (verdict : Judged) (xid : ℕ) (why : Refusal) → Refused xid why ≡ verdict
    → RepliesWithout verdict xid (body.Refused why) None
refused verdict xid why is =
    subst (λ (found : Judged). RepliesWithout found xid (body.Refused why) None) is (refl, refl)

-- that memory was refused to a call
pub lacks : (verdict : Judged) (xid : ℕ) (error : AllocError) → IsCallOf xid verdict
    → RepliesWithout verdict xid (body.Refused SystemError) (Some error)
lacks Closed xid error is = absurd is
lacks (Refused number why) xid error is = absurd is
lacks (Call number credential (Mount call)) xid error is = (is, inr (refl, refl))
lacks (Call number credential (Nfs call)) xid error is = (is, inr (refl, refl))
