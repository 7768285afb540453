-- What is taken for a call is one that can be spelled.
use Rattle.std.proofs.Common.{◌≡◌, sym, subst, ℕ, List}
use Rattle.nfs_types.specs.declared.ctx.Credential.{Credential}
use Rattle.nfs_types.specs.declared.program.ProgramCall.{ProgramCall}
use Rattle.nfs_types.specs.Fits.{ProgramCallFits}
use Rattle.session_wire.specs.Judging.{judged}
use Rattle.session_wire.specs.declared.message.Judged.TheVariants as verdicts
use Rattle.xdr.proofs.Coded.{IsBytes}
use Rattle.session_wire.proofs.CallLaws.{judged_takes}
use Rattle.session_wire.proofs.ServedStreams.{IsCaller, caller_is}
use Rattle.session.specs.Replying.{TakesCall}

pub taken : (message : List ℕ) (xid : ℕ) (credential : Credential) (call : ProgramCall) → IsBytes message
    → verdicts.Call xid credential call ≡ judged message → TakesCall credential call
taken message xid credential call bytes is =
    let t = judged_takes message xid credential call bytes (sym is) in
    let who = subst IsCaller t.1.caller_is (caller_is t.0.credential t.1.spelled.credential_fits) in
    record {
      uid = who.uid;
      gid = who.gid;
      fits = subst ProgramCallFits t.1.call_is t.1.spelled.call_fits;
    }
