-- Reading a reply message from left to right (RFC 5531, section 9).
use Rattle.std.specs.Prelude.{ℕ, List, Result, Ok, Err, ◌==◌, if◌then◌else◌}
use Rattle.std.specs.Int.{w32}
use Rattle.nfs_types.specs.declared.program.ProgramProcedure.{ProgramProcedure}
use Rattle.rpc.specs.declared.constants.TheConstants.{REPLY, RPC_VERSION, NFS_VERSION}
use Rattle.rpc.specs.declared.refusal.Refusal.{Refusal}
use Rattle.rpc.specs.declared.refusal.Refusal.TheVariants.{RpcMismatch, BadCredential}
use Rattle.rpc.specs.declared.refusal.Refusal.TheVariants.{RejectedCredential}
use Rattle.rpc.specs.declared.refusal.Refusal.TheVariants.{ProgramUnavailable, ProgramMismatch}
use Rattle.rpc.specs.declared.refusal.Refusal.TheVariants.{ProcedureUnavailable}
use Rattle.rpc.specs.declared.refusal.Refusal.TheVariants.{GarbageArguments, SystemError}
use Rattle.session_wire.specs.declared.message.ReplyBody.{ReplyBody}
use Rattle.session_wire.specs.declared.message.ReplyBody.TheVariants as bodies
use Rattle.session_wire.specs.declared.message.ReplyMessage.{ReplyMessage}
use Rattle.xdr.specs.declared.fault.XdrFault.{XdrFault}
use Rattle.xdr.specs.declared.fault.XdrFault.TheVariants.{Value}
use Rattle.xdr.specs.Reading.{◌>>=◌, number_at, end_at}
use Rattle.nfs_results.specs.Results.{reply_at}

-- this very number
abbrev pub this_at : ℕ → List ℕ → Result (Unit {0} × List ℕ) XdrFault
this_at wanted bytes = number_at w32 bytes >>= λ n. if n.0 == wanted then Ok (tt, n.1) else Err Value

-- the lowest and the highest version that is served
unfoldable pub versions_at : ℕ → List ℕ → Result (Unit {0} × List ℕ) XdrFault
versions_at version bytes = this_at version bytes >>= λ low. this_at version low.1

abbrev pub refusing : Refusal → List ℕ → Result (ReplyBody × List ℕ) XdrFault
refusing refusal rest = Ok (bodies.Refused refusal, rest)

abbrev pub accepted_of : ProgramProcedure → ℕ → List ℕ → Result (ReplyBody × List ℕ) XdrFault
accepted_of p status rest =
    if status == 0 then (reply_at p rest >>= λ r. Ok (bodies.Done r.0, r.1)) else
    if status == 1 then refusing ProgramUnavailable rest else
    if status == 2 then (versions_at NFS_VERSION rest >>= λ v. refusing ProgramMismatch v.1) else
    if status == 3 then refusing ProcedureUnavailable rest else
    if status == 4 then refusing GarbageArguments rest else
    if status == 5 then refusing SystemError rest else Err Value

abbrev pub bad_credential_of : ℕ → List ℕ → Result (ReplyBody × List ℕ) XdrFault
bad_credential_of why rest =
    if why == 1 then refusing BadCredential rest else
    if why == 2 then refusing RejectedCredential rest else Err Value

abbrev pub denied_of : ℕ → List ℕ → Result (ReplyBody × List ℕ) XdrFault
denied_of reason rest =
    if reason == 0 then (versions_at RPC_VERSION rest >>= λ v. refusing RpcMismatch v.1) else
    if reason == 1 then (number_at w32 rest >>= λ n. bad_credential_of n.0 n.1) else Err Value

-- behind a verifier of flavor 0 that is empty, the status and what belongs to it
unfoldable pub accepted_at : ProgramProcedure → List ℕ → Result (ReplyBody × List ℕ) XdrFault
accepted_at p bytes = do
  flavor ← this_at 0 bytes
  length ← this_at 0 flavor.1
  status ← number_at w32 length.1
  accepted_of p status.0 status.1

unfoldable pub denied_at : List ℕ → Result (ReplyBody × List ℕ) XdrFault
denied_at bytes = do
  reason ← number_at w32 bytes
  denied_of reason.0 reason.1

abbrev pub state_of : ProgramProcedure → ℕ → List ℕ → Result (ReplyBody × List ℕ) XdrFault
state_of p state rest = if state == 0 then accepted_at p rest else if state == 1 then denied_at rest
    else Err Value

-- the reply to a procedure that all of these bytes spell
unfoldable pub reply_of : ProgramProcedure → List ℕ → Result ReplyMessage XdrFault
reply_of p bytes = do
  xid ← number_at w32 bytes
  kind ← this_at REPLY xid.1
  state ← number_at w32 kind.1
  body ← state_of p state.0 state.1
  end ← end_at body.1
  Ok (record { xid = xid.0; body = body.0 })
