-- What a record of bytes is taken for, test by test (RFC 5531, section 9).
use Rattle.std.specs.Prelude.{◌≡◌, ◌≤◌, ◌-◌, ℕ, List, length, drop, Option, Some, None, Result, Ok, Err, ◌==◌, if◌then◌else◌}
use Rattle.nfs_types.specs.declared.ctx.Credential.{Credential}
use Rattle.nfs_types.specs.declared.program.Program.{Program}
use Rattle.nfs_types.specs.declared.program.ProgramCall.{ProgramCall}
use Rattle.nfs_types.specs.declared.program.ProgramProcedure.{ProgramProcedure}
use Rattle.rpc.specs.declared.constants.TheConstants.{CALL, RPC_VERSION, NFS_VERSION}
use Rattle.rpc.specs.declared.header.Opening.{Opening}
use Rattle.rpc.specs.declared.refusal.Refusal.{Refusal}
use Rattle.rpc.specs.declared.refusal.Refusal.TheVariants.{RpcMismatch, ProgramUnavailable}
use Rattle.rpc.specs.declared.refusal.Refusal.TheVariants.{ProgramMismatch, ProcedureUnavailable}
use Rattle.rpc.specs.declared.refusal.Refusal.TheVariants.{GarbageArguments}
use Rattle.session_wire.specs.declared.message.Judged.{Judged}
use Rattle.session_wire.specs.declared.message.Judged.TheVariants.{Closed, Refused, Call}
use Rattle.session_wire.specs.declared.message.Lacking.{Lacking}
use Rattle.xdr.specs.declared.fault.XdrFault.{XdrFault}
use Rattle.rpc.specs.Headers.{opening_at, Heading, header_at}
use Rattle.rpc.specs.Credentials.{credential_of}
use Rattle.nfs_codec.specs.Procedures.{procedure_of}
use Rattle.session_wire.specs.Programs.{program_of}
use Rattle.nfs_codec.specs.Arguments.{call_of}

abbrev pub on_arguments : ℕ → Credential → Result ProgramCall XdrFault → Judged
on_arguments xid credential (Ok call) = Call xid credential call
on_arguments xid credential (Err e) = Refused xid GarbageArguments

abbrev pub on_procedure : ℕ → Credential → List ℕ → Option ProgramProcedure → Judged
on_procedure xid credential arguments None = Refused xid ProcedureUnavailable
on_procedure xid credential arguments (Some procedure) =
    on_arguments xid credential (call_of procedure arguments)

-- both programs have the same version
abbrev pub on_program : ℕ → Credential → Heading → List ℕ → Option Program → Judged
on_program xid credential h arguments None = Refused xid ProgramUnavailable
on_program xid credential h arguments (Some program) =
    if h.version == NFS_VERSION then on_procedure xid credential arguments (procedure_of program h.procedure)
    else Refused xid ProgramMismatch

-- the program first, then its version, the procedure, and at last the arguments
abbrev pub requested : ℕ → Credential → Heading → List ℕ → Judged
requested xid credential h arguments = on_program xid credential h arguments (program_of h.program)

abbrev pub on_credential : ℕ → Heading → List ℕ → Result Credential Refusal → Judged
on_credential xid h arguments (Ok credential) = requested xid credential h arguments
on_credential xid h arguments (Err refusal) = Refused xid refusal

abbrev pub on_header : ℕ → Result (Heading × List ℕ) XdrFault → Judged
on_header xid (Ok h) = on_credential xid h.0 h.1 (credential_of h.0.flavor h.0.body)
on_header xid (Err e) = Closed

abbrev pub on_opening : Result (Opening × List ℕ) XdrFault → Judged
on_opening (Ok o) =
    if o.0.kind == CALL then
    (if o.0.rpc_version == RPC_VERSION then on_header o.0.xid (header_at o.1)
    else Refused o.0.xid RpcMismatch) else Closed
on_opening (Err e) = Closed

-- these are the last bytes of the others
abbrev pub AreLast : List ℕ → List ℕ → Type 0
AreLast bytes rest = (length rest ≤ length bytes) × (drop (length bytes - length rest) bytes ≡ rest)

-- no call is closed; then the version of RPC, the rest of the header, the credential, and what is called
abbrev pub judged : List ℕ → Judged
judged bytes = on_opening (opening_at bytes)

-- it is a call of this number
abbrev pub IsCallOf : ℕ → Judged → Type 0
IsCallOf number (Call xid credential call) = number ≡ xid
IsCallOf number (Refused xid refusal) = ⊥
IsCallOf number Closed = ⊥

-- what is told of a record: what it is, or that memory was refused to a call
abbrev pub Judges : Result Judged Lacking → Judged → Type 0
Judges (Ok found) verdict = found ≡ verdict
Judges (Err lacking) verdict = IsCallOf lacking.xid verdict
