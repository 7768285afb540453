-- How call messages are spelled (RFC 5531, sections 8.2 and 9, appendix A).
use Rattle.std.specs.Prelude.{◌≡◌, ◌<◌, ◌≤◌, ◌^◌, ℕ, List, [], ◌++◌, length, flat_map}
use Rattle.std.specs.List.{AllByRecursion}
use Rattle.base.specs.declared.TheConstants.{MOST_AUTH_BYTES, MACHINE_NAME_BYTES}
use Rattle.base.specs.declared.TheConstants.{MOST_GIDS}
use Rattle.nfs_types.specs.declared.ctx.Credential.{Credential}
use Rattle.nfs_types.specs.Fits.{ProgramCallFits}
use Rattle.rpc.specs.declared.constants.TheConstants.{CALL, RPC_VERSION, NFS_VERSION}
use Rattle.rpc.specs.declared.constants.TheConstants.{AUTH_NONE, AUTH_SYS}
use Rattle.session_wire.specs.declared.message.MessageCredential.{MessageCredential}
use Rattle.session_wire.specs.declared.message.MessageCredential.TheVariants.{Nobody, Caller}
use Rattle.session_wire.specs.declared.message.CallMessage.{CallMessage}
use Rattle.xdr.specs.Items.{word, opaque}
use Rattle.rpc.specs.Credentials.{no_caller}
use Rattle.nfs_codec.specs.Arguments.{arguments}
use Rattle.nfs_codec.specs.Procedures.{called, procedure_number}
use Rattle.session_wire.specs.Programs.{program_number, program_with}

-- a stamp, the machine's name, the user, the group, and a counted list of further groups
abbrev pub caller_bytes : ℕ → List ℕ → Credential → List ℕ
caller_bytes stamp machine caller = word stamp ++ opaque machine ++ word caller.uid ++ word caller.gid
    ++ word (length caller.gids) ++ flat_map word caller.gids

pub record CallerFits (stamp : ℕ) (machine : List ℕ) (caller : Credential) : Type 0 where
  pub stamp_fits : stamp < 2 ^ 32
  pub machine_fits : length machine ≤ MACHINE_NAME_BYTES
  pub uid : caller.uid < 2 ^ 32
  pub gid : caller.gid < 2 ^ 32
  pub few : length caller.gids ≤ MOST_GIDS
  pub gids : AllByRecursion (λ n. n < 2 ^ 32) caller.gids

-- flavor 0 is empty, flavor 1 names a caller
abbrev pub credential : MessageCredential → List ℕ
credential Nobody = word AUTH_NONE ++ opaque []
credential (Caller stamp machine caller) = word AUTH_SYS ++ opaque (caller_bytes stamp machine caller)

abbrev pub CredentialFits : MessageCredential → Type 0
CredentialFits Nobody = Unit {0}
CredentialFits (Caller stamp machine caller) = CallerFits stamp machine caller

-- whom a call is made for
abbrev pub caller_of : MessageCredential → Credential
caller_of Nobody = no_caller
caller_of (Caller stamp machine caller) = caller

-- the one spelling of a call: its number, what it calls, whom it is made for, a verifier of any flavor, the
-- arguments
abbrev pub call_bytes : CallMessage → List ℕ
call_bytes m =
    word m.xid ++ word CALL ++ word RPC_VERSION ++ word (program_number (program_with (called m.call)))
    ++ word NFS_VERSION ++ word (procedure_number (called m.call))
    ++ credential m.credential ++ (word m.verifier.flavor ++ opaque m.verifier.body) ++ arguments m.call

-- the bytes spell the call
pub record SpellsCall (bytes : List ℕ) (m : CallMessage) : Type 0 where
  pub xid : m.xid < 2 ^ 32
  pub credential_fits : CredentialFits m.credential
  pub verifier_flavor : m.verifier.flavor < 2 ^ 32
  pub verifier_body : length m.verifier.body ≤ MOST_AUTH_BYTES
  pub call_fits : ProgramCallFits m.call
  pub spelled : bytes ≡ call_bytes m
