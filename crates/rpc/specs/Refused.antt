-- How the header of a reply is spelled, and the replies that have no result (RFC 5531, section 9).
use Rattle.std.specs.Prelude.{ℕ, List, ◌++◌}
use Rattle.xdr.specs.Items.{word}
use Rattle.rpc.specs.declared.constants.TheConstants.{REPLY, RPC_VERSION, NFS_VERSION}
use Rattle.rpc.specs.declared.refusal.Refusal.{Refusal}
use Rattle.rpc.specs.declared.refusal.Refusal.TheVariants.{RpcMismatch, BadCredential, RejectedCredential}
use Rattle.rpc.specs.declared.refusal.Refusal.TheVariants.{ProgramUnavailable, ProgramMismatch}
use Rattle.rpc.specs.declared.refusal.Refusal.TheVariants.{ProcedureUnavailable, GarbageArguments, SystemError}

-- an accepted reply up to its status: its verifier is of flavor 0 and empty
abbrev pub accepted : ℕ → ℕ → List ℕ
accepted xid status = word xid ++ word REPLY ++ word 0 ++ word 0 ++ word 0 ++ word status

-- a denied reply up to its reason: 0 for the version of RPC, 1 for the credential
abbrev pub denied : ℕ → ℕ → List ℕ
denied xid reason = word xid ++ word REPLY ++ word 1 ++ word reason

-- a reply that refuses: behind a mismatch stand the lowest and the highest version that is served
abbrev pub refused : ℕ → Refusal → List ℕ
refused xid RpcMismatch = denied xid 0 ++ word RPC_VERSION ++ word RPC_VERSION
refused xid BadCredential = denied xid 1 ++ word 1
refused xid RejectedCredential = denied xid 1 ++ word 2
refused xid ProgramUnavailable = accepted xid 1
refused xid ProgramMismatch = accepted xid 2 ++ word NFS_VERSION ++ word NFS_VERSION
refused xid ProcedureUnavailable = accepted xid 3
refused xid GarbageArguments = accepted xid 4
refused xid SystemError = accepted xid 5
