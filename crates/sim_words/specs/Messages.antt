-- The message that a script hands to a worker.
use Rattle.std.specs.Prelude.{ℕ, List, Option, Some, None, length, nat_lt, if◌then◌else◌}
use Rattle.base.specs.declared.TheConstants.{RECORD_BYTES}
use Rattle.nfs_types.specs.declared.program.ProgramCall.{ProgramCall}
use Rattle.nfs_types.specs.declared.program.ProgramCall.TheVariants.{Nfs, Mount}
use Rattle.nfs_types.specs.declared.ctx.Credential.{Credential}
use Rattle.session_wire.specs.declared.message.Judged.{Judged}
use Rattle.session_wire.specs.declared.message.Judged.TheVariants.{Closed, Refused, Call}
use Rattle.session_wire.specs.Judging.{judged}
use Rattle.sim_words.specs.declared.message.Message.{Message}

abbrev pub message_with : ℕ → Credential → ProgramCall → Option Message
message_with xid credential (Nfs call) =
    Some (record { xid = xid; credential = credential; call = call })
message_with xid credential (Mount call) = None

-- a call of NFS: what is refused by its bytes is none, nor is what closes a connection, or a call of MOUNT
abbrev pub message_in : Judged → Option Message
message_in Closed = None
message_in (Refused xid refusal) = None
message_in (Call xid credential call) = message_with xid credential call

-- no record is longer
abbrev pub message_of : List ℕ → Option Message
message_of bytes = if nat_lt RECORD_BYTES (length bytes) then None else message_in (judged bytes)
