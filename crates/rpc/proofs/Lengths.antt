-- How long what is spelled is.
use Rattle.std.proofs.Common.{◌≡◌, ℕ, ◌≤◌, length, refl, arith, length-append}
use Rattle.xdr.specs.Items.{word}
use Rattle.rpc.specs.declared.refusal.Refusal.{Refusal}
use Rattle.rpc.specs.declared.refusal.Refusal.TheVariants.{RpcMismatch, BadCredential, RejectedCredential}
use Rattle.rpc.specs.declared.refusal.Refusal.TheVariants.{ProgramUnavailable, ProgramMismatch}
use Rattle.rpc.specs.declared.refusal.Refusal.TheVariants.{ProcedureUnavailable, GarbageArguments, SystemError}
use Rattle.rpc.specs.Refused.{accepted, refused}

pub word-length : (n : ℕ) → length (word n) ≡ 4
unfolding word
word-length n = refl

pub accepted-length : (xid status : ℕ) → length (accepted xid status) ≡ 24
accepted-length xid status = simp (length-append, word-length) refl

pub refused-length : (xid : ℕ) (r : Refusal) → length (refused xid r) ≤ 32
refused-length xid RpcMismatch = simp (length-append, word-length) (omega arith)
refused-length xid BadCredential = simp (length-append, word-length) (omega arith)
refused-length xid RejectedCredential = simp (length-append, word-length) (omega arith)
refused-length xid ProgramUnavailable = simp (length-append, word-length) (omega arith)
refused-length xid ProgramMismatch = simp (length-append, word-length) (omega arith)
refused-length xid ProcedureUnavailable = simp (length-append, word-length) (omega arith)
refused-length xid GarbageArguments = simp (length-append, word-length) (omega arith)
refused-length xid SystemError = simp (length-append, word-length) (omega arith)
