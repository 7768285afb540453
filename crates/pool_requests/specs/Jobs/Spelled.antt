-- What the record of a job spells.
use Rattle.std.specs.Prelude.{◌≡◌, ℕ, List}
use Rattle.nfs_types.specs.declared.call.Call.{Call}
use Rattle.nfs_types.specs.declared.ctx.Credential.{Credential}
use Rattle.nfs_types.specs.declared.program.ProgramCall.TheVariants.{Nfs}
use Rattle.session_wire.specs.Judging.{judged}
use Rattle.session_wire.specs.declared.message.Judged.TheVariants as judgement

-- a call of NFS with this number, credential and arguments
abbrev pub SpellsJob : List ℕ → ℕ → Credential → Call → Type 0
SpellsJob message xid credential call = judged message ≡ judgement.Call xid credential (Nfs call)
