-- Whom a call is made for (RFC 5531, section 8.2 and appendix A).
use Rattle.std.specs.Prelude.{◌≡◌, ℕ, zero, suc, List, [], ◌∷◌, length, Result, Ok, Err, nat_lt, ◌==◌}
use Rattle.std.specs.Prelude.{if◌then◌else◌}
use Rattle.std.specs.Int.{w32}
use Rattle.base.specs.declared.TheConstants.{MACHINE_NAME_BYTES, MOST_GIDS, NOBODY}
use Rattle.nfs_types.specs.declared.ctx.Credential.{Credential}
use Rattle.xdr.specs.declared.fault.XdrFault.{XdrFault}
use Rattle.xdr.specs.declared.fault.XdrFault.TheVariants.{Length}
use Rattle.rpc.specs.declared.credential.NamedCaller.{NamedCaller}
use Rattle.rpc.specs.declared.credential.SystemCredential.{SystemCredential}
use Rattle.rpc.specs.declared.refusal.Refusal.{Refusal}
use Rattle.rpc.specs.declared.refusal.Refusal.TheVariants.{BadCredential, RejectedCredential}
use Rattle.xdr.specs.Reading.{◌>>=◌, number_at, opaque_at, end_at}

-- so many numbers
unfoldable pub numbers_at : ℕ → List ℕ → Result (List ℕ × List ℕ) XdrFault
numbers_at zero bytes = Ok ([], bytes)
numbers_at (suc n) bytes = do
  first ← number_at w32 bytes
  others ← numbers_at n first.1
  Ok (first.0 ∷ others.0, others.1)

-- a counted list of at most 16 groups
unfoldable pub gids_at : List ℕ → Result (List ℕ × List ℕ) XdrFault
gids_at bytes = do
  count ← number_at w32 bytes
  if nat_lt MOST_GIDS count.0 then Err Length else numbers_at count.0 count.1

-- the body of a credential that names a caller
pub record System : Type 0 where
  pub stamp : ℕ
  pub machine : List ℕ
  pub caller : Credential

-- whom a caller names whose groups are as they are spelled
abbrev pub named : NamedCaller → Credential
named c = record { uid = c.uid; gid = c.gid; gids = c.gids }

abbrev pub system : SystemCredential → System
system c = record { stamp = c.stamp; machine = c.machine.now; caller = named c.caller }

-- a stamp and a machine's name, then the caller, and nothing behind
unfoldable pub caller_at : List ℕ → Result System XdrFault
caller_at bytes = do
  stamp ← number_at w32 bytes
  machine ← opaque_at MACHINE_NAME_BYTES stamp.1
  uid ← number_at w32 machine.1
  gid ← number_at w32 uid.1
  gids ← gids_at gid.1
  end ← end_at gids.1
  Ok (record {
    stamp = stamp.0;
    machine = machine.0;
    caller = record { uid = uid.0; gid = gid.0; gids = gids.0 };
  })

-- a call that names nobody is made for this caller
abbrev pub no_caller : Credential
no_caller = record { uid = NOBODY; gid = NOBODY; gids = [] }

abbrev pub caller_or_bad : Result System XdrFault → Result Credential Refusal
caller_or_bad (Ok c) = Ok c.caller
caller_or_bad (Err e) = Err BadCredential

-- flavor 0 has no body, flavor 1 the body of a caller; no other is taken
abbrev pub credential_of : ℕ → List ℕ → Result Credential Refusal
credential_of flavor body =
    if flavor == 0 then (if length body == 0 then Ok no_caller else Err BadCredential) else
    if flavor == 1 then caller_or_bad (caller_at body) else Err RejectedCredential

-- a caller that was read is the one that the definition names, or both refuse the credential for the same
-- reason
abbrev pub Names : Result NamedCaller Refusal → Result Credential Refusal → Type 0
Names (Ok c) wanted = wanted ≡ Ok (named c)
Names (Err why) wanted = wanted ≡ Err why
