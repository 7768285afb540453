-- The header of a call, read from left to right (RFC 5531, section 9).
use Rattle.std.specs.Prelude.{ℕ, List, Result, Ok}
use Rattle.std.specs.Int.{w32}
use Rattle.base.specs.declared.TheConstants.{MOST_AUTH_BYTES}
use Rattle.xdr.specs.declared.fault.XdrFault.{XdrFault}
use Rattle.rpc.specs.declared.header.Opening.{Opening}
use Rattle.rpc.specs.declared.header.Header.{Header}
use Rattle.xdr.specs.Reading.{◌>>=◌, number_at, opaque_at}

-- the transaction's number, the type of the message, the version of RPC
unfoldable pub opening_at : List ℕ → Result (Opening × List ℕ) XdrFault
opening_at bytes = do
  xid ← number_at w32 bytes
  kind ← number_at w32 xid.1
  version ← number_at w32 kind.1
  Ok (record { xid = xid.0; kind = kind.0; rpc_version = version.0 }, version.1)

-- what is called, and the credential and the verifier as they stand there
pub record Heading : Type 0 where
  pub program : ℕ
  pub version : ℕ
  pub procedure : ℕ
  pub flavor : ℕ
  pub body : List ℕ
  pub verifier_flavor : ℕ
  pub verifier : List ℕ

abbrev pub heading : Header → Heading
heading h = record {
  program = h.program;
  version = h.version;
  procedure = h.procedure;
  flavor = h.flavor;
  body = h.body.now;
  verifier_flavor = h.verifier_flavor;
  verifier = h.verifier.now;
}

-- program, version, procedure, then a credential and a verifier: each a flavor and a string of at most 400
-- bytes
unfoldable pub header_at : List ℕ → Result (Heading × List ℕ) XdrFault
header_at bytes = do
  program ← number_at w32 bytes
  version ← number_at w32 program.1
  procedure ← number_at w32 version.1
  flavor ← number_at w32 procedure.1
  body ← opaque_at MOST_AUTH_BYTES flavor.1
  verifier_flavor ← number_at w32 body.1
  verifier ← opaque_at MOST_AUTH_BYTES verifier_flavor.1
  Ok (
    record {
      program = program.0;
      version = version.0;
      procedure = procedure.0;
      flavor = flavor.0;
      body = body.0;
      verifier_flavor = verifier_flavor.0;
      verifier = verifier.0;
    },
    verifier.1,
  )
