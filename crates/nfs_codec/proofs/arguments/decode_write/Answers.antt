use Rattle.std.proofs.Common.{rules, ◌≡◌, ◌∙◌, ℕ, List, drop, Ok, ap, subst, sym}
use Rattle.nfs_types.specs.declared.call.Call.TheVariants as calls
use Rattle.nfs_types.specs.declared.program.Procedure.TheVariants as nfs
use Rattle.nfs_types.specs.declared.program.ProgramCall.TheVariants as program_calls
use Rattle.nfs_types.specs.declared.program.ProgramProcedure.TheVariants as procedures
use Rattle.xdr.proofs.Coded.{IsBytes}
use Rattle.nfs_codec.specs.Arguments.{call_of}
use Rattle.nfs_codec.proofs.LastStrings.{ends_with_data, from_on, made}
use Rattle.nfs_codec.proofs.arguments.decode_write.Goals as goal

pub owned_write-requires : goal.owned_write-requires
owned_write-requires c =
    let write = c.in_ok-write.write in
    let is : c.as_slice-bytes.result.now ≡ c.args.message.now = search rules in
    let read : call_of (procedures.Nfs nfs.Write) (drop c.args.from c.args.message.now)
    ≡ Ok (program_calls.Nfs (calls.Write (record { bytes = write.file.now }) write.offset write.count write.stability
    write.bytes.now)) =
    sym (ap (λ (message : List ℕ). call_of (procedures.Nfs nfs.Write) (drop c.args.from message)) is)
    ∙ sym (ap (call_of (procedures.Nfs nfs.Write)) (from_on c.as_slice-bytes.result.now c.args.from))
    ∙ c.in_ok-write.ensures in
    let bytes : IsBytes c.args.message.now = subst IsBytes is c.are_bytes.ensures in
    ends_with_data c.args.message.now c.args.from _ _ _ _ write.bytes.now bytes read

pub returns : goal.returns
returns c =
    let write = c.in_ok-write.write in
    let is : c.as_slice-bytes.result.now ≡ c.args.message.now = search rules in
    let read : call_of (procedures.Nfs nfs.Write) (drop c.args.from c.args.message.now)
    ≡ Ok (program_calls.Nfs (calls.Write (record { bytes = write.file.now }) write.offset write.count write.stability
    write.bytes.now)) =
    sym (ap (λ (message : List ℕ). call_of (procedures.Nfs nfs.Write) (drop c.args.from message)) is)
    ∙ sym (ap (call_of (procedures.Nfs nfs.Write)) (from_on c.as_slice-bytes.result.now c.args.from))
    ∙ c.in_ok-write.ensures in
    made c.owned_write.result _ _ c.owned_write.ensures.ok c.owned_write.ensures.err read
