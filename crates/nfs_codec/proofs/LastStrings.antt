-- The data of a WRITE are the last of its arguments, and so of the message.
use Rattle.std.proofs.Common.{◌≡◌, ◌≤◌, ◌+◌, ◌-◌, ◌∙◌, ℕ, List, ◌++◌, length, take, drop, replicate, Result, Ok, Err, IfOk, IfErr, inr, ap, sym, refl, arith}
use Rattle.std.specs.Prelude.{alloc_error}
use Rattle.std.proofs.Common.{append_assoc, length-append}
use Rattle.std.proofs.lemmas.List.{drop_at, length-drop, length-replicate, take-append-drop, take_all, take_at}
use Rattle.nfs_types.specs.declared.call.Call.TheVariants as calls
use Rattle.nfs_types.specs.declared.call.Stability.{Stability}
use Rattle.nfs_types.specs.declared.handle.Handle.{Handle}
use Rattle.nfs_types.specs.declared.program.Procedure.TheVariants as nfs
use Rattle.nfs_types.specs.declared.program.ProgramCall.{ProgramCall}
use Rattle.nfs_types.specs.declared.program.ProgramCall.TheVariants as program_calls
use Rattle.nfs_types.specs.declared.program.ProgramProcedure.TheVariants as procedures
use Rattle.xdr.proofs.Coded.{IsBytes, IsBytes-drop}
use Rattle.xdr.specs.Reading.{GivesWhole}
use Rattle.xdr.specs.declared.fault.XdrFault.{XdrFault}
use Rattle.xdr.specs.declared.fault.XdrFault.TheVariants.{NoMemory}
use Rattle.xdr.specs.Items.{double, opaque, padding, word}
use Rattle.nfs_codec.specs.Arguments.{EndsWith, call_of}
use Rattle.nfs_codec.specs.Items.{handle, stability, text}
use Rattle.nfs_codec.proofs.CallLaws.{taken_whole}

ends : (bytes leading string : List ℕ) → bytes ≡ leading ++ (string ++ replicate (padding (length string)) 0)
    → EndsWith bytes string
ends bytes leading string are =
    let zeros : List ℕ = replicate (padding (length string)) 0 in
    let many : length zeros ≡ padding (length string) = length-replicate (padding (length string)) 0 in
    let counted : length bytes ≡ length leading + length (string ++ zeros) =
    ap length are ∙ length-append leading (string ++ zeros) in
    let behind : length (string ++ zeros) ≡ length string + length zeros = length-append string zeros in record {
      within = omega (arith, many, counted, behind);
      is = ap (λ (all : List ℕ). take (length string) (drop (length bytes - (length string + padding (length string))) all)) are
          ∙ ap (take (length string)) (drop_at leading (string ++ zeros)
          (length bytes - (length string + padding (length string))) (omega (arith, many, counted, behind)))
          ∙ take_at string zeros (length string) refl;
    }

grouped : (a b c d e f s z : List ℕ) → a ++ (b ++ (c ++ (d ++ (e ++ (f ++ s ++ z))))) ≡ a ++ b ++ c ++ d ++ e ++ f ++ (s ++ z)
grouped a b c d e f s z = simp append_assoc refl

-- a message whose arguments are those of a WRITE ends with its data
pub ends_with_data : (message : List ℕ) (from : ℕ) (file : Handle) (offset count : ℕ) (kept : Stability)
    (string : List ℕ) → IsBytes message → call_of (procedures.Nfs nfs.Write) (drop from message)
    ≡ Ok (program_calls.Nfs (calls.Write file offset count kept string)) → EndsWith message string
unfolding text opaque
ends_with_data message from file offset count kept string bytes read =
    let taken = taken_whole (procedures.Nfs nfs.Write) (drop from message)
    (program_calls.Nfs (calls.Write file offset count kept string)) (IsBytes-drop from message bytes) read in
    ends message _ string (sym (take-append-drop from message)
    ∙ ap (λ (arguments : List ℕ). take from message ++ arguments) taken.2
    ∙ grouped (take from message) (handle.spell file) (double offset) (word count) (stability.spell kept)
    (word (length string)) string (replicate (padding (length string)) 0))

-- all from one on
pub from_on : (bytes : List ℕ) (from : ℕ) → take (length bytes - from) (drop from bytes) ≡ drop from bytes
from_on bytes from = take_all (length bytes - from) (drop from bytes) (omega (arith, length-drop from bytes))

-- what is made of what was read is the call, unless memory was refused
pub made : (result : Result ProgramCall XdrFault) (read : Result ProgramCall XdrFault) (call : ProgramCall)
    → IfOk result (λ c. c ≡ call) → IfErr result (λ e. e ≡ NoMemory alloc_error) → read ≡ Ok call → GivesWhole result read
made (Ok c) read call ok err is = is ∙ ap (λ (x : ProgramCall). Ok x) (sym ok)
made (Err e) read call ok err is = inr (err, call, is)
