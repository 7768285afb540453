-- A result is its header and its data.
use Rattle.std.proofs.Common.{◌≡◌, ◌+◌, ◌∙◌, ℕ, Bool, true, false, true≢false, ◌||◌, List, ◌++◌, length, replicate, Result, Ok, Err, IfOk, Option, refl, sym, ap, arith, append_assoc, length-append}
use Rattle.std.proofs.lemmas.List.{append-nil}
use Rattle.nfs_codec.specs.Items.{optional_attributes, text}
use Rattle.nfs_results.specs.Results.{read, read_bytes, nfs_too_long, nfs_result_header, nfs_data, nfs_result_bytes}
use Rattle.nfs_types.specs.declared.attributes.Attributes.{Attributes}
use Rattle.nfs_types.specs.declared.reply.ReadBytes.{ReadBytes}
use Rattle.nfs_types.specs.declared.reply.Reply.{Reply}
use Rattle.nfs_types.specs.declared.reply.Reply.TheVariants as replies
use Rattle.nfs_types.specs.declared.status.Status.{Status}
use Rattle.xdr.specs.Items.{flag, is_uncounted, opaque, padding, word}
use Rattle.xdr.specs.Writing.{RefusesToWrite, WriterState, WritesBytes}
use Rattle.xdr.specs.declared.fault.XdrFault.{XdrFault}
use Rattle.nfs_results.proofs.Refusals.{short_refused, wider}

second : (a b : Bool) → (a || b) ≡ false → b ≡ false
second true true e = absurd (true≢false e)
second false true e = absurd (true≢false e)
second a false e = refl

-- the data of a READ that can be written can be counted
pub counted : (outcome : Result ReadBytes Status) (file : Option Attributes)
    → nfs_too_long (replies.Read outcome file) ≡ false → IfOk outcome (λ done. is_uncounted done.bytes ≡ false)
unfolding read read_bytes text
counted (Ok done) file e = second _ _ e
counted (Err status) file e = tt

moved : (a b c d e f g : List ℕ) → a ++ b ++ c ++ d ++ e ++ (f ++ g) ≡ a ++ (b ++ (c ++ (d ++ (e ++ f ++ g))))
moved a b c d e f g = simp append_assoc refl

pub of_nfs : (reply : Reply) → nfs_result_header reply ++ nfs_data reply ≡ nfs_result_bytes reply
unfolding read read_bytes text opaque
of_nfs (replies.Read (Ok done) file) = moved (word 0) (optional_attributes.spell file) (word done.count) (flag done.eof)
    (word (length done.bytes)) done.bytes (replicate (padding (length done.bytes)) 0)
of_nfs (replies.Read (Err status) file) = append-nil _
of_nfs replies.Null = refl
of_nfs (replies.GetAttr outcome) = append-nil _
of_nfs (replies.SetAttr outcome object) = append-nil _
of_nfs (replies.Lookup outcome directory) = append-nil _
of_nfs (replies.Access outcome object) = append-nil _
of_nfs (replies.ReadLink outcome object) = append-nil _
of_nfs (replies.Write outcome file) = append-nil _
of_nfs (replies.Create outcome directory) = append-nil _
of_nfs (replies.MkDir outcome directory) = append-nil _
of_nfs (replies.SymLink outcome directory) = append-nil _
of_nfs (replies.MkNod outcome directory) = append-nil _
of_nfs (replies.Remove outcome directory) = append-nil _
of_nfs (replies.RmDir outcome directory) = append-nil _
of_nfs (replies.Rename outcome source target) = append-nil _
of_nfs (replies.Link outcome file directory) = append-nil _
of_nfs (replies.ReadDir outcome directory) = append-nil _
of_nfs (replies.ReadDirPlus outcome directory) = append-nil _
of_nfs (replies.FsStat outcome object) = append-nil _
of_nfs (replies.FsInfo outcome object) = append-nil _
of_nfs (replies.PathConf outcome object) = append-nil _
of_nfs (replies.Commit outcome file) = append-nil _

more : (reply : Reply) → length (nfs_result_header reply) + length (nfs_data reply) ≡ length (nfs_result_bytes reply)
more reply = sym (length-append (nfs_result_header reply) (nfs_data reply)) ∙ ap length (of_nfs reply)

-- what is refused for the header is refused for the whole
pub header_refused : (reply : Reply) (e : XdrFault) (too_long : Bool) (old : WriterState)
    → RefusesToWrite e too_long old (length old.bytes + length (nfs_result_header reply))
    → RefusesToWrite e too_long old (length old.bytes + length (nfs_result_bytes reply))
header_refused reply e too_long old refuses =
    wider e too_long old old (length old.bytes + length (nfs_result_header reply))
    (length old.bytes + length (nfs_result_bytes reply)) (omega arith) refl (omega (arith, more reply)) refuses

-- the data behind the header
pub data_behind : (reply : Reply) (result : Result (Unit {0}) XdrFault) (too_long : Bool) (old middle new : WriterState)
    → WritesBytes (Ok tt) old middle (nfs_result_header reply) too_long
    → WritesBytes result middle new (nfs_data reply) false
    → WritesBytes result old new (nfs_result_bytes reply) too_long
data_behind reply (Ok x) too_long old middle new put wrote = (
  wrote.0 ∙ ap (λ (bytes : List ℕ). bytes ++ nfs_data reply) put.0
      ∙ append_assoc old.bytes (nfs_result_header reply) (nfs_data reply)
      ∙ ap (λ (bytes : List ℕ). old.bytes ++ bytes) (of_nfs reply),
  put.1,
  omega (arith, put.2, wrote.2),
  wrote.3 ∙ put.3,
)
data_behind reply (Err e) too_long old middle new put refuses =
    short_refused e too_long middle old (length middle.bytes + length (nfs_data reply))
    (length old.bytes + length (nfs_result_bytes reply)) put.2 (sym put.3)
    (omega (arith, ap length put.0, length-append old.bytes (nfs_result_header reply), more reply)) refuses
