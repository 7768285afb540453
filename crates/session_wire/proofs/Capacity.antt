-- Where a writer has the capacity, nothing is refused for want of memory.
use Rattle.std.proofs.Common.{◌≡◌, ◌≤◌, ◌+◌, ◌∙◌, ℕ, Bool, false, true≢false, inl, inr, List, ◌++◌, length, sym, arith, length-append}
use Rattle.rpc.proofs.Lengths.{word-length}
use Rattle.xdr.specs.Items.{word}
use Rattle.xdr.specs.Writing.{RefusesToWrite, WriterState}
use Rattle.xdr.specs.declared.fault.XdrFault.{XdrFault}

-- behind a mark
pub never_refused : (e : XdrFault) (too_long : Bool) (old : WriterState) (mark : ℕ) (bytes : List ℕ) → too_long ≡ false
    → length old.bytes + (4 + length bytes) ≤ old.capacity
    → RefusesToWrite e too_long old (length old.bytes + length (word mark ++ bytes)) → ⊥
never_refused e too_long old mark bytes short le (inl long) = true≢false (sym long.1 ∙ short)
never_refused e too_long old mark bytes short le (inr memory) =
    omega (arith, memory.1, le, length-append (word mark) bytes, word-length mark)
