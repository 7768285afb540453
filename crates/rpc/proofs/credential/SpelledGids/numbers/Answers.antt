use Rattle.std.proofs.Common.{arith, ◌∙◌, ◌≡◌, ◌/◌, subst, Ok, Err, List, ℕ, length, inl, inr, ◌⊎◌}
use Rattle.std.specs.Prelude.{alloc_error}
use Rattle.xdr.specs.declared.fault.XdrFault.TheVariants.{NoMemory}
use Rattle.rpc.specs.Credentials.{numbers_at}
use Rattle.rpc.proofs.Spelled.{count_is, same_read, never_refused}
use Rattle.rpc.proofs.credential.SpelledGids.numbers.Goals as goal

pub overflow_cast-count : goal.overflow_cast-count
overflow_cast-count c =
    let few = c.self.invariant.few in
    let is = count_is c.self.inside.bytes.now c.self.invariant in
    omega (arith, few, is)

pub returns-in-Ok : goal.returns-in-Ok
returns-in-Ok c =
    let bytes : List ℕ = c.self.inside.bytes.now in
    let read : numbers_at (length bytes / 4) bytes ≡ Ok (c.in-Ok.numbers.items, c.read_numbers.new.reader) =
    subst (λ (text : List ℕ). numbers_at (length bytes / 4) text
    ≡ Ok (c.in-Ok.numbers.items, c.read_numbers.new.reader)) c.new-reader.ensures c.in-Ok.ensures in
    same_read bytes c.in-Ok.numbers.items c.read_numbers.new.reader c.self.invariant read ∙ c.self.view_is

pub unreachable-requires : goal.unreachable-requires
unreachable-requires c =
    let bytes : List ℕ = c.self.inside.bytes.now in
    let refused : (numbers_at (length bytes / 4) c.new-reader.result ≡ Err c.in-Err.fault)
    ⊎ (c.in-Err.fault ≡ NoMemory alloc_error) = c.in-Err.ensures in
    elim refused [
      | inl at ↦ never_refused bytes c.in-Err.fault c.self.invariant
          (subst (λ (text : List ℕ). numbers_at (length bytes / 4) text ≡ Err c.in-Err.fault)
          c.new-reader.ensures at)
      | inr memory ↦ c.in_default.not-NoMemory alloc_error memory
    ]
