-- What a writer did to bytes, and why it refused.
use Rattle.std.specs.Prelude.{◌≡◌, ◌⊎◌, ◌++◌, ◌+◌, ◌<◌, ◌≤◌, ℕ, Bool, true, false, List, length, Result, Ok, Err, alloc_error}
use Rattle.xdr.specs.declared.fault.XdrFault.{XdrFault}
use Rattle.xdr.specs.declared.fault.XdrFault.TheVariants.{Length, NoMemory}
use Rattle.xdr.specs.Codes.{Code}

-- what was written, and how many bytes a writer can have in all before it takes memory
pub record WriterState : Type 0 where
  pub bytes : List ℕ
  pub capacity : ℕ
  -- whether it only counts: then it keeps no byte, and takes no memory
  pub counts : Bool

-- Length is refused to what has a length that four bytes can't tell, and to nothing else. All else that a writer
-- refuses is for want of memory: one that counts refuses nothing so, nor one whose capacity is so many bytes.
abbrev pub RefusesToWrite : XdrFault → Bool → WriterState → ℕ → Type 0
RefusesToWrite e too_long old count = ((e ≡ Length) × (too_long ≡ true))
    ⊎ ((e ≡ NoMemory alloc_error) × (old.capacity < count) × (old.counts ≡ false))

-- the bytes stand behind what was there
abbrev pub WritesBytes : Result (Unit {0}) XdrFault → WriterState → WriterState → List ℕ → Bool → Type 0
WritesBytes (Ok x) old new bytes too_long = (new.bytes ≡ old.bytes ++ bytes) × (too_long ≡ false)
    × (old.capacity ≤ new.capacity) × (new.counts ≡ old.counts)
WritesBytes (Err e) old new bytes too_long = RefusesToWrite e too_long old (length old.bytes + length bytes)

-- the same of the spelling of a value
abbrev pub Writes : {A : Type 0} → Code A → Result (Unit {0}) XdrFault → WriterState → WriterState → A → Type 0
Writes F result old new x = WritesBytes result old new (F.spell x) (F.too_long x)

-- the same of a writer that is given back: where it refuses, no bytes are left
abbrev pub Encodes : Result WriterState XdrFault → WriterState → List ℕ → Bool → Type 0
Encodes (Ok out) old bytes too_long = (out.bytes ≡ old.bytes ++ bytes) × (too_long ≡ false)
    × (old.capacity ≤ out.capacity) × (out.counts ≡ old.counts)
Encodes (Err e) old bytes too_long = RefusesToWrite e too_long old (length old.bytes + length bytes)
