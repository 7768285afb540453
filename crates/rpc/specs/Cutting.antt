-- How far the cutting of a stream has come: what was taken off its front, and what was gathered of it.
use Rattle.std.specs.Prelude.{◌≡◌, ℕ, ◌+◌, ◌*◌, ◌<◌, ◌≤◌, Bool, true, false, List, [], ◌++◌, length, take, drop}
use Rattle.std.specs.Prelude.{flat_map, Result, Ok, Err}
use Rattle.std.specs.declared.snapshot.Snapshot.{Snapshot}
use Rattle.bytes.specs.Filled.{Filled}
use Rattle.base.specs.declared.TheConstants.{RECORD_BYTES}
use Rattle.rpc.specs.declared.stage.Stage.{Stage}
use Rattle.rpc.specs.declared.stage.Stage.TheVariants.{Fresh, Between, Inside}
use Rattle.rpc.specs.declared.stage.Advance.{Advance}
use Rattle.rpc.specs.declared.stage.Advance.TheVariants.{Waits, GoesOn, Whole}
use Rattle.rpc.specs.declared.fault.RpcFault.{RpcFault}
use Rattle.rpc.specs.declared.fault.RpcFault.TheVariants.{TooLong, NoMemory}
use Rattle.rpc.specs.declared.cutter.Cutter.{Cutter}
use Rattle.rpc.specs.Records.{mark, fragment, joined, IsPart, IsTooLong, held_of}

-- what was taken off the front of the stream since the last record: of each note, the bytes from some place
-- on of those that were there, and so many of them
abbrev pub taken_text : List (Snapshot Filled × (ℕ × ℕ)) → List ℕ
taken_text traces = flat_map (λ (trace : Snapshot Filled × (ℕ × ℕ)). take trace.1.1
    (drop trace.1.0 trace.0.value.items)) traces

-- the bytes of the stream that aren't handed out
abbrev pub text_of : Cutter → List ℕ
text_of c = taken_text c.taken.items ++ c.pending.items

-- whole fragments were taken, and none of them is the last of its record
pub record AreFragments (taken content : List ℕ) : Type 0 where
  pub parts : List (List ℕ)
  pub taken_is : taken ≡ flat_map (fragment false) parts
  pub content_is : content ≡ joined parts
  pub bounded : length content ≤ RECORD_BYTES

-- the same, and there is at least one
pub record IsBetween (taken content : List ℕ) : Type 0 where
  pub some : 0 < length taken
  pub fragments : AreFragments taken content

-- whole fragments were taken, a mark, and what has come of its fragment; so many bytes of it are still to come
pub record IsInside (last : Bool) (left : ℕ) (taken content : List ℕ) : Type 0 where
  pub parts : List (List ℕ)
  pub come : List ℕ
  pub taken_is : taken ≡ flat_map (fragment false) parts ++ mark last (length come + left) ++ come
  pub content_is : content ≡ joined parts ++ come
  pub bounded : length content + left ≤ RECORD_BYTES

abbrev pub IsAt : Stage → List ℕ → List ℕ → Type 0
IsAt Fresh taken content = (taken ≡ []) × (content ≡ [])
IsAt Between taken content = IsBetween taken content
IsAt (Inside last left) taken content = IsInside last left taken content

abbrev pub IsCut : Cutter → Type 0
IsCut c = IsAt c.stage (taken_text c.taken.items) c.content.items

-- the next byte is one of a mark
abbrev pub IsOutside : Stage → Type 0
IsOutside Fresh = Unit {0}
IsOutside Between = Unit {0}
IsOutside (Inside last left) = ⊥

-- how much is still to be looked at
abbrev pub weight : Stage → ℕ
weight Fresh = 0
weight Between = 0
weight (Inside last left) = 1

abbrev pub ahead : Cutter → ℕ
ahead c = 2 * length c.pending.items + weight c.stage

-- how many bytes memory holds
abbrev pub held_by : Cutter → ℕ
held_by c = length c.content.items + length c.pending.items

-- a record isn't whole, and of its bytes no marks are held
abbrev pub Waiting : Cutter → Type 0
Waiting c = (part : IsPart (text_of c)) × (held_by c ≡ held_of part)

-- what a step tells
abbrev pub Tells : Cutter → Result Advance RpcFault → Cutter → Type 0
Tells old (Ok Waits) new = Waiting new
Tells old (Ok GoesOn) new = ahead new < ahead old
Tells old (Ok Whole) new = new.stage ≡ Inside true 0
Tells old (Err (NoMemory error)) new = Unit {0}
Tells old (Err TooLong) new = IsTooLong (text_of new)

-- what a step leaves
pub record Advances (old : Cutter) (result : Result Advance RpcFault) (new : Cutter) : Type 0 where
  pub cut : IsCut new
  pub text : text_of new ≡ text_of old
  pub tells_stage : Tells old result new

-- what a look at all that is there tells
abbrev pub HasScanned : Result Bool RpcFault → Cutter → Type 0
HasScanned (Ok true) new = new.stage ≡ Inside true 0
HasScanned (Ok false) new = Waiting new
HasScanned (Err (NoMemory error)) new = Unit {0}
HasScanned (Err TooLong) new = IsTooLong (text_of new)

-- what it leaves
pub record Looks (old : Cutter) (result : Result Bool RpcFault) (new : Cutter) : Type 0 where
  pub cut : IsCut new
  pub text : text_of new ≡ text_of old
  pub tells_stage : HasScanned result new
