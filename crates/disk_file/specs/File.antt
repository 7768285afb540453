-- A device over a file, read off what its blocks held when it was opened and the calls since.
use Rattle.std.specs.Prelude.{◌≡◌, ℕ, zero, suc, ◌*◌, ◌<◌, Bool, true, false, ◌&&◌, if◌then◌else◌, nat_eq}
use Rattle.std.specs.Prelude.{List, [], ◌∷◌, ◌++◌, length, map, take, slice_index_or, count_by, replicate, All}
use Rattle.std.specs.Prelude.{Result, Ok, Err, is_err}
use Rattle.std.specs.List.{list_any}
use Rattle.disk.specs.declared.device.Failed.{Failed}
use Rattle.disk.specs.declared.block.BlockNo.{BlockNo}
use Rattle.disk_file.specs.declared.file.FileCall.{FileCall}
use Rattle.disk_file.specs.declared.file.FileCall.TheVariants.{Read, Write, Sync}
use Rattle.base.specs.declared.TheConstants.{BLOCK_BYTES}
use Rattle.disk.specs.Blocks.{IsBlock}
use Rattle.disk.specs.Device.{Content, Device, newest, newest_only, is_on}

-- the calls so far, each with its result
abbrev pub Calls : Type 0
Calls = List (FileCall × Result Unit Failed)

-- the bytes that a call brought or wrote; a sync has none, and counts as zeros
abbrev pub bytes_of : FileCall → Content
bytes_of (Read at bytes) = bytes.value
bytes_of (Write at bytes) = bytes.value
bytes_of (Sync side) = replicate BLOCK_BYTES 0

-- each call brought or wrote a block
abbrev pub AreOfBlocks : Calls → Type 0
AreOfBlocks calls = All (λ call. IsBlock (bytes_of call.0)) calls

-- what a block held when the file was opened; zeros, where nothing is said of it
abbrev pub first_in : List (BlockNo × Content) → ℕ → Content
first_in [] block = replicate BLOCK_BYTES 0
first_in (pair ∷ pairs) block = if nat_eq block pair.0.0 then pair.1 else first_in pairs block

-- so many blocks of an image, with their numbers
abbrev pub pairs_of : (ℕ → Content) → ℕ → List (BlockNo × Content)
pairs_of image zero = []
pairs_of image (suc size) = (record { 0 = size }, image size) ∷ pairs_of image size

-- whether the bytes from this offset on are those of the block
abbrev pub is_at : ℕ → ℕ → Bool
is_at block offset = nat_eq (block * BLOCK_BYTES) offset

-- what a call does to the contents of a block: a write that failed counts as made
abbrev pub effect : ℕ → FileCall → Result Unit Failed → List Content → List Content
effect block (Read at bytes) result contents = contents
effect block (Write at bytes) result contents = if is_at block at then contents ++ bytes.value ∷ []
    else contents
effect block (Sync side) (Ok _) contents = if is_on side block then newest_only contents else contents
effect block (Sync side) (Err _) contents = contents

-- what a block of a file holds after a call, where it held this before it
abbrev pub put : ℕ → FileCall → Content → Content
put block (Read at bytes) content = content
put block (Write at bytes) content = if is_at block at then bytes.value else content
put block (Sync side) content = content

-- the contents of a block after these calls
abbrev pub contents_after : ℕ → List Content → Calls → List Content
contents_after block contents [] = contents
contents_after block contents (call ∷ calls) =
    contents_after block (effect block call.0 call.1 contents) calls

-- it was a write of the block, which failed
abbrev pub makes_block_uncertain : ℕ → FileCall → Result Unit Failed → Bool
makes_block_uncertain block (Read at bytes) result = false
makes_block_uncertain block (Write at bytes) result = is_err result && is_at block at
makes_block_uncertain block (Sync side) result = false

-- a write of the block is among the calls, and failed
abbrev pub is_uncertain : ℕ → Calls → Bool
is_uncertain block calls = list_any (λ call. makes_block_uncertain block call.0 call.1) calls

-- whether the call of this number among them failed; past them none did
abbrev pub failed_in : Calls → ℕ → Bool
failed_in calls call = slice_index_or (map (λ made. is_err made.1) calls) call false

-- it was a write or a sync, and failed
abbrev pub is_lost : FileCall → Result Unit Failed → Bool
is_lost (Read at bytes) result = false
is_lost (Write at bytes) result = is_err result
is_lost (Sync side) result = is_err result

-- whether the call of this number among them was one
abbrev pub lost_in : Calls → ℕ → Bool
lost_in calls call = slice_index_or (map (λ made. is_lost made.0 made.1) calls) call false

-- the device that held this when it was opened, after these calls
abbrev pub file_device : (ℕ → Content) → ℕ → Calls → Device
file_device first size calls = record {
  size = size;
  clock = length calls;
  failures = count_by (λ call. is_err call.1) calls;
  failed = λ call. failed_in calls call;
  lost = λ call. lost_in calls call;
  contents = λ clock block. contents_after block (first block ∷ []) (take clock calls);
  uncertain = λ block. is_uncertain block calls;
}

-- a read that brings the newest content of its block, unless a write of the block had failed
abbrev pub IsExplainedCall : (ℕ → Content) → Calls → FileCall → Type 0
IsExplainedCall first earlier (Read at bytes) = (block : ℕ) → is_at block at ≡ true
    → is_uncertain block earlier ≡ false
    → bytes.value ≡ newest (contents_after block (first block ∷ []) earlier)
IsExplainedCall first earlier (Write at bytes) = Unit
IsExplainedCall first earlier (Sync side) = Unit

-- each call that was made fits what was called before
abbrev pub EachFits : (Calls → FileCall → Type 0) → Calls → Type 0
EachFits Fits calls = (earlier later : Calls) (call : FileCall) → calls ≡ earlier ++ (call, Ok tt) ∷ later
    → Fits earlier call

-- What the blocks held when the file was opened were blocks, and explains what each read brought.
pub record KeepsModel (first : ℕ → Content) (size : ℕ) (calls : Calls) : Type 0 where
  pub blocks : (block : ℕ) → block < size → IsBlock (first block)
  pub explained : EachFits (IsExplainedCall first) calls

-- what a block of a file holds after calls, where it held this before them: what was written last
abbrev pub stored : ℕ → Content → Calls → Content
stored block content [] = content
stored block content (call ∷ calls) = stored block (put block call.0 content) calls

-- what a file answers to a read: what its block holds, or where a write of it has failed anything
abbrev pub IsHonest : (ℕ → Content) → Calls → FileCall → Type 0
IsHonest first earlier (Read at bytes) = (block : ℕ) → is_at block at ≡ true
    → is_uncertain block earlier ≡ false → bytes.value ≡ stored block (first block) earlier
IsHonest first earlier (Write at bytes) = Unit
IsHonest first earlier (Sync side) = Unit
