-- A file that is called for both sides at once: a list of calls for each side, and the order in which they came.
use Rattle.std.specs.Prelude.{◌≡◌, ℕ, ◌*◌, Bool, true, false, ◌&&◌, map, nat_lt, filter}
use Rattle.disk.specs.declared.block.Side.{Side}
use Rattle.disk.specs.declared.block.Side.TheVariants.{Log, Home}
use Rattle.disk_file.specs.declared.file.FileCall.{FileCall}
use Rattle.disk_file.specs.declared.file.FileCall.TheVariants.{Read, Write, Sync}
use Rattle.base.specs.declared.TheConstants.{BLOCK_BYTES}
use Rattle.disk.specs.Device.{Content, is_on}
use Rattle.disk_file.specs.File.{Calls, EachFits, IsHonest}
use Rattle.disk.specs.Overlap.{DeviceCall, reads, writes, settles}
use Rattle.disk.specs.Ports.{AnsweredCalls}

abbrev pub is_same : Side → Side → Bool
is_same Log Log = true
is_same Log Home = false
is_same Home Log = false
is_same Home Home = true

-- whether a call is of a side: of one of its blocks, or its barrier
abbrev pub is_of : Side → DeviceCall → Bool
is_of side (reads block bytes) = is_on side block
is_of side (writes block bytes) = is_on side block
is_of side (settles other) = is_same side other

-- those of the calls that are of a side
abbrev pub of_side : Side → AnsweredCalls → AnsweredCalls
of_side side calls = filter (λ one. is_of side one.0) calls

-- whether a call is of one of so many blocks: a barrier always is within
abbrev pub is_within : ℕ → DeviceCall → Bool
is_within size (reads block bytes) = nat_lt block size
is_within size (writes block bytes) = nat_lt block size
is_within size (settles side) = true

-- What ports and sources of a side asked of their file: what was past the end, or of the other side, they answered
-- themselves.
abbrev pub asked_for : ℕ → Side → AnsweredCalls → AnsweredCalls
asked_for size side calls = filter (λ one. is_of side one.0 && is_within size one.0) calls

-- a call of a device as one of its file
abbrev pub file_call : DeviceCall → FileCall
file_call (reads block bytes) = Read (block * BLOCK_BYTES) (record { marker = record {}; value = bytes })
file_call (writes block bytes) = Write (block * BLOCK_BYTES) (record { marker = record {}; value = bytes })
file_call (settles side) = Sync side

abbrev pub file_calls : AnsweredCalls → Calls
file_calls calls = map (λ one. (file_call one.0, one.1)) calls

-- What a file answers to one side alone: a read that was made brings what this side wrote last, or else what was held
-- at first, or where a write of the block has failed anything. Who only writes and settles, as a log port does, is
-- answered nothing that could be false.
abbrev pub IsHonestTo : (ℕ → Content) → ℕ → Side → AnsweredCalls → Type 0
IsHonestTo first size side calls = EachFits (IsHonest first) (file_calls (asked_for size side calls))

-- The calls of both sides in the order in which they came to the file: those of a side are what it asked, in its
-- own order.
abbrev pub ComeInOrder : ℕ → AnsweredCalls → AnsweredCalls → AnsweredCalls → Type 0
ComeInOrder size log home calls = (of_side Log calls ≡ asked_for size Log log)
    × (of_side Home calls ≡ asked_for size Home home)
