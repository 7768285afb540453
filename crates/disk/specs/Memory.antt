-- A device in memory, read off what it holds now and what it held at each call before.
use Rattle.std.specs.Prelude.{◌≡◌, ℕ, ◌+◌, Bool, false, List, [], map, length, slice_index_or, count_by}
use Rattle.std.specs.Prelude.{Contains}
use Rattle.std.specs.List.{list_any}
use Rattle.disk.specs.Device.{Content, Device, current, newest}
use Rattle.disk.specs.Crash.{Image}
use Rattle.disk.specs.CallRecord.{is_failure, is_lost, makes_uncertain}
use Rattle.disk.specs.declared.call_record.CallRecord.{CallRecord}
use Rattle.disk.specs.declared.mem_disk.MemDisk.{MemDisk}

-- the contents of each block, in the order of the blocks
abbrev pub Blocks : Type 0
Blocks = List (List Content)

-- what the blocks held before each call, with the call
abbrev pub Past : Type 0
Past = List (Blocks × CallRecord)

-- at a clock of the past what was held then, and from the last call on what is held now
abbrev pub held_at : Blocks → Past → ℕ → Blocks
held_at now past clock = slice_index_or (map (λ e. e.0) past) clock now

-- whether the call of this number failed; past the last, none did
abbrev pub failed_at : Past → ℕ → Bool
failed_at past call = slice_index_or (map (λ e. is_failure e.1) past) call false

-- whether it was a write or a barrier, and failed
abbrev pub lost_at : Past → ℕ → Bool
lost_at past call = slice_index_or (map (λ e. is_lost e.1.call e.1.result) past) call false

abbrev pub device_of : Blocks → Past → Device
device_of now past = record {
  size = length now;
  clock = length past;
  failures = count_by (λ e. is_failure e.1) past;
  failed = λ call. failed_at past call;
  lost = λ call. lost_at past call;
  contents = λ clock block. slice_index_or (held_at now past clock) block [];
  uncertain = λ block. list_any (λ e. makes_uncertain block e.1) past;
}

-- the contents now of each block
abbrev pub blocks_of : MemDisk → Blocks
blocks_of d = d.blocks.items

abbrev pub past_of : MemDisk → Past
past_of d = map (λ e. (e.0.value.items, e.1)) d.history.past.items

abbrev pub memory_device : MemDisk → Device
memory_device d = device_of (blocks_of d) (past_of d)

-- the numbers of the calls that are to fail, counted from 1
abbrev pub to_fail : MemDisk → List ℕ
to_fail d = d.fails.items

-- the next call is to fail
abbrev pub IsDue : MemDisk → Type 0
IsDue d = Contains (to_fail d) (length (past_of d) + 1)

-- how often memory was refused to the device
abbrev pub refusals : MemDisk → ℕ
refusals d = length d.content_allocator.refused.items

-- memory was refused to the call that lies between
abbrev pub IsFull : MemDisk → MemDisk → Type 0
IsFull old new = refusals new ≡ refusals old + 1

-- the newest content of each block
abbrev pub image_of : MemDisk → Image
image_of d = λ block. newest (current (memory_device d) block)
