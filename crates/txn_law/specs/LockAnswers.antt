-- What the core answers to a lock request, and what it leaves then.
use Rattle.std.specs.Prelude.{◌≡◌, ℕ, true, false, Option, Some, None, List}
use Rattle.base.specs.declared.TheConstants.{BLOCK_BYTES}
use Rattle.disk.specs.Device.{Content}
use Rattle.disk.specs.declared.block.BlockNo.{BlockNo}
use Rattle.objects.specs.declared.addr.Addr.{Addr}
use Rattle.objects.specs.declared.mode.Mode.{Mode}
use Rattle.circ.specs.Log.Log.{IsHomeOn, newest, or_else}
use Rattle.txn_law.specs.Commit.{IsReadBy, IsWrittenBy}
use Rattle.txn_law.specs.Core.{CoreState, IsOut}
use Rattle.txn_law.specs.Fetch.{Fetch}
use Rattle.txn_law.specs.Holds.{IsFree, for_reading, for_fetching, for_writing}
use Rattle.txn_law.specs.Leaves.{Leaves, taken_by, is_fetching, in_memory, with_taken, with_fetch, with_content}
use Rattle.objects.specs.Present.{present_of, content_in, is_pending}
use Rattle.txn_law.specs.Window.{part}

-- the transaction is out, and the block is one that a change may write
pub record IsInside (core : CoreState) (tx : ℕ) (addr : Addr) : Type 0 where
  pub out : IsOut core tx
  pub home : IsHomeOn core.log.blocks addr.block

-- the request is inside, nothing that is taken keeps it off, and no fetch of the block is pending
pub record IsOpen (core : CoreState) (tx : ℕ) (addr : Addr) (mode : Mode) : Type 0 where
  pub inside : IsInside core tx addr
  pub free : IsFree core.holds tx addr mode
  pub settled : is_pending (present_of core.present addr.block) ≡ false

-- why a lock request was refused
abbrev pub IsOutside : CoreState → ℕ → Addr → Type 0
IsOutside core tx addr = IsInside core tx addr → ⊥

abbrev pub IsBusy : CoreState → ℕ → Addr → Mode → Type 0
IsBusy core tx addr mode = IsInside core tx addr × (IsFree core.holds tx addr mode → ⊥)

abbrev pub IsLoading : CoreState → ℕ → Addr → Mode → Type 0
IsLoading core tx addr mode = IsInside core tx addr × IsFree core.holds tx addr mode
    × (is_pending (present_of core.present addr.block) ≡ true)

-- the block's current content, where it is in memory: beside the log, else in the log
abbrev pub current : CoreState → BlockNo → Option Content
current core block = or_else (content_in (present_of core.present block)) (newest core.log block.0)

-- a lock request that is met changes nothing but what is taken and what is in memory
abbrev pub TakesOnly : CoreState → CoreState → Type 0
TakesOnly old new = new ≡ record old { holds = new.holds; present = new.present }

-- An object is held in the mode that was asked for: its bytes are the current ones.
pub record IsHeld (old : CoreState) (tx : ℕ) (addr : Addr) (mode : Mode) (bytes : List ℕ) (new : CoreState)
    : Type 0 where
  pub content : Content
  pub current : current old addr.block ≡ Some content
  pub bytes_there : bytes ≡ part content addr
  pub only : TakesOnly old new
  pub leaves : Leaves new (with_taken (for_reading tx addr mode) (taken_by old)) (is_fetching old)
      (with_content addr.block content (in_memory old))
  pub read : IsReadBy new tx (record { addr = addr; bytes = bytes })

-- A block is to be fetched: it is nowhere in memory. It is taken, but neither for reading nor for writing.
pub record IsFetched (old : CoreState) (tx : ℕ) (addr : Addr) (mode : Mode) (io : Fetch) (new : CoreState)
    : Type 0 where
  pub block : io.block ≡ addr.block
  pub absent : in_memory old addr.block ≡ None
  pub unlogged : newest old.log addr.block.0 ≡ None
  pub only : TakesOnly old new
  pub leaves : Leaves new (with_taken (for_fetching tx addr mode) (taken_by old))
      (with_fetch addr.block (is_fetching old)) (in_memory old)

-- A block is taken for writing, alone.
pub record IsTaken (old : CoreState) (tx : ℕ) (addr : Addr) (new : CoreState) : Type 0 where
  pub only : TakesOnly old new
  pub leaves : Leaves new (with_taken (for_writing tx addr) (taken_by old)) (is_fetching old) (in_memory old)
  pub written : IsWrittenBy new tx addr

-- the address of a whole block
abbrev pub IsWhole : BlockNo → Addr → Type 0
IsWhole block addr = (addr.block ≡ block) × (addr.offset ≡ 0) × (addr.len ≡ BLOCK_BYTES)
