-- Exactly what a lock request that is met makes of the lists of a core.
use Rattle.std.specs.Prelude.{◌≡◌, ℕ, Option, Some, None, List}
use Rattle.disk.specs.Device.{Content}
use Rattle.objects.specs.declared.addr.Addr.{Addr}
use Rattle.objects.specs.declared.mode.Mode.{Mode}
use Rattle.circ.specs.Log.Log.{newest}
use Rattle.txn_law.specs.Core.{CoreState}
use Rattle.txn_law.specs.Fetch.{Fetch}
use Rattle.txn_law.specs.Holds.{for_reading, for_fetching, for_writing, with_hold}
use Rattle.objects.specs.Present.{present_of, with_block}
use Rattle.txn_law.specs.Window.{part}
use Rattle.txn_law.specs.LockAnswers.{current}
use Rattle.txn_law.specs.declared.hold.Hold.{Hold}

-- the core once an address is taken, and its block is in memory or is being fetched
abbrev pub taken : CoreState → Hold → Option Content → CoreState
taken core hold content = record core {
  holds = with_hold core.holds hold;
  present = with_block core.present hold.addr.block content;
}

-- an object is held: its bytes are the current ones
pub record IsHeldExactly (old : CoreState) (tx : ℕ) (addr : Addr) (mode : Mode) (bytes : List ℕ)
    (new : CoreState) : Type 0 where
  pub content : Content
  pub current : current old addr.block ≡ Some content
  pub bytes_there : bytes ≡ part content addr
  pub core : new ≡ taken old (for_reading tx addr mode) (Some content)

-- a block is to be fetched: it is nowhere in memory
pub record IsFetchedExactly (old : CoreState) (tx : ℕ) (addr : Addr) (mode : Mode) (io : Fetch)
    (new : CoreState) : Type 0 where
  pub block : io.block ≡ addr.block
  pub absent : present_of old.present addr.block ≡ None
  pub unlogged : newest old.log addr.block.0 ≡ None
  pub core : new ≡ taken old (for_fetching tx addr mode) None

-- the core once the transaction has claimed the whole block
abbrev pub claimed : CoreState → ℕ → Addr → CoreState
claimed core tx addr = record core { holds = with_hold core.holds (for_writing tx addr) }
