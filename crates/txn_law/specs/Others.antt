-- What a transaction has while others make steps of the core, and who keeps its lock requests off.
use Rattle.std.specs.Prelude.{◌≡◌, ◌≢◌, ℕ, true, Some, Contains}
use Rattle.std.specs.Option.{is_some}
use Rattle.disk.specs.Device.{Content}
use Rattle.objects.specs.Addr.{Overlap}
use Rattle.objects.specs.Mode.{Excludes}
use Rattle.objects.specs.declared.addr.Addr.{Addr}
use Rattle.objects.specs.declared.mode.Mode.{Mode}
use Rattle.txn_law.specs.Core.{CoreState, IsOut}
use Rattle.txn_law.specs.CoreWindow.{PreservesReads}
use Rattle.txn_law.specs.Leaves.{in_memory, taken_by}
use Rattle.txn_law.specs.declared.hold.Hold.{Hold}

-- A transaction stays out, has taken what it had, holds for reading what it held, with the same bytes, and the
-- block of what it has taken is in memory still, where it was.
pub record PreservesTaken (old new : CoreState) (tx : ℕ) : Type 0 where
  pub out : IsOut old tx → IsOut new tx
  pub taken : (addr : Addr) → taken_by new tx addr ≡ taken_by old tx addr
  pub reads : PreservesReads old new tx
  pub loaded : (addr : Addr) (content : Content) → is_some (taken_by old tx addr) ≡ true
      → in_memory old addr.block ≡ Some content
      → (now : Content) × (in_memory new addr.block ≡ Some now)

-- another transaction that is out has taken a byte of the address, in a mode that keeps the request off
pub record IsDeferred (core : CoreState) (tx : ℕ) (addr : Addr) (mode : Mode) : Type 0 where
  pub hold : Hold
  pub there : Contains core.holds hold
  pub differs : hold.transaction ≢ tx
  pub out : IsOut core hold.transaction
  pub overlap : Overlap hold.addr addr
  pub excludes : Excludes hold.mode mode

-- what a transaction has taken shares no byte with the address, but where it is the address
abbrev pub IsApartFrom : CoreState → ℕ → Addr → Type 0
IsApartFrom core tx addr = (other : Addr) (hold : Hold) → taken_by core tx other ≡ Some hold
    → Overlap other addr → other ≡ addr
