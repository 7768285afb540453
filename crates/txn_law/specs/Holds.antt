-- Who holds what.
use Rattle.std.specs.Prelude.{◌≡◌, ℕ, ◌⊎◌, Bool, true, false, not, ◌&&◌, ◌||◌, Option, Some, None, List}
use Rattle.std.specs.Prelude.{[], ◌∷◌, ◌++◌}
use Rattle.std.specs.Prelude.{All, nat_eq}
use Rattle.std.specs.List.{list_any, find, filter}
use Rattle.objects.specs.Addr.{Overlap}
use Rattle.objects.specs.Mode.{Excludes, is_exclusive, upgraded}
use Rattle.objects.specs.declared.addr.Addr.{Addr}
use Rattle.objects.specs.declared.mode.Mode.{Mode}
use Rattle.objects.specs.declared.mode.Mode.TheVariants as modes
use Rattle.disk.specs.declared.block.BlockNo.{BlockNo}
use Rattle.txn_law.specs.declared.hold.Hold.{Hold}

-- this transaction has taken this address
abbrev pub IsHoldOf : ℕ → Addr → Hold → Type 0
IsHoldOf tx addr hold = (hold.transaction ≡ tx) × (hold.addr ≡ addr)

-- what is taken keeps off such a lock request: it is this transaction's own, or in a mode that keeps the one that is asked for off
abbrev pub ConflictsWith : ℕ → Mode → Hold → Type 0
ConflictsWith tx mode hold = (hold.transaction ≡ tx) ⊎ Excludes hold.mode mode

-- of what keeps the request off nothing has a byte of the address, but what this transaction has taken by this
-- address
pub record IsFree (holds : List Hold) (tx : ℕ) (addr : Addr) (mode : Mode) : Type 0 where
  pub others : All (λ hold. Overlap hold.addr addr → ConflictsWith tx mode hold → IsHoldOf tx addr hold) holds

-- anyone has taken a part of the block
abbrev pub is_taken : List Hold → BlockNo → Bool
is_taken holds block = list_any (λ hold. nat_eq hold.addr.block.0 block.0) holds

-- whether this transaction has taken this address
abbrev pub is_hold_of : ℕ → Addr → Hold → Bool
is_hold_of tx addr hold =
    nat_eq hold.transaction tx && nat_eq hold.addr.block.0 addr.block.0 && nat_eq hold.addr.offset addr.offset
    && nat_eq hold.addr.len addr.len

-- the transaction's hold of the address, if it has one
abbrev pub hold_of : List Hold → ℕ → Addr → Option Hold
hold_of holds tx addr = find (is_hold_of tx addr) holds

-- the holds but this one
abbrev pub without_hold : List Hold → ℕ → Addr → List Hold
without_hold holds tx addr = filter (λ hold. not (is_hold_of tx addr hold)) holds

-- what a lock request takes: to read an object, to have its block fetched, or to write a whole block
abbrev pub for_reading : ℕ → Addr → Mode → Hold
for_reading tx addr mode =
    record { transaction = tx; addr = addr; mode = mode; is_read = true; is_claimed = false }

abbrev pub for_fetching : ℕ → Addr → Mode → Hold
for_fetching tx addr mode =
    record { transaction = tx; addr = addr; mode = mode; is_read = false; is_claimed = false }

abbrev pub for_writing : ℕ → Addr → Hold
for_writing tx addr =
    record { transaction = tx; addr = addr; mode = modes.Exclusive; is_read = false; is_claimed = true }

-- what is held by a new hold beside one that there was
abbrev pub joined : Option Hold → Hold → Hold
joined None hold = hold
joined (Some had) hold = record hold {
  mode = upgraded had.mode hold.mode;
  is_read = had.is_read || hold.is_read;
  is_claimed = had.is_claimed || hold.is_claimed;
}

-- the holds once one is added, or joined with the one that the transaction had of the address
abbrev pub with_hold : List Hold → Hold → List Hold
with_hold holds hold =
    without_hold holds hold.transaction hold.addr ++ joined (hold_of holds hold.transaction hold.addr) hold
    ∷ []

-- the holds of the other transactions
abbrev pub released : List Hold → ℕ → List Hold
released holds tx = filter (λ hold. not (nat_eq hold.transaction tx)) holds

-- whether it is held for reading
abbrev pub is_read : Option Hold → Bool
is_read None = false
is_read (Some hold) = hold.is_read

-- whether it is held for writing: alone, and read or claimed
abbrev pub is_written : Option Hold → Bool
is_written None = false
is_written (Some hold) = is_exclusive hold.mode && (hold.is_read || hold.is_claimed)
