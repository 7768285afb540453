-- What one hold says of a lock request, and which one the request's transaction has.
use Rattle.std.specs.Prelude.{◌≡◌, ℕ, ◌-◌, ◌<◌, ◌≤◌, List, None, get_or, length, true}
use Rattle.objects.specs.Addr.{Overlap}
use Rattle.objects.specs.declared.addr.Addr.{Addr}
use Rattle.objects.specs.declared.mode.Mode.{Mode}
use Rattle.txn_law.specs.Holds.{IsHoldOf, ConflictsWith, hold_of, is_hold_of}
use Rattle.txn_law.specs.declared.hold.Hold.{Hold}

-- it has no byte of the address, doesn't keep the request off, or is what this transaction has taken by this address
abbrev pub LetsPass : ℕ → Addr → Mode → Hold → Type 0
LetsPass tx addr mode hold = Overlap hold.addr addr → ConflictsWith tx mode hold → IsHoldOf tx addr hold

-- The name is that of the transaction's hold of the address, or 0 where it has none.
pub record IsNameOf (holds : List Hold) (tx : ℕ) (addr : Addr) (name : ℕ) : Type 0 where
  pub within : name ≤ length holds
  pub mine : 0 < name → (d : Hold) → is_hold_of tx addr (get_or holds (name - 1) d) ≡ true
  pub none : name ≡ 0 → None ≡ hold_of holds tx addr
