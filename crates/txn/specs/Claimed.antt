-- What a transaction has claimed, and what it may write.
use Rattle.std.specs.Prelude.{◌≡◌, ◌⊎◌, ℕ, true, Some, List, Contains}
use Rattle.disk.specs.declared.block.BlockNo.{BlockNo}
use Rattle.objects.specs.declared.addr.Addr.{Addr}
use Rattle.objects.specs.declared.mode.Mode.TheVariants as modes
use Rattle.txn_law.specs.Core.{CoreState}
use Rattle.txn_law.specs.Holds.{is_written}
use Rattle.txn_law.specs.Leaves.{taken_by}
use Rattle.objects.specs.Object.{ObjectBytes}
use Rattle.txn_law.specs.LockAnswers.{IsWhole}
use Rattle.txn_law.specs.declared.hold.Hold.{Hold}

-- what the transaction has taken of the address it has taken alone
abbrev pub IsTakenExclusive : CoreState → ℕ → Addr → Type 0
IsTakenExclusive core tx addr = (hold : Hold) → taken_by core tx addr ≡ Some hold → hold.mode ≡ modes.Exclusive

-- the transaction holds the whole block for writing
abbrev pub IsClaimedBy : CoreState → ℕ → BlockNo → Type 0
IsClaimedBy core tx block = (addr : Addr) → IsWhole block addr → is_written (taken_by core tx addr) ≡ true

-- the object is a whole block that the transaction holds for writing
abbrev pub IsClaimedObject : CoreState → ℕ → ObjectBytes → Type 0
IsClaimedObject core tx object = IsClaimedBy core tx object.addr.block × IsWhole object.addr.block object.addr

-- the object has the address of one of these
abbrev pub IsAmongRead : List ObjectBytes → ObjectBytes → Type 0
IsAmongRead read object = (before : ObjectBytes) × Contains read before × (before.addr ≡ object.addr)

-- what a change may write that read these: an object that it read, and that the transaction has taken alone, or a
-- whole block that this has claimed
abbrev pub IsOwnObject : CoreState → ℕ → List ObjectBytes → ObjectBytes → Type 0
IsOwnObject core tx read object = (IsAmongRead read object × IsTakenExclusive core tx object.addr)
    ⊎ IsClaimedObject core tx object
