-- What transactions have taken and what is in memory agree with one another and with the log.
use Rattle.std.specs.Prelude.{◌≡◌, ℕ, true, Some, None, List, [], ◌∷◌, All}
use Rattle.base.specs.declared.TheConstants.{BLOCK_BYTES}
use Rattle.disk.specs.Device.{Content}
use Rattle.objects.specs.Addr.{Overlap}
use Rattle.circ.specs.Log.Grows.{IsWholeChange}
use Rattle.circ.specs.Log.Log.{Log, IsHomeOn, newest}
use Rattle.txn_law.specs.Core.{CoreState, IsOut}
use Rattle.txn_law.specs.Holds.{ConflictsWith}
use Rattle.objects.specs.Present.{present_of, content_in, IsOnce}
use Rattle.txn_law.specs.declared.hold.Hold.{Hold}
use Rattle.objects.specs.declared.present.Present.{Present}

-- where a byte lies in both, the one doesn't keep off the other
abbrev pub AreCompatible : Hold → Hold → Type 0
AreCompatible one other = Overlap one.addr other.addr → ConflictsWith other.transaction other.mode one → ⊥

-- no two holds share a byte, but those of two transactions that both share it
abbrev pub AreApart : List Hold → Type 0
AreApart [] = Unit {0}
AreApart (hold ∷ later) = All (AreCompatible hold) later × AreApart later

-- what is held for reading is in memory
abbrev pub IsReadHere : List Present → Hold → Type 0
IsReadHere present hold = hold.is_read ≡ true → (content : Content)
    × (content_in (present_of present hold.addr.block) ≡ Some content)

-- what is claimed is a whole block
abbrev pub IsClaimedWhole : Hold → Type 0
IsClaimedWhole hold = hold.is_claimed ≡ true → (hold.addr.offset ≡ 0) × (hold.addr.len ≡ BLOCK_BYTES)

-- the log doesn't have a block whose fetch is pending
abbrev pub IsUnlogged : Log → Present → Type 0
IsUnlogged log resident = resident.content ≡ None → newest log resident.block.0 ≡ None

-- what is taken is of a transaction that is out, in a block that a change may write
abbrev pub IsOfOne : CoreState → Hold → Type 0
IsOfOne core hold = IsOut core hold.transaction × IsHomeOn core.log.blocks hold.addr.block

-- what is in memory or being fetched is a block that a change may write
abbrev pub IsPlaced : ℕ → Present → Type 0
IsPlaced blocks resident = IsHomeOn blocks resident.block

pub record IsWellFormed (core : CoreState) : Type 0 where
  pub owned : All (IsOfOne core) core.holds
  pub placed : All (IsPlaced core.log.blocks) core.present
  pub apart : AreApart core.holds
  pub read : All (IsReadHere core.present) core.holds
  pub claimed : All IsClaimedWhole core.holds
  pub once : IsOnce core.present
  pub pending : All (IsUnlogged core.log) core.present
  pub changes : All IsWholeChange core.log.changes
