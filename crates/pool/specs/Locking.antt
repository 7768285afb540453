-- What is known of a value of the lock.
use Rattle.std.specs.Prelude.{◌≡◌, ◌≤◌, ◌↔◌, ℕ, List, length, IsTrue}
use Rattle.procs.specs.Finished.{HasPlan}
use Rattle.txn_law.specs.CoreLaw.{IsLawfulCore}
use Rattle.txn.specs.Core.{CoreState}
use Rattle.txn.specs.Pinned.{ArePinned}
use Rattle.circ.specs.Log.Log.{settled_place, tail_count}
use Rattle.pool.specs.declared.locked.summary.CoreSummary.{CoreSummary}

-- a core that keeps its laws: its window of commits is legal, and no two holders overlap
abbrev pub IsLawful : CoreState → Type 0
IsLawful core = IsLawfulCore HasPlan core

-- it tells how far this core is
pub record LooksAt (core : CoreState) (summary : CoreSummary) : Type 0 where
  pub settled : summary.settled.0 ≡ settled_place core.log
  pub is_settled : IsTrue summary.is_settled ↔ (settled_place core.log ≡ core.log.places)
  pub kept : summary.kept ≡ length core.records
  pub pinned : (numbers : List ℕ) → ArePinned core numbers → length numbers ≤ summary.pinned
  pub tail : summary.tail ≡ tail_count core.log
  pub broken : summary.broken ≡ core.log.broken
