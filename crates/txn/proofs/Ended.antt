-- Lemmas: what the end of a transaction leaves.
use Rattle.std.proofs.Common.{◌≡◌, ℕ, Bool, List, ◌∙◌, ap, sym}
use Rattle.objects.specs.Pins.{Residents, Unpins, pins_of}
use Rattle.objects.specs.declared.present.Present.{Present}
use Rattle.txn_law.specs.Core.{CoreState, ended, without}
use Rattle.txn_law.specs.Holds.{released}
use Rattle.txn_law.specs.Records.{swept}
use Rattle.txn_law.specs.declared.hold.Hold.{Hold}
use Rattle.txn.specs.Consistent.{IsConsistent}
use Rattle.txn.specs.Pinned.{own_in}
use Rattle.txn.proofs.ByParts.{ended_is}
use Rattle.txn.proofs.Consistent.{consistent_ended}
use Rattle.txn.proofs.Counted.{swept_is}

-- what it lets go is unpinned, and which blocks stay that nobody needs is told by what spared them
pub ended_there : (core : CoreState) (tx : ℕ) (old new : Residents) (out : List ℕ) (holds : List Hold)
    → core.present ≡ old.blocks → IsConsistent core.log core.holds core.records old
    → out ≡ without tx core.out → holds ≡ released core.holds tx → Unpins old (own_in tx core.holds) new
    → (spare : Present → Bool)
    × (record core { out = out; holds = holds; present = new.blocks } ≡ ended spare core tx)
ended_there core tx old new out holds there consistent out_is holds_is unpins =
    let left : IsConsistent core.log (released core.holds tx) core.records new =
    consistent_ended core.log core.holds tx core.records old new unpins consistent in
    let spare : Present → Bool = unpins.1.0 in (
      spare,
      ended_is spare core tx out holds new.blocks out_is holds_is
          (unpins.1.1
          ∙ swept_is spare (released core.holds tx) core.records (pins_of new) old.blocks left.counted
          ∙ ap (λ (present : List Present). swept spare (released core.holds tx) core.records present) (sym there)),
    )
