-- The step that commits a procedure at a place.
use Rattle.std.proofs.Common.{◌≡◌, List, ℕ, ap, Some}
use Rattle.circ.specs.declared.log.outcomes.Seq.{Seq}
use Rattle.disk.specs.declared.block.BlockNo.{BlockNo}
use Rattle.store_promise.specs.declared.events.Committing.TheVariants as committing
use Rattle.store_promise.specs.declared.events.Step.{Step}
use Rattle.store_promise.specs.declared.events.Step.TheVariants as step

abbrev pub seq : ℕ → Seq
seq place = record { 0 = place }

abbrev pub commit_of : List BlockNo → ℕ → Step
commit_of blocks place = step.Commit blocks (committing.Committed (seq place))

-- a commit has one place
pub same_place : (blocks others : List BlockNo) (place other : ℕ) → Some (commit_of blocks place) ≡ Some (commit_of others other)
    → place ≡ other
same_place blocks others place other same =
    let seqs : seq place ≡ seq other = cc in
    ap (λ (s : Seq). s.0) seqs
